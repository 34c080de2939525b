-- What the answers of `clap` say of the words.
use Rattle.std.proofs.Common.{◌≡◌, ◌∙◌, true, List, [], ◌∷◌, Option, Some, None, Err, refl, ap, sym, subst, inl, inr}
use Rattle.clap.specs.Words.{App, HasKind, HasMatchesOf, Kinds, Row, Text, fault_of, found_of, is_simple, is_simple_and_free, kind_of, matches_of, rows_of}
use Rattle.clap.specs.declared.error.Error.{Error}
use Rattle.clap.specs.declared.error.kind.ErrorKind.TheVariants.{OutOfMemory}
use Rattle.clap.specs.declared.parser.matches.ArgMatches.{ArgMatches}
use Rattle.ss_words.specs.Answers.{AnswersReading, fault_of_kind}
use Rattle.ss_words.specs.Words.{command_line, rows_in, unless_refused}
use Rattle.ss_words.specs.declared.words.WordsFault.{WordsFault}
use Rattle.ss_words.specs.declared.words.WordsFault.TheVariants.{Usage, Memory}

command_line-simple : is_simple command_line ≡ true
unfolding command_line
command_line-simple = refl

command_line-free : is_simple_and_free command_line ≡ true
unfolding command_line
command_line-free = refl

-- what is found in words that are taken
pub taken : (app : App) (words : List Text) (matches : ArgMatches) → app ≡ command_line
    → (is_simple_and_free app ≡ true → fault_of app words ≡ []) → HasMatchesOf app words matches
    → rows_in words ≡ Some (rows_of (found_of matches))
taken app words matches same none found =
    let no_fault = subst (λ a. fault_of a words ≡ []) same (none (ap is_simple_and_free same ∙ command_line-free)) in
    let rows = (found (ap is_simple same ∙ command_line-simple)).0 ∙ ap (λ a. matches_of a words) same in
    ap (λ kinds. unless_refused kinds (matches_of command_line words)) no_fault ∙ ap Some (sym rows)

module _ {X : Type 0} (view : X → List Row) where
  no_command : (fault : WordsFault) → AnswersReading view (Err fault) None
  no_command Usage = refl
  no_command Memory = tt

  for_memory : (e : Error) (said : Option (List Row)) → kind_of e ≡ OutOfMemory
      → AnswersReading view (Err (fault_of_kind (kind_of e))) said
  for_memory e said same = subst (λ kind. AnswersReading view (Err (fault_of_kind kind)) said) (sym same) tt

  by_kind : (kinds : Kinds) (rows : List Row) (e : Error) → HasKind kinds e
      → AnswersReading view (Err (fault_of_kind (kind_of e))) (unless_refused kinds rows)
  by_kind [] rows e (inl memory) = for_memory e (Some rows) memory
  by_kind [] rows e (inr among) = absurd among
  by_kind (kind ∷ kinds) rows e h = no_command (fault_of_kind (kind_of e))

  -- an error of another kind than memory has its cause in the words
  pub refused : (app : App) (words : List Text) (e : Error) → app ≡ command_line
      → (is_simple_and_free app ≡ true → HasKind (fault_of app words) e)
      → AnswersReading view (Err (fault_of_kind (kind_of e))) (rows_in words)
  refused app words e same kinds =
      let kind = subst (λ a. HasKind (fault_of a words) e) same (kinds (ap is_simple_and_free same ∙ command_line-free)) in
      by_kind (fault_of command_line words) (matches_of command_line words) e kind
