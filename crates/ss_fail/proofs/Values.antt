-- The values of lines, read one after another.
use Rattle.std.proofs.Common.{◌≡◌, ℕ, List, [], ◌∷◌, ◌++◌, Result, Ok, Err, length, get_or, drop, ◌+◌, ◌<◌, ◌≤◌, refl, sym, ap, ◌∙◌, append_assoc}
use Rattle.std.proofs.lemmas.List.{append-nil, drop_all, drop_more}
use Rattle.std.specs.Prelude.{map}
use Rattle.ss_fail.specs.declared.line.Line.{Line}
use Rattle.ss_fail.specs.SaidLine.{said}
use Rattle.ss_fail.specs.declared.fault.ScriptFault.{ScriptFault}
use Rattle.ss_fail.specs.declared.fault.ScriptWhy.{ScriptWhy}
use Rattle.ss_fail.specs.Lines.{LineWords, then_values, values_of}

-- what was read before, and what is still read
abbrev pub with_front : {X : Type 0} → List X → Result (List X) ScriptFault → Result (List X) ScriptFault
with_front front (Ok xs) = Ok (front ++ xs)
with_front front (Err refused) = Err refused

pub with_front-then : {X : Type 0} (front : List X) (number : ℕ) (x : X) (others : Result (List X) ScriptFault)
    → with_front front (then_values number (Ok x) others) ≡ with_front (front ++ x ∷ []) others
with_front-then front number x (Ok xs) = ap (λ ys. Ok ys) (simp append_assoc)
with_front-then front number x (Err refused) = refl

-- a line is read
pub goes_on : {X : Type 0} (reads : List (List ℕ) → Result X ScriptWhy) (front : List X) (line : LineWords) (others : List LineWords) (x : X) (all : Result (List X) ScriptFault)
    → Ok x ≡ reads line.words → with_front front (values_of reads (line ∷ others)) ≡ all → with_front (front ++ x ∷ []) (values_of reads others) ≡ all
goes_on reads front line others x all is so_far =
    let step : with_front front (values_of reads (line ∷ others)) ≡ with_front (front ++ x ∷ []) (values_of reads others) =
    ap (λ r. with_front front (then_values line.number r (values_of reads others))) (sym is)
    ∙ with_front-then front line.number x (values_of reads others) in
    sym step ∙ so_far

-- a line is refused
pub fails : {X : Type 0} (reads : List (List ℕ) → Result X ScriptWhy) (front : List X) (line : LineWords) (others : List LineWords) (why : ScriptWhy) (all : Result (List X) ScriptFault)
    → Err why ≡ reads line.words → with_front front (values_of reads (line ∷ others)) ≡ all → all ≡ Err (record { line = line.number; why = why })
fails reads front line others why all is so_far =
    sym so_far ∙ ap (λ r. with_front front (then_values line.number r (values_of reads others))) (sym is)

pub ends : {X : Type 0} (reads : List (List ℕ) → Result X ScriptWhy) (front : List X) (all : Result (List X) ScriptFault)
    → with_front front (values_of reads []) ≡ all → all ≡ Ok front
ends reads front all so_far = sym so_far ∙ ap (λ xs. Ok xs) (append-nil front)

-- the line at a place, and those behind it
pub next_line : (lines : List Line) (place : ℕ) (line : Line) → place < length lines → line ≡ get_or lines place line
    → map said (drop place lines) ≡ said line ∷ map said (drop (place + 1) lines)
next_line lines place line lt is =
    ap (map said) (drop_more lines place line lt) ∙ ap (λ l. said l ∷ map said (drop (place + 1) lines)) (sym is)

pub no_line : (lines : List Line) (place : ℕ) → length lines ≤ place → map said (drop place lines) ≡ []
no_line lines place le = ap (map said) (drop_all place lines le)
