-- Which texts are expressions, and what is wrong with the others.
use Rattle.std.specs.Prelude.{◌≡◌, ◌<◌, ◌≤◌, ◌⊎◌, ℕ, length, List, [], ◌∷◌, ◌++◌, Some, None}
use Rattle.ss_expr.specs.Grammar.{Begins, BeginsAtAll, Spells}
use Rattle.ss_expr.specs.Limits.{most_bytes, most_levels}
use Rattle.ss_expr.specs.Tokens.{Scanned, scan}
use Rattle.ss_expr.specs.Tree.{Tree}
use Rattle.ss_expr.specs.declared.fault.ExprWhy.{ExprWhy}
use Rattle.ss_expr.specs.declared.fault.ExprWhy.TheVariants.{TooLong, BadToken, BadNumber, TooDeep, Unexpected}
use Rattle.ss_expr.specs.declared.fault.ParseFault.{ParseFault}
use Rattle.ss_expr.specs.declared.fault.ParseFault.TheVariants.{At, Memory}
use Rattle.ss_expr.specs.declared.token.Placed.{Placed}

-- the tokens of a text, from its first byte on
abbrev pub scanned : List ℕ → Scanned
scanned text = scan text 0 0

-- the text is that of the expression
pub record IsExpression (text : List ℕ) (e : Tree) : Type 0 where
  pub short : length text ≤ most_bytes
  pub unbroken : (scanned text).fault ≡ None
  pub spelled : Spells most_levels (scanned text).tokens e

-- at this place the text is no token any more, and the tokens before it begin an expression
pub record IsBroken (text : List ℕ) (at : ℕ) (why : ExprWhy) : Type 0 where
  pub short : length text ≤ most_bytes
  pub fault : (scanned text).fault ≡ Some (record { at = at; why = why })
  pub begun : Begins most_levels (scanned text).tokens

-- the tokens before this place begin an expression, and the next token stands there
pub record StopsAt (text : List ℕ) (at : ℕ) (front : List Placed) (next : Placed) : Type 0 where
  pub short : length text ≤ most_bytes
  pub behind : List Placed
  pub tokens : (scanned text).tokens ≡ front ++ next ∷ behind
  pub place : at ≡ next.at
  pub begun : Begins most_levels front

-- with the token at this place expressions go on, but none within the levels
pub record IsTooDeep (text : List ℕ) (at : ℕ) : Type 0 where
  pub front : List Placed
  pub next : Placed
  pub stops : StopsAt text at front next
  pub goes_on : BeginsAtAll (front ++ next ∷ [])
  pub deep : Begins most_levels (front ++ next ∷ []) → ⊥

-- with the token at this place no expression goes on
pub record IsStopped (text : List ℕ) (at : ℕ) : Type 0 where
  pub front : List Placed
  pub next : Placed
  pub stops : StopsAt text at front next
  pub stuck : BeginsAtAll (front ++ next ∷ []) → ⊥

-- the text's tokens begin an expression, and are none
pub record IsCutShort (text : List ℕ) (at : ℕ) : Type 0 where
  pub short : length text ≤ most_bytes
  pub unbroken : (scanned text).fault ≡ None
  pub ended : at ≡ length text
  pub begun : Begins most_levels (scanned text).tokens
  pub unfinished : (e : Tree) → Spells most_levels (scanned text).tokens e → ⊥

-- what each fault means at its place
abbrev pub FaultAt : List ℕ → ℕ → ExprWhy → Type 0
FaultAt text at (TooLong len) = (most_bytes < length text) × (len ≡ length text) × (at ≡ 0)
FaultAt text at BadToken = IsBroken text at BadToken
FaultAt text at BadNumber = IsBroken text at BadNumber
FaultAt text at TooDeep = IsTooDeep text at
FaultAt text at Unexpected = IsStopped text at ⊎ IsCutShort text at

-- the text has this fault, unless memory ran out
abbrev pub IsFault : List ℕ → ParseFault → Type 0
IsFault text Memory = Unit {0}
IsFault text (At fault) = FaultAt text fault.at fault.why
