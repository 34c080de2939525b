-- What of a plan is in range by the types of the program.
use Rattle.std.specs.Prelude.{◌≡◌, ℕ, All, FitsSigned, Some}
use Rattle.std.specs.Int.{w64}
use Rattle.ss_elem.specs.Rows.{IsKept}
use Rattle.ss_expr.specs.Tree.{Tree, leaf, unary, binary}
use Rattle.ss_expr.specs.declared.atom.Atom.{Atom}
use Rattle.ss_expr.specs.declared.atom.Atom.TheVariants as atom
use Rattle.ss_expr.specs.declared.stream_operator.Spec.{Spec}
use Rattle.ss_expr.specs.declared.stream_operator.Spec.TheVariants as spec
use Rattle.ss_job.specs.JobText.{spec_of}
use Rattle.ss_plan.specs.Plan.{PlanText}

-- a number of an expression has 64 bits
abbrev pub IsAtomOfProgram : Atom → Type 0
IsAtomOfProgram (atom.Number n) = FitsSigned w64 n
IsAtomOfProgram (atom.Text key) = Unit {0}
IsAtomOfProgram atom.Start = Unit {0}
IsAtomOfProgram atom.End = Unit {0}
IsAtomOfProgram atom.Subject = Unit {0}
IsAtomOfProgram atom.A = Unit {0}
IsAtomOfProgram atom.B = Unit {0}
IsAtomOfProgram atom.C = Unit {0}
IsAtomOfProgram atom.D = Unit {0}

-- each of its numbers has
abbrev pub IsTreeOfProgram : Tree → Type 0
IsTreeOfProgram (leaf at a) = IsAtomOfProgram a
IsTreeOfProgram (unary op at e) = IsTreeOfProgram e
IsTreeOfProgram (binary op at l r) = IsTreeOfProgram l × IsTreeOfProgram r

-- what a select computes its new values with
abbrev pub IsSpecOfProgram : Spec → Type 0
IsSpecOfProgram (spec.Select test a b c d) =
    IsTreeOfProgram a × IsTreeOfProgram b × IsTreeOfProgram c × IsTreeOfProgram d
IsSpecOfProgram spec.Union = Unit {0}
IsSpecOfProgram (spec.Window size hop agg of) = Unit {0}
IsSpecOfProgram spec.Join = Unit {0}
IsSpecOfProgram (spec.Session gap agg of) = Unit {0}
IsSpecOfProgram spec.Except = Unit {0}

-- what the lists and the job of the program's plan keep by their types
pub record IsOfProgram (plan : PlanText) : Type 0 where
  pub lists : All (All IsKept) plan.lists
  pub specs : (v : ℕ) (operator : Spec) → spec_of plan.job v ≡ Some operator → IsSpecOfProgram operator
