-- What a call that may want memory answers.
use Rattle.std.specs.Prelude.{◌≡◌, ℕ, Result, Ok, Err}
use Rattle.ss_expr.specs.Reading.{fault_at}
use Rattle.ss_expr.specs.Tree.{Tree}
use Rattle.ss_expr.specs.declared.fault.ExprFault.{ExprFault}
use Rattle.ss_expr.specs.declared.fault.ExprWhy.{ExprWhy}
use Rattle.ss_expr.specs.declared.fault.ParseFault.{ParseFault}
use Rattle.ss_expr.specs.declared.fault.ParseFault.TheVariants.{At, Memory}
use Rattle.ss_expr.specs.declared.parser.Parser.{Parser}

-- the fault is that of the reading, unless memory ran out
abbrev pub IsFaultOfReading : {A : Type 0} → ParseFault → Result A ExprFault → Type 0
IsFaultOfReading Memory reading = Unit {0}
IsFaultOfReading (At fault) reading = reading ≡ Err fault

-- the answer is that of the reading, unless memory ran out
abbrev pub AnswersReading : Result Tree ParseFault → Result Tree ExprFault → Type 0
AnswersReading (Ok e) reading = reading ≡ Ok e
AnswersReading (Err e) reading = IsFaultOfReading e reading

-- a call took a token at this place: the parser is then as the reading of the token says, or the fault is the
-- reading's, unless memory ran out
abbrev pub Steps : {A : Type 0} → ℕ → Result Parser ExprWhy → Parser → Result A ParseFault → Type 0
Steps place reading parser (Ok done) = reading ≡ Ok parser
Steps place reading parser (Err e) = IsFaultOfReading e (fault_at place reading)
