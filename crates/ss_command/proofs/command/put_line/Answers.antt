use Rattle.std.proofs.Common.{[], ◌∷◌, ℕ, List, length, codes, sym, subst, inr, inl, arith}
use Rattle.std.proofs.Math.Seq.{take-length}
use Rattle.ss_command.specs.Puts.{Went, put_of}
use Rattle.ss_command.proofs.Puts.{Went-one}
use Rattle.ss_command.proofs.command.put_line.Goals as goal

pub returns-in-Ok : goal.returns-in-Ok
returns-in-Ok g c =
    let line = c.args.line.now in
    let old = g.O.Outputs.told c.args.outputs.now in
    let new = g.O.Outputs.told c.put.new.self in
    let (appended, named) = c.in-Ok.ensures in
    record {
      n = length line;
      whole = inr (inl (omega arith));
      went = subst (λ (m : List ℕ). Went old new (put_of (codes "!") m ∷ [])) (sym (take-length line)) (Went-one old new (codes "!") line appended);
    }

pub returns-in-Err-Failed : goal.returns-in-Err-Failed
returns-in-Err-Failed g c =
    let old = g.O.Outputs.told c.args.outputs.now in
    let new = g.O.Outputs.told c.put.new.self in
    let (n, appended, rose) = rw c.in-Err-Failed.field-0-is at c.in-Err-Failed.ensures in
    record { n = n; whole = inr (inr rose); went = Went-one old new (codes "!") _ appended }
