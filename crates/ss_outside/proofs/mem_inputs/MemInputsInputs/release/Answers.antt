-- The name's mark has risen, and every other name is as it was.
use Rattle.std.proofs.Common.{◌≡◌, ℕ, List, arith, refl}
use Rattle.std.proofs.lemmas.Map.Text.{text_keys}
use Rattle.ss_outside.specs.MemInputs.{mem_file}
use Rattle.ss_outside.specs.Told.{changed_at, with_mark}
use Rattle.ss_outside.proofs.mem_inputs.MemInputsInputs.release.Goals as goal

pub returns-in-Some-clause-releases : goal.returns-in-Some-clause-releases
returns-in-Some-clause-releases c =
    let inputs = c.args.self.now in
    let file = record c.in-Some.file.now { mark = c.max-file.result } in
    let files = c.get_mut.follows.lender file in
    let here : (other : List ℕ) → mem_file (record inputs { files = files }) other ≡ changed_at c.args.name.now (with_mark c.args.mark) (mem_file inputs) other
    = λ other. grind (arith, text_keys) in
    record { file = λ i other. here other i; missed = refl; faults = omega arith }
