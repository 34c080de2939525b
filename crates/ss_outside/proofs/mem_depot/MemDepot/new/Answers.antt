-- All numbers are 0, and the maps are empty.
use Rattle.std.proofs.Common.{◌≡◌, ℕ, [], None, arith}
use Rattle.std.proofs.lemmas.Grind.{common_steps}
use Rattle.ss_outside.specs.MemDepot.{frames_in, records_in}
use Rattle.ss_outside.proofs.Depots.{slice_index-zeros}
use Rattle.ss_outside.proofs.mem_depot.MemDepot.new.Goals as goal

pub returns-clause-empty : goal.returns-clause-empty
returns-clause-empty c =
    let no_records : (v : ℕ) → records_in c.new.result v ≡ [] = λ v. grind (arith, common_steps) in
    let no_frames : (v n : ℕ) → frames_in c.new-2.result v n ≡ None = λ v n. grind (arith, common_steps) in
    λ i. record { first = λ v. slice_index-zeros 32 v i; records = λ v. no_records v i; frames = λ v n. no_frames v n i }

pub returns-clause-appended : goal.returns-clause-appended
returns-clause-appended c = slice_index-zeros 32
