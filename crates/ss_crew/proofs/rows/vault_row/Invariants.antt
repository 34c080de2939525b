use Rattle.std.proofs.Common.{◌≡◌}
use Rattle.std.specs.List.{range_with_len}
use Rattle.ss_crew.specs.Rows.{put_all, stored_rows}
use Rattle.ss_frames.specs.Plans.{plan_numbers}
use Rattle.ss_vault.specs.Told.{vault_told}
use Rattle.ss_crew.proofs.rows.vault_row.Given as goal

abbrev pub invariant-vertices : goal.invariant-vertices
invariant-vertices g l =
    l.row ≡ put_all l.initial.row 8
    (stored_rows (plan_numbers l.plan) (vault_told g.O.Outputs.told g.D.Depot.told l.vault) (range_with_len 0 l.v))
