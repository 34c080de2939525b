use Rattle.std.proofs.Common.{◌∙◌, ◌+◌, ◌*◌, arith}
use Rattle.ss_frames.specs.Plans.{plan_numbers}
use Rattle.ss_vault.specs.Told.{vault_told}
use Rattle.ss_crew.specs.Rows.{Three}
use Rattle.ss_crew.proofs.VaultRows.{put_next}
use Rattle.ss_crew.proofs.rows.vault_row.Goals as goal

pub vertices-preserved : goal.vertices-preserved
vertices-preserved g c =
    let s = vault_told g.O.Outputs.told g.D.Depot.told c.args.vault.now in
    let r : Three = record { first = c.stored.result.0; second = c.stored.result.1; third = c.stored.result.2 } in
    c.put.ensures
    ∙ put_next (plan_numbers c.args.plan.now) s c.vault_head-row.result c.vertices.row c.vertices.v (8 + 3 * c.vertices.v) r (omega arith)
    c.stored.ensures c.vertices.invariant
