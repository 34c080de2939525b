use Rattle.std.proofs.Common.{◌∙◌, ap, List, Vec, map}
use Rattle.std.specs.declared.alloc.Global.{Global}
use Rattle.ss_water.specs.declared.node.Node.{Node}
use Rattle.ss_water.specs.declared.snap_row.SnapRow.{SnapRow}
use Rattle.ss_vault.specs.NumbersHeld.{first_rows}
use Rattle.ss_vault.proofs.FirstRows.{map_more}
use Rattle.ss_vault.proofs.numbers.first_snaps.Goals as goal

pub loop-v-preserved : goal.loop-v-preserved
loop-v-preserved c =
    ap (λ (xs : List (Vec SnapRow Global)). map (λ (s : Vec SnapRow Global). s.items) xs) c.in_ok-push.ensures.items
    ∙ map_more (λ (s : Vec SnapRow Global). s.items) (λ (n : Node). first_rows n.kind) c.args.graph.now c.loop-v.v c.node.result c.loop-v.snaps.items c.in_ok-row.row
    c.loop-v.invariant c.in_ok-row.ensures c.node.ensures.node
