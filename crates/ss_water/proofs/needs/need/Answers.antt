use Rattle.std.proofs.Common.{◌≡◌, ◌<◌, ◌+◌, ℕ, Option, Some, List, true, length, map, arith, subst, sym}
use Rattle.std.specs.Prelude.{IsSome, slice_get, slice_index}
use Rattle.std.proofs.lemmas.Bool.{false≢true}
use Rattle.ss_water.specs.Graph.{reads}
use Rattle.ss_water.specs.Needs.{IsLeastIfAny, NodeWants, SomeWant, Stored, rows_at}
use Rattle.ss_water.specs.Starts.{HasStart, RisesInN}
use Rattle.ss_water.specs.declared.node.Node.{Node}
use Rattle.ss_water.specs.declared.snap_row.SnapRow.{SnapRow}
use Rattle.ss_water.proofs.Reading.{few_rows, node_more, reader_found, rows_read, some_more}
use Rattle.ss_water.proofs.needs.need.Goals as goal

pub wanted_by-wanted-requires-clause-rise : goal.wanted_by-wanted-requires-clause-rise
wanted_by-wanted-requires-clause-rise c inner =
    let within : c.loop-w.w < length c.args.rows.now = few_rows c.args.rows.now c.args.graph.now c.loop-w.w c.count-w-end.result c.requires.stored.rows c.count-w-end.ensures.count c.loop-w-test.true in
    let read = rows_read c.args.rows.now c.loop-w.w c.index-rows-place.result c.as_slice-snaps.result.now within c.index-rows-place.is c.as_slice-snaps.ensures.value in
    subst RisesInN (sym read) (c.requires.stored.rise c.loop-w.w c.node-node.result c.node-node.ensures.node inner)

pub wanted_by-wanted-requires-clause-start : goal.wanted_by-wanted-requires-clause-start
wanted_by-wanted-requires-clause-start c inner =
    let within : c.loop-w.w < length c.args.rows.now = few_rows c.args.rows.now c.args.graph.now c.loop-w.w c.count-w-end.result c.requires.stored.rows c.count-w-end.ensures.count c.loop-w-test.true in
    let read = rows_read c.args.rows.now c.loop-w.w c.index-rows-place.result c.as_slice-snaps.result.now within c.index-rows-place.is c.as_slice-snaps.ensures.value in
    subst (λ (rows : List SnapRow). HasStart rows (slice_index c.args.dur.now c.loop-w.w)) (sym read)
    (c.requires.stored.start c.loop-w.w c.node-node.result c.node-node.ensures.node inner)

pub loop-w-preserved : goal.loop-w-preserved
loop-w-preserved c =
    let nodes = c.args.graph.now in
    let w = c.loop-w.w in
    let stored : Stored = record { rows = map (λ snaps. snaps.items) c.args.rows.now; dur = c.args.dur.now; taken = c.args.taken.now } in
    let within : w < length c.args.rows.now = few_rows c.args.rows.now c.args.graph.now c.loop-w.w c.count-w-end.result c.requires.stored.rows c.count-w-end.ensures.count c.loop-w-test.true in
    let read : c.as_slice-snaps.result.now ≡ rows_at stored w =
    rows_read c.args.rows.now w c.index-rows-place.result c.as_slice-snaps.result.now within c.index-rows-place.is c.as_slice-snaps.ensures.value in
    let node = c.node-node.result in
    let at = c.node-node.ensures.node in
    let here : IsLeastIfAny (NodeWants node (rows_at stored w) (slice_index stored.dur w) (slice_index stored.taken w) c.args.j) c.wanted_by-wanted.result =
    subst (λ (rows : List SnapRow). IsLeastIfAny (NodeWants node rows (slice_index stored.dur w) (slice_index stored.taken w) c.args.j) c.wanted_by-wanted.result) read
    c.wanted_by-wanted.ensures.least in
    record {
      least = subst (λ (o : Option ℕ). IsLeastIfAny (SomeWant nodes stored c.args.j (w + 1)) o) (sym c.lesser-least.ensures)
          (node_more nodes stored c.args.j w node c.loop-w.least c.wanted_by-wanted.result at c.loop-w.invariant.least here);
      some = subst (λ (o : Option ℕ). (u : ℕ) (x : Node) → u < w + 1 → slice_get nodes u ≡ Some x → reads x c.args.j ≡ true → IsSome o) (sym c.lesser-least.ensures)
          (some_more nodes c.args.j w node c.loop-w.least c.wanted_by-wanted.result at c.loop-w.invariant.some c.wanted_by-wanted.ensures.some);
    }

pub unreachable-requires : goal.unreachable-requires
unreachable-requires c =
    let found = reader_found c.args.graph.now c.args.j c.count-w-end.ensures.graph c.requires.stream in
    let some : IsSome c.loop-w.least = c.loop-w.invariant.some found.0 found.1 (omega (arith, found.2, c.count-w-end.ensures.count)) found.3 found.4 in
    false≢true (subst IsSome c.in-None.is some)

pub returns : goal.returns
returns c =
    let stored : Stored = record { rows = map (λ snaps. snaps.items) c.args.rows.now; dur = c.args.dur.now; taken = c.args.taken.now } in
    let all : c.loop-w.w ≡ length c.args.graph.now = omega (arith, c.count-w-end.ensures.count) in
    subst (λ (o : Option ℕ). IsLeastIfAny (SomeWant c.args.graph.now stored c.args.j (length c.args.graph.now)) o) c.in-Some.is
    (subst (λ (k : ℕ). IsLeastIfAny (SomeWant c.args.graph.now stored c.args.j k) c.loop-w.least) all c.loop-w.invariant.least)
