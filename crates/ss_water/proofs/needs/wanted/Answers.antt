use Rattle.std.proofs.Common.{[], get_or, subst, sym}
use Rattle.ss_water.specs.Needs.{AreWanted, IsStart}
use Rattle.ss_water.specs.declared.node.Kind.{Kind}
use Rattle.ss_water.specs.declared.snap_row.SnapRow.{SnapRow}
use Rattle.ss_water.proofs.Reading.{recovered}
use Rattle.ss_water.proofs.needs.wanted.Goals as goal

pub returns-in-Inner : goal.returns-in-Inner
returns-in-Inner c =
    let rows = c.args.snaps.now in
    let rises = c.requires.rise c.in-Inner.is in
    let start : IsStart rows c.args.dur c.start_of.result =
    record { within = c.start_of.ensures.within; given = c.start_of.ensures.given; greatest = c.start_of.ensures.greatest rises } in
    let none : SnapRow = record { n = 0; out = 0; pos = [] } in
    let told = recovered rows c.args.dur c.args.taken c.start_of.result none rises start in
    subst (λ (k : Kind). AreWanted k rows c.args.dur c.args.taken (get_or rows c.start_of.result none).pos) (sym c.in-Inner.is) told
