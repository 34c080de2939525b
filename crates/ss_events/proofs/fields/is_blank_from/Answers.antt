use Rattle.std.proofs.Common.{add-one, sym, ◌∙◌}
use Rattle.csv.specs.Records.{fields_of}
use Rattle.ss_events.proofs.Padding.{blank-more}
use Rattle.ss_events.proofs.fields.is_blank_from.Goals as goal

pub returns-then-not-is_blank : goal.returns-then-not-is_blank
returns-then-not-is_blank c =
    let more = blank-more (fields_of c.args.row.now) c.loop-place.place in
    sym (rw (← c.is_blank.ensures, c.if-not-is_blank.true) at more) ∙ c.loop-place.invariant

pub loop-place-preserved : goal.loop-place-preserved
loop-place-preserved c =
    let more = blank-more (fields_of c.args.row.now) c.loop-place.place in
    rw (add-one c.loop-place.place)
    (sym (rw (← c.is_blank.ensures, c.if-not-is_blank.false) at more) ∙ c.loop-place.invariant)
