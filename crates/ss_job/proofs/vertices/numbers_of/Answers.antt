use Rattle.std.proofs.Common.{◌≡◌, ◌∷◌, [], arith, rules, sym, ◌∙◌, Err, get_or}
use Rattle.std.proofs.lemmas.List.{length-append}
use Rattle.toml.specs.View.{items_view}
use Rattle.ss_job.proofs.NumberLoop.{numbers-more, numbers-stop, numbers-end}
use Rattle.ss_job.proofs.Views.{item_count-view}
use Rattle.ss_job.specs.Vertices.{numbers_of}
use Rattle.ss_job.proofs.vertices.numbers_of.Goals as goal

pub returns-in_err-number : goal.returns-in_err-number
returns-in_err-number c =
    let values = c.args.array.now.items in
    let here : get_or values c.loop-value.value-index c.value-item.result ≡ c.value-item.result = cc in
    let stop : numbers_of c.args.draft.now (items_view values) ≡ Err c.in_err-number.field-0.0 =
    sym c.loop-value.invariant.read ∙ numbers-stop c.args.draft.now c.loop-value.inputs values c.loop-value.value-index c.in_err-number.field-0.0 c.value-item.result (omega arith) here c.in_err-number.ensures in
    rw stop (search rules)

pub push-requires : goal.push-requires
push-requires c = omega (arith, item_count-view c.args.array.now.items, c.loop-value.invariant.count)

pub loop-value-preserved : goal.loop-value-preserved
loop-value-preserved c =
    let values = c.args.array.now.items in
    let here : get_or values c.loop-value.value-index c.value-item.result ≡ c.value-item.result = cc in
    record {
      read = rw c.push.ensures (sym (numbers-more c.args.draft.now c.loop-value.inputs values c.loop-value.value-index c.in_ok-number.number c.value-item.result (omega arith) here c.in_ok-number.ensures) ∙ c.loop-value.invariant.read);
      count = rw c.push.ensures (omega (arith, length-append c.loop-value.inputs (c.in_ok-number.number ∷ []), c.loop-value.invariant.count));
    }

pub returns : goal.returns
returns c = sym (numbers-end c.args.draft.now c.loop-value.inputs c.args.array.now.items c.loop-value.value-index (omega arith)) ∙ c.loop-value.invariant.read
