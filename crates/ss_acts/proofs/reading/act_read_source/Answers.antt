use Rattle.std.proofs.Common.{◌≡◌, ◌∙◌, ℕ, List, sym, ap}
use Rattle.std.specs.Prelude.{slice_get}
use Rattle.ss_acts.proofs.Replies.{list_gone, list_got, listed_at, source_within}
use Rattle.ss_elem.specs.declared.element.Element.{Element}
use Rattle.ss_frames.specs.Plans.{plan_numbers}
use Rattle.ss_plan.specs.Plan.{source_list}
use Rattle.ss_state.specs.Numbers.{IsStream}
use Rattle.ss_vault.specs.Told.{VaultTold, durable_of}
use Rattle.ss_vertex.specs.Inst.{InstState, inst_numbers}
use Rattle.ss_acts.proofs.reading.act_read_source.Goals as goal

pub returns-then-n-mark-clause-answer : goal.returns-then-n-mark-clause-answer
returns-then-n-mark-clause-answer g c =
    let v = c.args.vault.now in
    let s : VaultTold = record { held = v.numbers; halted = v.halted; started = v.started; depot = g.D.Depot.told v.depot; outputs = g.O.Outputs.told v.outputs } in
    let plan = c.args.plan.now in
    let inst = c.args.inst.now in
    let stream : IsStream (plan_numbers plan) inst.v = (c.act_facts.ensures.streams inst.v).0 c.requires.stands.stream in
    let at = listed_at plan c.act_facts.ensures inst c.in-Item.input c.in-Item.n stream c.requires.source c.in-Item.ensures in
    let mark : c.mark-mark.result ≡ (durable_of s inst.v).mark = c.mark-mark.ensures ∙ ap (λ (n : ℕ). (durable_of s n).mark) c.v-v.ensures in
    list_gone plan inst c.crash.new.self s c.in-Item.input c.in-Item.n c.mark-mark.result c.in-Item.ensures at.0 at.1 mark c.if-n-mark.true
    (ap (λ (i : InstState). inst_numbers i) c.crash.ensures.crashed)

pub accept-requires-clause-element : goal.accept-requires-clause-element
accept-requires-clause-element g c =
    let plan = c.args.plan.now in
    let inst = c.args.inst.now in
    let stream : IsStream (plan_numbers plan) inst.v = (c.act_facts.ensures.streams inst.v).0 c.requires.stands.stream in
    let at = listed_at plan c.act_facts.ensures inst c.in-Item.input c.in-Item.n stream c.requires.source c.in-Item.ensures in
    let numbered = c.act_facts.ensures.numbered inst c.requires.stands in
    let within = source_within plan c.act_facts.ensures inst c.in-Item.input c.in-Item.n stream c.requires.source c.in-Item.ensures at.1 in (
      ap (λ (xs : List Element). slice_get xs c.in-Item.n)
          (numbered.listed c.requires.source c.in-Item.input ∙ (c.act_facts.ensures.meant.sources inst.v c.requires.source).1
          ∙ ap (λ (n : ℕ). source_list plan n) (sym c.v-v.ensures))
          ∙ c.listed-x.ensures,
      within.1,
    )

pub returns-else-n-mark-clause-answer : goal.returns-else-n-mark-clause-answer
returns-else-n-mark-clause-answer g c =
    let v = c.args.vault.now in
    let s : VaultTold = record { held = v.numbers; halted = v.halted; started = v.started; depot = g.D.Depot.told v.depot; outputs = g.O.Outputs.told v.outputs } in
    let plan = c.args.plan.now in
    let inst = c.args.inst.now in
    let stream : IsStream (plan_numbers plan) inst.v = (c.act_facts.ensures.streams inst.v).0 c.requires.stands.stream in
    let at = listed_at plan c.act_facts.ensures inst c.in-Item.input c.in-Item.n stream c.requires.source c.in-Item.ensures in
    let mark : c.mark-mark.result ≡ (durable_of s inst.v).mark = c.mark-mark.ensures ∙ ap (λ (n : ℕ). (durable_of s n).mark) c.v-v.ensures in
    list_got plan inst c.accept.new.inst s c.in-Item.input c.in-Item.n c.mark-mark.result c.accept.result c.in-Item.ensures at.0 at.1 mark
    c.if-n-mark.false c.accept.ensures.answer
