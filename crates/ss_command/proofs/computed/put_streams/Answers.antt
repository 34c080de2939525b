use Rattle.std.proofs.Common.{◌≡◌, ◌∙◌, List, Vec, Global, inl, inr, refl, ap, subst}
use Rattle.ss_elem.specs.declared.element.Element.{Element}
use Rattle.ss_job.specs.JobText.{JobText}
use Rattle.ss_plan.specs.Plan.{lists_of}
use Rattle.ss_command.specs.Computed.{list_at}
use Rattle.ss_command.specs.Output.{all_sink_puts, puts_of, sink_lines}
use Rattle.ss_command.specs.Puts.{Put, WentWhole, PutFailed, StoppedBetween}
use Rattle.ss_command.proofs.computed.put_streams.Goals as goal

pub returns-in-Ok-write_sinks : goal.returns-in-Ok-write_sinks
returns-in-Ok-write_sinks g c =
    let plan = c.args.plan.now in
    let old = g.O.Outputs.told c.args.outputs.now in
    let new = g.O.Outputs.told c.write_sinks.new.outputs in
    let puts : all_sink_puts c.job-2.result.now (list_at (lists_of c.as_slice.result.now)) ≡ puts_of (sink_lines plan) =
    ap (λ (j : JobText). all_sink_puts j (list_at (lists_of c.as_slice.result.now))) c.job-2.ensures.job
    ∙ ap (λ (s : List (Vec Element Global)). all_sink_puts plan.job (list_at (lists_of s))) c.as_slice.ensures.value
    ∙ ap (λ (ls : List (List Element)). all_sink_puts plan.job (list_at ls)) c.in-Ok.ensures.streams in
    (c.in-Ok.ensures.within, subst (λ (p : List Put). WentWhole old new p) puts c.in-Ok-write_sinks.ensures)

pub returns-in-Err-Failed : goal.returns-in-Err-Failed
returns-in-Err-Failed g c =
    let plan = c.args.plan.now in
    let old = g.O.Outputs.told c.args.outputs.now in
    let new = g.O.Outputs.told c.write_sinks.new.outputs in
    let puts : all_sink_puts c.job-2.result.now (list_at (lists_of c.as_slice.result.now)) ≡ puts_of (sink_lines plan) =
    ap (λ (j : JobText). all_sink_puts j (list_at (lists_of c.as_slice.result.now))) c.job-2.ensures.job
    ∙ ap (λ (s : List (Vec Element Global)). all_sink_puts plan.job (list_at (lists_of s))) c.as_slice.ensures.value
    ∙ ap (λ (ls : List (List Element)). all_sink_puts plan.job (list_at ls)) c.in-Ok.ensures.streams in
    inr (c.in-Ok.ensures.within, inl (refl, subst (λ (p : List Put). PutFailed old new p) puts (rw c.in-Err-Failed.field-0-is at c.in-Err-Failed.ensures)))

pub returns : goal.returns
returns g c =
    let plan = c.args.plan.now in
    let old = g.O.Outputs.told c.args.outputs.now in
    let new = g.O.Outputs.told c.write_sinks.new.outputs in
    let puts : all_sink_puts c.job-2.result.now (list_at (lists_of c.as_slice.result.now)) ≡ puts_of (sink_lines plan) =
    ap (λ (j : JobText). all_sink_puts j (list_at (lists_of c.as_slice.result.now))) c.job-2.ensures.job
    ∙ ap (λ (s : List (Vec Element Global)). all_sink_puts plan.job (list_at (lists_of s))) c.as_slice.ensures.value
    ∙ ap (λ (ls : List (List Element)). all_sink_puts plan.job (list_at ls)) c.in-Ok.ensures.streams in
    inr (c.in-Ok.ensures.within, inr (refl, subst (λ (p : List Put). StoppedBetween old new p) puts (rw c.in-Err-Memory-write_sinks.field-0-is at c.in-Err-Memory-write_sinks.ensures)))
