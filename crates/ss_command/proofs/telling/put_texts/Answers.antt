use Rattle.std.proofs.Common.{◌≡◌, ℕ, List, Option, Result, Ok, Err, option_map, subst}
use Rattle.ss_outside.specs.Told.{OutputsTold}
use Rattle.ss_outside.specs.declared.outputs.PutFault.{PutFault}
use Rattle.ss_command.specs.Puts.{Wrote}
use Rattle.ss_command.specs.Working.{summary_name, text_puts}
use Rattle.ss_command.proofs.Wrote.{wrote-behind, wrote-stopped}
use Rattle.ss_command.proofs.telling.put_texts.Goals as goal

-- by what the texts and the name are
known : (a b : OutputsTold) (name other : Option (List ℕ)) (text same : List ℕ) (r : Result (Unit {0}) PutFault) → name ≡ other → text ≡ same →
    Wrote a b (text_puts name text) r → Wrote a b (text_puts other same) r
known a b name other text same r is e wrote =
    subst (λ (n : Option (List ℕ)). Wrote a b (text_puts n same) r) is (subst (λ (t : List ℕ). Wrote a b (text_puts name t) r) e wrote)

pub returns-in-Err : goal.returns-in-Err
returns-in-Err g c =
    let old = g.O.Outputs.told c.args.outputs.now in
    let new = g.O.Outputs.told c.put_text.new.outputs in
    let trace = option_map (λ name. name.now) c.args.trace in
    wrote-stopped old new (text_puts trace c.args.told.now.trace.items) (text_puts (summary_name c.args.job.now) c.args.told.now.summary.items) c.in-Err.fault
    (subst (λ (t : List ℕ). Wrote old new (text_puts trace t) (Err c.in-Err.fault)) c.as_slice.ensures.value c.in-Err.ensures)

pub returns-in-Ok-put_text : goal.returns-in-Ok-put_text
returns-in-Ok-put_text g c =
    let old = g.O.Outputs.told c.args.outputs.now in
    let mid = g.O.Outputs.told c.put_text.new.outputs in
    let new = g.O.Outputs.told c.put_text-2.new.outputs in
    let trace = option_map (λ name. name.now) c.args.trace in
    wrote-behind old mid new (text_puts trace c.args.told.now.trace.items) (text_puts (summary_name c.args.job.now) c.args.told.now.summary.items) (Ok tt)
    (subst (λ (t : List ℕ). Wrote old mid (text_puts trace t) (Ok tt)) c.as_slice.ensures.value c.in-Ok.ensures)
    (known mid new _ (summary_name c.args.job.now) _ c.args.told.now.summary.items (Ok tt) c.summary_name.ensures c.as_slice-2.ensures.value c.in-Ok-put_text.ensures)

pub returns-in-Err-put_text : goal.returns-in-Err-put_text
returns-in-Err-put_text g c =
    let old = g.O.Outputs.told c.args.outputs.now in
    let mid = g.O.Outputs.told c.put_text.new.outputs in
    let new = g.O.Outputs.told c.put_text-2.new.outputs in
    let trace = option_map (λ name. name.now) c.args.trace in
    let fault = c.in-Err-put_text.fault in
    wrote-behind old mid new (text_puts trace c.args.told.now.trace.items) (text_puts (summary_name c.args.job.now) c.args.told.now.summary.items) (Err fault)
    (subst (λ (t : List ℕ). Wrote old mid (text_puts trace t) (Ok tt)) c.as_slice.ensures.value c.in-Ok.ensures)
    (known mid new _ (summary_name c.args.job.now) _ c.args.told.now.summary.items (Err fault) c.summary_name.ensures c.as_slice-2.ensures.value c.in-Err-put_text.ensures)
