use Rattle.std.proofs.Common.{◌≡◌, arith, subst, sym, ◌∙◌, get_or}
use Rattle.ss_job.proofs.DraftLoop.{drafts-more, drafts-stop, drafts-end}
use Rattle.ss_job.proofs.Views.{item_count-view}
use Rattle.ss_job.specs.Answers.{IsFaultOfDocument}
use Rattle.ss_job.proofs.reader.drafts_of.Goals as goal

pub overflow_cast-v : goal.overflow_cast-v
overflow_cast-v c = omega (arith, item_count-view c.args.array.now.items)

pub draft_at-requires : goal.draft_at-requires
draft_at-requires c = let few = item_count-view c.args.array.now.items in let count = c.loop-v.invariant.count in omega arith

pub returns-in-Err : goal.returns-in-Err
returns-in-Err c =
    let values = c.args.array.now.items in
    let here : get_or values c.loop-v.v c.value-item.result ≡ c.value-item.result = cc in
    let stop = drafts-stop c.loop-v.draft values c.loop-v.v c.value-item.result c.in-Err.fault (omega arith) here c.in-Err.ensures.refused in
    subst (λ read. IsFaultOfDocument c.in-Err.fault read) c.loop-v.invariant.read stop

pub loop-v-preserved : goal.loop-v-preserved
loop-v-preserved c =
    let values = c.args.array.now.items in
    let here : get_or values c.loop-v.v c.value-item.result ≡ c.value-item.result = cc in
    record {
      read = sym (drafts-more c.loop-v.draft c.draft_at.new.draft values c.loop-v.v c.value-item.result (omega arith) here c.in-Ok.ensures.added) ∙ c.loop-v.invariant.read;
      count = let more = c.in-Ok.ensures.count in let count = c.loop-v.invariant.count in omega arith;
    }

pub returns : goal.returns
returns c = sym c.loop-v.invariant.read ∙ drafts-end c.loop-v.draft c.args.array.now.items c.loop-v.v (omega arith)
