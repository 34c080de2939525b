use Rattle.std.proofs.Common.{◌+◌, ◌*◌, ◌<◌, ◌≤◌, sym, ◌∙◌, arith}
use Rattle.std.specs.Int.{w64}
use Rattle.std.specs.Prelude.{slice_index}
use Rattle.ss_elem.specs.Validity.{top}
use Rattle.ss_codec.specs.Numbers.{number_at}
use Rattle.ss_codec.proofs.Bounds.{ends, fails, goes_on}
use Rattle.ss_codec.proofs.frame_reader.check_bounds.Goals as goal

pub loop-k-preserved : goal.loop-k-preserved
loop-k-preserved c =
    let within : number_at w64 (31 + 16 * c.loop-k.k) c.args.bytes.now ≤ top = omega (arith, c.u64_at.ensures) in
    sym (goes_on (slice_index c.args.bytes.now 22) c.loop-k.k c.args.bytes.now (omega arith) within) ∙ c.loop-k.invariant

pub returns-then-u64_at-gt-TOP_TIME : goal.returns-then-u64_at-gt-TOP_TIME
returns-then-u64_at-gt-TOP_TIME c =
    let above : top < number_at w64 (31 + 16 * c.loop-k.k) c.args.bytes.now = omega (arith, c.u64_at.ensures) in
    sym (fails (slice_index c.args.bytes.now 22) c.loop-k.k c.args.bytes.now (omega arith) above) ∙ c.loop-k.invariant

pub returns : goal.returns
returns c = sym (ends (slice_index c.args.bytes.now 22) c.loop-k.k c.args.bytes.now (omega arith)) ∙ c.loop-k.invariant
