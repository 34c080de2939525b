use Rattle.std.proofs.Common.{◌≡◌, ◌++◌}
use Rattle.ss_codec.specs.Frame.{inputs_bytes}
use Rattle.ss_codec.proofs.frame_writer.put_inputs.Given as goal

-- the inputs passed are appended
abbrev pub invariant-loop-k : goal.invariant-loop-k
invariant-loop-k l = l.out.items ≡ l.fn.out.items ++ inputs_bytes l.k l.pos l.bounds
