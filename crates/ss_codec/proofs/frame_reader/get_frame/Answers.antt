use Rattle.std.proofs.Common.{subst, arith}
use Rattle.ss_codec.specs.FrameTests.{GivesFrame}
use Rattle.ss_codec.proofs.Frames.{read_is_frame}
use Rattle.ss_codec.proofs.FrameCodes.{frame_is_given, gives_frame, short_is_refused}
use Rattle.ss_codec.proofs.frame_reader.get_frame.Goals as goal

pub returns-clause-ok : goal.returns-clause-ok
returns-clause-ok c =
    gives_frame c.args.v c.args.n c.args.bytes.now c.read_frame.result c.read_frame.ensures
    (read_is_frame c.args.v c.args.n c.args.bytes.now (λ i. omega (arith, c.type_inv.bytes i)))

pub returns-clause-read : goal.returns-clause-read
returns-clause-read c = λ f is_frame v_is n_is e.
    subst (GivesFrame c.read_frame.result) (frame_is_given f c.args.v c.args.n c.args.bytes.now (omega arith) (omega arith) is_frame v_is n_is e) c.read_frame.ensures

pub returns-clause-short : goal.returns-clause-short
returns-clause-short c = λ f rest code e some.
    short_is_refused c.args.v c.args.n f c.args.bytes.now rest c.read_frame.result code e some (returns-clause-ok c)
