use Rattle.std.proofs.Common.{arith}
use Rattle.ss_window.proofs.OneSpelling.{image_read-spelled}
use Rattle.ss_window.proofs.window.Window.of_image.Goals as goal

pub returns-clause-spelling : goal.returns-clause-spelling
returns-clause-spelling c =
    image_read-spelled c.numbers_have_one_spelling.ensures c.args.hop c.args.agg _ c.args.bytes.now _
    (λ i. omega (arith, c.type_inv.bytes i)) c.in_ok-panes.ensures.ok
