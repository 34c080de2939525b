use Rattle.std.proofs.Common.{◌≡◌, ap, arith}
use Rattle.std.specs.Prelude.{nat_lt}
use Rattle.toml.specs.View.{array_view}
use Rattle.ss_job.proofs.Views.{item_count-view}
use Rattle.ss_job.specs.Faults.{item_count}
use Rattle.ss_job.proofs.reader.is_too_long.Goals as goal

pub returns : goal.returns
returns c =
    let count : c.len.result ≡ item_count (array_view c.args.array.now) = omega (arith, item_count-view c.args.array.now.items, c.len.ensures, c.args.array.now.ok.0) in
    ap (nat_lt 32) count
