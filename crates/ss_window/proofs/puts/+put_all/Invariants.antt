use Rattle.std.proofs.Common.{◌-◌}
use Rattle.ss_window.proofs.puts.+put_all.Given as goal

abbrev pub decreases-put_all : goal.decreases-put_all
decreases-put_all l = l.to - l.from
