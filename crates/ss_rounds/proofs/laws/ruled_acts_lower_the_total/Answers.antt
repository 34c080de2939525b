use Rattle.ss_rounds.proofs.Ruled.{ruled_acts_lower_the_total, waits_change_nothing, no_waits_behind_whole_streams}
use Rattle.ss_rounds.proofs.laws.ruled_acts_lower_the_total.Goals as goal

pub returns : goal.returns
returns c =
    let never = c.positions_never_fall.ensures in
    record {
      lower = ruled_acts_lower_the_total never.pos never.out;
      still = waits_change_nothing never.pos never.out;
      sure = no_waits_behind_whole_streams never.pos never.out;
    }
