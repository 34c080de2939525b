use Rattle.ss_rounds.proofs.Whole.{whole_streams_stay, taken_sinks_stay}
use Rattle.ss_rounds.proofs.laws.whole_stays.Goals as goal

pub returns : goal.returns
returns c = record {
  streams = whole_streams_stay c.nothing_durable_falls.ensures;
  sinks = taken_sinks_stay c.nothing_durable_falls.ensures;
}
