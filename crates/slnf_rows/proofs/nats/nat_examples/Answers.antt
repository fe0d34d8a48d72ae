use Rattle.slnf_rows.proofs.NatRuns.{out, race, loser_seen, claimed, recorded, lost_seen, full, one, starves, unconfirmed, unconfirmed_seen, swept_away}
use Rattle.slnf_rows.proofs.nats.nat_examples.Goals as goal

pub returns : goal.returns
returns c = record {
  out_and_back = out;
  race_on_one_flow = race;
  loser_is_seen = loser_seen;
  stop_after_the_claim = claimed;
  stop_after_the_record = recorded;
  lost_is_seen = lost_seen;
  full_pool = full;
  pool_of_one = one;
  pool_of_one_starves = starves;
  inbound_to_an_unconfirmed_port = unconfirmed;
  unconfirmed_is_seen = unconfirmed_seen;
  sweep = swept_away;
}
