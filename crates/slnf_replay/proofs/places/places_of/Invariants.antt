-- the packets in hand, and the places of those that are decided so far
use Rattle.std.proofs.Common.{◌≡◌}
use Rattle.slnf_flight.specs.PlanSetting.{setting_of}
use Rattle.slnf_replay.specs.Follows.{AreInHand}
use Rattle.slnf_replay.specs.Places.{places_by}
use Rattle.slnf_replay.proofs.places.places_of.Given as goal

abbrev pub invariant-loop-number : goal.invariant-loop-number
invariant-loop-number l = record {
  hands : AreInHand (setting_of l.plan l.lanes).scene l.seats l.journal l.number l.hands;
  places : l.places.items ≡ places_by (setting_of l.plan l.lanes).scene l.journal l.number;
}
