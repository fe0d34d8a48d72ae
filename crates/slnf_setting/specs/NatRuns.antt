-- What holds of a run of a NAT's plan beside its box.
use Rattle.std.specs.Prelude.{◌≡◌, ℕ, suc, Some, List, ◌∷◌, ◌++◌, take, slice_get}
use Rattle.slnf_base.specs.declared.addresses.Pair.{Pair}
use Rattle.slnf_base.specs.declared.packets.Packet.{Packet}
use Rattle.slnf_base.specs.declared.packets.Reason.TheVariants.{NoPort}
use Rattle.slnf_base.specs.declared.packets.Verdict.TheVariants.{Dropped}
use Rattle.slnf_access.specs.declared.requests.Entry.{Entry}
use Rattle.slnf_access.specs.declared.requests.Reply.TheVariants.{Done}
use Rattle.slnf_access.specs.Machines.{Flies}
use Rattle.slnf_run.specs.Scene.{Scene, own_of, stand_of}
use Rattle.slnf_run.specs.Visits.{Decision, decision_at}
use Rattle.slnf_box.specs.Nat.{Nat}
use Rattle.slnf_nat.specs.declared.flights.OutState.TheVariants.{Look, Release}
use Rattle.slnf_nat.specs.Flights.{Out}
use Rattle.slnf_nat.specs.Starved.{IsStarved}
use Rattle.slnf_flight.specs.declared.flights.AnyFlight.{AnyFlight}
use Rattle.slnf_flight.specs.declared.flights.AnyFlight.TheVariants.{Nat as NatFlies}
use Rattle.slnf_flight.specs.Flights.{Arrival}

pub record NatRunsWell (nat : Nat) (s : Scene AnyFlight Arrival) (es : List Entry) : Type 0 where
  -- A packet is decided to have no port only where it found each candidate taken, and then no flow.
  pub starved : (number : ℕ) (e : Entry) (decision : Decision AnyFlight) → slice_get es number ≡ Some e →
      decision_at s es number ≡ Some decision → decision.verdict ≡ Dropped NoPort →
      (incarnation : ℕ) × (packet : Packet) × (decision.first ≡ NatFlies (Out Look incarnation packet))
      × IsStarved nat incarnation packet (own_of e.incarnation e.item (take (suc number) es))
  -- The reply to a release is Done.
  pub released : (before later : List Entry) (e : Entry) (place version incarnation : ℕ) (port : Pair)
      (packet : Packet) → es ≡ before ++ e ∷ later →
      stand_of s e.incarnation e.item before
      ≡ Flies (NatFlies (Out (Release place version port) incarnation packet)) →
      e.reply ≡ Done e.stamp
