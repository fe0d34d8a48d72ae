-- Where a flight with which an item begins comes from.
use Rattle.std.proofs.Common.{◌≡◌, ◌⊎◌, inl, inr, ℕ, Option, Some, None, List, slice_get, refl, ap, ◌∙◌}
use Rattle.slnf_base.specs.declared.packets.Packet.{Packet}
use Rattle.slnf_access.specs.declared.functions.Start.{Start}
use Rattle.slnf_access.specs.declared.functions.Start.TheVariants.{Go as StartGo, Over as StartOver}
use Rattle.slnf_access.specs.Machines.{Stand, Flies, stand_of_start}
use Rattle.slnf_run.specs.Setting.{Actor, Era, actors_of}
use Rattle.slnf_run.proofs.NextAccess.{same_flight}
use Rattle.slnf_flight.specs.declared.lanes.Taken.{Taken}
use Rattle.slnf_flight.specs.declared.lanes.Taken.TheVariants.{Seen, Bad}
use Rattle.slnf_flight.specs.declared.lanes.Lane.{Lane}
use Rattle.slnf_flight.specs.Lanes.{packet_at}
use Rattle.slnf_flight.specs.Begins.{begins_with}
use Rattle.slnf_flight.specs.Begins.{lane_begins, actor_begins, begins_of}

-- A packet of a lane that starts as this flight.
pub record IsStarted {F : Type 0} (lanes : List Lane) (starts : ℕ → ℕ → Packet → Start F) (i k : ℕ)
    (first : F) : Type 0 where
  pub lane : ℕ
  pub packet : Packet
  pub captured : packet_at lanes k (Some lane) ≡ Some (Seen packet)
  pub start : starts i k packet ≡ StartGo first

-- The item is of an actor, and began as this flight: as a packet of its lane, or as an item of a sweep.
pub record IsBegun {F : Type 0} (eras : List Era) (lanes : List Lane) (starts : ℕ → ℕ → Packet → Start F)
    (sweeps : ℕ → ℕ → Stand F) (i k : ℕ) (first : F) : Type 0 where
  pub actor : Actor
  pub at : slice_get (actors_of eras) i ≡ Some actor
  pub how : IsStarted lanes starts i k first ⊎ (sweeps i k ≡ Flies first)

module _ {F : Type 0} (eras : List Era) (lanes : List Lane) (starts : ℕ → ℕ → Packet → Start F)
    (sweeps : ℕ → ℕ → Stand F) (i k : ℕ) (first : F) where
  pub begun : begins_of eras lanes starts sweeps i k ≡ Flies first → IsBegun eras lanes starts sweeps i k first
  begun h = go (slice_get (actors_of eras) i) refl h
    where
      started : (lane : ℕ) (packet : Packet) (start : Start F) → packet_at lanes k (Some lane) ≡ Some (Seen packet)
          → starts i k packet ≡ start → stand_of_start start ≡ Flies first → IsStarted lanes starts i k first
      started lane packet (StartGo flight) there w h = record {
        lane = lane;
        packet = packet;
        captured = there;
        start = w ∙ ap (λ f. StartGo f) (same_flight flight first h);
      }
      started lane packet (StartOver reason) there w h = absurd (cc)

      taken : (lane : ℕ) (packet : Option Taken) → packet_at lanes k (Some lane) ≡ packet
          → begins_with (starts i k) packet ≡ Flies first → IsStarted lanes starts i k first
      taken lane None w h = absurd (cc)
      taken lane (Some (Bad reason)) w h = absurd (cc)
      taken lane (Some (Seen packet)) w h = started lane packet (starts i k packet) w refl h

      by : (lane : Option ℕ) → lane_begins lanes (starts i) (sweeps i) k lane ≡ Flies first
          → IsStarted lanes starts i k first ⊎ (sweeps i k ≡ Flies first)
      by None h = inr h
      by (Some lane) h = inl (taken lane (packet_at lanes k (Some lane)) refl h)

      go : (actor : Option Actor) → slice_get (actors_of eras) i ≡ actor → actor_begins lanes (starts i)
          (sweeps i) k actor ≡ Flies first → IsBegun eras lanes starts sweeps i k first
      go None w h = absurd (cc)
      go (Some actor) w h = record { actor = actor; at = w; how = by actor.lane h }
