-- A setting of a function whose machine does what it owes is sound.
use Rattle.std.proofs.Common.{◌≡◌, ℕ, Option, Some, None, List, [], slice_get, refl, ap, sym, ◌∙◌, subst}
use Rattle.slnf_base.specs.declared.packets.Packet.{Packet}
use Rattle.slnf_base.specs.declared.packets.Reason.{Reason}
use Rattle.slnf_base.specs.declared.packets.Verdict.{Verdict}
use Rattle.slnf_base.specs.declared.packets.Verdict.TheVariants.{Dropped}
use Rattle.slnf_access.specs.declared.requests.Entry.{Entry}
use Rattle.slnf_access.specs.declared.functions.Start.{Start}
use Rattle.slnf_access.specs.declared.functions.Start.TheVariants.{Go as StartGo, Over as StartOver}
use Rattle.slnf_access.specs.Machines.{Machine, Stand, Flies, Ends, stand_of_start, stand_after, decided_at}
use Rattle.slnf_run.specs.Setting.{Actor, Era, Setting, actors_of}
use Rattle.slnf_run.proofs.NextAccess.{same_flight, stand_after-ended}
use Rattle.slnf_run.specs.OneBox.{HasLanesOnce, EndsWell, IsSound}
use Rattle.slnf_flight.specs.declared.lanes.Taken.{Taken}
use Rattle.slnf_flight.specs.declared.lanes.Taken.TheVariants.{Seen, Bad}
use Rattle.slnf_flight.specs.declared.lanes.Lane.{Lane}
use Rattle.slnf_flight.specs.Lanes.{lane_sizes}
use Rattle.slnf_flight.specs.Lanes.{packet_at}
use Rattle.slnf_flight.specs.Begins.{begins_with}
use Rattle.slnf_flight.specs.Begins.{lane_begins, actor_begins, begins_of}
use Rattle.slnf_run.specs.FunctionLaws.{IsFunction}
use Rattle.slnf_setting.proofs.Beginning.{begins_on_lane, begins_in_sweep}

module _ {F : Type 0} (m : Machine F) (starts : ℕ → ℕ → Packet → Start F) (sweeps : ℕ → ℕ → Stand F)
    (owed : IsFunction m starts sweeps) where
  -- a flight that an item begins with has decided nothing
  first_undecided : (i k : ℕ) (first : F) (lanes : List Lane) (actor : Option Actor) → actor_begins lanes (starts i)
      (sweeps i) k actor ≡ Flies first → m.decided first ≡ None
  first_undecided i k first lanes None h = absurd (cc)
  first_undecided i k first lanes (Some actor) h = by actor.lane h
    where
      started : (start : Start F) (packet : Packet) → starts i k packet ≡ start → stand_of_start start ≡ Flies first
          → m.decided first ≡ None
      started (StartGo flight) packet w h = ap m.decided (sym (same_flight flight first h))
          ∙ owed.undecided i k packet flight w
      started (StartOver reason) packet w h = absurd (cc)

      taken : (packet : Option Taken) → begins_with (starts i k) packet ≡ Flies first → m.decided first ≡ None
      taken None h = absurd (cc)
      taken (Some (Bad reason)) h = absurd (cc)
      taken (Some (Seen packet)) h = started (starts i k packet) packet refl h

      by : (lane : Option ℕ) → lane_begins lanes (starts i) (sweeps i) k lane ≡ Flies first → m.decided first ≡ None
      by None h = sym (ap (decided_at m) h) ∙ owed.swept i k []
      by (Some lane) h = taken (packet_at lanes k (Some lane)) h

  -- a packet that was captured ends well
  taken_well : (i k : ℕ) (own : List Entry) (taken : Taken)
      → EndsWell (stand_after m (begins_with (starts i k) (Some taken)) own)
  taken_well i k own (Bad reason) = subst EndsWell (sym (stand_after-ended m (Some (Dropped reason)) own)) tt
  taken_well i k own (Seen packet) = go (starts i k packet) refl
    where
      go : (start : Start F) → starts i k packet ≡ start → EndsWell (stand_after m (stand_of_start start) own)
      go (StartGo first) w = owed.ends_well i k packet first own w
      go (StartOver reason) w = subst EndsWell (sym (stand_after-ended m (Some (Dropped reason)) own)) tt

  -- and is dropped where it ends at once
  taken_dropped : (i k : ℕ) (verdict : Verdict) (taken : Taken) → begins_with (starts i k)
      (Some taken) ≡ Ends (Some verdict) → (reason : Reason) × (verdict ≡ Dropped reason)
  taken_dropped i k verdict (Bad reason) h = (reason, cc)
  taken_dropped i k verdict (Seen packet) h = go (starts i k packet) h
    where
      go : (start : Start F) → stand_of_start start ≡ Ends (Some verdict)
          → (reason : Reason) × (verdict ≡ Dropped reason)
      go (StartGo first) h = absurd (cc)
      go (StartOver reason) h = (reason, cc)

  pub function_sound : {A : Type 0} (shards batch sweep_items : ℕ) (eras : List Era) (lanes : List Lane)
      (place : List Entry → ℕ → F → Verdict → ℕ) (arrival : F → Entry → A) (removals : Entry → List A)
      → ((number : ℕ) (era : Era) → slice_get eras number ≡ Some era → HasLanesOnce era.actors)
      → IsSound (let s : Setting F A = record {
        shards = shards;
        batch = batch;
        lanes = lane_sizes lanes;
        sweep_items = sweep_items;
        eras = eras;
        scene = record {
          machine = λ i. m;
          begins = begins_of eras lanes starts sweeps;
          place = place;
          arrival = arrival;
          removals = removals;
        };
      } in s)
  function_sound {A} shards batch sweep_items eras lanes place arrival removals once = record {
    steady = λ i. owed.steady;
    undecided = λ i k first h. first_undecided i k first lanes (slice_get (actors_of eras) i) h;
    ends_well = λ i lane k actor own at on size can.
        let r : (taken : Taken)
        × (begins_of eras lanes starts sweeps i k ≡ begins_with (starts i k) (Some taken)) =
        begins_on_lane eras lanes starts sweeps i k actor at lane on size in
        subst (λ st. EndsWell (stand_after m st own)) (sym r.1) (taken_well i k own r.0);
    begins_dropped = λ i lane k actor verdict at on size ends.
        let r : (taken : Taken)
        × (begins_of eras lanes starts sweeps i k ≡ begins_with (starts i k) (Some taken)) =
        begins_on_lane eras lanes starts sweeps i k actor at lane on size in
        taken_dropped i k verdict r.0 (sym r.1 ∙ ends);
    sweeps = λ i k actor own at none can.
        ap (λ st. decided_at m (stand_after m st own)) (begins_in_sweep eras lanes starts sweeps i k actor at none)
        ∙ owed.swept i k own;
    lanes_once = once;
  }
