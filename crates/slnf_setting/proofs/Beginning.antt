-- How the items of an incarnation that is there begin.
use Rattle.std.proofs.Common.{◌≡◌, ℕ, zero, suc, ◌<◌, ◌==◌, Bool, true, false, Option, Some, None, List, [], ◌∷◌, length, slice_get, slice_index, refl, ap, ◌∙◌, arith}
use Rattle.std.specs.Prelude.{IsTrue}
use Rattle.std.proofs.lemmas.Bool.{eqb-true}
use Rattle.slnf_base.specs.declared.packets.Packet.{Packet}
use Rattle.slnf_access.specs.declared.functions.Start.{Start}
use Rattle.slnf_access.specs.Machines.{Stand}
use Rattle.slnf_run.specs.Setting.{Actor, Era, is_on, actors_of}
use Rattle.slnf_flight.specs.declared.lanes.Taken.{Taken}
use Rattle.slnf_flight.specs.declared.lanes.Lane.{Lane}
use Rattle.slnf_flight.specs.Lanes.{lane_sizes}
use Rattle.slnf_flight.specs.Lanes.{packet_at}
use Rattle.slnf_flight.specs.Begins.{begins_with}
use Rattle.slnf_flight.specs.Begins.{lane_begins, actor_begins, begins_of}

-- an actor on a lane has this lane
pub lane_is : (lane : ℕ) (actor : Actor) → IsTrue (is_on lane actor) → actor.lane ≡ Some lane
lane_is lane actor on = go actor.lane refl on
  where
    go : (own : Option ℕ) → actor.lane ≡ own
        → (let b : Bool = elim own [ None ↦ false | Some own ↦ own == lane ] in b) ≡ true → actor.lane ≡ Some lane
    go None w h = absurd (cc)
    go (Some own) w h = w ∙ ap (λ n. Some n) (eqb-true own lane h)

item_there : (packets : List Taken) (number : ℕ) → number < length packets
    → (taken : Taken) × (slice_get packets number ≡ Some taken)
item_there [] number h = absurd (omega arith)
item_there (taken ∷ packets) zero h = (taken, refl)
item_there (taken ∷ packets) (suc number) h = item_there packets number (omega arith)

-- a packet is there below its lane's size
pub packet_there : (lanes : List Lane) (lane number : ℕ) → number < slice_index (lane_sizes lanes) lane
    → (taken : Taken) × (packet_at lanes number (Some lane) ≡ Some taken)
packet_there [] lane number h = absurd (omega arith)
packet_there (first ∷ lanes) zero number h = item_there first.packets number h
packet_there (first ∷ lanes) (suc lane) number h = packet_there lanes lane number h

module _ {F : Type 0} (eras : List Era) (lanes : List Lane) (starts : ℕ → ℕ → Packet → Start F)
    (sweeps : ℕ → ℕ → Stand F) (i k : ℕ) (actor : Actor) (at : slice_get (actors_of eras) i ≡ Some actor) where
  pub begins_by : (own : Option ℕ) → actor.lane ≡ own
      → begins_of eras lanes starts sweeps i k ≡ lane_begins lanes (starts i) (sweeps i) k own
  begins_by own w = ap (actor_begins lanes (starts i) (sweeps i) k) at
      ∙ ap (lane_begins lanes (starts i) (sweeps i) k) w

  -- a packet of an actor's lane begins as it was captured
  pub begins_on_lane : (lane : ℕ) → IsTrue (is_on lane actor) → k < slice_index (lane_sizes lanes) lane
      → (taken : Taken) × (begins_of eras lanes starts sweeps i k ≡ begins_with (starts i k) (Some taken))
  begins_on_lane lane on size =
      let r : (taken : Taken) × (packet_at lanes k (Some lane) ≡ Some taken) = packet_there lanes lane k size in
      (r.0, begins_by (Some lane) (lane_is lane actor on) ∙ ap (begins_with (starts i k)) r.1)

  -- an item of a sweep begins as one
  pub begins_in_sweep : actor.lane ≡ None → begins_of eras lanes starts sweeps i k ≡ sweeps i k
  begins_in_sweep none = begins_by None none
