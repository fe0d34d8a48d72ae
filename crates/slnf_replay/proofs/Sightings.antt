-- The packet of an entry, in a run.
use Rattle.std.proofs.Common.{◌≡◌, ◌⊎◌, inl, inr, ℕ, ◌<◌, ◌≤◌, ◌^◌, Bool, true, false, ◌&&◌, Option, Some, None, List, [], ◌∷◌, length, slice_get, refl, sym, ap, ◌∙◌, subst, arith}
use Rattle.std.specs.Option.{option_and_then}
use Rattle.std.proofs.lemmas.Bool.{and_parts, eqb-true}
use Rattle.std.proofs.lemmas.Option.{slice_get_within, same_Some}
use Rattle.slnf_access.specs.declared.requests.Entry.{Entry}
use Rattle.slnf_access.specs.declared.functions.Start.{Start}
use Rattle.slnf_access.specs.declared.functions.Start.TheVariants.{Go as StartGo, Over as StartOver}
use Rattle.slnf_access.specs.Machines.{Flies, stand_of_start}
use Rattle.slnf_plan.specs.declared.plan.Plan.{Plan}
use Rattle.slnf_run.specs.Setting.{Actor, is_on}
use Rattle.slnf_run.specs.Parts.{Post}
use Rattle.slnf_run.specs.Run.{IsRun}
use Rattle.slnf_run.specs.Visits.{Decision, decision_at}
use Rattle.slnf_run.specs.OneBox.{Took}
use Rattle.slnf_run.proofs.LanePosts.{actor_at}
use Rattle.slnf_run.proofs.OneBoxOfRun.{decided_taken}
use Rattle.slnf_flight.specs.declared.flights.AnyFlight.{AnyFlight}
use Rattle.slnf_flight.specs.declared.lanes.Lane.{Lane}
use Rattle.slnf_flight.specs.declared.lanes.Taken.{Taken}
use Rattle.slnf_flight.specs.declared.lanes.Taken.TheVariants.{Seen, Bad}
use Rattle.slnf_flight.specs.AnyFunction.{any_starts}
use Rattle.slnf_flight.specs.Begins.{begins_with}
use Rattle.slnf_flight.specs.Lanes.{packets_on, packet_at, AreFew}
use Rattle.slnf_flight.specs.PlanSetting.{setting_of}
use Rattle.slnf_setting.proofs.PlanWhole.{plan_sound}
use Rattle.slnf_replay.specs.declared.seats.Seat.{Seat}
use Rattle.slnf_replay.specs.declared.packets.Sighting.{Sighting}
use Rattle.slnf_replay.specs.Packets.{sighted, sighting_of}
use Rattle.slnf_replay.specs.Seats.{seats_from, seat_in}
use Rattle.slnf_replay.proofs.AtEntries.{IsAtEntry}
use Rattle.slnf_replay.proofs.Seating.{seated_begins, has_seat}

-- The packet of an entry that an instance made: its seat, and that it was captured on the seat's lane.
pub record IsSighting (lanes : List Lane) (seats : List (Option Seat)) (e : Entry) (x : Sighting) : Type 0 where
  pub seat : Seat
  pub seated : seat_in seats e.incarnation ≡ Some seat
  pub epoch : x.epoch ≡ seat.epoch
  pub lane : x.lane ≡ seat.lane
  pub captured : packet_at lanes e.item (Some seat.lane) ≡ Some (Seen x.packet)

pub is_sighting : (lanes : List Lane) (seats : List (Option Seat)) (e : Entry) (x : Sighting) →
    sighting_of lanes seats e ≡ Some x → IsSighting lanes seats e x
is_sighting lanes seats e x h = go (seat_in seats e.incarnation) refl h
  where
    at : (seat : Seat) → seat_in seats e.incarnation ≡ Some seat → (o : Option Taken) →
        packet_at lanes e.item (Some seat.lane) ≡ o → sighted seat o ≡ Some x → IsSighting lanes seats e x
    at seat w None v k = absurd (cc)
    at seat w (Some (Bad reason)) v k = absurd (cc)
    at seat w (Some (Seen packet)) v k =
        let same : _ ≡ x = same_Some _ x k in
        record {
          seat = seat;
          seated = w;
          epoch = ap (λ (s : Sighting). s.epoch) (sym same);
          lane = ap (λ (s : Sighting). s.lane) (sym same);
          captured = v ∙ ap (λ (s : Sighting). Some (Seen s.packet)) same;
        }

    go : (o : Option Seat) → seat_in seats e.incarnation ≡ o →
        option_and_then (λ seat. sighted seat (packet_at lanes e.item (Some seat.lane))) o ≡ Some x →
        IsSighting lanes seats e x
    go None w k = absurd (cc)
    go (Some seat) w k = at seat w (packet_at lanes e.item (Some seat.lane)) refl k

-- the packet's number has 32 bits
pub item_fits : (lanes : List Lane) (item lane : ℕ) (taken : Taken) → AreFew lanes →
    packet_at lanes item (Some lane) ≡ Some taken → item < 2 ^ 32
item_fits lanes item lane taken few h =
    let there : slice_get (packets_on lanes lane) item ≡ Some taken = go (slice_get lanes lane) refl h in
    let within : item < length (packets_on lanes lane) = slice_get_within (packets_on lanes lane) item taken there in
    let most : length (packets_on lanes lane) ≤ 1048576 = few lane in
    omega arith
  where
    go : (o : Option Lane) → slice_get lanes lane ≡ o →
        option_and_then (λ (there : Lane). slice_get there.packets item) o ≡ Some taken →
        slice_get (packets_on lanes lane) item ≡ Some taken
    go None w k = absurd (cc)
    go (Some there) w k = ap (λ o. slice_get (Rattle.slnf_flight.specs.Lanes.or_no_packets o) item) w ∙ k

-- how the packet of an entry starts, in a run
starts_so : (start : Start AnyFlight) (first : AnyFlight) → stand_of_start start ≡ Flies first → start ≡ StartGo first
starts_so (StartGo flight) first h =
    let same : flight ≡ first = Rattle.slnf_run.proofs.NextAccess.same_flight flight first h in ap StartGo same
starts_so (StartOver reason) first h = absurd (cc)

module _ (plan : Plan) (lanes : List Lane) (j : List Entry) (n : ℕ) (e : Entry)
    (at : IsAtEntry (setting_of plan lanes).scene j n e) where
  pub starts : (x : Sighting) → (r : IsSighting lanes (seats_from 0 plan.epochs) e x) →
      any_starts plan.function (slice_get plan.epochs x.epoch) e.incarnation e.item x.packet ≡ StartGo at.first
  starts x r =
      starts_so _ at.first
      (ap (λ n. stand_of_start (any_starts plan.function (slice_get plan.epochs n) e.incarnation e.item x.packet)) r.epoch
      ∙ ap (begins_with (any_starts plan.function (slice_get plan.epochs r.seat.epoch) e.incarnation e.item))
      (sym r.captured)
      ∙ sym ((seated_begins plan lanes e.incarnation r.seat r.seated).begins e.item) ∙ at.begins)

  -- an entry of a seated incarnation has a packet
  pub seated_seen : (seat : Seat) → seat_in (seats_from 0 plan.epochs) e.incarnation ≡ Some seat → (x : Sighting)
      × (sighting_of lanes (seats_from 0 plan.epochs) e ≡ Some x)
  seated_seen seat h = go (packet_at lanes e.item (Some seat.lane)) refl
      (sym ((seated_begins plan lanes e.incarnation seat h).begins e.item) ∙ at.begins)
    where
      whole : (o : Option Taken) → packet_at lanes e.item (Some seat.lane) ≡ o →
          sighting_of lanes (seats_from 0 plan.epochs) e ≡ sighted seat o
      whole o w = ap (option_and_then (λ (seat : Seat). sighted seat (packet_at lanes e.item (Some seat.lane)))) h
          ∙ ap (sighted seat) w

      go : (o : Option Taken) → packet_at lanes e.item (Some seat.lane) ≡ o →
          begins_with (any_starts plan.function (slice_get plan.epochs seat.epoch) e.incarnation e.item) o
          ≡ Flies at.first → (x : Sighting) × (sighting_of lanes (seats_from 0 plan.epochs) e ≡ Some x)
      go None w k = absurd (cc)
      go (Some (Bad reason)) w k = absurd (cc)
      go (Some (Seen packet)) w k = (_, whole (Some (Seen packet)) w)

-- an actor on a lane has it
pub on_lane : (lane : ℕ) (actor : Actor) → is_on lane actor ≡ true → actor.lane ≡ Some lane
on_lane lane actor h = go actor.lane refl h
  where
    go : (o : Option ℕ) → actor.lane ≡ o →
        elim o [ None ↦ false | Some own ↦ Rattle.std.proofs.Common.◌==◌ own lane ] ≡ true → actor.lane
        ≡ Some lane
    go None w k = absurd (cc)
    go (Some own) w k = w ∙ ap Some (eqb-true own lane k)

-- An entry that decides a packet was made by an instance, which has a seat.
pub decided_seated : (plan : Plan) (lanes : List Lane) (j : List Entry) → IsRun (setting_of plan lanes) j →
    (d : ℕ) (e : Entry) (x : Decision AnyFlight) → slice_get j d ≡ Some e →
    decision_at (setting_of plan lanes).scene j d ≡ Some x → (seat : Seat)
    × (seat_in (seats_from 0 plan.epochs) e.incarnation ≡ Some seat)
decided_seated plan lanes j run d e x at decided =
    let taken : (lane : ℕ) × Took (setting_of plan lanes) j lane e.item e.incarnation =
    decided_taken (setting_of plan lanes) j (plan_sound plan lanes) run d e x at decided in
    let post : Post = taken.1.0 in
    let on : is_on taken.0 post.actor ≡ true = (and_parts _ _ taken.1.2).0 in
    has_seat plan.epochs e.incarnation taken.0 post.actor
    (actor_at (setting_of plan lanes) j e.incarnation post taken.1.1) (on_lane taken.0 post.actor on)
