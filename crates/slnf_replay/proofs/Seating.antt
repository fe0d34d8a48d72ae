-- The seats of a plan's incarnations are their epochs and lanes.
use Rattle.std.proofs.Common.{◌≡◌, ◌⊎◌, inl, inr, ℕ, zero, suc, ◌+◌, ◌<◌, ◌^◌, Option, Some, None, List, [], ◌∷◌, ◌++◌, length, map, slice_get, refl, sym, ap, ◌∙◌, arith, append-nil, append_assoc}
use Rattle.std.specs.Option.{option_map, option_and_then, unwrap_or}
use Rattle.std.proofs.lemmas.List.{map-append}
use Rattle.std.proofs.lemmas.Option.{slice_get-map, same_Some}
use Rattle.slnf_plan.specs.declared.plan.Epoch.{Epoch}
use Rattle.slnf_plan.specs.declared.plan.InstancePlan.{InstancePlan}
use Rattle.slnf_plan.specs.declared.plan.SweepPlan.{SweepPlan}
use Rattle.slnf_plan.specs.declared.plan.SweepPlan.TheVariants.{No, Yes}
use Rattle.slnf_plan.specs.declared.plan.Plan.{Plan}
use Rattle.slnf_run.specs.Setting.{Actor, actors_of, base_of}
use Rattle.slnf_flight.specs.declared.lanes.Lane.{Lane}
use Rattle.slnf_flight.specs.Actors.{instance_actor, sweep_actors, era_of_epoch, eras_of}
use Rattle.slnf_flight.specs.AnyFunction.{any_starts}
use Rattle.slnf_flight.specs.Begins.{begins_with}
use Rattle.slnf_flight.specs.Lanes.{packet_at}
use Rattle.slnf_flight.specs.PlanSetting.{setting_of}
use Rattle.slnf_setting.proofs.FewActors.{incarnation_fits}
use Rattle.slnf_setting.proofs.PlanBegins.{instance_begins}
use Rattle.slnf_replay.specs.declared.seats.Seat.{Seat}
use Rattle.slnf_replay.specs.Lines.{lane_of}
use Rattle.slnf_replay.specs.Seats.{instance_seat, sweep_seats, epoch_seats, seats_from, seat_in}

-- nothing more
pub with_none : (seats : List (Option Seat)) → seats ≡ seats ++ []
with_none seats = sym (append-nil seats)

-- two lists more, one after the other
pub append_both : (old some all a b : List (Option Seat)) → some ≡ old ++ a → all ≡ some ++ b → all ≡ old ++ (a ++ b)
append_both old some all a b first second = second ∙ ap (λ l. l ++ b) first ∙ append_assoc old a b

-- the lane of a seat, and of an actor
abbrev pub seat_lane : Option Seat → Option ℕ
seat_lane seat = option_map (λ (s : Seat). s.lane) seat

abbrev own_lane : Actor → Option ℕ
own_lane actor = actor.lane

-- each seat's lane is its actor's
instances_same : (number : ℕ) (instances : List InstancePlan) →
    map seat_lane (map (instance_seat number) instances) ≡ map own_lane (map instance_actor instances)
instances_same number [] = refl
instances_same number (x ∷ xs) = ap (λ l. Some x.lane ∷ l) (instances_same number xs)

sweep_same : (sweep : SweepPlan) → map seat_lane (sweep_seats sweep) ≡ map own_lane (sweep_actors sweep)
sweep_same No = refl
sweep_same (Yes stop) = refl

epoch_same : (number : ℕ) (epoch : Epoch) → map seat_lane (epoch_seats number epoch)
    ≡ map own_lane (era_of_epoch epoch).actors
epoch_same number epoch =
    map-append seat_lane (map (instance_seat number) epoch.instances) (sweep_seats epoch.sweep)
    ∙ ap (λ l. l ++ map seat_lane (sweep_seats epoch.sweep)) (instances_same number epoch.instances)
    ∙ ap (λ l. map own_lane (map instance_actor epoch.instances) ++ l) (sweep_same epoch.sweep)
    ∙ sym (map-append own_lane (map instance_actor epoch.instances) (sweep_actors epoch.sweep))

lanes_same : (number : ℕ) (epochs : List Epoch) → map seat_lane (seats_from number epochs)
    ≡ map own_lane (actors_of (eras_of epochs))
lanes_same number [] = refl
lanes_same number (epoch ∷ epochs) =
    map-append seat_lane (epoch_seats number epoch) (seats_from (number + 1) epochs)
    ∙ ap (λ l. l ++ map seat_lane (seats_from (number + 1) epochs)) (epoch_same number epoch)
    ∙ ap (λ l. map own_lane (era_of_epoch epoch).actors ++ l) (lanes_same (number + 1) epochs)
    ∙ sym (map-append own_lane (era_of_epoch epoch).actors (actors_of (eras_of epochs)))

-- the same of one incarnation
lane_same : (epochs : List Epoch) (i : ℕ) → option_map seat_lane (slice_get (seats_from 0 epochs) i)
    ≡ option_map own_lane (slice_get (actors_of (eras_of epochs)) i)
lane_same epochs i =
    sym (slice_get-map seat_lane (seats_from 0 epochs) i) ∙ ap (λ l. slice_get l i) (lanes_same 0 epochs)
    ∙ slice_get-map own_lane (actors_of (eras_of epochs)) i

-- a seat is there as it is found
seat_there : (seats : List (Option Seat)) (i : ℕ) (seat : Seat) → seat_in seats i ≡ Some seat →
    slice_get seats i ≡ Some (Some seat)
seat_there seats i seat h = go (slice_get seats i) h
  where
    go : (o : Option (Option Seat)) → option_and_then (λ seat. seat) o ≡ Some seat → o ≡ Some (Some seat)
    go None w = absurd (cc)
    go (Some o) w = ap Some w

-- a seated incarnation has an actor on the seat's lane
pub seated_actor : (epochs : List Epoch) (i : ℕ) (seat : Seat) → seat_in (seats_from 0 epochs) i ≡ Some seat →
    (actor : Actor) × (slice_get (actors_of (eras_of epochs)) i ≡ Some actor) × (actor.lane ≡ Some seat.lane)
seated_actor epochs i seat h =
    go (slice_get (actors_of (eras_of epochs)) i) refl
    (sym (lane_same epochs i) ∙ ap (option_map seat_lane) (seat_there (seats_from 0 epochs) i seat h))
  where
    go : (o : Option Actor) → slice_get (actors_of (eras_of epochs)) i ≡ o → option_map own_lane o
        ≡ Some (Some seat.lane) → (actor : Actor) × (slice_get (actors_of (eras_of epochs)) i ≡ Some actor)
        × (actor.lane ≡ Some seat.lane)
    go None w k = absurd (cc)
    go (Some actor) w k = (actor, w, same_Some actor.lane (Some seat.lane) k)

-- its lane is the seat's
pub seated_lane : (plan : Plan) (lanes : List Lane) (i : ℕ) (seat : Seat) → seat_in (seats_from 0 plan.epochs) i
    ≡ Some seat → lane_of (setting_of plan lanes) i ≡ seat.lane
seated_lane plan lanes i seat h =
    let r : (actor : Actor) × (slice_get (actors_of (eras_of plan.epochs)) i ≡ Some actor)
    × (actor.lane ≡ Some seat.lane) = seated_actor plan.epochs i seat h in
    ap (λ (o : Option Actor). unwrap_or (option_and_then (λ actor. actor.lane) o) 0) r.1
    ∙ ap (λ (o : Option ℕ). unwrap_or o 0) r.2

-- and its number has 32 bits
pub seated_fits : (plan : Plan) (i : ℕ) (seat : Seat) → seat_in (seats_from 0 plan.epochs) i ≡ Some seat → i < 2 ^ 32
seated_fits plan i seat h =
    let r : (actor : Actor) × (slice_get (actors_of (eras_of plan.epochs)) i ≡ Some actor)
    × (actor.lane ≡ Some seat.lane) = seated_actor plan.epochs i seat h in
    incarnation_fits plan.epochs i r.0 plan.instances_fit plan.few_epochs r.1

-- an actor on a lane has a seat
pub has_seat : (epochs : List Epoch) (i lane : ℕ) (actor : Actor) → slice_get (actors_of (eras_of epochs)) i
    ≡ Some actor → actor.lane ≡ Some lane → (seat : Seat) × (seat_in (seats_from 0 epochs) i ≡ Some seat)
has_seat epochs i lane actor there on =
    go (slice_get (seats_from 0 epochs) i) refl
    (lane_same epochs i ∙ ap (option_map own_lane) there ∙ ap Some on)
  where
    in_seat : (o : Option Seat) → slice_get (seats_from 0 epochs) i ≡ Some o → seat_lane o ≡ Some lane → (seat : Seat)
        × (seat_in (seats_from 0 epochs) i ≡ Some seat)
    in_seat None w k = absurd (cc)
    in_seat (Some seat) w k = (seat, ap (option_and_then (λ seat. seat)) w)

    go : (o : Option (Option Seat)) → slice_get (seats_from 0 epochs) i ≡ o → option_map seat_lane o
        ≡ Some (Some lane) → (seat : Seat) × (seat_in (seats_from 0 epochs) i ≡ Some seat)
    go None w k = absurd (cc)
    go (Some o) w k = in_seat o w (same_Some (seat_lane o) (Some lane) k)

-- Where a seat is found: an instance of an epoch, by its number there.
pub record IsSeated (number : ℕ) (epochs : List Epoch) (i : ℕ) (seat : Seat) : Type 0 where
  pub m : ℕ
  pub k : ℕ
  pub epoch : Epoch
  pub instance : InstancePlan
  pub in_epoch : slice_get epochs m ≡ Some epoch
  pub at : slice_get epoch.instances k ≡ Some instance
  pub counted : i ≡ base_of (eras_of epochs) m + k
  pub seat_is : seat ≡ record { epoch = number + m; lane = instance.lane }

-- among the actors of one epoch, or behind them
walk : (number : ℕ) (instances : List InstancePlan) (sweep : SweepPlan) (rest : List (Option Seat)) (i : ℕ)
    (seat : Seat) → seat_in (map (instance_seat number) instances ++ (sweep_seats sweep ++ rest)) i ≡ Some seat →
    ((instance : InstancePlan) × (slice_get instances i ≡ Some instance)
    × (seat ≡ record { epoch = number; lane = instance.lane }))
    ⊎ ((m : ℕ) × (i ≡ length (map instance_actor instances ++ sweep_actors sweep) + m)
    × (seat_in rest m ≡ Some seat))
walk number [] No rest i seat h = inr (i, (let q : i ≡ 0 + i = omega arith in q), h)
walk number [] (Yes stop) rest zero seat h = absurd (cc)
walk number [] (Yes stop) rest (suc i) seat h = inr (i, (let q : suc i ≡ 1 + i = omega arith in q), h)
walk number (x ∷ xs) sweep rest zero seat h =
    inl (x, refl, sym (same_Some _ seat h))
walk number (x ∷ xs) sweep rest (suc i) seat h =
    elim (walk number xs sweep rest i seat h) [
      | inl r ↦ inl (r.0, r.1, r.2)
      | inr r ↦
          let n : ℕ = length (map instance_actor xs ++ sweep_actors sweep) in
          let q : i ≡ n + r.0 = r.1 in
          inr (r.0, (let z : suc i ≡ suc n + r.0 = omega arith in z), r.2)
    ]

seated_from : (number : ℕ) (epochs : List Epoch) (i : ℕ) (seat : Seat) → seat_in (seats_from number epochs) i
    ≡ Some seat → IsSeated number epochs i seat
seated_from number [] i seat h = absurd (cc)
seated_from number (epoch ∷ epochs) i seat h =
    elim (walk number epoch.instances epoch.sweep (seats_from (number + 1) epochs) i seat
    (ap (λ l. seat_in l i) (sym (append_assoc (map (instance_seat number) epoch.instances) (sweep_seats epoch.sweep)
    (seats_from (number + 1) epochs))) ∙ h)) [
      | inl r ↦
          let q : number + 0 ≡ number = omega arith in
          record {
            m = 0;
            k = i;
            epoch = epoch;
            instance = r.0;
            in_epoch = refl;
            at = r.1;
            counted = (let z : i ≡ 0 + i = omega arith in z);
            seat_is = r.2 ∙ ap (λ n. let s : Seat = record { epoch = n; lane = r.0.lane } in s) (sym q);
          }
      | inr r ↦
          let later : IsSeated (number + 1) epochs r.0 seat = seated_from (number + 1) epochs r.0 seat r.2 in
          let size : ℕ = length (era_of_epoch epoch).actors in
          let base : ℕ = base_of (eras_of epochs) later.m in
          let a : i ≡ size + r.0 = r.1 in
          let b : r.0 ≡ base + later.k = later.counted in
          let q : number + 1 + later.m ≡ number + suc later.m = omega arith in
          record {
            m = suc later.m;
            k = later.k;
            epoch = later.epoch;
            instance = later.instance;
            in_epoch = later.in_epoch;
            at = later.at;
            counted = (let z : i ≡ size + base + later.k = omega arith in z);
            seat_is = later.seat_is
                ∙ ap (λ n. let s : Seat = record { epoch = n; lane = later.instance.lane } in s) q;
          }
    ]

-- How an incarnation's items begin that has a seat.
pub record BeginsSeated (plan : Plan) (lanes : List Lane) (i : ℕ) (seat : Seat) : Type 0 where
  pub epoch : Epoch
  pub in_epoch : slice_get plan.epochs seat.epoch ≡ Some epoch
  pub begins : (item : ℕ) → (setting_of plan lanes).scene.begins i item
      ≡ begins_with (any_starts plan.function (slice_get plan.epochs seat.epoch) i item)
      (packet_at lanes item (Some seat.lane))

pub seated_begins : (plan : Plan) (lanes : List Lane) (i : ℕ) (seat : Seat) → seat_in (seats_from 0 plan.epochs) i
    ≡ Some seat → BeginsSeated plan lanes i seat
seated_begins plan lanes i seat h =
    let r : IsSeated 0 plan.epochs i seat = seated_from 0 plan.epochs i seat h in
    let number : seat.epoch ≡ r.m = ap (λ (s : Seat). s.epoch) r.seat_is
    ∙ (let q : 0 + r.m ≡ r.m = omega arith in q) in
    let there : slice_get plan.epochs seat.epoch ≡ Some r.epoch = ap (slice_get plan.epochs) number ∙ r.in_epoch in
    record {
      epoch = r.epoch;
      in_epoch = there;
      begins = λ item.
          ap (λ n. (setting_of plan lanes).scene.begins n item) r.counted
          ∙ instance_begins plan lanes r.m r.k item r.epoch r.instance r.in_epoch r.at
          ∙ ap (λ n. begins_with (any_starts plan.function (Some r.epoch) n item)
          (packet_at lanes item (Some r.instance.lane))) (sym r.counted)
          ∙ ap (λ o. begins_with (any_starts plan.function o i item)
          (packet_at lanes item (Some r.instance.lane))) (sym there)
          ∙ ap (λ l. begins_with (any_starts plan.function (slice_get plan.epochs seat.epoch) i item)
          (packet_at lanes item (Some l))) (sym (ap (λ (s : Seat). s.lane) r.seat_is));
    }
