-- One ordinary balancer explains each run of a balancer's plan, with all that is written.
use Rattle.std.proofs.Common.{◌≡◌, ◌⊎◌, inl, inr, ℕ, zero, suc, ◌+◌, ◌%◌, Bool, true, false, cond, Option, Some, None, List, [], ◌∷◌, length, slice_get, refl, ◌∙◌, subst, arith}
use Rattle.std.specs.Prelude.{slice_index_or}
use Rattle.std.specs.List.{list_all, cons_option}
use Rattle.slnf_base.specs.declared.addresses.Pair.{Pair}
use Rattle.slnf_base.specs.declared.packets.Packet.{Packet}
use Rattle.slnf_base.specs.declared.packets.Reason.TheVariants.{Neither, NotPinned}
use Rattle.slnf_base.specs.declared.plans.Service.{Service}
use Rattle.slnf_base.specs.Equal.{is_same_pair}
use Rattle.slnf_access.specs.declared.requests.Entry.{Entry}
use Rattle.slnf_access.specs.declared.requests.Reply.{Reply}
use Rattle.slnf_access.specs.declared.requests.Reply.TheVariants.{Done, Found, Absent}
use Rattle.slnf_access.specs.declared.functions.Start.{Start}
use Rattle.slnf_access.specs.declared.functions.Start.TheVariants.{Go as StartGo, Over as StartOver}
use Rattle.slnf_access.specs.declared.functions.Step.{Step}
use Rattle.slnf_access.specs.declared.functions.Step.TheVariants.{Over as StepOver}
use Rattle.slnf_access.specs.Machines.{Flies, stand_of_step}
use Rattle.slnf_base.specs.declared.packets.Change.TheVariants.{Source}
use Rattle.slnf_base.specs.declared.packets.Verdict.TheVariants.{Emit, Dropped}
use Rattle.slnf_base.specs.Ranges.{IsPair}
use Rattle.slnf_keys.specs.Values.{pin_of}
use Rattle.slnf_keys.specs.declared.values.Pin.{Pin}
use Rattle.slnf_plan.specs.declared.plan.Epoch.{Epoch}
use Rattle.slnf_plan.specs.Ranges.{has_lanes_apart}
use Rattle.slnf_run.specs.Run.{IsRun}
use Rattle.slnf_run.specs.Setting.{Setting, era_of}
use Rattle.slnf_run.specs.OneBox.{EndsWell, IsSound, IsOneBoxWhole}
use Rattle.slnf_box.specs.LbBox.{LbArrival, lb_box}
use Rattle.slnf_box.specs.Services.{is_forward, is_return}
use Rattle.slnf_lb.specs.declared.flights.LbState.{LbState}
use Rattle.slnf_lb.specs.declared.flights.LbState.TheVariants.{Forward, Put, Return}
use Rattle.slnf_lb.specs.Flight.{Flying}
use Rattle.slnf_lb.specs.Machine.{choice_of, forwarded, returned, goes_in, lb_machine}
use Rattle.slnf_lb.specs.StoredPins.{IsSameMap}
use Rattle.slnf_lb.specs.Kept.{IsFlight}
use Rattle.slnf_lb.proofs.OneBox.{lb_explained}
use Rattle.slnf_flight.specs.declared.lanes.Lane.{Lane}
use Rattle.slnf_flight.specs.Actors.{eras_of}
use Rattle.slnf_flight.specs.Begins.{begins_of, no_sweeps}
use Rattle.slnf_run.specs.FunctionLaws.{IsFunction}
use Rattle.slnf_setting.proofs.Fitting.{lanes_fit, PairsFit}
use Rattle.slnf_flight.specs.LbPlan.{backends_at, active_in}
use Rattle.slnf_flight.specs.LbPlan.{lb_starts}
use Rattle.slnf_flight.specs.PlanSetting.{lb_own, lb_case, setting_with}
use Rattle.slnf_setting.specs.OneBoxOfPlan.{any_lb_box}
use Rattle.slnf_setting.proofs.Begun.{IsStarted, begun}
use Rattle.slnf_setting.proofs.StandsKeep.{stands_keep, nothing_swept}
use Rattle.slnf_setting.proofs.LanesApart.{lanes_once}
use Rattle.slnf_setting.proofs.Sounding.{function_sound}
use Rattle.slnf_run.proofs.WholeCases.{case_paths, case_places, case_whole}
use Rattle.slnf_run.specs.Cases.{case_setting}

forwarded_well : (pin : Option Pin) → EndsWell (stand_of_step (forwarded pin))
forwarded_well None = tt
forwarded_well (Some pin) = tt

returned_well : (service : Service) (packet : Packet) (pin : Option Pin)
    → EndsWell (stand_of_step (returned service packet pin))
returned_well service packet None = tt
returned_well service packet (Some pin) = go (is_same_pair pin.backend packet.source)
  where
    go : (b : Bool)
        → EndsWell (stand_of_step (let s : Step Flying = cond b (StepOver (Emit (Source service.front)))
        (StepOver (Dropped NotPinned)) in s))
    go true = tt
    go false = tt

goes_well : (service : Service) (state : LbState) (packet : Packet) (choice : Pair) (reply : Reply)
    → EndsWell (stand_of_step (goes_in service state packet choice reply))
goes_well service Forward packet choice (Done version) = tt
goes_well service Forward packet choice (Found value version) = forwarded_well (pin_of value.0)
goes_well service Forward packet choice Absent = tt
goes_well service Put packet choice (Done version) = tt
goes_well service Put packet choice (Found value version) = forwarded_well (pin_of value.0)
goes_well service Put packet choice Absent = tt
goes_well service Return packet choice (Done version) = tt
goes_well service Return packet choice (Found value version) = returned_well service packet (pin_of value.0)
goes_well service Return packet choice Absent = tt

pub lb_function : (service : Service) (epochs : List Epoch) → IsFunction (lb_machine service)
    (lb_starts service epochs) no_sweeps
lb_function service epochs = record {
  steady = λ flight reply verdict h. absurd (cc);
  undecided = λ i k packet first h. refl;
  ends_well = λ i k packet first own h.
      stands_keep (lb_machine service) EndsWell
      (λ flight reply w. goes_well service flight.state flight.packet flight.choice reply) (Flies first) own tt;
  swept = nothing_swept (lb_machine service);
}

-- an active backend is one of the service's
active_fits : (service : Service) → PairsFit service.backends → (places : List ℕ) (n : ℕ) (backend : Pair)
    → slice_get (backends_at service places) n ≡ Some backend → IsPair backend
active_fits service fits [] n backend at = absurd (cc)
active_fits service fits (place ∷ places) n backend at = go (slice_get service.backends place) refl n at
    (λ m x. active_fits service fits places m x)
  where
    go : (o : Option Pair) → slice_get service.backends place ≡ o → (n : ℕ)
        → slice_get (cons_option o (backends_at service places)) n ≡ Some backend
        → ((m : ℕ) (x : Pair) → slice_get (backends_at service places) m ≡ Some x → IsPair x) → IsPair backend
    go None w n at rest = rest n backend at
    go (Some b) w zero at rest = fits place backend (w ∙ at)
    go (Some b) w (suc n) at rest = rest n backend at

epoch_fits : (service : Service) → PairsFit service.backends → (epoch : Option Epoch) (n : ℕ) (backend : Pair)
    → slice_get (active_in service epoch) n ≡ Some backend → IsPair backend
epoch_fits service fits None n backend at = absurd (cc)
epoch_fits service fits (Some epoch) n backend at = active_fits service fits epoch.active n backend at

index_fits : (pairs : List Pair) → ((n : ℕ) (pair : Pair) → slice_get pairs n ≡ Some pair → IsPair pair) → (n : ℕ)
    (default : Pair) → IsPair default → IsPair (slice_index_or pairs n default)
index_fits [] fits n default fine = fine
index_fits (pair ∷ pairs) fits zero default fine = fits zero pair refl
index_fits (pair ∷ pairs) fits (suc n) default fine = index_fits pairs (λ m x at. fits (suc m) x at) n default fine

-- the choice is in range
choice_fits : (active : List Pair) → ((n : ℕ) (pair : Pair) → slice_get active n ≡ Some pair → IsPair pair)
    → (i k : ℕ) → IsPair (choice_of active i k)
choice_fits active fits i k = index_fits active fits ((i + k) % length active) (record { addr = 0; port = 0 })
    (record { addr_fits = omega arith; port_fits = omega arith })

-- a packet that starts has its direction
starts_flight : (service : Service) (packet : Packet) (choice : Pair) (first : Flying) (f r : Bool)
    → is_forward service packet ≡ f → is_return service packet ≡ r → IsPair packet.source → IsPair packet.dest
    → IsPair choice
    → (let s : Start Flying = cond f (StartGo (record { state = Forward; packet = packet; choice = choice }))
    (cond r (StartGo (record { state = Return; packet = packet; choice = choice })) (StartOver Neither)) in s)
    ≡ StartGo first
    → IsFlight service first
starts_flight service packet choice first true r forward return source dest chosen h =
    let is : record { state = Forward; packet = packet; choice = choice } ≡ first = cc in
    subst (IsFlight service) is (record { direction = forward; source = source; dest = dest; choice = chosen })
starts_flight service packet choice first false true forward return source dest chosen h =
    let is : record { state = Return; packet = packet; choice = choice } ≡ first = cc in
    subst (IsFlight service) is (record {
      direction =
          (forward, return);
      source = source;
      dest = dest;
      choice = chosen;
    })
starts_flight service packet choice first false false forward return source dest chosen h = absurd (cc)

module _ (service : Service) (shards batch : ℕ) (epochs : List Epoch) (lanes : List Lane) where
  abbrev own : Setting Flying LbArrival
  own = setting_with shards batch epochs lanes 0 (lb_own service epochs lanes)

  pub lb_sound : list_all has_lanes_apart epochs ≡ true → IsSound own
  lb_sound apart = function_sound (lb_machine service) (lb_starts service epochs) no_sweeps
      (lb_function service epochs) shards batch 0 (eras_of epochs) lanes _ _ _ (lanes_once epochs apart)

  pub lb_flights : PairsFit service.backends → (i k : ℕ) (first : Flying)
      → begins_of (eras_of epochs) lanes (lb_starts service epochs) no_sweeps i k ≡ Flies first
      → IsFlight service first
  lb_flights fits i k first h =
      go (begun (eras_of epochs) lanes (lb_starts service epochs) no_sweeps i k first h).how
    where
      active : List Pair
      active = active_in service (slice_get epochs (era_of (eras_of epochs) i))

      go : IsStarted lanes (lb_starts service epochs) i k first ⊎ (no_sweeps i k ≡ Flies first)
          → IsFlight service first
      go (inl started) =
          let packet : Packet = started.packet in
          let pairs : IsPair packet.source × IsPair packet.dest =
          lanes_fit lanes started.lane k packet started.captured in
          starts_flight service packet (choice_of active i k) first (is_forward service packet)
          (is_return service packet) refl refl pairs.0 pairs.1
          (choice_fits active (epoch_fits service fits (slice_get epochs (era_of (eras_of epochs) i))) i k)
          started.start
      go (inr swept) = absurd (cc)

  pub lb_whole : (es : List Entry) → list_all has_lanes_apart epochs ≡ true → PairsFit service.backends
      → IsRun (case_setting lb_case own) es
      → IsOneBoxWhole (case_setting lb_case own) (any_lb_box service) IsSameMap es
  lb_whole es apart fits run =
      case_whole lb_case own es (lb_box service) IsSameMap (lb_sound apart)
      (case_places lb_case own es (λ es number first verdict. refl)) run
      (lb_explained service (begins_of (eras_of epochs) lanes (lb_starts service epochs) no_sweeps) es
      (lb_flights fits) run.legal (case_paths lb_case own es run))
