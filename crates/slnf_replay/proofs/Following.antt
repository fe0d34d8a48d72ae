-- One entry of a packet in hand: its place, if it is decided there.
use Rattle.std.proofs.Common.{◌≡◌, ℕ, suc, zero, Bool, true, false, cond, Option, Some, None, List, [], ◌∷◌, take, slice_get, refl, sym, ap, ◌∙◌}
use Rattle.std.specs.Prelude.{is_some}
use Rattle.std.specs.Option.{option_map, option_and_then}
use Rattle.std.proofs.lemmas.Option.{same_Some}
use Rattle.slnf_base.specs.declared.packets.Packet.{Packet}
use Rattle.slnf_base.specs.declared.packets.Verdict.{Verdict}
use Rattle.slnf_access.specs.declared.requests.Entry.{Entry}
use Rattle.slnf_access.specs.declared.functions.Start.{Start}
use Rattle.slnf_access.specs.declared.functions.Start.TheVariants.{Go as StartGo}
use Rattle.slnf_access.specs.declared.functions.Step.{Step}
use Rattle.slnf_access.specs.declared.functions.Step.TheVariants.{Go as StepGo, Over as StepOver}
use Rattle.slnf_access.specs.Machines.{Machine, Flies, stand_step, stand_of_step, stand_after, decided_at}
use Rattle.slnf_plan.specs.declared.plan.Epoch.{Epoch}
use Rattle.slnf_plan.specs.declared.plan.Plan.{Plan}
use Rattle.slnf_run.specs.Scene.{Scene, is_of, own_of, stand_of}
use Rattle.slnf_run.specs.Looks.{first_of, first_of_own}
use Rattle.slnf_run.specs.Visits.{Decision, newly, decided_by, decision_of}
use Rattle.slnf_run.proofs.DecidedOnce.{is_of-itself}
use Rattle.slnf_run.proofs.NextAccess.{same_flight}
use Rattle.slnf_flight.specs.declared.flights.AnyFlight.{AnyFlight}
use Rattle.slnf_flight.specs.declared.functions.AnyFunction.{AnyFunction}
use Rattle.slnf_flight.specs.declared.lanes.Lane.{Lane}
use Rattle.slnf_flight.specs.AnyFunction.{any_machine, any_starts}
use Rattle.slnf_flight.specs.Flights.{IsPacketFlight, Arrival}
use Rattle.slnf_flight.specs.Functions.{any_behaviour, IsFunctionOf}
use Rattle.slnf_flight.specs.PlanSetting.{setting_of}
use Rattle.slnf_flight.proofs.Laws.{starts_are_plans, asks_are_plans, goes_are_plans, goes_on_packets}
use Rattle.slnf_setting.proofs.PlanBegins.{machine_is}
use Rattle.slnf_replay.specs.declared.hands.InHand.{InHand}
use Rattle.slnf_replay.specs.Follows.{is_delete, hand_of_start, hand_or, place_of_step}
use Rattle.slnf_replay.specs.Hands.{hand_of_stand, hand_after}
use Rattle.slnf_replay.specs.Packets.{has_first_place}
use Rattle.slnf_replay.specs.Places.{place_of}
use Rattle.slnf_replay.proofs.AtEntries.{IsAtEntry}
use Rattle.slnf_replay.proofs.Scenes.{place_is, looks_first, decided_is, decided_here}

-- an item's first entry is the one that no other of its own stands before
pub first_here : (i k : ℕ) (es : List Entry) (n : ℕ) (e : Entry) → slice_get es n ≡ Some e → is_of i k e ≡ true →
    own_of i k (take n es) ≡ [] → first_of i k es ≡ n
first_here i k [] n e at own none = absurd (cc)
first_here i k (x ∷ es) zero e at own none =
    let same : x ≡ e = same_Some x e at in
    let mine : is_of i k x ≡ true = ap (is_of i k) same ∙ own in
    ap (λ b. cond b zero (suc (first_of i k es))) mine
first_here i k (x ∷ es) (suc n) e at own none = go (is_of i k x) refl none (first_here i k es n e at own)
  where
    go : (b : Bool) → is_of i k x ≡ b → cond b (x ∷ own_of i k (take n es)) (own_of i k (take n es)) ≡ [] →
        (own_of i k (take n es) ≡ [] → first_of i k es ≡ n) → first_of i k (x ∷ es) ≡ suc n
    go true w h later = absurd (cc)
    go false w h later = ap (λ b. cond b zero (suc (first_of i k es))) w ∙ ap suc (later h)

-- The packet in hand is the entry's: it has its first entry at `first`, and flies as it stands.
pub record IsInHand (plan : Plan) (lanes : List Lane) (j : List Entry) (n : ℕ) (e : Entry) (hand : InHand)
    : Type 0 where
  pub first : hand.first ≡ first_of e.incarnation e.item j
  pub stands : stand_of (setting_of plan lanes).scene e.incarnation e.item (take n j) ≡ Flies hand.flight

module _ (plan : Plan) (lanes : List Lane) (j : List Entry) (n : ℕ) (e : Entry) (there : slice_get j n ≡ Some e)
    (at : IsAtEntry (setting_of plan lanes).scene j n e) (packet : Packet) (epoch : Option Epoch)
    (function : AnyFunction) (of : IsFunctionOf plan.function epoch function)
    (starts : any_starts plan.function epoch e.incarnation e.item packet ≡ StartGo at.first) where
  abbrev scene : Scene AnyFlight Arrival
  scene = (setting_of plan lanes).scene

  abbrev machine : Machine AnyFlight
  machine = any_machine plan.function

  abbrev own : List Entry
  own = own_of e.incarnation e.item (take n j)

  abbrev start : Start AnyFlight
  start = (any_behaviour function).begins e.incarnation e.item packet

  start_is : start ≡ StartGo at.first
  start_is = starts_are_plans plan.function epoch function of e.incarnation e.item packet ∙ starts

  -- what was in hand, or what begins here, is the entry's packet
  pub in_hand : (held : Option InHand) (hand : InHand) → held ≡ hand_after scene j n e.incarnation e.item →
      hand_or held (hand_of_start n start) ≡ Some hand → IsInHand plan lanes j n e hand
  in_hand held hand is h =
      by own refl (ap (λ (o : Option InHand). hand_or o (hand_of_start n start))
      (sym (is ∙ ap (hand_of_stand (first_of e.incarnation e.item j) own) at.stands)) ∙ h)
    where
      by : (es : List Entry) → own ≡ es → hand_or
          (hand_of_stand (first_of e.incarnation e.item j) es (Flies at.flight)) (hand_of_start n start) ≡ Some hand →
          IsInHand plan lanes j n e hand
      by [] w k =
          let same : _ ≡ hand = same_Some _ hand (ap (hand_of_start n) (sym start_is) ∙ k) in
          record {
            first = ap (λ (x : InHand). x.first) (sym same)
                ∙ sym (first_here e.incarnation e.item j n e there (is_of-itself e) w);
            stands =
                ap (λ es. stand_after (scene.machine e.incarnation) (scene.begins e.incarnation e.item) es) w ∙ at.begins
                ∙ ap (λ (x : InHand). Flies x.flight) same;
          }
      by (x ∷ es) w k =
          let same : _ ≡ hand = same_Some _ hand k in
          record {
            first = ap (λ (x : InHand). x.first) (sym same);
            stands = at.stands ∙ ap (λ (x : InHand). Flies x.flight) same;
          }

  -- there is one
  pub has_hand : (held : Option InHand) → hand_or held (hand_of_start n start) ≡ None → ⊥
  has_hand (Some hand) h = cc
  has_hand None h =
      let no : ◌≡◌ {A = Option InHand} (hand_of_start n (StartGo at.first)) None = ap (hand_of_start n) (sym start_is)
      ∙ h in
      cc

  module _ (hand : InHand) (right : IsInHand plan lanes j n e hand) (is_packet : IsPacketFlight hand.flight) where
    abbrev step : Step AnyFlight
    step = (any_behaviour function).goes hand.flight e.reply

    pub flight_same : at.flight ≡ hand.flight
    flight_same = same_flight at.flight hand.flight (sym at.stands ∙ right.stands)

    pub asked : e.request ≡ machine.asks hand.flight
    asked =
        at.asked ∙ ap (λ (m : Machine AnyFlight). m.asks at.flight) (machine_is plan lanes e.incarnation)
        ∙ ap machine.asks flight_same

    -- the access is one that the function asks for
    pub asked_own : e.request ≡ (any_behaviour function).asks hand.flight
    asked_own = asked ∙ sym (asks_are_plans plan.function epoch function of hand.flight)

    abbrev now : Option Verdict
    now = decided_at machine (stand_of_step step)

    -- where it stands after the entry
    pub goes : stand_step (scene.machine e.incarnation) (stand_of scene e.incarnation e.item (take n j)) e
        ≡ stand_of_step step
    goes =
        ap (λ st. stand_step (scene.machine e.incarnation) st e) right.stands
        ∙ ap (λ (m : Machine AnyFlight). m.goes hand.flight e.reply) (machine_is plan lanes e.incarnation)
        ∙ sym (goes_are_plans plan.function epoch function of hand.flight e.reply is_packet)

    decided_is_newly : decided_by scene (take n j) e ≡ newly (machine.decided hand.flight) now
    decided_is_newly =
        ap (λ st. newly (decided_at (scene.machine e.incarnation) st)
        (decided_at (scene.machine e.incarnation) (stand_step (scene.machine e.incarnation)
        (stand_of scene e.incarnation e.item (take n j)) e))) right.stands
        ∙ ap (λ st. newly (decided_at (scene.machine e.incarnation) (Flies hand.flight))
        (decided_at (scene.machine e.incarnation) st)) goes
        ∙ ap (λ m. newly (decided_at m (Flies hand.flight)) (decided_at m (stand_of_step step)))
        (machine_is plan lanes e.incarnation)

    abbrev placed : Option Verdict → Option ℕ
    placed o = option_map (λ (x : Decision AnyFlight). scene.place j n x.first x.verdict) (decision_of (Flies at.first) o)

    place_so : place_of scene j n ≡ placed (newly (machine.decided hand.flight) now)
    place_so =
        ap (λ o. option_map (λ (x : Decision AnyFlight). scene.place j n x.first x.verdict)
        (option_and_then (λ e. decision_of (scene.begins e.incarnation e.item) (decided_by scene (take n j) e)) o)) there
        ∙ ap (λ st. option_map (λ (x : Decision AnyFlight). scene.place j n x.first x.verdict)
        (decision_of st (decided_by scene (take n j) e))) at.begins
        ∙ ap placed decided_is_newly

    -- the place of a packet that is decided so here
    place_here : (v : Verdict) → scene.place j n at.first v
        ≡ cond (has_first_place plan.function packet v) hand.first n
    place_here v =
        place_is plan.function plan.epochs lanes j n at.first v
        ∙ ap (λ b. cond b (first_of_own j n (slice_get j n)) n)
        (looks_first plan.function epoch e.incarnation e.item packet at.first v starts)
        ∙ ap (λ o. cond (has_first_place plan.function packet v) (first_of_own j n o) n) there
        ∙ ap (λ m. cond (has_first_place plan.function packet v) m n) (sym right.first)

    -- what the code tells is the place
    pub place_told : place_of_step plan.function packet (any_behaviour function).asks hand.first n
        (is_delete e.request) step ≡ place_of scene j n
    place_told =
        ap (λ r. place_of_step plan.function packet (any_behaviour function).asks hand.first n (is_delete r) step) asked
        ∙ ap (λ b. place_of_step plan.function packet (any_behaviour function).asks hand.first n b step)
        (sym (decided_is plan.function hand.flight is_packet))
        ∙ before (machine.decided hand.flight) refl
        ∙ sym place_so
      where
        later : (next : AnyFlight) → step ≡ StepGo next → (o : Option Verdict) → machine.decided next ≡ o →
            cond (is_some o) (Some n) None ≡ placed o
        later next w None v = refl
        later next w (Some verdict) v =
            ap Some (sym (place_here verdict
            ∙ ap (λ b. cond b hand.first n) (decided_here plan.function next packet verdict v)))

        gone : (st : Step AnyFlight) → step ≡ st →
            place_of_step plan.function packet (any_behaviour function).asks hand.first n false st
            ≡ placed (decided_at machine (stand_of_step st))
        gone (StepGo next) w =
            ap (λ r. cond (is_delete r) (Some n) None) (asks_are_plans plan.function epoch function of next)
            ∙ ap (λ b. cond b (Some n) None)
            (sym (decided_is plan.function next (goes_on_packets function hand.flight next e.reply w)))
            ∙ later next w (machine.decided next) refl
        gone (StepOver verdict) w = ap Some (sym (place_here verdict))

        before : (o : Option Verdict) → machine.decided hand.flight ≡ o →
            place_of_step plan.function packet (any_behaviour function).asks hand.first n (is_some o) step
            ≡ placed (newly (machine.decided hand.flight) now)
        before None w = gone step refl ∙ ap (λ o. placed (newly o now)) (sym w)
        before (Some v) w = ap (λ o. placed (newly o now)) (sym w)
