-- One entry of a run, as the code follows it.
use Rattle.std.proofs.Common.{◌≡◌, ℕ, suc, ◌+◌, ◌<◌, ◌^◌, Option, Some, None, List, length, slice_get, refl, sym, ap, ◌∙◌, subst}
use Rattle.std.specs.Prelude.{IsSome, OnOk, Result, Ok, Err}
use Rattle.std.specs.Option.{option_map}
use Rattle.std.proofs.lemmas.Option.{slice_get_within}
use Rattle.slnf_access.specs.declared.requests.Entry.{Entry}
use Rattle.slnf_access.specs.declared.functions.Start.TheVariants.{Go as StartGo}
use Rattle.slnf_access.specs.Map.{CanReply}
use Rattle.slnf_plan.specs.declared.plan.Plan.{Plan}
use Rattle.slnf_run.specs.Run.{IsRun}
use Rattle.slnf_run.specs.Scene.{Scene}
use Rattle.slnf_run.specs.Visits.{Decision, decision_at}
use Rattle.slnf_flight.specs.declared.flights.AnyFlight.{AnyFlight}
use Rattle.slnf_flight.specs.declared.functions.AnyFunction.{AnyFunction}
use Rattle.slnf_flight.specs.declared.lanes.Lane.{Lane}
use Rattle.slnf_flight.specs.AnyFunction.{any_starts}
use Rattle.slnf_flight.specs.Flights.{IsPacketFlight, Arrival}
use Rattle.slnf_flight.specs.Functions.{any_behaviour, IsFunctionOf}
use Rattle.slnf_flight.specs.Lanes.{AreFew}
use Rattle.slnf_flight.specs.PlanSetting.{setting_of}
use Rattle.slnf_replay.specs.declared.hands.ItemKey.{ItemKey}
use Rattle.slnf_replay.specs.declared.hands.InHand.{InHand}
use Rattle.slnf_replay.specs.declared.packets.Sighting.{Sighting}
use Rattle.slnf_replay.specs.declared.seats.Seat.{Seat}
use Rattle.slnf_replay.specs.Follows.{is_delete, hand_of_start, hand_or, hand_of_step, place_of_step, AreInHand}
use Rattle.slnf_replay.specs.Functions.{AreFunctionsOf}
use Rattle.slnf_replay.specs.Hands.{hand_in, with_hand}
use Rattle.slnf_replay.specs.Packets.{sighting_of}
use Rattle.slnf_replay.specs.Places.{place_of}
use Rattle.slnf_replay.specs.Seats.{seats_from, seat_in}
use Rattle.slnf_replay.proofs.AtEntries.{IsAtEntry, at_entry}
use Rattle.slnf_replay.proofs.Following.{IsInHand, in_hand, has_hand, asked_own, goes, place_told}
use Rattle.slnf_replay.proofs.HandsAfter.{hands_after, hands_stay}
use Rattle.slnf_replay.proofs.Seating.{BeginsSeated, seated_begins, seated_fits}
use Rattle.slnf_replay.proofs.Sightings.{IsSighting, is_sighting, item_fits, starts, seated_seen, decided_seated}

module _ (plan : Plan) (lanes : List Lane) (j : List Entry) (run : IsRun (setting_of plan lanes) j) (n : ℕ) (e : Entry)
    (there : slice_get j n ≡ Some e) (seats : List (Option Seat)) (seats_is : seats ≡ seats_from 0 plan.epochs) where
  abbrev scene : Scene AnyFlight Arrival
  scene = (setting_of plan lanes).scene

  abbrev at : IsAtEntry scene j n e
  at = at_entry (setting_of plan lanes) j run n e there

  -- an entry whose packet isn't seen is of no instance
  no_seat : sighting_of lanes seats e ≡ None → (o : Option Seat) → seat_in seats e.incarnation ≡ o →
      seat_in seats e.incarnation ≡ None
  no_seat none None w = w
  no_seat none (Some seat) w =
      let seen : (x : Sighting) × (sighting_of lanes (seats_from 0 plan.epochs) e ≡ Some x) =
      seated_seen plan lanes j n e at seat (ap (λ l. seat_in l e.incarnation) (sym seats_is) ∙ w) in
      let no : ◌≡◌ {A = Option Sighting} None (Some seen.0) = sym none ∙ ap (λ l. sighting_of lanes l e) seats_is
      ∙ seen.1 in
      absurd (cc)

  -- it decides nothing
  pub unseen_place : sighting_of lanes seats e ≡ None → None ≡ place_of scene j n
  unseen_place none = go (decision_at scene j n) refl
    where
      go : (o : Option (Decision AnyFlight)) → decision_at scene j n ≡ o → None ≡ place_of scene j n
      go None w = sym (ap (option_map (λ (x : Decision AnyFlight). scene.place j n x.first x.verdict)) w)
      go (Some x) w =
          let seat : (seat : Seat) × (seat_in (seats_from 0 plan.epochs) e.incarnation ≡ Some seat) =
          decided_seated plan lanes j run n e x there w in
          let no : ◌≡◌ {A = Option Seat} None (Some seat.0) =
          sym (no_seat none (seat_in seats e.incarnation) refl) ∙ ap (λ l. seat_in l e.incarnation) seats_is
          ∙ seat.1 in
          absurd (cc)

  -- and leaves all packets in hand as they are
  pub unseen_hands : (hands : List (ItemKey × InHand)) → sighting_of lanes seats e ≡ None →
      AreInHand scene seats j n hands → AreInHand scene seats j (n + 1) hands
  unseen_hands hands none have =
      hands_stay scene j n e there seats hands (no_seat none (seat_in seats e.incarnation) refl) have

  module _ (x : Sighting) (seen : sighting_of lanes seats e ≡ Some x) where
    abbrev sight : IsSighting lanes (seats_from 0 plan.epochs) e x
    sight = is_sighting lanes (seats_from 0 plan.epochs) e x (ap (λ l. sighting_of lanes l e) (sym seats_is) ∙ seen)

    pub incarnation_small : e.incarnation < 2 ^ 32
    incarnation_small = seated_fits plan e.incarnation sight.seat sight.seated

    pub item_small : AreFew lanes → e.item < 2 ^ 32
    item_small few = item_fits lanes e.item sight.seat.lane _ few sight.captured

    pub epoch_within : (functions : List AnyFunction) → AreFunctionsOf plan.function plan.epochs functions →
        x.epoch < length functions
    epoch_within functions are =
        let r : BeginsSeated plan lanes e.incarnation sight.seat =
        seated_begins plan lanes e.incarnation sight.seat sight.seated in
        let within : sight.seat.epoch < length plan.epochs = slice_get_within plan.epochs sight.seat.epoch r.epoch r.in_epoch in
        subst (λ m. x.epoch < m) (sym are.count) (subst (λ m. m < length plan.epochs) (sym sight.epoch) within)

    module _ (functions : List AnyFunction) (are : AreFunctionsOf plan.function plan.epochs functions)
        (function : AnyFunction) (own : slice_get functions x.epoch ≡ Some function)
        (old taken : List (ItemKey × InHand)) (have : AreInHand scene seats j n old)
        (gone : hand_in taken ≡ with_hand (hand_in old) e.incarnation e.item None) where
      abbrev of : IsFunctionOf plan.function (slice_get plan.epochs x.epoch) function
      of = are.each x.epoch function own

      abbrev begins : any_starts plan.function (slice_get plan.epochs x.epoch) e.incarnation e.item x.packet
          ≡ StartGo at.first
      begins = starts plan lanes j n e at x sight

      seated : IsSome (seat_in seats e.incarnation)
      seated = subst IsSome (sym (ap (λ l. seat_in l e.incarnation) seats_is ∙ sight.seated)) refl

      pub hand_there : hand_or (hand_in old e.incarnation e.item) (hand_of_start n
          ((any_behaviour function).begins e.incarnation e.item x.packet)) ≡ None → ⊥
      hand_there h =
          has_hand plan lanes j n e there at x.packet (slice_get plan.epochs x.epoch) function of begins
          (hand_in old e.incarnation e.item) h

      module _ (hand : InHand) (is : hand_or (hand_in old e.incarnation e.item) (hand_of_start n
          ((any_behaviour function).begins e.incarnation e.item x.packet)) ≡ Some hand)
          (flies : IsPacketFlight hand.flight) where
        abbrev right : IsInHand plan lanes j n e hand
        right =
            in_hand plan lanes j n e there at x.packet (slice_get plan.epochs x.epoch) function of begins
            (hand_in old e.incarnation e.item) hand (have e.incarnation e.item seated) is

        pub can : CanReply ((any_behaviour function).asks hand.flight) e.reply
        can =
            subst (λ r. CanReply r e.reply)
            (asked_own plan lanes j n e there at x.packet (slice_get plan.epochs x.epoch) function of begins hand right
            flies)
            at.can

        pub place_is_told : place_of_step plan.function x.packet (any_behaviour function).asks hand.first n
            (is_delete e.request) ((any_behaviour function).goes hand.flight e.reply) ≡ place_of scene j n
        place_is_told =
            place_told plan lanes j n e there at x.packet (slice_get plan.epochs x.epoch) function of begins hand right
            flies

        pub hands_next : (new : List (ItemKey × InHand)) → hand_in new ≡ with_hand (hand_in taken) e.incarnation e.item
            (hand_of_step hand.first ((any_behaviour function).goes hand.flight e.reply)) →
            AreInHand scene seats j (n + 1) new
        hands_next new put =
            hands_after scene j n e there seats old taken new hand.first
            ((any_behaviour function).goes hand.flight e.reply) right.first
            (goes plan lanes j n e there at x.packet (slice_get plan.epochs x.epoch) function of begins hand right flies)
            have gone put

-- the packet in hand, by what the calls answer
pub held_or : (held there start answer whole : Option InHand) → held ≡ there → answer ≡ hand_or held start →
    answer ≡ whole → hand_or there start ≡ whole
held_or held there start answer whole same is end = ap (λ o. hand_or o start) (sym same) ∙ sym is ∙ end

-- what follows where all went well
pub on_ok : {T E : Type 0} {P Q : Type 0} (result : Result T E) → (P → Q) → OnOk result P → OnOk result Q
on_ok (Ok value) next h = next h
on_ok (Err error) next h = h

-- an item that was taken out isn't there
pub none_taken : (old taken : List (ItemKey × InHand)) (incarnation item : ℕ) → hand_in taken
    ≡ with_hand (hand_in old) incarnation item None → hand_in taken incarnation item ≡ None
none_taken old taken incarnation item gone =
    ap (λ t. t incarnation item) gone
    ∙ ap (λ b. Rattle.std.proofs.Common.cond b None (hand_in old incarnation item))
    (Rattle.std.proofs.lemmas.Bool.and_from _ _ (Rattle.std.proofs.Common.eq-eqb incarnation incarnation refl)
    (Rattle.std.proofs.Common.eq-eqb item item refl))
