-- Which packets are in hand after one more entry.
use Rattle.std.proofs.Common.{◌≡◌, ℕ, suc, ◌+◌, Bool, true, false, ◌&&◌, ◌==◌, cond, Option, Some, None, List, [], ◌∷◌, ◌++◌, take, slice_get, refl, sym, ap, ◌∙◌, subst, arith, append-nil, eqb-true}
use Rattle.std.specs.Prelude.{IsSome}
use Rattle.std.proofs.lemmas.Bool.{and_parts}
use Rattle.std.proofs.lemmas.List.Elements.{filter-append}
use Rattle.std.proofs.lemmas.Option.{slice_get_within, same_Some}
use Rattle.slnf_access.specs.declared.requests.Entry.{Entry}
use Rattle.slnf_access.specs.declared.functions.Step.{Step}
use Rattle.slnf_access.specs.declared.functions.Step.TheVariants.{Go as StepGo, Over as StepOver}
use Rattle.slnf_access.specs.Machines.{stand_step, stand_of_step, stand_after}
use Rattle.slnf_run.specs.Scene.{Scene, is_of, own_of, stand_of}
use Rattle.slnf_run.specs.Looks.{first_of}
use Rattle.slnf_run.proofs.DecidedOnce.{is_of-itself, stand_of-own}
use Rattle.slnf_run.proofs.Splits.{IsSplit, split_at}
use Rattle.slnf_flight.specs.declared.flights.AnyFlight.{AnyFlight}
use Rattle.slnf_replay.specs.declared.hands.ItemKey.{ItemKey}
use Rattle.slnf_replay.specs.declared.hands.InHand.{InHand}
use Rattle.slnf_replay.specs.declared.seats.Seat.{Seat}
use Rattle.slnf_replay.specs.Follows.{hand_of_step, AreInHand}
use Rattle.slnf_replay.specs.Hands.{hand_in, with_hand, hand_of_stand, hand_after}
use Rattle.slnf_replay.specs.Seats.{seat_in}

-- a packet that has made an entry is in hand while it flies
stand_hand : (first : ℕ) (own : List Entry) (e : Entry) (step : Step AnyFlight) →
    hand_of_stand first (own ++ e ∷ []) (stand_of_step step) ≡ hand_of_step first step
stand_hand first [] e (StepGo flight) = refl
stand_hand first [] e (StepOver verdict) = refl
stand_hand first (x ∷ own) e (StepGo flight) = refl
stand_hand first (x ∷ own) e (StepOver verdict) = refl

-- before the first entry nothing is in hand
pub empty_hands : {A : Type 0} (s : Scene AnyFlight A) (seats : List (Option Seat)) (j : List Entry) →
    AreInHand s seats j 0 []
empty_hands s seats j i k seated = refl

-- a table that has nothing at an item is itself with nothing there
pub none_there : (table : ℕ → ℕ → Option InHand) (incarnation item : ℕ) → table incarnation item ≡ None →
    table ≡ with_hand table incarnation item None
none_there table incarnation item none = λ z i k. go i k (i == incarnation && k == item) refl z
  where
    go : (i k : ℕ) (b : Bool) → (i == incarnation && k == item) ≡ b → table i k ≡ with_hand table incarnation item None i k
    go i k false w = ap (λ b. cond b None (table i k)) (sym w)
    go i k true w =
        let parts = and_parts (i == incarnation) (k == item) w in
        ap (λ m. table m k) (eqb-true i incarnation parts.0) ∙ ap (table incarnation) (eqb-true k item parts.1) ∙ none
        ∙ ap (λ b. cond b None (table i k)) (sym w)

module _ {A : Type 0} (s : Scene AnyFlight A) (j : List Entry) (n : ℕ) (e : Entry) (there : slice_get j n ≡ Some e) where
  pub front : take (n + 1) j ≡ take n j ++ e ∷ []
  front =
      let r : (f : Entry) × IsSplit j n f = split_at j n (slice_get_within j n e there) in
      let same : r.0 ≡ e = same_Some r.0 e (sym r.1.at ∙ there) in
      let q : n + 1 ≡ suc n = omega arith in
      ap (λ m. take m j) q ∙ r.1.front ∙ ap (λ f. take n j ++ f ∷ []) same

  own_next : (i k : ℕ) → own_of i k (take (n + 1) j) ≡ own_of i k (take n j) ++ cond (is_of i k e) (e ∷ []) []
  own_next i k = ap (own_of i k) front ∙ filter-append (is_of i k) (take n j) (e ∷ [])

  -- of another item nothing changes
  pub hand_other : (i k : ℕ) → is_of i k e ≡ false → hand_after s j (n + 1) i k ≡ hand_after s j n i k
  hand_other i k other =
      let own : own_of i k (take (n + 1) j) ≡ own_of i k (take n j) =
      own_next i k ∙ ap (λ b. own_of i k (take n j) ++ cond b (e ∷ []) []) other
      ∙ append-nil (own_of i k (take n j)) in
      ap (λ es. hand_of_stand (first_of i k j) es (stand_after (s.machine i) (s.begins i k) es)) own

  -- the entry's own packet goes on
  pub hand_own : (first : ℕ) (step : Step AnyFlight) → first ≡ first_of e.incarnation e.item j →
      stand_step (s.machine e.incarnation) (stand_of s e.incarnation e.item (take n j)) e ≡ stand_of_step step →
      hand_of_step first step ≡ hand_after s j (n + 1) e.incarnation e.item
  hand_own first step is goes =
      let i : ℕ = e.incarnation in
      let k : ℕ = e.item in
      let own : own_of i k (take (n + 1) j) ≡ own_of i k (take n j) ++ e ∷ [] =
      own_next i k ∙ ap (λ b. own_of i k (take n j) ++ cond b (e ∷ []) []) (is_of-itself e) in
      let stands : stand_of s i k (take (n + 1) j) ≡ stand_of_step step =
      ap (stand_of s i k) front ∙ stand_of-own s (take n j) e ∙ goes in
      sym (ap (λ es. hand_of_stand (first_of i k j) es (stand_of s i k (take (n + 1) j))) own
      ∙ ap (hand_of_stand (first_of i k j) (own_of i k (take n j) ++ e ∷ [])) stands
      ∙ stand_hand (first_of i k j) (own_of i k (take n j)) e step
      ∙ ap (λ m. hand_of_step m step) (sym is))

  -- the keys of the entry
  is_key : (i k : ℕ) (b : Bool) → (i == e.incarnation && k == e.item) ≡ b → is_of i k e ≡ b
  is_key i k b h = grind arith

  -- the table after the entry of a packet in hand
  pub hands_after : (seats : List (Option Seat)) (old taken new : List (ItemKey × InHand)) (first : ℕ)
      (step : Step AnyFlight) → first ≡ first_of e.incarnation e.item j →
      stand_step (s.machine e.incarnation) (stand_of s e.incarnation e.item (take n j)) e ≡ stand_of_step step →
      AreInHand s seats j n old → hand_in taken ≡ with_hand (hand_in old) e.incarnation e.item None →
      hand_in new ≡ with_hand (hand_in taken) e.incarnation e.item (hand_of_step first step) →
      AreInHand s seats j (n + 1) new
  hands_after seats old taken new first step is goes have gone put i k seated =
      ap (λ t. t i k) put ∙ ap (λ t. with_hand t e.incarnation e.item (hand_of_step first step) i k) gone
      ∙ go (i == e.incarnation && k == e.item) refl
    where
      go : (b : Bool) → (i == e.incarnation && k == e.item) ≡ b →
          cond b (hand_of_step first step) (cond b None (hand_in old i k)) ≡ hand_after s j (n + 1) i k
      go true w =
          let parts = and_parts (i == e.incarnation) (k == e.item) w in
          let a : i ≡ e.incarnation = eqb-true i e.incarnation parts.0 in
          let b : k ≡ e.item = eqb-true k e.item parts.1 in
          hand_own first step is goes ∙ ap (λ m. hand_after s j (n + 1) m e.item) (sym a)
          ∙ ap (hand_after s j (n + 1) i) (sym b)
      go false w = have i k seated ∙ sym (hand_other i k (is_key i k false w))

  -- and after an entry that no instance made
  pub hands_stay : (seats : List (Option Seat)) (hands : List (ItemKey × InHand)) →
      seat_in seats e.incarnation ≡ None → AreInHand s seats j n hands → AreInHand s seats j (n + 1) hands
  hands_stay seats hands none have i k seated =
      have i k seated ∙ sym (hand_other i k (go (is_of i k e) refl))
    where
      go : (b : Bool) → is_of i k e ≡ b → is_of i k e ≡ false
      go false w = w
      go true w =
          let parts = and_parts (e.incarnation == i) (e.item == k) w in
          let a : e.incarnation ≡ i = eqb-true e.incarnation i parts.0 in
          let no : IsSome (seat_in seats e.incarnation) = subst (λ m. IsSome (seat_in seats m)) (sym a) seated in
          absurd (let z : IsSome {T = Seat} None = subst IsSome none no in cc)
