-- Offers have rising items, so an item tells its batch.
use Rattle.std.proofs.Common.{◌≡◌, ℕ, suc, zero, ◌+◌, ◌-◌, ◌≤◌, not, ◌&&◌, ◌==◌, nat_lt, List, [], ◌∷◌, Option, Some, None, slice_index, refl, ◌∙◌, inl, inr, le_refl, le_trans, eq-eqb, ne_eqb, arith}
use Rattle.std.specs.List.{range_with_len}
use Rattle.std.proofs.lemmas.Bool.{cond_both, cond-true, cond-false}
use Rattle.slnf_run.specs.Setting.{Actor, Setting}
use Rattle.slnf_run.specs.Parts.{Offer, is_among, with_key, batched, within_quota, first_key_of, offers_of, batch_of}
use Rattle.slnf_run.specs.Run.{IsOffered}
use Rattle.slnf_run.proofs.Lists.{Every, every-weaker}

-- the items rise from this number on
abbrev pub RisingFrom : ℕ → List Offer → Type 0
RisingFrom from [] = Unit {0}
RisingFrom from (offer ∷ offers) = (from ≤ offer.item) × RisingFrom (offer.item + 1) offers

rising_lower : (low from : ℕ) (offers : List Offer) → low ≤ from → RisingFrom from offers → RisingFrom low offers
rising_lower low from [] h k = tt
rising_lower low from (offer ∷ offers) h k = (le_trans h k.0, k.1)

-- batches of a range keep its order
batched-rising : (limit : ℕ) (first : ℕ → Option ℕ) (number size : ℕ) (keys : List ℕ) (a n : ℕ) →
    RisingFrom a (batched limit first number size keys (range_with_len a n))
batched-rising limit first number size keys a zero = tt
batched-rising limit first number size keys a (suc n) =
    cond_both (nat_lt size limit && not (is_among (first a) keys)) _ _ (RisingFrom a)
    (λ _. (le_refl a, batched-rising limit first number (size + 1) (with_key (first a) keys) (a + 1) n))
    (λ _. (le_refl a, batched-rising limit first (number + 1) 1 (with_key (first a) []) (a + 1) n))

-- what an actor is offered rises
pub offers_of-rising : {F A : Type 0} (s : Setting F A) (incarnation at : ℕ) (actor : Actor) →
    RisingFrom 0 (offers_of s incarnation at actor)
offers_of-rising s incarnation at actor =
    elim (actor.lane) as (λ lane. RisingFrom 0 (offers_of s incarnation at
    (record { lane = lane; quota = actor.quota; stop = actor.stop }))) [
      | None ↦ batched-rising 1 (λ item. first_key_of (s.scene.machine incarnation) (s.scene.begins incarnation item))
          0 0 [] 0 s.sweep_items
      | Some lane ↦
          rising_lower 0 at _ (omega arith) (batched-rising s.batch
          (λ item. first_key_of (s.scene.machine incarnation) (s.scene.begins incarnation item)) 0 0 [] at
          (within_quota actor.quota (slice_index s.lanes lane - at)))
    ]

-- The offer is one of these, and its item tells its batch among them.
pub record IsKnown (from : ℕ) (offers : List Offer) (offer : Offer) : Type 0 where
  pub not_before : from ≤ offer.item
  pub offered : IsOffered offer.item offers
  pub batch : batch_of offer.item offers ≡ offer.batch

-- each of rising offers is known
pub rising_known : (from : ℕ) (offers : List Offer) → RisingFrom from offers → Every (IsKnown from offers) offers
rising_known from [] h = tt
rising_known from (offer ∷ offers) h = (
  record {
    not_before = h.0;
    offered = inl refl;
    batch = cond-true (offer.item == offer.item) offer.batch (batch_of offer.item offers)
        (eq-eqb offer.item offer.item refl);
  },
  every-weaker (IsKnown (offer.item + 1) offers) (IsKnown from (offer ∷ offers))
      (λ later k. record {
        not_before = let a : from ≤ offer.item = h.0 in let b : offer.item + 1 ≤ later.item = k.not_before in
            omega arith;
        offered = inr k.offered;
        batch = cond-false (offer.item == later.item) offer.batch (batch_of later.item offers)
            (ne_eqb offer.item later.item (λ e. let b : offer.item + 1 ≤ later.item = k.not_before in omega arith))
            ∙ k.batch;
      })
      offers (rising_known (offer.item + 1) offers h.1),
)
