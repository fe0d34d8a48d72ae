-- How an actor's hand changes with its own expected entry.
use Rattle.std.proofs.Common.{◌≡◌, inl, inr, ℕ, ◌+◌, ◌<◌, Bool, true, false, ◌==◌, if◌then◌else◌, List, [], ◌∷◌, ◌++◌, Option, Some, length, slice_get, refl, sym, ap, ap₂, ◌∙◌, subst, eq-eqb, ne_eqb, arith}
use Rattle.std.specs.List.{AllByRecursion}
use Rattle.std.proofs.lemmas.Bool.{cases_eq, cond-true, cond-false}
use Rattle.std.proofs.lemmas.List.{length_push}
use Rattle.std.proofs.lemmas.Option.{same_Some}
use Rattle.slnf_access.specs.declared.requests.Entry.{Entry}
use Rattle.slnf_access.specs.Machines.{Machine, Stand, stand_step, stand_after, HasEnded}
use Rattle.slnf_run.specs.Setting.{Setting}
use Rattle.slnf_run.specs.Scene.{stand_of}
use Rattle.slnf_run.specs.Parts.{part_of, Offer, batch_of, last_of, offers_until, Post, posts_of, offers_at}
use Rattle.slnf_run.specs.Run.{IsOffered, EarlierEnded}
use Rattle.slnf_run.specs.Made.{Grown}
use Rattle.slnf_run.proofs.Parting.{part_of-append, part_of-own}
use Rattle.slnf_run.proofs.AddedEntries.{stand_of-own, stand_of-other_item}
use Rattle.slnf_local.specs.Local.{IsExpected}
use Rattle.slnf_local.specs.Hands.{batch_in_hand, Item, items_of, items_in, Hand, hand_at, hand_of, items_after, some_fly, later_than, up_to, hand_with, hand_go, hand_after}
use Rattle.slnf_local.proofs.Over.{ended_asks_nothing}
use Rattle.slnf_local.proofs.Batches.{EndedBelow, IsBeyond, later_is_above, next_batch, later_items, items_step}
use Rattle.slnf_local.proofs.Untouched.{IsUntouched, ended_stays, own_of-other_item, untouched}
use Rattle.slnf_local.proofs.Hands.{stands, earlier_every, offers_known, batch_of_expected}

pub last_of-push : (es : List Entry) (e : Entry) → last_of (es ++ e ∷ []) ≡ Some e
last_of-push [] e = refl
last_of-push (f ∷ []) e = refl
last_of-push (f ∷ g ∷ es) e = last_of-push (g ∷ es) e

pub part_of-push : (es : List Entry) (e : Entry) →
    part_of e.incarnation (es ++ e ∷ []) ≡ part_of e.incarnation es ++ e ∷ []
part_of-push es e =
    part_of-append e.incarnation es (e ∷ [])
    ∙ ap (λ l. part_of e.incarnation es ++ l) (part_of-own e.incarnation e [] refl)

-- each item stands where it did, save the entry's own
pub stands_step : {F A : Type 0} (s : Setting F A) (es : List Entry) (e : Entry) (item : ℕ) →
    stand_of s.scene e.incarnation item (es ++ e ∷ [])
    ≡ (if e.item == item then stand_step (s.scene.machine e.incarnation)
    (stand_of s.scene e.incarnation item es) e else stand_of s.scene e.incarnation item es)
stands_step s es e item =
    elim (cases_eq e.item item) [
      | inl q ↦
          stand_of-own s e.incarnation item es e refl q
          ∙ sym (cond-true (e.item == item)
          (stand_step (s.scene.machine e.incarnation) (stand_of s.scene e.incarnation item es) e)
          (stand_of s.scene e.incarnation item es) (eq-eqb e.item item q))
      | inr n ↦
          stand_of-other_item s e.incarnation item es e refl n
          ∙ sym (cond-false (e.item == item)
          (stand_step (s.scene.machine e.incarnation) (stand_of s.scene e.incarnation item es) e)
          (stand_of s.scene e.incarnation item es) (ne_eqb e.item item n))
    ]

-- after the entry, items of earlier batches have ended, and those of later ones stand as they began
beyond : {F A : Type 0} (s : Setting F A) (es : List Entry) (e : Entry) (offers xs : List Offer) →
    IsUntouched s es e.incarnation offers → IsOffered e.item offers →
    (HasEnded (stand_of s.scene e.incarnation e.item es) → ⊥) →
    AllByRecursion (EndedBelow (stands s es e.incarnation) (batch_of e.item offers)) xs →
    AllByRecursion (λ offer. batch_of offer.item offers ≡ offer.batch) xs →
    AllByRecursion (IsBeyond (stands s (es ++ e ∷ []) e.incarnation) (s.scene.begins e.incarnation)
    (batch_of e.item offers)) xs
beyond s es e offers [] fresh offered flies below known = tt
beyond s es e offers (x ∷ xs) fresh offered flies below known = (
  record {
    below = λ l. ended_stays s e.incarnation x.item es (e ∷ []) (below.0 l);
    above = λ l.
        let q : batch_of x.item offers ≡ x.batch = known.0 in
        let m : batch_of e.item offers < batch_of x.item offers = omega arith in
        elim (fresh x.item e.item offered m) [
          | inr ended ↦ absurd (flies ended)
          | inl none ↦
              ap (stand_after (s.scene.machine e.incarnation) (s.scene.begins e.incarnation x.item))
              (own_of-other_item e.incarnation x.item es e (λ k. differ x k m) ∙ none)
        ];
  },
  beyond s es e offers xs fresh offered flies below.1 known.1,
)
  where
    differ : (x : Offer) → e.item ≡ x.item → batch_of e.item offers < batch_of x.item offers → ⊥
    differ x k m = let l : batch_of x.item offers < batch_of x.item offers =
        subst (λ n. batch_of n offers < batch_of x.item offers) k m in omega arith

-- the new hand, by the items of the batch that was in hand
moved : {F : Type 0} (stand begins : ℕ → Stand F) (offers : List Offer) (made batch : ℕ) →
    AllByRecursion (IsBeyond stand begins batch) offers →
    hand_at stand offers made (length (up_to batch offers)) (batch_in_hand stand offers)
    ≡ hand_with begins offers made batch (items_of stand batch offers)
moved {F = F} stand begins offers made batch h =
    ap (hand_at stand offers made (length (up_to batch offers))) (next_batch stand begins batch offers h)
    ∙ go (some_fly (items_of stand batch offers))
  where
    of_items : Option ℕ → List (Item F) → Hand F
    of_items b items = record { made = made; through = length (up_to batch offers); batch = b; items = items }

    later : Option ℕ
    later = batch_in_hand begins (later_than batch offers)

    go : (fly : Bool) → hand_at stand offers made (length (up_to batch offers)) (if fly then Some batch else later)
        ≡ (if fly then of_items (Some batch) (items_of stand batch offers) else hand_at begins offers made
        (length (up_to batch offers)) later)
    go true = refl
    go false = ap (of_items later) (later_items stand begins batch later offers h (later_is_above begins batch offers))

-- a hand after an own expected entry
pub hand_of-own : {F A : Type 0} (s : Setting F A) (es : List Entry) (e : Entry) (post : Post) →
    Grown (IsExpected s) [] es → IsExpected s es e → slice_get (posts_of s es) e.incarnation ≡ Some post →
    hand_of s (es ++ e ∷ []) e.incarnation post ≡ hand_after (s.scene.machine e.incarnation)
    (s.scene.begins e.incarnation) (offers_at s e.incarnation post) (hand_of s es e.incarnation post) e
hand_of-own {F = F} s es e post grown h at =
    ap₂ of_counts (ap length (part_of-push es e) ∙ length_push (part_of e.incarnation es) e)
    (ap (λ part. length (offers_until (last_of part) offers)) (part_of-push es e)
    ∙ ap (λ o. length (offers_until o offers)) (last_of-push (part_of e.incarnation es) e))
    ∙ (moved new (s.scene.begins e.incarnation) offers (length (part_of e.incarnation es) + 1) batch beyond_all
    ∙ (ap (hand_with (s.scene.begins e.incarnation) offers (length (part_of e.incarnation es) + 1) batch)
    (items_step machine old new e batch offers (stands_step s es e))
    ∙ sym back))
  where
    machine : Machine F
    machine = s.scene.machine e.incarnation

    offers : List Offer
    offers = offers_at s e.incarnation post

    batch : ℕ
    batch = batch_of e.item offers

    old : ℕ → Stand F
    old = stands s es e.incarnation

    new : ℕ → Stand F
    new = stands s (es ++ e ∷ []) e.incarnation

    of_counts : ℕ → ℕ → Hand F
    of_counts made through = hand_at new offers made through (batch_in_hand new offers)

    same : h.post ≡ post
    same = same_Some h.post post (sym h.posted ∙ at)

    beyond_all : AllByRecursion (IsBeyond new (s.scene.begins e.incarnation) batch) offers
    beyond_all =
        beyond s es e offers offers
        (untouched s es e.incarnation post grown at)
        (subst (λ p. IsOffered e.item (offers_at s e.incarnation p)) same h.offered)
        (λ ended. ended_asks_nothing machine (stand_of s.scene e.incarnation e.item es) e ended h.asked)
        (earlier_every s e.incarnation es batch offers
        (subst (λ p. EarlierEnded s e.incarnation es (batch_of e.item (offers_at s e.incarnation p))
        (offers_at s e.incarnation p)) same h.in_hand))
        (offers_known s e.incarnation post)

    in_hand : batch_in_hand old offers ≡ Some batch
    in_hand = batch_of_expected s es e post h at

    back : hand_after machine (s.scene.begins e.incarnation) offers (hand_of s es e.incarnation post) e
        ≡ hand_with (s.scene.begins e.incarnation) offers (length (part_of e.incarnation es) + 1) batch
        (items_after machine e (items_of old batch offers))
    back = ap (λ b. hand_go (s.scene.begins e.incarnation) offers (hand_of s es e.incarnation post)
        (items_after machine e (items_in old b offers)) b) in_hand
