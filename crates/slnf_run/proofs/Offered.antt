-- Why a packet was taken, or wasn't: by the batches that its instances were offered, and their stops.
use Rattle.std.proofs.Common.{◌≡◌, ◌⊎◌, inl, inr, ℕ, ◌<◌, ◌≤◌, Bool, true, false, cond, Option, Some, None, List, [], ◌∷◌, refl, sym, subst}
use Rattle.std.specs.List.{range_with_len}
use Rattle.std.proofs.lemmas.Bool.{and_parts, and_from}
use Rattle.std.proofs.lemmas.Bool.Decides.{leb_tells}
use Rattle.slnf_access.specs.declared.requests.Entry.{Entry}
use Rattle.slnf_run.specs.Setting.{Setting, is_on}
use Rattle.slnf_run.specs.Parts.{part_of, Offer, batch_of, is_stopped, last_of, offers_until, Post, offers_at, taken_at}
use Rattle.slnf_run.specs.Run.{IsOffered}
use Rattle.slnf_run.specs.OneBox.{Took, NobodyTook, WasStoppedBefore, AllStoppedBefore, WasOffered}
use Rattle.slnf_run.proofs.OfferRows.{has_item, Rises, rises_batched}
use Rattle.slnf_run.proofs.Taking.{offered_has, offered_until}
use Rattle.slnf_run.proofs.TakenRows.{key_first, offered_count, offers_on_lane}
use Rattle.slnf_run.proofs.Losing.{has_offered, has_more, batch_until}

-- a list without a last entry is empty
none_last : (es : List Entry) → last_of es ≡ None → es ≡ []
none_last [] h = refl
none_last (e ∷ []) h = absurd (cc)
none_last (e ∷ f ∷ es) h = let rest : f ∷ es ≡ [] = none_last (f ∷ es) h in absurd (cc)

-- an incarnation that was offered an item and didn't take it was stopped before its batch
stopped_before : {F A : Type 0} (s : Setting F A) (es : List Entry) (i k : ℕ) (post : Post) →
    IsOffered k (offers_at s i post) → (has_item k (taken_at s es i post) ≡ true → ⊥) → WasStoppedBefore s es i k post
stopped_before s es i k post offered missed = go (is_stopped post.actor part) refl missed
  where
    part : List Entry
    part = part_of i es

    offers : List Offer
    offers = offers_at s i post

    Before : Type 0
    Before = (part ≡ []) ⊎ ((last : Entry) × (last_of part ≡ Some last) × (batch_of last.item offers < batch_of k offers))

    before : (last : Option Entry) → last_of part ≡ last → (has_item k (offers_until last offers) ≡ true → ⊥) → Before
    before None w miss = inl (none_last part w)
    before (Some e) w miss = inr (
      e,
      w,
      elim (leb_tells (batch_of k offers) (batch_of e.item offers)) [
        | inl at_most ↦ absurd (miss (offered_until k (batch_of e.item offers) offers offered at_most.1))
        | inr above ↦ above.1
      ],
    )

    go : (b : Bool) → is_stopped post.actor part ≡ b →
        (has_item k (cond b (offers_until (last_of part) offers) offers) ≡ true → ⊥) → WasStoppedBefore s es i k post
    go false w miss = absurd (miss (offered_has k offers offered))
    go true w miss = record { stopped = w; before = before (last_of part) refl miss }

-- where nobody took a packet, each instance that was offered it was stopped before its batch
pub all_stopped_before : {F A : Type 0} (s : Setting F A) (es : List Entry) (lane number : ℕ) →
    NobodyTook s es lane number → AllStoppedBefore s es lane number
all_stopped_before s es lane number none i post posted on offered =
    stopped_before s es i number post offered
    (λ has. none i (post, posted, and_from (is_on lane post.actor) (has_item number (taken_at s es i post)) on has))

-- an incarnation that took a packet was offered it, and not behind the batch of its last entry where it was stopped
pub was_offered : {F A : Type 0} (s : Setting F A) (es : List Entry) (lane number i : ℕ) →
    Took s es lane number i → WasOffered s es i number
was_offered s es lane number i took = record {
  post = post;
  posted = took.1;
  offered = offered (is_stopped post.actor part) refl has;
  until = λ stopped. until (last_of part) refl
      (subst (λ b. has_item number (cond b (offers_until (last_of part) offers) offers) ≡ true) stopped has);
}
  where
    post : Post
    post = took.0

    part : List Entry
    part = part_of i es

    offers : List Offer
    offers = offers_at s i post

    both : (is_on lane post.actor ≡ true) × (has_item number (taken_at s es i post) ≡ true)
    both = and_parts (is_on lane post.actor) (has_item number (taken_at s es i post)) took.2

    has : has_item number (taken_at s es i post) ≡ true
    has = both.1

    among : (last : Option Entry) → has_item number (offers_until last offers) ≡ true → IsOffered number offers
    among None h = absurd (cc)
    among (Some e) h = has_offered number offers (has_more number (batch_of e.item offers) offers h)

    offered : (b : Bool) → is_stopped post.actor part ≡ b →
        has_item number (cond b (offers_until (last_of part) offers) offers) ≡ true → IsOffered number offers
    offered true w h = among (last_of part) h
    offered false w h = has_offered number offers h

    rises : Rises 0 offers
    rises = subst (Rises 0) (sym (offers_on_lane s lane i post.at post.actor both.0))
        (rises_batched s.batch (key_first s i) 0 0 []
        (range_with_len post.at (offered_count s lane post.at post.actor)))

    until : (last : Option Entry) → last_of part ≡ last → has_item number (offers_until last offers) ≡ true →
        (e : Entry) × (last_of part ≡ Some e) × (batch_of number offers ≤ batch_of e.item offers)
    until None w h = absurd (cc)
    until (Some e) w h = (e, w, batch_until 0 number (batch_of e.item offers) offers rises h)
