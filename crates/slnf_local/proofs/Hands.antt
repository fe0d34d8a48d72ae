-- An actor's hand is determined by its part, tells what is expected of it, and changes with its own entries alone.
use Rattle.std.proofs.Common.{◌≡◌, inl, inr, ◌⊎◌, ℕ, Bool, true, false, IsTrue, if◌then◌else◌, List, [], ◌∷◌, ◌++◌, Option, Some, None, length, slice_get, refl, sym, ap, ◌∙◌, subst, append-nil, arith}
use Rattle.std.specs.List.{AllByRecursion}
use Rattle.std.proofs.lemmas.Option.{same_Some}
use Rattle.slnf_access.specs.declared.requests.Entry.{Entry}
use Rattle.slnf_access.specs.Machines.{Machine, Stand, Flies, Ends, IsAsked, HasEnded}
use Rattle.slnf_run.specs.Setting.{Setting, era_of}
use Rattle.slnf_run.specs.Scene.{stand_of}
use Rattle.slnf_run.specs.Parts.{part_of, Offer, batch_of, is_stopped, last_of, offers_until, taken_of, Post, posts_of, offers_at}
use Rattle.slnf_run.specs.Run.{AllEnded, IsOffered, EarlierEnded}
use Rattle.slnf_access.proofs.Elements.{each-weaker}
use Rattle.slnf_run.proofs.Parting.{part_of-append, part_of-other, stand_of-same}
use Rattle.slnf_run.proofs.Lists.{Every}
use Rattle.slnf_run.proofs.Offers.{IsKnown, rising_known, offers_of-rising}
use Rattle.slnf_local.specs.Local.{IsOver, AllOver, IsExpected}
use Rattle.slnf_local.specs.Hands.{batch_in_hand, items_in, Hand, hand_at, hand_of, stand_in, IsAskedIn, is_no_batch, hand_is_over, taken_by, HandExpects, hand_first}
use Rattle.slnf_local.proofs.Batches.{EndedBelow, ended_below, hand_is, stand_in-batch, IsFound, found_in_batch, no_batch_of_ended, ended_of_no_batch}

-- where the items of an incarnation stand
abbrev pub stands : {F A : Type 0} → Setting F A → List Entry → ℕ → ℕ → Stand F
stands s es incarnation = λ item. stand_of s.scene incarnation item es

-- that offers have ended, as a property of each
pub earlier_every : {F A : Type 0} (s : Setting F A) (incarnation : ℕ) (es : List Entry) (batch : ℕ)
    (offers : List Offer) → EarlierEnded s incarnation es batch offers →
    AllByRecursion (EndedBelow (stands s es incarnation) batch) offers
earlier_every s incarnation es batch [] h = tt
earlier_every s incarnation es batch (offer ∷ offers) h = (h.0, earlier_every s incarnation es batch offers h.1)

every_earlier : {F A : Type 0} (s : Setting F A) (incarnation : ℕ) (es : List Entry) (batch : ℕ)
    (offers : List Offer) → AllByRecursion (EndedBelow (stands s es incarnation) batch) offers →
    EarlierEnded s incarnation es batch offers
every_earlier s incarnation es batch [] h = tt
every_earlier s incarnation es batch (offer ∷ offers) h = (h.0, every_earlier s incarnation es batch offers h.1)

all_every : {F A : Type 0} (s : Setting F A) (incarnation : ℕ) (es : List Entry) (offers : List Offer) →
    AllEnded s incarnation es offers → AllByRecursion (λ offer. HasEnded (stands s es incarnation offer.item)) offers
all_every s incarnation es [] h = tt
all_every s incarnation es (offer ∷ offers) h = (h.0, all_every s incarnation es offers h.1)

every_all : {F A : Type 0} (s : Setting F A) (incarnation : ℕ) (es : List Entry) (offers : List Offer) →
    AllByRecursion (λ offer. HasEnded (stands s es incarnation offer.item)) offers → AllEnded s incarnation es offers
every_all s incarnation es [] h = tt
every_all s incarnation es (offer ∷ offers) h = (h.0, every_all s incarnation es offers h.1)

-- a hand is determined by the part
pub hand_of-same : {F A : Type 0} (s : Setting F A) (es fs : List Entry) (incarnation : ℕ) (post : Post) →
    part_of incarnation es ≡ part_of incarnation fs → hand_of s es incarnation post ≡ hand_of s fs incarnation post
hand_of-same {F = F} s es fs incarnation post h =
    ap (λ stand. of_parts stand (part_of incarnation es))
    (λ i item. stand_of-same s.scene incarnation item es fs h i) ∙ ap (of_parts (stands s fs incarnation)) h
  where
    of_parts : (ℕ → Stand F) → List Entry → Hand F
    of_parts stand part = hand_at stand (offers_at s incarnation post) (length part)
        (length (offers_until (last_of part) (offers_at s incarnation post)))
        (batch_in_hand stand (offers_at s incarnation post))

-- an entry of another actor leaves it
pub hand_of-other : {F A : Type 0} (s : Setting F A) (es : List Entry) (e : Entry) (incarnation : ℕ) (post : Post) →
    (e.incarnation ≡ incarnation → ⊥) → hand_of s (es ++ e ∷ []) incarnation post ≡ hand_of s es incarnation post
hand_of-other s es e incarnation post n =
    hand_of-same s (es ++ e ∷ []) es incarnation post
    (part_of-append incarnation es (e ∷ [])
    ∙ (ap (λ l. part_of incarnation es ++ l) (part_of-other incarnation e [] n)
    ∙ append-nil (part_of incarnation es)))

-- before an actor's first entry
pub hand_of-first : {F A : Type 0} (s : Setting F A) (es : List Entry) (incarnation : ℕ) (post : Post) →
    part_of incarnation es ≡ [] →
    hand_of s es incarnation post ≡ hand_first (s.scene.begins incarnation) (offers_at s incarnation post)
hand_of-first s es incarnation post h = hand_of-same s es [] incarnation post h

-- an actor has ended exactly where its hand says so
over_go : {F A : Type 0} (s : Setting F A) (es : List Entry) (incarnation : ℕ) (post : Post) (stopped : Bool)
    (batch : Option ℕ) → is_stopped post.actor (part_of incarnation es) ≡ stopped →
    batch_in_hand (stands s es incarnation) (offers_at s incarnation post) ≡ batch →
    IsTrue (if stopped then true else is_no_batch batch) → IsOver s es incarnation post
over_go s es incarnation post true batch w b h = inl w
over_go s es incarnation post false None w b h = inr
    (every_all s incarnation es (offers_at s incarnation post)
    (ended_of_no_batch (stands s es incarnation) (offers_at s incarnation post) b))
over_go s es incarnation post false (Some batch) w b h = absurd (cc)

pub over_of_hand : {F A : Type 0} (s : Setting F A) (es : List Entry) (incarnation : ℕ) (post : Post) →
    IsTrue (hand_is_over post.actor (hand_of s es incarnation post)) → IsOver s es incarnation post
over_of_hand s es incarnation post h =
    over_go s es incarnation post (is_stopped post.actor (part_of incarnation es))
    (batch_in_hand (stands s es incarnation) (offers_at s incarnation post)) refl refl h

hand_go_over : (stopped : Bool) (batch : Option ℕ) → (stopped ≡ true) ⊎ (batch ≡ None) →
    (if stopped then true else is_no_batch batch) ≡ true
hand_go_over true batch h = refl
hand_go_over false None h = refl
hand_go_over false (Some batch) (inl h) = absurd (cc)
hand_go_over false (Some batch) (inr h) = absurd (cc)

pub hand_of_over : {F A : Type 0} (s : Setting F A) (es : List Entry) (incarnation : ℕ) (post : Post) →
    IsOver s es incarnation post → IsTrue (hand_is_over post.actor (hand_of s es incarnation post))
hand_of_over s es incarnation post h =
    hand_go_over (is_stopped post.actor (part_of incarnation es))
    (batch_in_hand (stands s es incarnation) (offers_at s incarnation post)) (cases h)
  where
    cases : IsOver s es incarnation post →
        (is_stopped post.actor (part_of incarnation es) ≡ true)
        ⊎ (batch_in_hand (stands s es incarnation) (offers_at s incarnation post) ≡ None)
    cases (inl stopped) = inl stopped
    cases (inr ended) = inr (no_batch_of_ended (stands s es incarnation) (offers_at s incarnation post)
        (all_every s incarnation es (offers_at s incarnation post) ended))

-- how many offers an actor took
pub taken_of_hand : {F A : Type 0} (s : Setting F A) (es : List Entry) (incarnation : ℕ) (post : Post) →
    taken_by post.actor (hand_of s es incarnation post) (offers_at s incarnation post)
    ≡ length (taken_of post.actor (part_of incarnation es) (offers_at s incarnation post))
taken_of_hand s es incarnation post = go (is_stopped post.actor (part_of incarnation es))
  where
    go : (stopped : Bool) → (if stopped then length
        (offers_until (last_of (part_of incarnation es)) (offers_at s incarnation post)) else length
        (offers_at s incarnation post))
        ≡ length (if stopped then offers_until (last_of (part_of incarnation es))
        (offers_at s incarnation post) else offers_at s incarnation post)
    go true = refl
    go false = refl

flies_of_asked : {F : Type 0} (machine : Machine F) (stand : Stand F) (e : Entry) → IsAsked machine stand e →
    (flight : F) × (stand ≡ Flies flight)
flies_of_asked machine (Flies flight) e h = (flight, refl)
flies_of_asked machine (Ends verdict) e h = absurd h

-- the batch in hand is that of an expected entry's item
pub batch_of_expected : {F A : Type 0} (s : Setting F A) (es : List Entry) (e : Entry) (post : Post) →
    IsExpected s es e → slice_get (posts_of s es) e.incarnation ≡ Some post →
    batch_in_hand (stands s es e.incarnation) (offers_at s e.incarnation post)
    ≡ Some (batch_of e.item (offers_at s e.incarnation post))
batch_of_expected s es e post h at =
    subst (λ p. batch_in_hand (stands s es e.incarnation) (offers_at s e.incarnation p)
    ≡ Some (batch_of e.item (offers_at s e.incarnation p)))
    (same_Some h.post post (sym h.posted ∙ at))
    (let f : (flight : _) × (stand_of s.scene e.incarnation e.item es ≡ Flies flight) =
    flies_of_asked (s.scene.machine e.incarnation) (stand_of s.scene e.incarnation e.item es) e h.asked in
    hand_is (stands s es e.incarnation) e.item f.0 (offers_at s e.incarnation h.post) h.offered f.1
    (earlier_every s e.incarnation es (batch_of e.item (offers_at s e.incarnation h.post))
    (offers_at s e.incarnation h.post) h.in_hand))

-- an expected entry is one that the hand of its actor expects
pub hand_expects : {F A : Type 0} (s : Setting F A) (es : List Entry) (e : Entry) (post : Post) → IsExpected s es e →
    slice_get (posts_of s es) e.incarnation ≡ Some post →
    HandExpects (s.scene.machine e.incarnation) post.actor (hand_of s es e.incarnation post) e
hand_expects s es e post h at =
    let same : h.post ≡ post = same_Some h.post post (sym h.posted ∙ at) in
    let offers : List Offer = offers_at s e.incarnation post in
    let batch : batch_in_hand (stands s es e.incarnation) offers ≡ Some (batch_of e.item offers) =
    batch_of_expected s es e post h at in
    let found : stand_in e.item
    (items_in (stands s es e.incarnation) (batch_in_hand (stands s es e.incarnation) offers) offers)
    ≡ Some (stand_of s.scene e.incarnation e.item es) =
    ap (λ b. stand_in e.item (items_in (stands s es e.incarnation) b offers)) batch
    ∙ stand_in-batch (stands s es e.incarnation) e.item (batch_of e.item offers) offers
    (subst (λ p. IsOffered e.item (offers_at s e.incarnation p)) same h.offered) refl in (
      subst (λ p. is_stopped p.actor (part_of e.incarnation es) ≡ false) same h.running,
      subst (λ o. IsAskedIn (s.scene.machine e.incarnation) o e) (sym found) h.asked,
    )

-- and the other way, where all actors of earlier epochs have ended
asked_go : {F A : Type 0} (s : Setting F A) (es : List Entry) (e : Entry) (offers : List Offer) (batch : Option ℕ)
    (found : Option (Stand F)) → AllByRecursion (λ offer. batch_of offer.item offers ≡ offer.batch) offers →
    batch_in_hand (stands s es e.incarnation) offers ≡ batch →
    stand_in e.item (items_in (stands s es e.incarnation) batch offers) ≡ found →
    IsAskedIn (s.scene.machine e.incarnation) found e →
    IsOffered e.item offers × EarlierEnded s e.incarnation es (batch_of e.item offers) offers × IsAsked
    (s.scene.machine e.incarnation) (stand_of s.scene e.incarnation e.item es) e
asked_go s es e offers batch None known b w h = absurd h
asked_go s es e offers None (Some found) known b w h = absurd (cc)
asked_go s es e offers (Some batch) (Some found) known b w h =
    let k : IsFound (stands s es e.incarnation) e.item batch offers offers found =
    found_in_batch (stands s es e.incarnation) e.item batch offers offers found known w in (
      k.offered,
      subst (λ n. EarlierEnded s e.incarnation es n offers) (sym k.batch)
          (every_earlier s e.incarnation es batch offers
          (ended_below (stands s es e.incarnation) batch offers (λ c q. let m : batch ≡ c =
          same_Some batch c (sym b ∙ q) in omega arith))),
      subst (λ stand. IsAsked (s.scene.machine e.incarnation) stand e) k.stands h,
    )

every_all_of : {X : Type 0} (P : X → Type 0) (xs : List X) → Every P xs → AllByRecursion P xs
every_all_of P [] h = tt
every_all_of P (x ∷ xs) h = (h.0, every_all_of P xs h.1)

-- an offer's item tells its batch
pub offers_known : {F A : Type 0} (s : Setting F A) (incarnation : ℕ) (post : Post) →
    AllByRecursion (λ offer. batch_of offer.item (offers_at s incarnation post) ≡ offer.batch)
    (offers_at s incarnation post)
offers_known s incarnation post =
    each-weaker (IsKnown 0 (offers_at s incarnation post))
    (λ offer. batch_of offer.item (offers_at s incarnation post) ≡ offer.batch) (λ offer k. k.batch)
    (offers_at s incarnation post)
    (every_all_of (IsKnown 0 (offers_at s incarnation post)) (offers_at s incarnation post)
    (rising_known 0 (offers_at s incarnation post) (offers_of-rising s incarnation post.at post.actor)))

pub expected_of_hand : {F A : Type 0} (s : Setting F A) (es : List Entry) (e : Entry) (post : Post) →
    slice_get (posts_of s es) e.incarnation ≡ Some post → AllOver s es (era_of s.eras e.incarnation) →
    HandExpects (s.scene.machine e.incarnation) post.actor (hand_of s es e.incarnation post) e → IsExpected s es e
expected_of_hand s es e post at over h =
    let offers : List Offer = offers_at s e.incarnation post in
    let p : IsOffered e.item offers × EarlierEnded s e.incarnation es (batch_of e.item offers) offers × IsAsked
    (s.scene.machine e.incarnation) (stand_of s.scene e.incarnation e.item es) e =
    asked_go s es e offers (batch_in_hand (stands s es e.incarnation) offers)
    (stand_in e.item (items_in (stands s es e.incarnation)
    (batch_in_hand (stands s es e.incarnation) offers) offers)) (offers_known s e.incarnation post) refl refl h.1 in
    record {
      post = post;
      posted = at;
      running = h.0;
      earlier_over = over;
      offered = p.0;
      in_hand = p.1;
      asked = p.2;
    }
