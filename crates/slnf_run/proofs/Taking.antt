-- An incarnation took the items of all its entries.
use Rattle.std.proofs.Common.{◌≡◌, ◌⊎◌, inl, inr, ℕ, ◌<◌, ◌≤◌, Bool, true, false, cond, ◌||◌, ◌==◌, nat_le, Some, List, [], ◌∷◌, ◌++◌, filter, slice_get, refl, ap, sym, ◌∙◌, subst, eq-eqb, append_assoc, le_refl}
use Rattle.std.proofs.lemmas.Bool.{eqb-true, le-leb}
use Rattle.std.proofs.lemmas.Bool.Decides.{leb_tells}
use Rattle.std.proofs.lemmas.List.Elements.{filter-append}
use Rattle.slnf_access.specs.declared.requests.Entry.{Entry}
use Rattle.slnf_access.specs.Machines.{Machine, Stand, Flies, Ends, IsPath, HasEnded}
use Rattle.slnf_access.proofs.Laws.{path-back}
use Rattle.slnf_run.specs.Scene.{Scene, is_of, own_of, stand_of}
use Rattle.slnf_run.specs.Setting.{Setting}
use Rattle.slnf_run.specs.Parts.{part_of, of_item, Offer, batch_of, is_stopped, last_of, offers_until, Post, posts_of, offers_at, taken_at}
use Rattle.slnf_run.specs.Run.{AllEnded, IsOffered, EarlierEnded}
use Rattle.slnf_run.specs.Keeps.{HasPaths}
use Rattle.slnf_run.proofs.Runs.{own_in_part}
use Rattle.slnf_run.proofs.Offering.{IsOffering}
use Rattle.slnf_run.proofs.OfferRows.{has_item, or_first, or_second}
use Rattle.slnf_access.proofs.Elements.{each-at}
use Rattle.std.specs.List.{AllByRecursion}

-- an item that is offered is among the offers
pub offered_has : (item : ℕ) (offers : List Offer) → IsOffered item offers → has_item item offers ≡ true
offered_has item [] h = absurd h
offered_has item (offer ∷ offers) (inl h) = or_first (offer.item == item) (has_item item offers)
    (eq-eqb offer.item item h)
offered_has item (offer ∷ offers) (inr h) = or_second (offer.item == item) (has_item item offers)
    (offered_has item offers h)

-- and among those up to a batch that isn't before its own
pub offered_until : (item b : ℕ) (offers : List Offer) → IsOffered item offers → batch_of item offers ≤ b →
    has_item item (filter (λ offer. nat_le offer.batch b) offers) ≡ true
offered_until item b [] h l = absurd h
offered_until item b (offer ∷ offers) h l = go (offer.item == item) refl (nat_le offer.batch b) refl h l
    (offered_until item b offers)
  where
    rest : List Offer
    rest = filter (λ offer. nat_le offer.batch b) offers

    go : (c : Bool) → (offer.item == item) ≡ c → (d : Bool) → nat_le offer.batch b ≡ d →
        IsOffered item (offer ∷ offers) → cond c offer.batch (batch_of item offers) ≤ b →
        (IsOffered item offers → batch_of item offers ≤ b → has_item item rest ≡ true) →
        has_item item (cond d (offer ∷ rest) rest) ≡ true
    go true w true v h l r = or_first (offer.item == item) (has_item item rest) w
    go true w false v h l r = let k : nat_le offer.batch b ≡ true = le-leb offer.batch b l in cc
    go false w d v (inl h) l r = let k : (offer.item == item) ≡ true = eq-eqb offer.item item h in cc
    go false w true v (inr h) l r = or_second (offer.item == item) (has_item item rest) (r h l)
    go false w false v (inr h) l r = r h l

-- an offered item of an earlier batch has ended
pub earlier_ended_at : {F A : Type 0} (s : Setting F A) (i : ℕ) (es : List Entry) (batch item : ℕ)
    (offers : List Offer) → EarlierEnded s i es batch offers → IsOffered item offers → batch_of item offers < batch →
    HasEnded (stand_of s.scene i item es)
earlier_ended_at s i es batch item [] h k l = absurd k
earlier_ended_at s i es batch item (offer ∷ offers) h k l =
    go (offer.item == item) refl k l (earlier_ended_at s i es batch item offers h.1)
  where
    go : (c : Bool) → (offer.item == item) ≡ c → IsOffered item (offer ∷ offers) →
        cond c offer.batch (batch_of item offers) < batch →
        (IsOffered item offers → batch_of item offers < batch → HasEnded (stand_of s.scene i item es)) →
        HasEnded (stand_of s.scene i item es)
    go true w k l r = subst (λ n. HasEnded (stand_of s.scene i n es)) (eqb-true offer.item item w) (h.0 l)
    go false w (inl k) l r = let q : (offer.item == item) ≡ true = eq-eqb offer.item item k in cc
    go false w (inr k) l r = r k l

-- of offers that have all ended, each item has
pub all_ended_at : {F A : Type 0} (s : Setting F A) (i : ℕ) (es : List Entry) (item : ℕ) (offers : List Offer) →
    AllEnded s i es offers → has_item item offers ≡ true → HasEnded (stand_of s.scene i item es)
all_ended_at s i es item [] h k = cc
all_ended_at s i es item (offer ∷ offers) h k = go (offer.item == item) refl k (all_ended_at s i es item offers h.1)
  where
    go : (c : Bool) → (offer.item == item) ≡ c → (c || has_item item offers) ≡ true →
        (has_item item offers ≡ true → HasEnded (stand_of s.scene i item es)) → HasEnded (stand_of s.scene i item es)
    go true w k r = subst (λ n. HasEnded (stand_of s.scene i n es)) (eqb-true offer.item item w) h.0
    go false w k r = r k

no_path : {F : Type 0} (m : Machine F) (st : Stand F) (es : List Entry) → HasEnded st → IsPath m st es → es ≡ []
no_path m (Flies f) es h p = absurd h
no_path m (Ends v) [] h p = refl
no_path m (Ends v) (e ∷ es) h p = absurd p.0

-- behind an item's end it has no entries
pub nothing_behind : {F A : Type 0} (s : Scene F A) (i k : ℕ) (es before later : List Entry) → HasPaths s es → es
    ≡ before ++ later → HasEnded (stand_of s i k before) → own_of i k later ≡ []
nothing_behind s i k es before later paths split ended =
    let path : IsPath (s.machine i) (s.begins i k) (own_of i k before ++ own_of i k later) =
    subst (IsPath (s.machine i) (s.begins i k)) (ap (own_of i k) split ∙ filter-append (is_of i k) before later)
    (paths i k) in
    no_path (s.machine i) (stand_of s i k before) (own_of i k later) ended
    (path-back (s.machine i) (s.begins i k) (own_of i k before) (own_of i k later) path)

last_of-split : (xs ys : List Entry) (e : Entry) → last_of (xs ++ e ∷ ys) ≡ last_of (e ∷ ys)
last_of-split [] ys e = refl
last_of-split (x ∷ []) ys e = refl
last_of-split (x ∷ y ∷ xs) ys e = last_of-split (y ∷ xs) ys e

-- the last entry from one on is that, or stands behind it
last_of_next : (e : Entry) (ys : List Entry) → ((last_of (e ∷ ys) ≡ Some e) × (ys ≡ []))
    ⊎ ((l : Entry) × (front : List Entry) × (last_of (e ∷ ys) ≡ Some l) × (ys ≡ front ++ l ∷ []))
last_of_next e [] = inl (refl, refl)
last_of_next e (y ∷ ys) = elim (last_of_next y ys) [
  | inl h ↦ inr (y, [], h.0, ap (λ l. y ∷ l) h.1)
  | inr r ↦ inr (r.0, y ∷ r.1, r.2, ap (λ l. y ∷ l) r.3)
]

push_no_nil : (xs : List Entry) (e : Entry) → xs ++ e ∷ [] ≡ [] → ⊥
push_no_nil [] e h = cc
push_no_nil (x ∷ xs) e h = cc

-- an entry that stands last in a list is of its own item's entries there
own_last : (xs : List Entry) (e : Entry) → of_item e.item (xs ++ e ∷ []) ≡ [] → ⊥
own_last xs e h =
    push_no_nil (of_item e.item xs) e
    (ap (λ b. of_item e.item xs ++ cond b (e ∷ []) []) (sym (eq-eqb e.item e.item refl))
    ∙ sym (filter-append (λ f. f.item == e.item) xs (e ∷ [])) ∙ h)

-- an incarnation's part, split at one of its entries
pub part_split : (before later : List Entry) (e : Entry) (j : List Entry) → j ≡ before ++ e ∷ later →
    part_of e.incarnation j ≡ part_of e.incarnation before ++ e ∷ part_of e.incarnation later
part_split before later e j split =
    ap (part_of e.incarnation) split
    ∙ filter-append (λ f. f.incarnation == e.incarnation) before (e ∷ later)
    ∙ ap (λ b. part_of e.incarnation before ++ cond b (e ∷ part_of e.incarnation later) (part_of e.incarnation later))
    (eq-eqb e.incarnation e.incarnation refl)

module _ {F A : Type 0} (s : Setting F A) (j : List Entry) (rules : IsOffering s j) where
  -- the entry's item is offered
  pub entry_offered : (before later : List Entry) (e : Entry) (post : Post) → j ≡ before ++ e ∷ later →
      slice_get (posts_of s j) e.incarnation ≡ Some post → IsOffered e.item (offers_at s e.incarnation post)
  entry_offered before later e post split posted =
      each-at (λ f. IsOffered f.item (offers_at s e.incarnation post)) (part_of e.incarnation before)
      (part_of e.incarnation later) e
      (subst (AllByRecursion (λ f. IsOffered f.item (offers_at s e.incarnation post)))
      (part_split before later e j split) (rules.offered e.incarnation post posted))

  -- the last entry of its part is of no earlier batch
  last_batch : (before later : List Entry) (e : Entry) (post : Post) (front : List Entry) (l : Entry) → j ≡ before
      ++ e ∷ later → slice_get (posts_of s j) e.incarnation ≡ Some post → part_of e.incarnation later ≡ front
      ++ l ∷ [] → batch_of e.item (offers_at s e.incarnation post) ≤ batch_of l.item (offers_at s e.incarnation post)
  last_batch before later e post front l split posted rest =
      elim (leb_tells (batch_of e.item offers) (batch_of l.item offers)) [
        | inl at_most ↦ at_most.1
        | inr above ↦
            let i : ℕ = e.incarnation in
            let part : part_of i j ≡ (part_of i before ++ e ∷ front) ++ l ∷ [] = part_split before later e j split
            ∙ ap (λ xs. part_of i before ++ e ∷ xs) rest
            ∙ sym (append_assoc (part_of i before) (e ∷ front) (l ∷ [])) in
            let l_offered : IsOffered l.item offers = each-at (λ f. IsOffered f.item offers) (part_of i before
            ++ e ∷ front) [] l (subst (AllByRecursion (λ f. IsOffered f.item offers)) part
            (rules.offered i post posted)) in
            let ended : HasEnded (stand_of s.scene i l.item before) =
            earlier_ended_at s i before (batch_of e.item offers) l.item offers
            (rules.by_batch before later e post split posted) l_offered above.1 in
            let none : own_of i l.item (e ∷ later) ≡ [] =
            nothing_behind s.scene i l.item j before (e ∷ later) rules.paths split ended in
            let here : of_item l.item (part_of i (e ∷ later)) ≡ [] = own_in_part i l.item (e ∷ later) ∙ none in
            let whole : part_of i (e ∷ later) ≡ (e ∷ front) ++ l ∷ [] =
            ap (λ b. cond b (e ∷ part_of i later) (part_of i later)) (eq-eqb i i refl) ∙ ap (λ xs. e ∷ xs) rest in
            absurd (own_last (e ∷ front) l (ap (of_item l.item) (sym whole) ∙ here))
      ]
    where
      offers : List Offer
      offers = offers_at s e.incarnation post

  -- An incarnation took the item of each of its entries.
  pub entry_taken : (before later : List Entry) (e : Entry) (post : Post) → j ≡ before ++ e ∷ later →
      slice_get (posts_of s j) e.incarnation ≡ Some post → has_item e.item (taken_at s j e.incarnation post) ≡ true
  entry_taken before later e post split posted = go (is_stopped post.actor (part_of e.incarnation j))
    where
      i : ℕ
      i = e.incarnation

      offers : List Offer
      offers = offers_at s e.incarnation post

      offered : IsOffered e.item offers
      offered = entry_offered before later e post split posted

      last : last_of (part_of i j) ≡ last_of (e ∷ part_of i later)
      last = ap last_of (part_split before later e j split) ∙ last_of-split (part_of i before) (part_of i later) e

      until : (l : Entry) → last_of (part_of i j) ≡ Some l → batch_of e.item offers ≤ batch_of l.item offers →
          has_item e.item (offers_until (last_of (part_of i j)) offers) ≡ true
      until l w h = ap (λ o. has_item e.item (offers_until o offers)) w
          ∙ offered_until e.item (batch_of l.item offers) offers offered h

      go : (b : Bool) → has_item e.item (cond b (offers_until (last_of (part_of i j)) offers) offers) ≡ true
      go false = offered_has e.item offers offered
      go true = elim (last_of_next e (part_of i later)) [
        | inl h ↦ until e (last ∙ h.0) (le_refl (batch_of e.item offers))
        | inr r ↦ until r.0 (last ∙ r.2) (last_batch before later e post r.1 r.0 split posted r.3)
      ]
