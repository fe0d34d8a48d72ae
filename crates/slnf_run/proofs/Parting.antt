-- What depends on the parts of a list alone.
use Rattle.std.proofs.Common.{◌≡◌, inl, inr, ℕ, ◌+◌, ◌<◌, ◌==◌, true, if◌then◌else◌, List, [], ◌∷◌, ◌++◌, length, map, sym, refl, ap, ap₂, ◌∙◌, subst, eq-eqb, ne_eqb, arith}
use Rattle.std.proofs.lemmas.Bool.{cases_eq, cond-true, cond-false}
use Rattle.std.proofs.lemmas.List.Elements.{filter-append}
use Rattle.slnf_access.specs.declared.requests.Entry.{Entry}
use Rattle.slnf_access.specs.Machines.{stand_after, HasEnded}
use Rattle.slnf_run.specs.Setting.{Actor, Era, Setting, is_on}
use Rattle.slnf_run.specs.Scene.{Scene, own_of, stand_of}
use Rattle.slnf_run.specs.Parts.{part_of, of_item, Offer, is_stopped, offers_of, taken_of, at_lane, taken_on, places_after, Post, posts_from, posts_of, offers_at}
use Rattle.slnf_run.specs.Run.{AllEnded, EarlierEnded, IsBelowStop, IsDone}

pub part_of-append : (incarnation : ℕ) (xs ys : List Entry) → part_of incarnation (xs ++ ys) ≡ part_of incarnation xs
    ++ part_of incarnation ys
part_of-append incarnation xs ys = filter-append (λ e. e.incarnation == incarnation) xs ys

-- an own entry stands in the part
pub part_of-own : (incarnation : ℕ) (e : Entry) (es : List Entry) → e.incarnation ≡ incarnation →
    part_of incarnation (e ∷ es) ≡ e ∷ part_of incarnation es
part_of-own incarnation e es h = cond-true (e.incarnation == incarnation) (e ∷ part_of incarnation es)
    (part_of incarnation es) (eq-eqb e.incarnation incarnation h)

-- another's entry doesn't
pub part_of-other : (incarnation : ℕ) (e : Entry) (es : List Entry) → (e.incarnation ≡ incarnation → ⊥) →
    part_of incarnation (e ∷ es) ≡ part_of incarnation es
part_of-other incarnation e es h = cond-false (e.incarnation == incarnation) (e ∷ part_of incarnation es)
    (part_of incarnation es) (ne_eqb e.incarnation incarnation h)

-- an item's own entries are those of its incarnation's part
pub own_of_part : (incarnation item : ℕ) (es : List Entry) → own_of incarnation item es
    ≡ of_item item (part_of incarnation es)
own_of_part incarnation item [] = refl
own_of_part incarnation item (e ∷ es) =
    elim (cases_eq e.incarnation incarnation) [
      | inl own ↦
          let yes : (e.incarnation == incarnation) ≡ true = eq-eqb e.incarnation incarnation own in
          rw yes (ap (λ l. if e.item == item then e ∷ l else l) (own_of_part incarnation item es))
      | inr n ↦ rw (ne_eqb e.incarnation incarnation n) (own_of_part incarnation item es)
    ]

-- where an item stands depends on its incarnation's part alone
pub stand_of-same : {F A : Type 0} (s : Scene F A) (incarnation item : ℕ) (es fs : List Entry) →
    part_of incarnation es ≡ part_of incarnation fs → stand_of s incarnation item es ≡ stand_of s incarnation item fs
stand_of-same s incarnation item es fs h =
    ap (stand_after (s.machine incarnation) (s.begins incarnation item))
    (own_of_part incarnation item es ∙ (ap (of_item item) h ∙ sym (own_of_part incarnation item fs)))

-- and so does it whether offers have ended
pub all_ended-same : {F A : Type 0} (s : Setting F A) (incarnation : ℕ) (es fs : List Entry) (offers : List Offer) →
    part_of incarnation es ≡ part_of incarnation fs → AllEnded s incarnation es offers →
    AllEnded s incarnation fs offers
all_ended-same s incarnation es fs [] h k = tt
all_ended-same s incarnation es fs (offer ∷ offers) h k = (
  subst HasEnded (stand_of-same s.scene incarnation offer.item es fs h) k.0,
  all_ended-same s incarnation es fs offers h k.1,
)

-- the same for offers of earlier batches
pub earlier_ended-same : {F A : Type 0} (s : Setting F A) (incarnation : ℕ) (es fs : List Entry) (batch : ℕ)
    (offers : List Offer) → part_of incarnation es ≡ part_of incarnation fs →
    EarlierEnded s incarnation es batch offers → EarlierEnded s incarnation fs batch offers
earlier_ended-same s incarnation es fs batch [] h k = tt
earlier_ended-same s incarnation es fs batch (offer ∷ offers) h k = (
  λ l. subst HasEnded (stand_of-same s.scene incarnation offer.item es fs h) (k.0 l),
  earlier_ended-same s incarnation es fs batch offers h k.1,
)

-- an actor has done its work in each list with the same part of it
pub is_done-same : {F A : Type 0} (s : Setting F A) (es fs : List Entry) (incarnation : ℕ) (post : Post) →
    part_of incarnation es ≡ part_of incarnation fs → IsDone s es incarnation post → IsDone s fs incarnation post
is_done-same s es fs incarnation post h (inl stopped) =
    inl (subst (λ part. is_stopped post.actor part ≡ true) h stopped)
is_done-same s es fs incarnation post h (inr done) =
    inr (
      subst (IsBelowStop post.actor) h done.0,
      all_ended-same s incarnation es fs (offers_at s incarnation post) h done.1,
    )

-- what actors took depends on their parts alone
taken_on-same : {F A : Type 0} (s : Setting F A) (es fs : List Entry) (incarnation : ℕ) (places : ℕ → ℕ) (lane : ℕ)
    (actors : List Actor) → ((i : ℕ) → i < incarnation + length actors → part_of i es ≡ part_of i fs) →
    taken_on s es incarnation places lane actors ≡ taken_on s fs incarnation places lane actors
taken_on-same s es fs incarnation places lane [] h = refl
taken_on-same s es fs incarnation places lane (actor ∷ actors) h =
    ap (λ p. (if is_on lane actor then length (taken_of actor p
    (offers_of s incarnation (at_lane places actor) actor)) else 0) + taken_on s es
    (incarnation + 1) places lane actors)
    (h incarnation (omega arith))
    ∙ ap (λ n. (if is_on lane actor then length (taken_of actor (part_of incarnation fs)
    (offers_of s incarnation (at_lane places actor) actor)) else 0) + n)
    (taken_on-same s es fs (incarnation + 1) places lane actors (λ i l. h i (omega arith)))

-- and so does how far lanes have come
pub places_after-same : {F A : Type 0} (s : Setting F A) (es fs : List Entry) (base : ℕ) (places : ℕ → ℕ)
    (era : Era) → ((i : ℕ) → i < base + length era.actors → part_of i es ≡ part_of i fs) →
    places_after s es base places era ≡ places_after s fs base places era
places_after-same s es fs base places era h =
    λ i lane. places lane + taken_on-same s es fs base places lane era.actors h i

-- the post of an actor whose epoch has this number, where lanes have come so far
abbrev pub post_of : ℕ → (ℕ → ℕ) → Actor → Post
post_of number places actor = record { actor = actor; era = number; at = at_lane places actor }

posts_from-same : {F A : Type 0} (s : Setting F A) (m j : List Entry) (number base : ℕ) (places : ℕ → ℕ)
    (eras : List Era) → ((i : ℕ) → part_of i m ≡ part_of i j) → posts_from s m number base places eras
    ≡ posts_from s j number base places eras
posts_from-same s m j number base places [] same = refl
posts_from-same s m j number base places (era ∷ eras) same =
    ap (λ q. map (post_of number places) era.actors ++ posts_from s m (number + 1) (base + length era.actors) q eras)
    (places_after-same s m j base places era (λ i l. same i))
    ∙ ap (λ posts. map (post_of number places) era.actors ++ posts)
    (posts_from-same s m j (number + 1) (base + length era.actors) (places_after s j base places era) eras same)

-- posts depend on parts alone
pub posts_of-same : {F A : Type 0} (s : Setting F A) (m j : List Entry) → ((i : ℕ) → part_of i m ≡ part_of i j) →
    posts_of s m ≡ posts_of s j
posts_of-same s m j same = posts_from-same s m j 0 0 (λ lane. 0) s.eras same

-- a part is its own part
pub part_of-part_of : (incarnation : ℕ) (es : List Entry) → part_of incarnation (part_of incarnation es)
    ≡ part_of incarnation es
part_of-part_of incarnation [] = refl
part_of-part_of incarnation (e ∷ es) =
    elim (cases_eq e.incarnation incarnation) [
      | inl own ↦
          ap (part_of incarnation) (part_of-own incarnation e es own)
          ∙ (part_of-own incarnation e (part_of incarnation es) own
          ∙ (ap (λ l. e ∷ l) (part_of-part_of incarnation es) ∙ sym (part_of-own incarnation e es own)))
      | inr other ↦
          ap (part_of incarnation) (part_of-other incarnation e es other)
          ∙ (part_of-part_of incarnation es ∙ sym (part_of-other incarnation e es other))
    ]

-- Where an entry of a part stands in the list: behind these entries of its incarnation.
pub record IsSplit (incarnation : ℕ) (m own : List Entry) (e : Entry) : Type 0 where
  pub before : List Entry
  pub later : List Entry
  pub whole : m ≡ before ++ e ∷ later
  pub part : part_of incarnation before ≡ own
  pub mine : e.incarnation ≡ incarnation

cons_parts : (x y : Entry) (xs ys : List Entry) → x ∷ xs ≡ y ∷ ys → (x ≡ y) × (xs ≡ ys)
cons_parts x y xs ys h = (cc, cc)

split_other : (incarnation : ℕ) (f : Entry) (m own : List Entry) (e : Entry) → (f.incarnation ≡ incarnation → ⊥) →
    IsSplit incarnation m own e → IsSplit incarnation (f ∷ m) own e
split_other incarnation f m own e n h = record {
  before = f ∷ h.before;
  later = h.later;
  whole = ap (λ l. f ∷ l) h.whole;
  part = part_of-other incarnation f h.before n ∙ h.part;
  mine = h.mine;
}

-- each entry of a part stands so
pub split_of_part : (incarnation : ℕ) (m own rest : List Entry) (e : Entry) → part_of incarnation m ≡ own
    ++ e ∷ rest → IsSplit incarnation m own e
split_of_part incarnation [] [] rest e h = absurd (cc)
split_of_part incarnation [] (x ∷ own) rest e h = absurd (cc)
split_of_part incarnation (f ∷ m) [] rest e h =
    elim (cases_eq f.incarnation incarnation) [
      | inr n ↦ split_other incarnation f m [] e n
          (split_of_part incarnation m [] rest e (sym (part_of-other incarnation f m n) ∙ h))
      | inl mine ↦
          let q : (f ≡ e) × (part_of incarnation m ≡ rest) =
          cons_parts f e (part_of incarnation m) rest (sym (part_of-own incarnation f m mine) ∙ h) in
          record {
            before = [];
            later = m;
            whole = ap (λ x. x ∷ m) q.0;
            part = refl;
            mine =
                ap (λ x. x.incarnation) (sym q.0) ∙ mine;
          }
    ]
split_of_part incarnation (f ∷ m) (x ∷ own) rest e h =
    elim (cases_eq f.incarnation incarnation) [
      | inr n ↦ split_other incarnation f m (x ∷ own) e n
          (split_of_part incarnation m (x ∷ own) rest e (sym (part_of-other incarnation f m n) ∙ h))
      | inl mine ↦
          let q : (f ≡ x) × (part_of incarnation m ≡ own ++ e ∷ rest) =
          cons_parts f x (part_of incarnation m) (own ++ e ∷ rest) (sym (part_of-own incarnation f m mine) ∙ h) in
          let k : IsSplit incarnation m own e = split_of_part incarnation m own rest e q.1 in
          record {
            before = f ∷ k.before;
            later = k.later;
            whole = ap (λ l. f ∷ l) k.whole;
            part = part_of-own incarnation f k.before mine ∙ ap₂ (λ y l. y ∷ l) q.0 k.part;
            mine = k.mine;
          }
    ]

-- an entry's part where the list is split at it
pub part_at : (before later : List Entry) (e : Entry) (j : List Entry) → j ≡ before ++ e ∷ later →
    part_of e.incarnation j ≡ part_of e.incarnation before ++ e ∷ part_of e.incarnation later
part_at before later e j h =
    ap (part_of e.incarnation) h
    ∙ (part_of-append e.incarnation before (e ∷ later)
    ∙ ap (λ l. part_of e.incarnation before ++ l) (part_of-own e.incarnation e later refl))
