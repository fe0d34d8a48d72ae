-- Epochs by their first incarnations, and the posts of an epoch's actors.
use Rattle.std.proofs.Common.{◌≡◌, inl, inr, ℕ, zero, suc, ◌+◌, ◌-◌, ◌<◌, ◌≤◌, List, [], ◌∷◌, Some, option_map, length, map, slice_get, refl, sym, ap, ap₂, ◌∙◌, subst, arith, zero-add, add-zero}
use Rattle.std.proofs.lemmas.Bool.{cases_lt}
use Rattle.std.proofs.lemmas.List.{length-map}
use Rattle.std.proofs.lemmas.Option.{same_Some, slice_get-map}
use Rattle.slnf_access.specs.declared.requests.Entry.{Entry}
use Rattle.slnf_run.specs.Setting.{Actor, Era, Setting, era_of, base_of}
use Rattle.slnf_run.specs.Parts.{part_of, places_after, Post, posts_from, posts_of}
use Rattle.slnf_run.proofs.Parting.{places_after-same, post_of}
use Rattle.slnf_run.proofs.Lists.{slice_get-append_left}
use Rattle.slnf_local.specs.Followers.{places_at}
use Rattle.slnf_run.proofs.Epochs.{era_of-first, era_of-later}
use Rattle.slnf_local.proofs.Until.{slice_get-back}

-- an incarnation from an epoch's first on is of no earlier epoch
pub era_from : (eras : List Era) (number i : ℕ) → number ≤ length eras → base_of eras number ≤ i →
    number ≤ era_of eras i
era_from eras zero i n l = omega arith
era_from [] (suc number) i n l = absurd (omega arith)
era_from (era ∷ eras) (suc number) i n l =
    let m : length era.actors + base_of eras number ≤ i = l in
    let q : era_of (era ∷ eras) i ≡ era_of eras (i - length era.actors) + 1 = era_of-later era eras i (omega arith) in
    let r : number ≤ era_of eras (i - length era.actors) =
    era_from eras number (i - length era.actors) (omega arith) (omega arith) in
    omega arith

-- how far lanes have come depends on the parts of earlier epochs alone
pub places_at-same : {F A : Type 0} (s : Setting F A) (es fs : List Entry) (base : ℕ) (places : ℕ → ℕ)
    (eras : List Era) (number : ℕ) → ((i : ℕ) → i < base + base_of eras number → part_of i es ≡ part_of i fs) →
    places_at s es base places eras number ≡ places_at s fs base places eras number
places_at-same s es fs base places eras zero same = refl
places_at-same s es fs base places [] (suc number) same = refl
places_at-same s es fs base places (era ∷ eras) (suc number) same =
    ap (λ q. places_at s es (base + length era.actors) q eras number)
    (places_after-same s es fs base places era (λ i l. same i (omega arith)))
    ∙ places_at-same s es fs (base + length era.actors) (places_after s fs base places era) eras number
    (λ i l. same i (omega arith))

-- and one epoch further they have come by what it took
pub places_at-next : {F A : Type 0} (s : Setting F A) (es : List Entry) (base : ℕ) (places : ℕ → ℕ) (eras : List Era)
    (number : ℕ) (era : Era) → slice_get eras number ≡ Some era →
    places_at s es base places eras (suc number) ≡ places_after s es (base + base_of eras number)
    (places_at s es base places eras number) era
places_at-next s es base places [] number era h = absurd (cc)
places_at-next s es base places (first ∷ eras) zero era h =
    ap₂ (λ b x. places_after s es b places x) (sym (add-zero base)) (same_Some first era h)
places_at-next s es base places (first ∷ eras) (suc number) era h =
    let q : base + length first.actors + base_of eras number ≡ base + (length first.actors + base_of eras number) =
    omega arith in
    places_at-next s es (base + length first.actors) (places_after s es base places first) eras number era h
    ∙ ap (λ b. places_after s es b
    (places_at s es (base + length first.actors) (places_after s es base places first) eras number) era) q

posts_from_at : {F A : Type 0} (s : Setting F A) (es : List Entry) (from base : ℕ) (places : ℕ → ℕ) (eras : List Era)
    (number k : ℕ) (era : Era) (actor : Actor) → slice_get eras number ≡ Some era →
    slice_get era.actors k ≡ Some actor →
    slice_get (posts_from s es from base places eras) (base_of eras number + k)
    ≡ Some (post_of (from + number) (places_at s es base places eras number) actor)
posts_from_at s es from base places [] number k era actor h at = absurd (cc)
posts_from_at s es from base places (first ∷ eras) zero k era actor h at =
    let q : first ≡ era = same_Some first era h in
    let here : slice_get (map (post_of from places) first.actors) k ≡ Some (post_of from places actor) =
    slice_get-map (post_of from places) first.actors k
    ∙ ap (option_map (post_of from places)) (ap (λ x. slice_get x.actors k) q ∙ at) in
    let z : 0 + k ≡ k = omega arith in
    ap (slice_get (posts_from s es from base places (first ∷ eras))) z
    ∙ (slice_get-append_left (map (post_of from places) first.actors)
    (posts_from s es (from + 1) (base + length first.actors) (places_after s es base places first) eras) k
    (post_of from places actor) here
    ∙ ap (λ n. Some (post_of n places actor)) (sym (add-zero from)))
posts_from_at s es from base places (first ∷ eras) (suc number) k era actor h at =
    let here : List Post = map (post_of from places) first.actors in
    let len : length here ≡ length first.actors = length-map first.actors (post_of from places) in
    let rest : List Post = posts_from s es (from + 1) (base + length first.actors)
    (places_after s es base places first) eras in
    let index : length first.actors + base_of eras number + k - length here ≡ base_of eras number + k = omega arith in
    let number_is : from + 1 + number ≡ from + suc number = omega arith in
    slice_get-back here rest (length first.actors + base_of eras number + k) (omega arith)
    ∙ (ap (slice_get rest) index
    ∙ (posts_from_at s es (from + 1) (base + length first.actors)
    (places_after s es base places first) eras number k era actor h at
    ∙ ap (λ n. Some (post_of n
    (places_at s es (base + length first.actors) (places_after s es base places first) eras number) actor))
    number_is))

-- the post of an epoch's actor
pub post_at : {F A : Type 0} (s : Setting F A) (es : List Entry) (number k : ℕ) (era : Era) (actor : Actor) →
    slice_get s.eras number ≡ Some era → slice_get era.actors k ≡ Some actor →
    slice_get (posts_of s es) (base_of s.eras number + k)
    ≡ Some (post_of number (places_at s es 0 (λ lane. 0) s.eras number) actor)
post_at s es number k era actor h at =
    posts_from_at s es 0 0 (λ lane. 0) s.eras number k era actor h at
    ∙ ap (λ n. Some (post_of n (places_at s es 0 (λ lane. 0) s.eras number) actor)) (zero-add number)

-- each incarnation with a post is of an epoch
pub posts_within : {F A : Type 0} (s : Setting F A) (es : List Entry) (from base : ℕ) (places : ℕ → ℕ)
    (eras : List Era) (i : ℕ) (post : Post) → slice_get (posts_from s es from base places eras) i ≡ Some post →
    era_of eras i < length eras
posts_within s es from base places [] i post h = absurd (cc)
posts_within s es from base places (first ∷ eras) i post h =
    let here : List Post = map (post_of from places) first.actors in
    let len : length here ≡ length first.actors = length-map first.actors (post_of from places) in
    let rest : List Post = posts_from s es (from + 1) (base + length first.actors)
    (places_after s es base places first) eras in
    elim (cases_lt i (length first.actors)) [
      | inl l ↦ let q : era_of (first ∷ eras) i ≡ 0 = era_of-first first eras i l in omega arith
      | inr l ↦
          let q : era_of (first ∷ eras) i ≡ era_of eras (i - length first.actors) + 1 = era_of-later first eras i l in
          let back : slice_get rest (i - length here) ≡ Some post = sym (slice_get-back here rest i (omega arith))
          ∙ h in
          let r : era_of eras (i - length first.actors) < length eras =
          posts_within s es (from + 1) (base + length first.actors) (places_after s es base places first) eras
          (i - length first.actors) post
          (subst (λ n. slice_get rest (i - n) ≡ Some post) len back) in
          omega arith
    ]
