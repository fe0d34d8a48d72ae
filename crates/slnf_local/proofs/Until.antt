-- Posts depend on the parts of earlier epochs alone.
use Rattle.std.proofs.Common.{◌≡◌, inl, inr, ℕ, zero, suc, ◌+◌, ◌-◌, ◌<◌, ◌≤◌, List, [], ◌∷◌, ◌++◌, length, map, slice_get, refl, sym, ap, ◌∙◌, subst, arith, append-nil}
use Rattle.std.specs.List.{AllByRecursion}
use Rattle.std.proofs.lemmas.Bool.{cases_lt}
use Rattle.std.proofs.lemmas.List.{length-map}
use Rattle.slnf_access.specs.declared.requests.Entry.{Entry}
use Rattle.slnf_run.specs.Setting.{Era, Setting, era_of}
use Rattle.slnf_run.specs.Parts.{part_of, places_after, posts_from, posts_of}
use Rattle.slnf_run.proofs.Parting.{part_of-append, part_of-other, places_after-same, post_of}
use Rattle.slnf_run.proofs.Lists.{slice_get-append_right}
use Rattle.slnf_run.proofs.Epochs.{era_of-first, era_of-later}

-- incarnations behind the first epoch
pub era_of-behind : (era : Era) (eras : List Era) (k : ℕ) →
    era_of (era ∷ eras) (length era.actors + k) ≡ era_of eras k + 1
era_of-behind era eras k =
    let q : length era.actors + k - length era.actors ≡ k = omega arith in
    era_of-later era eras (length era.actors + k) (omega arith) ∙ ap (λ n. era_of eras n + 1) q

-- an element of a front, whatever stands behind it
pub slice_get-front : {X : Type 0} (xs ys zs : List X) (k : ℕ) → k < length xs →
    slice_get (xs ++ ys) k ≡ slice_get (xs ++ zs) k
slice_get-front [] ys zs k l = absurd (omega arith)
slice_get-front (x ∷ xs) ys zs zero l = refl
slice_get-front (x ∷ xs) ys zs (suc k) l = slice_get-front xs ys zs k (omega arith)

-- an element of a back
pub slice_get-back : {X : Type 0} (xs ys : List X) (k : ℕ) → length xs ≤ k →
    slice_get (xs ++ ys) k ≡ slice_get ys (k - length xs)
slice_get-back xs ys k l =
    let q : length xs + (k - length xs) ≡ k = omega arith in
    subst (λ n. slice_get (xs ++ ys) n ≡ slice_get ys (k - length xs)) q (slice_get-append_right xs ys (k - length xs))

-- the post of the i-th incarnation from here
pub posts_from-until : {F A : Type 0} (s : Setting F A) (es fs : List Entry) (number base : ℕ) (places : ℕ → ℕ)
    (eras : List Era) (i : ℕ) → ((k : ℕ) → k < base → part_of k es ≡ part_of k fs) →
    ((k : ℕ) → era_of eras k < era_of eras i → part_of (base + k) es ≡ part_of (base + k) fs) →
    slice_get (posts_from s es number base places eras) i ≡ slice_get (posts_from s fs number base places eras) i
posts_from-until s es fs number base places [] i before same = refl
posts_from-until s es fs number base places (era ∷ eras) i before same =
    let count : ℕ = length era.actors in
    let here : List _ = map (post_of number places) era.actors in
    let len : length here ≡ count = length-map era.actors (post_of number places) in
    elim (cases_lt i count) [
      | inl first ↦
          slice_get-front here (posts_from s es (number + 1) (base + count) (places_after s es base places era) eras)
          (posts_from s fs (number + 1) (base + count) (places_after s fs base places era) eras) i
          (subst (λ n. i < n) (sym len) first)
      | inr later ↦
          let here_era : era_of (era ∷ eras) i ≡ era_of eras (i - count) + 1 = era_of-later era eras i later in
          let earlier : (k : ℕ) → k < base + count → part_of k es ≡ part_of k fs =
          λ k l. elim (cases_lt k base) [
            | inl b ↦ before k b
            | inr b ↦
                let q : base + (k - base) ≡ k = omega arith in
                let z : era_of (era ∷ eras) (k - base) ≡ 0 = era_of-first era eras (k - base) (omega arith) in
                subst (λ n. part_of n es ≡ part_of n fs) q (same (k - base) (omega arith))
          ] in
          let lanes : places_after s es base places era ≡ places_after s fs base places era =
          places_after-same s es fs base places era earlier in
          let rest : slice_get (posts_from s es (number + 1) (base + count) (places_after s fs base places era) eras)
          (i - count) ≡ slice_get (posts_from s fs (number + 1) (base + count)
          (places_after s fs base places era) eras) (i - count) =
          posts_from-until s es fs (number + 1) (base + count) (places_after s fs base places era) eras
          (i - count) earlier
          (λ k l.
          let q : base + (count + k) ≡ base + count + k = omega arith in
          let z : era_of (era ∷ eras) (count + k) ≡ era_of eras k + 1 = era_of-behind era eras k in
          subst (λ n. part_of n es ≡ part_of n fs) q (same (count + k) (omega arith))) in
          let back : (ps : List _) → slice_get (here ++ ps) i ≡ slice_get ps (i - count) =
          λ ps. subst (λ n. slice_get (here ++ ps) i ≡ slice_get ps (i - n)) len
          (slice_get-back here ps i (subst (λ n. n ≤ i) (sym len) later)) in
          back (posts_from s es (number + 1) (base + count) (places_after s es base places era) eras)
          ∙ (ap (λ q. slice_get (posts_from s es (number + 1) (base + count) q eras) (i - count)) lanes
          ∙ (rest ∙ sym (back (posts_from s fs (number + 1) (base + count) (places_after s fs base places era) eras))))
    ]

-- two lists with the same parts of earlier epochs give an incarnation the same post
pub posts_of-until : {F A : Type 0} (s : Setting F A) (es fs : List Entry) (i : ℕ) →
    ((k : ℕ) → era_of s.eras k < era_of s.eras i → part_of k es ≡ part_of k fs) →
    slice_get (posts_of s es) i ≡ slice_get (posts_of s fs) i
posts_of-until s es fs i same =
    posts_from-until s es fs 0 0 (λ lane. 0) s.eras i (λ k l. absurd (omega arith))
    (λ k l. let q : k ≡ 0 + k = omega arith in subst (λ n. part_of n es ≡ part_of n fs) q (same k l))

-- entries of an epoch and later ones leave the parts of earlier epochs
pub part_of-eras : {F A : Type 0} (s : Setting F A) (era i : ℕ) (tail : List Entry) → era_of s.eras i < era →
    AllByRecursion (λ e. era ≤ era_of s.eras e.incarnation) tail → part_of i tail ≡ []
part_of-eras s era i [] l h = refl
part_of-eras s era i (e ∷ tail) l h =
    part_of-other i e tail (λ k. let q : era ≤ era_of s.eras i = subst (λ n. era ≤ era_of s.eras n) k h.0 in
    omega arith)
    ∙ part_of-eras s era i tail l h.1

pub part_of-earlier : {F A : Type 0} (s : Setting F A) (era i : ℕ) (es tail : List Entry) → era_of s.eras i < era →
    AllByRecursion (λ e. era ≤ era_of s.eras e.incarnation) tail → part_of i (es ++ tail) ≡ part_of i es
part_of-earlier s era i es tail l h =
    part_of-append i es tail
    ∙ (ap (λ p. part_of i es ++ p) (part_of-eras s era i tail l h) ∙ append-nil (part_of i es))
