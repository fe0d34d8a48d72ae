-- What the ledger tells behind an epoch.
use Rattle.std.proofs.Common.{◌≡◌, inl, inr, ℕ, suc, zero, ◌+◌, ◌-◌, ◌<◌, ◌≤◌, Some, None, List, [], ◌∷◌, ◌++◌, drop, length, map, slice_get, refl, sym, ap, ◌∙◌, arith}
use Rattle.std.proofs.Math.Path.{fun_ext}
use Rattle.std.proofs.lemmas.Bool.{cases_lt}
use Rattle.std.proofs.lemmas.List.{length-append}
use Rattle.slnf_base.specs.declared.packets.Verdict.{Verdict}
use Rattle.slnf_access.specs.declared.requests.Entry.{Entry}
use Rattle.slnf_run.specs.Setting.{Era, Setting}
use Rattle.slnf_run.specs.Parts.{places_after, Post, posts_from}
use Rattle.slnf_run.specs.Verdicts.{verdict_of, verdict_among}
use Rattle.slnf_run.specs.OneBox.{HasLanesOnce}
use Rattle.slnf_run.proofs.Passing.{drop_from}
use Rattle.slnf_ledger.specs.Ledger.{verdicts_at, places_in}
use Rattle.slnf_ledger.specs.Told.{IsToldSoFar}
use Rattle.slnf_ledger.proofs.Giving.{given_on, taken_on_is}
use Rattle.slnf_ledger.proofs.Leaving.{post_at, verdict_given, verdict_past}

pub at_left : {X : Type 0} (xs ys : List X) (n : ℕ) → n < length xs → slice_get (xs ++ ys) n ≡ slice_get xs n
at_left [] ys n l = absurd (omega arith)
at_left (x ∷ xs) ys zero l = refl
at_left (x ∷ xs) ys (suc n) l = at_left xs ys n (omega arith)

pub at_right : {X : Type 0} (xs ys : List X) (n : ℕ) → length xs ≤ n → slice_get (xs ++ ys) n
    ≡ slice_get ys (n - length xs)
at_right [] ys n l = let q : n ≡ n - 0 = omega arith in ap (slice_get ys) q
at_right (x ∷ xs) ys zero l = absurd (omega arith)
at_right (x ∷ xs) ys (suc n) l =
    let q : n - length xs ≡ suc n - suc (length xs) = omega arith in
    at_right xs ys n (omega arith) ∙ ap (slice_get ys) q

module _ {F A : Type 0} (s : Setting F A) (number base : ℕ) (era : Era) (Old New : List Entry → Type 0)
    (ledger after : List (List Verdict)) (at : slice_get s.eras number ≡ Some era)
    (keeps : (all : List Entry) → New all → Old all)
    (given : (all : List Entry) → New all → (lane : ℕ) → verdicts_at after lane
    ≡ verdicts_at ledger lane ++ given_on s all (places_in ledger) lane base era.actors) where
  -- how far lanes have come
  pub places_next : (all : List Entry) → New all →
      places_after s all base (places_in ledger) era ≡ places_in after
  places_next all same = fun_ext (λ lane.
      ap (λ n. places_in ledger lane + n) (taken_on_is s all (places_in ledger) lane base era.actors)
      ∙ (sym (length-append (verdicts_at ledger lane) (given_on s all (places_in ledger) lane base era.actors))
      ∙ ap length (sym (given all same lane))))

  -- the posts of the epoch, and of later ones
  abbrev rest_posts : List Entry → List Post
  rest_posts all = posts_from s all (number + 1) (base + length era.actors) (places_in after) (drop (number + 1) s.eras)

  posts_next : (all : List Entry) → New all →
      posts_from s all number base (places_in ledger) (drop number s.eras)
      ≡ map (post_at number (places_in ledger)) era.actors ++ rest_posts all
  posts_next all same =
      let next : suc number ≡ number + 1 = omega arith in
      ap (posts_from s all number base (places_in ledger))
      (drop_from s.eras number era at ∙ ap (λ k. era ∷ drop k s.eras) next)
      ∙ ap (λ places. map (post_at number (places_in ledger)) era.actors
      ++ posts_from s all (number + 1) (base + length era.actors) places (drop (number + 1) s.eras))
      (places_next all same)

  given_next : IsToldSoFar s Old number base ledger → HasLanesOnce era.actors → (all : List Entry) →
      New all → (lane n : ℕ) (v : Verdict) →
      slice_get (verdicts_at after lane) n ≡ Some v → v ≡ verdict_of s all lane n
  given_next told once all same lane n v there =
      let here : slice_get (verdicts_at ledger lane
      ++ given_on s all (places_in ledger) lane base era.actors) n ≡ Some v =
      ap (λ l. slice_get l n) (sym (given all same lane)) ∙ there in
      elim (cases_lt n (places_in ledger lane)) [
        | inl l ↦ told.given all (keeps all same) lane n v
            (sym (at_left (verdicts_at ledger lane) (given_on s all (places_in ledger) lane base era.actors) n l) ∙ here)
        | inr l ↦
            let q : places_in ledger lane + (n - places_in ledger lane) ≡ n = omega arith in
            verdict_given s all number (places_in ledger) lane (n - places_in ledger lane) base v era.actors
            (rest_posts all) once
            (sym (at_right (verdicts_at ledger lane) (given_on s all (places_in ledger) lane base era.actors) n l)
            ∙ here)
            ∙ (ap (λ k. verdict_among s all lane k base
            (map (post_at number (places_in ledger)) era.actors ++ rest_posts all)) q
            ∙ (ap (verdict_among s all lane n base) (sym (posts_next all same))
            ∙ sym (told.rest all (keeps all same) lane n l)))
      ]

  rest_next : IsToldSoFar s Old number base ledger → (all : List Entry) →
      New all → (lane n : ℕ) → places_in after lane ≤ n →
      verdict_of s all lane n ≡ verdict_among s all lane n (base + length era.actors) (rest_posts all)
  rest_next told all same lane n l =
      let all_given : List Verdict = given_on s all (places_in ledger) lane base era.actors in
      let count : places_in after lane ≡ places_in ledger lane + length all_given =
      ap length (given all same lane) ∙ length-append (verdicts_at ledger lane) all_given in
      let q : places_in ledger lane + (n - places_in ledger lane) ≡ n = omega arith in
      told.rest all (keeps all same) lane n (omega arith)
      ∙ (ap (verdict_among s all lane n base) (posts_next all same)
      ∙ (ap (λ k. verdict_among s all lane k base
      (map (post_at number (places_in ledger)) era.actors ++ rest_posts all)) (sym q)
      ∙ (verdict_past s all number (places_in ledger) lane (n - places_in ledger lane) base era.actors (rest_posts all)
      (omega arith)
      ∙ ap (λ k. verdict_among s all lane k (base + length era.actors) (rest_posts all)) q)))

  -- the ledger tells of the packets that were taken up to now
  pub told_next : IsToldSoFar s Old number base ledger → HasLanesOnce era.actors →
      IsToldSoFar s New (number + 1) (base + length era.actors) after
  told_next told once = record {
    given = given_next told once;
    rest = rest_next told;
  }

-- before the first epoch it tells nothing
pub told_first : {F A : Type 0} (s : Setting F A) (GoesOn : List Entry → Type 0) (ledger : List (List Verdict)) →
    ((lane : ℕ) → verdicts_at ledger lane ≡ []) → IsToldSoFar s GoesOn 0 0 ledger
told_first s GoesOn ledger none = record {
  given = λ all same lane n v there.
      let q : slice_get (verdicts_at ledger lane) n ≡ None = ap (λ l. slice_get l n) (none lane) in absurd (cc);
  rest = λ all same lane n l. ap (λ places. verdict_among s all lane n 0 (posts_from s all 0 0 places s.eras))
      (sym (fun_ext (λ lane. ap length (none lane))));
}
