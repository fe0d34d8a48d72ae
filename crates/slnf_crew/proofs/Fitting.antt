-- No lane comes farther than its packets by the actors of one epoch.
use Rattle.std.proofs.Common.{◌≡◌, ◌⊎◌, inl, inr, ℕ, suc, ◌+◌, ◌-◌, ◌≤◌, Bool, true, false, if◌then◌else◌, Some, List, [], ◌∷◌, length, slice_get, slice_index, refl, ap, ◌∙◌, arith}
use Rattle.std.proofs.lemmas.Bool.{cond-true, cond-false}
use Rattle.slnf_access.specs.declared.requests.Entry.{Entry}
use Rattle.slnf_run.specs.Setting.{Actor, Setting, is_on}
use Rattle.slnf_run.specs.Parts.{part_of, at_lane, taken_on, taken_of, offers_of}
use Rattle.slnf_run.specs.OneBox.{HasLanesOnce}
use Rattle.slnf_run.proofs.LanePosts.{at_of_lane}
use Rattle.slnf_run.proofs.TakenRows.{taken_most}

-- none of these is on the lane
abbrev NoneOn : ℕ → List Actor → Type 0
NoneOn lane actors = (k : ℕ) (actor : Actor) → slice_get actors k ≡ Some actor → is_on lane actor ≡ true → ⊥

-- the others aren't on the first one's lane
none_on : (lane : ℕ) (actor : Actor) (actors : List Actor) → HasLanesOnce (actor ∷ actors) → is_on lane actor ≡ true →
    NoneOn lane actors
none_on lane actor actors once on k other at there =
    let same : 0 ≡ suc k = once lane 0 (suc k) actor other refl at on there in omega arith

-- and are apart themselves
rest_once : (actor : Actor) (actors : List Actor) → HasLanesOnce (actor ∷ actors) → HasLanesOnce actors
rest_once actor actors once lane i k a b at_a at_b on_a on_b =
    let same : suc i ≡ suc k = once lane (suc i) (suc k) a b at_a at_b on_a on_b in omega arith

not_so : (b : Bool) → (b ≡ true → ⊥) → b ≡ false
not_so true h = absurd (h refl)
not_so false h = refl

either_way : (b : Bool) → (b ≡ true) ⊎ (b ≡ false)
either_way true = inl refl
either_way false = inr refl

module _ {F A : Type 0} (s : Setting F A) (es : List Entry) (places : ℕ → ℕ) (lane : ℕ) where
  -- actors that aren't on the lane take nothing of it
  none_taken : (i : ℕ) (actors : List Actor) → NoneOn lane actors → taken_on s es i places lane actors ≡ 0
  none_taken i [] none = refl
  none_taken i (actor ∷ actors) none =
      ap (λ n. n + taken_on s es (i + 1) places lane actors)
      (cond-false (is_on lane actor)
      (length (taken_of actor (part_of i es) (offers_of s i (at_lane places actor) actor))) 0
      (not_so (is_on lane actor) (none 0 actor refl)))
      ∙ (let rest : taken_on s es (i + 1) places lane actors ≡ 0 =
      none_taken (i + 1) actors (λ k other at there. none (suc k) other at there) in omega arith)

  -- the one that is takes at most what is left
  pub taken_fits : (i : ℕ) (actors : List Actor) → HasLanesOnce actors →
      taken_on s es i places lane actors ≤ slice_index s.lanes lane - places lane
  taken_fits i [] once = omega arith
  taken_fits i (actor ∷ actors) once =
      let mine : ℕ = length (taken_of actor (part_of i es) (offers_of s i (at_lane places actor) actor)) in
      elim (either_way (is_on lane actor)) [
        | inl on ↦
            let at : at_lane places actor ≡ places lane = at_of_lane places lane actor on in
            let most : mine ≤ slice_index s.lanes lane - at_lane places actor =
            taken_most s es lane i (at_lane places actor) actor on in
            let first : (if is_on lane actor then mine else 0) ≡ mine = cond-true (is_on lane actor) mine 0 on in
            let rest : taken_on s es (i + 1) places lane actors ≡ 0 =
            none_taken (i + 1) actors (none_on lane actor actors once on) in
            omega arith
        | inr off ↦
            let first : (if is_on lane actor then mine else 0) ≡ 0 = cond-false (is_on lane actor) mine 0 off in
            let rest : taken_on s es (i + 1) places lane actors ≤ slice_index s.lanes lane - places lane =
            taken_fits (i + 1) actors (rest_once actor actors once) in
            omega arith
      ]
