-- The accesses so far, from epoch to epoch, and what they are in the end.
use Rattle.std.proofs.Common.{◌≡◌, ℕ, suc, ◌+◌, ◌≤◌, Some, List, [], ◌∷◌, drop, length, slice_get, refl, sym, ap, ◌∙◌, subst, arith}
use Rattle.std.proofs.Math.Path.{fun_ext}
use Rattle.std.proofs.lemmas.List.{drop_all}
use Rattle.slnf_access.specs.declared.requests.Entry.{Entry}
use Rattle.slnf_run.specs.Setting.{Era, Setting}
use Rattle.slnf_run.specs.Parts.{places_after}
use Rattle.slnf_run.specs.Scheduled.{usual_way, by_rounds, NobodyWants, Makes}
use Rattle.slnf_run.specs.SoFar.{Passes, HavePassed}
use Rattle.slnf_run.proofs.Passing.{drop_from}
use Rattle.slnf_orch.specs.Passing.{IsMadeSoFar}

module _ {F A : Type 0} (s : Setting F A) where
  -- before the first epoch there are none
  pub made_first : (places : ℕ → ℕ) → ((lane : ℕ) → places lane ≡ 0) → IsMadeSoFar s [] 0 0 places
  made_first places none = record {
    passed = (refl, none, refl);
    makes = λ all h. subst (λ p. Makes s (usual_way s.eras) 0 p s.eras [] all) (fun_ext none) h;
  }

  -- an epoch makes more
  pub made_next : (number base : ℕ) (places next : ℕ → ℕ) (era : Era) (es fs : List Entry) →
      slice_get s.eras number ≡ Some era → Passes s (usual_way s.eras) base places era es fs →
      places_after s fs base places era ≡ next → IsMadeSoFar s es number base places →
      IsMadeSoFar s fs (number + 1) (base + length era.actors) next
  made_next number base places next era es fs at passes come h =
      let up : suc number ≡ number + 1 = omega arith in
      let front : drop number s.eras ≡ era ∷ drop (number + 1) s.eras =
      drop_from s.eras number era at ∙ ap (λ k. era ∷ drop k s.eras) up in
      record {
        passed = subst (λ k. HavePassed s (usual_way s.eras) k (base + length era.actors) next fs) up
            (base, places, era, es, h.passed, at, passes, refl, λ lane. ap (λ (p : ℕ → ℕ). p lane) (sym come));
        makes = λ all more. h.makes all
            (subst (λ eras. Makes s (usual_way s.eras) base places eras es all) (sym front) (
              passes.rounds,
              subst (λ l. NobodyWants s by_rounds places l base era.actors
                  × Makes s (usual_way s.eras) (base + length era.actors) (places_after s l base places era)
                  (drop (number + 1) s.eras) l all) passes.turned (
                    passes.nothing,
                    subst (λ p. Makes s (usual_way s.eras) (base + length era.actors) p
                        (drop (number + 1) s.eras) fs all) (sym come) more,
                  ),
            ));
      }

  -- behind the last epoch they are all
  pub made_last : (number base : ℕ) (places : ℕ → ℕ) (es : List Entry) → length s.eras ≤ number →
      IsMadeSoFar s es number base places → Makes s (usual_way s.eras) 0 (λ lane. 0) s.eras [] es
  made_last number base places es end h =
      h.makes es (subst (λ eras. Makes s (usual_way s.eras) base places eras es es)
      (sym (drop_all number s.eras end)) refl)
