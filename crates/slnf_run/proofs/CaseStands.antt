-- Where items stand in the scene of a case, and what is decided there.
use Rattle.std.proofs.Common.{◌≡◌, ℕ, Option, Some, None, List, refl, ap, sym, ◌∙◌}
use Rattle.std.specs.Option.{option_map}
use Rattle.std.proofs.lemmas.Option.{same_Some}
use Rattle.slnf_access.specs.declared.requests.Entry.{Entry}
use Rattle.slnf_access.specs.Machines.{Stand, Flies, Ends}
use Rattle.slnf_run.specs.Scene.{Scene, own_of, stand_of}
use Rattle.slnf_run.specs.Visits.{Decision, decision_at}
use Rattle.slnf_run.specs.Images.{stand_as}
use Rattle.slnf_run.proofs.Images.{after_as, decision_as, decision_at_as}
use Rattle.slnf_run.proofs.NextAccess.{same_flight}
use Rattle.slnf_run.specs.Cases.{Case, case_machine, case_scene, viewed}
use Rattle.slnf_run.proofs.Cases.{machine_image, scene_image}

-- A decision of the case's scene, as the function's.
pub record IsOwnDecision {F G : Type 0} (into : F → G) (o : Option (Decision F)) (x : Decision G) : Type 0 where
  pub own : Decision F
  pub there : o ≡ Some own
  pub first : into own.first ≡ x.first
  pub verdict : own.verdict ≡ x.verdict

own_of_mapped : {F G : Type 0} (into : F → G) (o : Option (Decision F)) (x : Decision G) →
    option_map (decision_as into) o ≡ Some x → IsOwnDecision into o x
own_of_mapped into None x h = absurd (cc)
own_of_mapped {G = G} into (Some own) x h =
    let same : decision_as into own ≡ x = same_Some (decision_as into own) x h in
    record {
      own = own;
      there = refl;
      first = ap (λ (y : Decision G). y.first) same;
      verdict =
          ap (λ (y : Decision G). y.verdict) same;
    }

module _ {F G A B : Type 0} (c : Case F G A B) (s : Scene F A) where
  pub case_stand : (i k : ℕ) (es : List Entry) → stand_of (case_scene c s) i k es
      ≡ stand_as c.into (stand_of s i k es)
  case_stand i k es = after_as c.into (s.machine i) (case_machine c (s.machine i)) (machine_image c (s.machine i))
      (s.begins i k) (own_of i k es)

  -- an item that flies as the case's flight is the function's
  flies_own : (st : Stand F) (flight : F) → stand_as c.into st ≡ Flies (c.into flight) → st ≡ Flies flight
  flies_own (Flies own) flight h =
      ap (λ f. Flies f) (same_Some own flight (sym (c.own_into own)
      ∙ ap c.own (same_flight (c.into own) (c.into flight) h) ∙ c.own_into flight))
  flies_own (Ends end) flight h = absurd (cc)

  pub case_flies : (i k : ℕ) (es : List Entry) (flight : F) → stand_of (case_scene c s) i k es
      ≡ Flies (c.into flight) → stand_of s i k es ≡ Flies flight
  case_flies i k es flight h = flies_own (stand_of s i k es) flight (sym (case_stand i k es) ∙ h)

  pub case_decision : (es : List Entry) (d : ℕ) (x : Decision G) → decision_at (case_scene c s) es d ≡ Some x →
      IsOwnDecision c.into (decision_at s es d) x
  case_decision es d x h = own_of_mapped c.into (decision_at s es d) x
      (sym (decision_at_as c.into s (viewed c.view (case_scene c s)) (scene_image c s) es d) ∙ h)
