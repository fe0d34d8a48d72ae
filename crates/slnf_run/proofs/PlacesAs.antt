-- Places of a function's own scene are places of one that has its flights as a case.
use Rattle.std.proofs.Common.{◌≡◌, Option, Some, None, List, refl, sym, ◌∙◌, subst}
use Rattle.std.specs.Option.{option_map}
use Rattle.std.proofs.lemmas.Option.{same_Some}
use Rattle.slnf_access.specs.declared.requests.Entry.{Entry}
use Rattle.slnf_run.specs.Scene.{Scene}
use Rattle.slnf_run.specs.Visits.{Decision, decision_at}
use Rattle.slnf_run.specs.Images.{IsSceneImage}
use Rattle.slnf_run.proofs.Images.{decision_as, decision_at_as}
use Rattle.slnf_run.specs.OneBox.{IsWithin, HasPlaces}

pub places_as : {F G A : Type 0} (into : F → G) (s : Scene F A) (t : Scene G A) → IsSceneImage into s t →
    (es : List Entry) → HasPlaces s es → HasPlaces t es
places_as {F = F} {G = G} into s t image es places d e y at decided =
    go (decision_at s es d) refl (sym (decision_at_as into s t image es d) ∙ decided)
  where
    go : (o : Option (Decision F)) → decision_at s es d ≡ o → option_map (decision_as into) o ≡ Some y →
        IsWithin es d e (t.place es d y.first y.verdict)
    go None w h = absurd (cc)
    go (Some x) w h =
        let one : decision_as into x ≡ y = same_Some (decision_as into x) y h in
        subst (λ (z : Decision G). IsWithin es d e (t.place es d z.first z.verdict)) one
        (subst (IsWithin es d e) (sym (image.place es d x.first x.verdict)) (places d e x at w))
