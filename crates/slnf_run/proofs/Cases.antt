-- The machine and the scene of a case are images.
use Rattle.std.proofs.Common.{◌≡◌, Option, Some, None, List, [], ◌∷◌, map, refl, ap, ap₂, ◌∙◌}
use Rattle.slnf_access.specs.Machines.{Machine, decided_at}
use Rattle.slnf_run.specs.Scene.{Scene}
use Rattle.slnf_run.specs.Steady.{IsSteady}
use Rattle.slnf_run.specs.Images.{IsImage, IsSceneImage}
use Rattle.slnf_run.proofs.Images.{decided_as}
use Rattle.slnf_run.specs.Cases.{Case, case_asks, case_goes, case_decided, case_machine, case_place, case_arrival, case_scene, viewed}

module _ {F G A B : Type 0} (c : Case F G A B) where
  pub machine_image : (m : Machine F) → IsImage c.into m (case_machine c m)
  machine_image m = record {
    asks = λ flight. ap (case_asks m) (c.own_into flight);
    goes = λ flight reply. ap (λ own. case_goes c.into m own reply) (c.own_into flight);
    decided = λ flight. ap (case_decided m) (c.own_into flight);
  }

  -- a steady machine is one as a case
  pub case_steady : (m : Machine F) → IsSteady m → IsSteady (case_machine c m)
  case_steady m steady flight reply verdict = go (c.own flight)
    where
      go : (own : Option F) → case_decided m own ≡ Some verdict →
          decided_at (case_machine c m) (case_goes c.into m own reply) ≡ Some verdict
      go None h = absurd (cc)
      go (Some own) h =
          decided_as c.into m (case_machine c m) (machine_image m) (m.goes own reply) ∙ steady own reply verdict h

  view_all : (xs : List A) → map c.view (map c.seen xs) ≡ xs
  view_all [] = refl
  view_all (x ∷ xs) = ap₂ (λ y ys. y ∷ ys) (c.view_seen x) (view_all xs)

  -- the scene of a case is an image, as the case's box sees it
  pub scene_image : (s : Scene F A) → IsSceneImage c.into s (viewed c.view (case_scene c s))
  scene_image s = record {
    machine = λ i. machine_image (s.machine i);
    begins = λ i k. refl;
    place = λ es number flight verdict. ap (λ own. case_place s es number own verdict) (c.own_into flight);
    arrival = λ flight e. ap (λ own. c.view (case_arrival c s own e)) (c.own_into flight)
        ∙ c.view_seen (s.arrival flight e);
    removals = λ e. view_all (s.removals e);
  }
