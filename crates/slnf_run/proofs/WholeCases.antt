-- A box explains each run of a case with all that is written, where it explains the function's own lists.
use Rattle.std.proofs.Common.{◌≡◌, ℕ, Option, Some, None, List, refl}
use Rattle.slnf_base.specs.declared.packets.Verdict.{Verdict}
use Rattle.slnf_access.specs.declared.requests.Entry.{Entry}
use Rattle.slnf_access.specs.Map.{Cells}
use Rattle.slnf_run.specs.Scene.{own_of}
use Rattle.slnf_run.specs.Setting.{Setting}
use Rattle.slnf_run.specs.Run.{IsRun}
use Rattle.slnf_run.specs.Keeps.{HasPaths}
use Rattle.slnf_run.specs.Boxes.{Box, IsExplained}
use Rattle.slnf_run.proofs.Images.{path_as, explained_as}
use Rattle.slnf_run.proofs.Runs.{paths_of_run}
use Rattle.slnf_run.specs.OneBox.{IsSound, HasPlaces, IsOneBoxWhole}
use Rattle.slnf_run.proofs.Whole.{places_at_decider, one_box_whole}
use Rattle.slnf_run.specs.Cases.{Case, case_machine, case_place, case_scene, viewed, box_through, case_setting}
use Rattle.slnf_run.proofs.Cases.{machine_image, scene_image}
use Rattle.slnf_run.proofs.Views.{explained_view}
use Rattle.slnf_run.proofs.SoundCases.{case_sound}

module _ {F G A B : Type 0} (c : Case F G A B) (s : Setting F A) (es : List Entry) where
  -- the paths of a case are the function's
  pub own_paths : HasPaths (case_scene c s.scene) es → HasPaths s.scene es
  own_paths paths i k =
      path_as c.into (s.scene.machine i) (case_machine c (s.scene.machine i)) (machine_image c (s.scene.machine i))
      (s.scene.begins i k) (own_of i k es) (paths i k)

  pub case_paths : IsRun (case_setting c s) es → HasPaths s.scene es
  case_paths run = own_paths (paths_of_run (case_setting c s) es run)

  pub case_explained : {C : Type 0} (box : Box A C) (Same : C → Cells → Type 0) → IsExplained s.scene box Same es →
      IsExplained (case_scene c s.scene) (box_through c.view box) Same es
  case_explained box Same explained =
      explained_view c.view (case_scene c s.scene) box Same es
      (explained_as c.into s.scene (viewed c.view (case_scene c s.scene))
      (scene_image c s.scene) box Same es explained)

  -- where each packet's place is its deciding entry, it is so in a case
  pub case_places : ((es : List Entry) (number : ℕ) (first : F) (verdict : Verdict) →
      s.scene.place es number first verdict ≡ number) → HasPlaces (case_scene c s.scene) es
  case_places here = places_at_decider (case_scene c s.scene) es
      (λ es number first verdict. go es number verdict (c.own first))
    where
      go : (es : List Entry) (number : ℕ) (verdict : Verdict) (own : Option F) →
          case_place s.scene es number own verdict ≡ number
      go es number verdict None = refl
      go es number verdict (Some first) = here es number first verdict

  pub case_whole : {C : Type 0} (box : Box A C) (Same : C → Cells → Type 0) → IsSound s →
      HasPlaces (case_scene c s.scene) es → IsRun (case_setting c s) es → IsExplained s.scene box Same es →
      IsOneBoxWhole (case_setting c s) (box_through c.view box) Same es
  case_whole box Same sound places run explained =
      one_box_whole (case_setting c s) (box_through c.view box) Same es (case_sound c s sound) run places
      (case_explained box Same explained)
