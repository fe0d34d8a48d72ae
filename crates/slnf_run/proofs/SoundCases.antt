-- A setting of a case is sound where the function's own is.
use Rattle.std.proofs.Common.{◌≡◌, Option, Some, None, List, refl, ap, sym, ◌∙◌, subst}
use Rattle.slnf_base.specs.declared.packets.Verdict.{Verdict}
use Rattle.slnf_access.specs.declared.requests.Entry.{Entry}
use Rattle.slnf_access.specs.Machines.{Machine, Stand, Flies, Ends, stand_after, decided_at}
use Rattle.slnf_run.specs.Setting.{Setting}
use Rattle.slnf_run.specs.Images.{stand_as}
use Rattle.slnf_run.proofs.Images.{after_as, decided_as, path_as}
use Rattle.slnf_run.specs.OneBox.{EndsWell, CanMake, IsSound}
use Rattle.slnf_run.specs.Cases.{Case, case_machine, case_setting}
use Rattle.slnf_run.proofs.Cases.{machine_image, case_steady}

well_as : {F G : Type 0} (into : F → G) (st : Stand F) → EndsWell st → EndsWell (stand_as into st)
well_as into (Flies f) h = h
well_as into (Ends None) h = h
well_as into (Ends (Some verdict)) h = h

ends_as : {F G : Type 0} (into : F → G) (st : Stand F) (end : Option Verdict) → stand_as into st ≡ Ends end → st
    ≡ Ends end
ends_as into (Flies f) end h = absurd (cc)
ends_as into (Ends own) end h = cc

flies_as : {F G : Type 0} (into : F → G) (st : Stand F) (flight : G) → stand_as into st ≡ Flies flight → (own : F)
    × (st ≡ Flies own) × (into own ≡ flight)
flies_as into (Flies f) flight h = (f, refl, cc)
flies_as into (Ends own) flight h = absurd (cc)

module _ {F G A B : Type 0} (c : Case F G A B) where
  can_as : (m : Machine F) (st : Stand F) (own : List Entry) → CanMake (case_machine c m) (stand_as c.into st) own →
      CanMake m st own
  can_as m st own can = (path_as c.into m (case_machine c m) (machine_image c m) st own can.0, can.1)

  after : (m : Machine F) (st : Stand F) (own : List Entry) → stand_after (case_machine c m) (stand_as c.into st) own
      ≡ stand_as c.into (stand_after m st own)
  after m st own = after_as c.into m (case_machine c m) (machine_image c m) st own

  pub case_sound : (s : Setting F A) → IsSound s → IsSound (case_setting c s)
  case_sound s sound = record {
    steady = λ i. case_steady c (s.scene.machine i) (sound.steady i);
    undecided = λ i k first h.
        let r : (own : F) × (s.scene.begins i k ≡ Flies own) × (c.into own ≡ first) =
        flies_as c.into (s.scene.begins i k) first h in
        ap (case_machine c (s.scene.machine i)).decided (sym r.2) ∙ (machine_image c (s.scene.machine i)).decided r.0
        ∙ sound.undecided i k r.0 r.1;
    ends_well = λ i lane k actor own at on size can.
        subst EndsWell (sym (after (s.scene.machine i) (s.scene.begins i k) own))
        (well_as c.into (stand_after (s.scene.machine i) (s.scene.begins i k) own)
        (sound.ends_well i lane k actor own at on size
        (can_as (s.scene.machine i) (s.scene.begins i k) own can)));
    begins_dropped = λ i lane k actor verdict at on size ends.
        sound.begins_dropped i lane k actor verdict at on size
        (ends_as c.into (s.scene.begins i k) (Some verdict) ends);
    sweeps = λ i k actor own at none can.
        ap (decided_at (case_machine c (s.scene.machine i))) (after (s.scene.machine i) (s.scene.begins i k) own)
        ∙ decided_as c.into (s.scene.machine i) (case_machine c (s.scene.machine i))
        (machine_image c (s.scene.machine i)) (stand_after (s.scene.machine i) (s.scene.begins i k) own)
        ∙ sound.sweeps i k actor own at none (can_as (s.scene.machine i) (s.scene.begins i k) own can);
    lanes_once = sound.lanes_once;
  }
