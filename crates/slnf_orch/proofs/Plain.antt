-- A setting without what boxes see: its turns and its wishes are the same.
use Rattle.std.proofs.Common.{◌≡◌, ℕ, ◌+◌, Bool, Option, Some, None, List, [], ◌∷◌, slice_get, refl, ap, ◌∙◌}
use Rattle.slnf_access.specs.declared.requests.Entry.{Entry}
use Rattle.slnf_access.specs.declared.requests.Ask.{Ask}
use Rattle.slnf_run.specs.Cases.{viewed}
use Rattle.slnf_run.specs.Setting.{Actor, Era, Setting}
use Rattle.slnf_run.specs.Jobs.{Wish}
use Rattle.slnf_run.specs.Parts.{at_lane}
use Rattle.slnf_run.specs.Scheduled.{Way, wanted, with_access, turn_of, turn, turns, NobodyWants}

-- the setting, where a box sees nothing of an item
abbrev pub plain : {F A : Type 0} → Setting F A → Setting F (Unit {0})
plain s = record {
  shards = s.shards;
  batch = s.batch;
  lanes = s.lanes;
  sweep_items = s.sweep_items;
  eras = s.eras;
  scene = viewed (λ arrival. tt) s.scene;
}

module _ {F A : Type 0} (s : Setting F A) (way : Way) (base : ℕ) (places : ℕ → ℕ) where
  access_plain : (es : List Entry) (i : ℕ) (o : Option Ask) → with_access (plain s) way es i o
      ≡ with_access s way es i o
  access_plain es i None = refl
  access_plain es i (Some ask) = refl

  turn_plain : (es : List Entry) (number : ℕ) (o : Option Actor) → turn_of (plain s) way base places es number o
      ≡ turn_of s way base places es number o
  turn_plain es number None = refl
  turn_plain es number (Some actor) = access_plain es (base + number)
      (wanted s way.comes_before es (base + number) (at_lane places actor) actor)

  pub turns_plain : (era : Era) (numbers : List ℕ) (es : List Entry) → turns (plain s) way base places era numbers es
      ≡ turns s way base places era numbers es
  turns_plain era [] es = refl
  turns_plain era (number ∷ numbers) es =
      ap (turns (plain s) way base places era numbers) (turn_plain es number (slice_get era.actors number))
      ∙ turns_plain era numbers (turn s way base places era es number)

pub nobody_plain : {F A : Type 0} (s : Setting F A) (comes_before : Wish → Wish → Bool) (places : ℕ → ℕ)
    (es : List Entry) (i : ℕ) (actors : List Actor) → NobodyWants (plain s) comes_before places es i actors →
    NobodyWants s comes_before places es i actors
nobody_plain s comes_before places es i [] h = tt
nobody_plain s comes_before places es i (actor ∷ actors) h =
    (h.0, nobody_plain s comes_before places es (i + 1) actors h.1)
