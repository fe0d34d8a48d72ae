-- An epoch begins: its actors stand before their first accesses, and there are stamps for all that they may make.
use Rattle.std.proofs.Common.{◌≡◌, ℕ, suc, zero, ◌+◌, ◌≤◌, ◌<◌, ◌^◌, Some, List, [], ◌∷◌, length, slice_get, refl, sym, ap, ◌∙◌, subst, arith}
use Rattle.std.specs.Prelude.{replicate}
use Rattle.std.specs.List.{AllByRecursion}
use Rattle.std.proofs.lemmas.Option.{same_Some, slice_get_within}
use Rattle.slnf_access.specs.declared.requests.Entry.{Entry}
use Rattle.slnf_run.specs.Setting.{Actor, Era, Setting, era_of, base_of}
use Rattle.slnf_run.specs.Jobs.{job_of}
use Rattle.slnf_run.specs.Made.{greatest_last}
use Rattle.slnf_run.specs.Parts.{part_of, at_lane}
use Rattle.slnf_run.specs.Scheduled.{usual_way, turns}
use Rattle.slnf_run.proofs.Pairing.{each-weaker}
use Rattle.slnf_run.proofs.Parting.{part_of-other}
use Rattle.slnf_run.proofs.Passing.{era_of-here}
use Rattle.slnf_shards.specs.Parts.{IsFirstClock}
use Rattle.slnf_instance.specs.Items.{Workload}
use Rattle.slnf_instance.specs.Instances.{Acting, StandsBy}
use Rattle.slnf_orch.specs.Actors.{Stage, at_work, AreStanding, HasRoom}
use Rattle.slnf_orch.specs.Passing.{IsReady}
use Rattle.slnf_orch.proofs.Plain.{plain, turns_plain}

-- an epoch of a setting, where lanes have come so far
abbrev pub stage_of : {F A : Type 0} → Setting F A → (number base : ℕ) → (ℕ → ℕ) → Era → Stage F
stage_of s number base places era =
    record { setting = plain s; number = number; base = base; places = places; era = era }

-- no incarnation of the epoch has an entry yet
no_part_yet : (base i : ℕ) (es : List Entry) → base ≤ i → AllByRecursion (λ e. e.incarnation < base) es →
    part_of i es ≡ []
no_part_yet base i [] l h = refl
no_part_yet base i (e ∷ es) l h =
    let before : e.incarnation < base = h.0 in
    part_of-other i e es (λ q. omega arith) ∙ no_part_yet base i es l h.1

replicate_at : (n c k x : ℕ) → slice_get (replicate n c) k ≡ Some x → x ≡ c
replicate_at zero c k x h = absurd (cc)
replicate_at (suc n) c zero x h = sym (same_Some c x h)
replicate_at (suc n) c (suc k) x h = replicate_at n c k x h

module _ {G F A : Type 0} (work : G → Workload F) (s : Setting F A) (es : List Entry) (number base : ℕ)
    (places : ℕ → ℕ) (era : Era) (histories : List (List Entry)) (crew : List (Acting G F)) (clocks : List ℕ) where
  pub standing_first : IsReady s es number base histories → base ≡ base_of s.eras number →
      slice_get s.eras number ≡ Some era → length crew ≡ length era.actors →
      length clocks ≡ length era.actors →
      ((k c : ℕ) → slice_get clocks k ≡ Some c → c ≡ greatest_last histories) → IsFirstClock →
      ((k : ℕ) (i : Acting G F) (actor : Actor) → slice_get crew k ≡ Some i → slice_get era.actors k ≡ Some actor →
      StandsBy work (job_of s (base + k) (at_lane places actor) actor) [] i) →
      AreStanding work (stage_of s number base places era) es (at_work base histories crew clocks)
  standing_first ready from at count clocks_count clocked first hired = record {
    base_is = refl;
    kept = record {
      count = ready.count;
      parts = ready.parts;
      within = ready.within;
      latest = each-weaker (λ e. era_of s.eras e.incarnation < number) (λ e. era_of s.eras e.incarnation ≤ number)
          (λ e l. let x : era_of s.eras e.incarnation < number = l in omega arith) es ready.latest;
    };
    count = count;
    clocks_are = clocks_count;
    each = λ k actor i now actor_at i_at now_at.
        let inside : k < length era.actors = slice_get_within era.actors k actor actor_at in
        let epoch : era_of s.eras (base + k) ≡ number =
        ap (λ b. era_of s.eras (b + k)) from ∙ era_of-here s.eras number k era at inside in
        record {
          epoch_is = epoch;
          stands = subst (λ part. StandsBy work (job_of s (base + k) (at_lane places actor) actor) part i)
              (sym (no_part_yet base (base + k) es (omega arith) ready.before)) (hired k i actor i_at actor_at);
          clock_is = clocked k now now_at
              ∙ sym (first (era_of s.eras) es histories (base + k) ready.parts
              (subst (λ n. AllByRecursion (λ e. era_of s.eras e.incarnation < n) es) (sym epoch) ready.latest));
        };
  }

  pub room_first : AreStanding work (stage_of s number base places era) es (at_work base histories crew clocks) →
      ((numbers : List ℕ) → length (turns s (usual_way s.eras) base places era numbers es) < 2 ^ 41) →
      HasRoom work (at_work base histories crew clocks)
  room_first stands few = record {
    stage = stage_of s number base places era;
    list = es;
    stands = stands;
    few = λ numbers. subst (λ l. length l < 2 ^ 41)
        (sym (turns_plain s (usual_way s.eras) base places era numbers es)) (few numbers);
  }

-- what stands in a list of one number
pub one_number : (clocks : List ℕ) (n c : ℕ) → clocks ≡ replicate n c → (k x : ℕ) → slice_get clocks k ≡ Some x →
    x ≡ c
one_number clocks n c is k x h = replicate_at n c k x (ap (λ l. slice_get l k) (sym is) ∙ h)
