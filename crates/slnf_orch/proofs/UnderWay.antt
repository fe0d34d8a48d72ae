-- An epoch ends: the run goes on behind it.
use Rattle.std.proofs.Common.{◌≡◌, ℕ, suc, ◌+◌, ◌≤◌, ◌<◌, Some, List, [], ◌∷◌, ◌++◌, length, slice_get, slice_index, option_map, refl, sym, ap, ◌∙◌, subst, arith}
use Rattle.std.specs.List.{repeat, AllByRecursion}
use Rattle.slnf_base.specs.declared.packets.Verdict.{Verdict}
use Rattle.slnf_access.specs.declared.requests.Entry.{Entry}
use Rattle.slnf_plan.specs.declared.plan.Epoch.{Epoch}
use Rattle.slnf_plan.specs.declared.plan.Plan.{Plan}
use Rattle.slnf_run.specs.Setting.{Era, Setting, era_of, base_of}
use Rattle.slnf_run.specs.Made.{Grown}
use Rattle.slnf_run.specs.Parts.{part_of, places_after}
use Rattle.slnf_run.specs.Scheduled.{usual_way, turns, round}
use Rattle.slnf_run.specs.SoFar.{Passes, IsSoFar}
use Rattle.slnf_run.specs.OneBox.{HasLanesOnce}
use Rattle.slnf_run.proofs.Growth.{Extends}
use Rattle.slnf_run.proofs.Pairing.{each-weaker}
use Rattle.slnf_run.proofs.Passing.{base_of-next, turns-append}
use Rattle.slnf_run.proofs.Turns.{IsWithin, turns_within}
use Rattle.std.proofs.lemmas.Option.{slice_get-map}
use Rattle.slnf_shards.specs.Shards.{AreEmpty}
use Rattle.slnf_shards.proofs.Laws.{begin_as_parts}
use Rattle.slnf_flight.specs.declared.flights.AnyFlight.{AnyFlight}
use Rattle.slnf_flight.specs.declared.lanes.Lane.{Lane}
use Rattle.slnf_flight.specs.Flights.{Arrival}
use Rattle.slnf_flight.specs.Actors.{instance_actor, era_of_epoch, eras_of}
use Rattle.slnf_flight.specs.Lanes.{packets_on}
use Rattle.slnf_flight.specs.PlanSetting.{setting_of}
use Rattle.slnf_crew.proofs.Fitting.{taken_fits}
use Rattle.slnf_crew.proofs.Laws.{lane_size}
use Rattle.slnf_orch.specs.Actors.{turns_in, HasHistories}
use Rattle.slnf_ledger.specs.Ledger.{verdicts_at, places_in, given_from}
use Rattle.slnf_orch.specs.Passing.{SameBefore, IsReady, IsUnderWay}
use Rattle.slnf_ledger.proofs.Giving.{job_there, given_on, given_is}
use Rattle.slnf_orch.proofs.Making.{made_first, made_next}
use Rattle.slnf_orch.proofs.Plain.{turns_plain}
use Rattle.slnf_orch.proofs.SettingOut.{stage_of}
use Rattle.slnf_ledger.proofs.Told.{told_first}
use Rattle.slnf_orch.proofs.Told.{told_behind, places_behind}

-- what holds of each entry holds of those that a rule adds
each_of_grown : (P : Entry → Type 0) (es tail : List Entry) → Grown (λ es e. P e) es tail → AllByRecursion P tail
each_of_grown P es [] h = tt
each_of_grown P es (e ∷ tail) h = (h.0, each_of_grown P (es ++ e ∷ []) tail h.1)

each_of_both : (P : Entry → Type 0) (es tail : List Entry) → AllByRecursion P es → AllByRecursion P tail →
    AllByRecursion P (es ++ tail)
each_of_both P [] tail h k = k
each_of_both P (e ∷ es) tail h k = (h.0, each_of_both P es tail h.1 k)

upto_of_within : (base count : ℕ) (es tail : List Entry) → Grown (λ es e. IsWithin base count e) es tail →
    AllByRecursion (λ e. e.incarnation < base + count) tail
upto_of_within base count es [] h = tt
upto_of_within base count es (e ∷ tail) h = (h.0.upto, upto_of_within base count (es ++ e ∷ []) tail h.1)

module _ {F A : Type 0} (s : Setting F A) (number base : ℕ) (places : ℕ → ℕ) (era : Era) (es : List Entry) where
  -- the accesses of the schedule and the rounds
  pub passes_of : (rounds : ℕ) (fs : List Entry) →
      fs ≡ turns_in (stage_of s number base places era) (repeat rounds (round era))
      (turns_in (stage_of s number base places era) era.schedule es) →
      fs ≡ turns s (usual_way s.eras) base places era (era.schedule ++ repeat rounds (round era)) es
  passes_of rounds fs is =
      is
      ∙ (turns_plain s (usual_way s.eras) base places era (repeat rounds (round era))
      (turns_in (stage_of s number base places era) era.schedule es)
      ∙ (ap (turns s (usual_way s.eras) base places era (repeat rounds (round era)))
      (turns_plain s (usual_way s.eras) base places era era.schedule es)
      ∙ sym (turns-append s (usual_way s.eras) base places era era.schedule (repeat rounds (round era)) es)))

  -- the shards stand ready for the next epoch
  ready_next : (numbers : List ℕ) (fs : List Entry) (histories : List (List Entry)) →
      fs ≡ turns s (usual_way s.eras) base places era numbers es →
      AllByRecursion (λ e. e.incarnation < base) es →
      HasHistories (stage_of s number base places era) fs histories →
      IsReady s fs (number + 1) (base + length era.actors) histories
  ready_next numbers fs histories is before h =
      let x : Extends (λ es e. IsWithin base (length era.actors) e) es
      (turns s (usual_way s.eras) base places era numbers es) =
      turns_within s (usual_way s.eras) base places era numbers es in
      record {
        count = h.count;
        parts = h.parts;
        within = h.within;
        latest = each-weaker (λ e. era_of s.eras e.incarnation ≤ number) (λ e. era_of s.eras e.incarnation < number + 1)
            (λ e l. let y : era_of s.eras e.incarnation ≤ number = l in omega arith) fs h.latest;
        before = subst (AllByRecursion (λ e. e.incarnation < base + length era.actors)) (sym (is ∙ x.whole))
            (each_of_both (λ e. e.incarnation < base + length era.actors) es x.tail
            (each-weaker (λ e. e.incarnation < base) (λ e. e.incarnation < base + length era.actors)
            (λ e l. let y : e.incarnation < base = l in omega arith) es before)
            (upto_of_within base (length era.actors) es x.tail x.grown));
      }

-- the epoch that a plan has
pub era_there : (plan : Plan) (number : ℕ) (epoch : Epoch) → slice_get plan.epochs number ≡ Some epoch →
    slice_get (eras_of plan.epochs) number ≡ Some (era_of_epoch epoch)
era_there plan number epoch at = slice_get-map era_of_epoch plan.epochs number ∙ ap (option_map era_of_epoch) at

module _ (plan : Plan) (lanes : List Lane) (number base : ℕ) (epoch : Epoch) (histories : List (List Entry))
    (ledger : List (List Verdict)) (at : slice_get plan.epochs number ≡ Some epoch)
    (h : IsUnderWay plan lanes number base histories ledger) where
  abbrev s : Setting AnyFlight Arrival
  s = setting_of plan lanes

  abbrev era : Era
  era = era_of_epoch epoch

  abbrev places : ℕ → ℕ
  places = places_in ledger

  -- what has been made when turns of the epoch were
  pub so_far : (numbers : List ℕ) → IsSoFar (setting_of plan lanes) (usual_way (eras_of plan.epochs)) number base
      (places_in ledger) (turns (setting_of plan lanes) (usual_way (eras_of plan.epochs)) base (places_in ledger)
      (era_of_epoch epoch) numbers h.list)
  so_far numbers = record {
    begun = h.list;
    passed = h.made.passed;
    era = era_of_epoch epoch;
    at = era_there plan number epoch at;
    numbers = numbers;
    turned = refl;
  }

  -- What the end of an epoch tells.
  pub record HasEnded (fs : List Entry) (after : List (List Verdict)) (next : List (List Entry)) : Type 0 where
    pub passes : Passes (setting_of plan lanes) (usual_way (eras_of plan.epochs)) base (places_in ledger)
        (era_of_epoch epoch) h.list fs
    pub kept : HasHistories (stage_of (setting_of plan lanes) number base (places_in ledger) (era_of_epoch epoch)) fs next
    pub given : (lane : ℕ) → verdicts_at after lane
        ≡ verdicts_at ledger lane
        ++ given_from (λ k i. job_there (setting_of plan lanes) (places_in ledger) (base + k) (instance_actor i))
        (λ k. part_of (base + k) fs) 0 epoch.instances lane

  pub under_way_next : (fs : List Entry) (after : List (List Verdict)) (next : List (List Entry)) →
      HasEnded fs after next → HasLanesOnce (era_of_epoch epoch).actors → length after ≡ length ledger →
      IsUnderWay plan lanes (number + 1) (base + length (era_of_epoch epoch).actors) next after
  under_way_next fs after next e once same =
      let up : suc number ≡ number + 1 = omega arith in
      let there : slice_get (eras_of plan.epochs) number ≡ Some (era_of_epoch epoch) = era_there plan number epoch at in
      let given : (lane : ℕ) → verdicts_at after lane
      ≡ verdicts_at ledger lane ++ given_on s fs (places_in ledger) lane base era.actors = λ lane.
      let first : base + 0 ≡ base = omega arith in
      e.given lane
      ∙ ap (λ l. verdicts_at ledger lane ++ l)
      (given_is s fs (places_in ledger) lane base 0 epoch.instances epoch.sweep
      ∙ ap (λ n. given_on s fs (places_in ledger) lane n era.actors) first) in
      let come : places_after s fs base (places_in ledger) era ≡ places_in after =
      places_behind s number base era h.list fs ledger after there e.passes given fs (λ i l. refl) in
      record {
        list = fs;
        base_is = ap (λ b. b + length era.actors) h.base_is
            ∙ (sym (base_of-next (eras_of plan.epochs) number era there) ∙ ap (base_of (eras_of plan.epochs)) up);
        ready = ready_next s number base (places_in ledger) era h.list
            (era.schedule ++ repeat e.passes.rounds (round era)) fs next e.passes.turned h.ready.before e.kept;
        made = made_next s number base (places_in ledger) (places_in after) era h.list fs there e.passes come h.made;
        told = told_behind s number base era h.list fs ledger after there e.passes given h.told once;
        fits = λ lane.
            let fit : places_in ledger lane ≤ length (packets_on lanes lane) = h.fits lane in
            let size : slice_index s.lanes lane ≡ length (packets_on lanes lane) = lane_size lanes lane in
            let taken : places_after s fs base (places_in ledger) era lane ≡ places_in after lane =
            ap (λ (p : ℕ → ℕ). p lane) come in
            let most = taken_fits s fs (places_in ledger) lane base era.actors once in
            omega (arith, most);
        lanes_are = same ∙ h.lanes_are;
      }

-- a run before its first epoch
pub under_way_first : (plan : Plan) (lanes : List Lane) (histories : List (List Entry)) (ledger : List (List Verdict)) →
    length histories ≡ plan.shards → 0 < plan.shards → AreEmpty histories → length ledger ≡ 32 →
    ((lane : ℕ) → verdicts_at ledger lane ≡ []) → IsUnderWay plan lanes 0 0 histories ledger
under_way_first plan lanes histories ledger count some empty lanes_are none = record {
  list = [];
  base_is = refl;
  ready = record {
    count = count;
    parts = begin_as_parts (era_of (eras_of plan.epochs)) histories (subst (λ n. 0 < n) (sym count) some) empty;
    within = tt;
    latest = tt;
    before = tt;
  };
  made = made_first (setting_of plan lanes) (places_in ledger) (λ lane. ap length (none lane));
  told = told_first (setting_of plan lanes) (SameBefore 0 []) ledger none;
  fits = λ lane. let none_yet : places_in ledger lane ≡ 0 = ap length (none lane) in omega arith;
  lanes_are = lanes_are;
}
