-- All epochs have passed: the journal, and the verdicts of all packets.
use Rattle.std.proofs.Common.{◌≡◌, ℕ, ◌≤◌, List, [], length, refl, sym, ap, ◌∙◌, subst, arith}
use Rattle.std.proofs.lemmas.List.{length-map}
use Rattle.slnf_base.specs.declared.packets.Verdict.{Verdict}
use Rattle.slnf_access.specs.declared.requests.Entry.{Entry}
use Rattle.slnf_plan.specs.declared.plan.Plan.{Plan}
use Rattle.slnf_run.specs.Setting.{Setting, era_of}
use Rattle.slnf_run.specs.Made.{Grown, IsLaid}
use Rattle.slnf_run.specs.Scheduled.{in_order, usual_way, IsScheduled}
use Rattle.slnf_run.specs.Verdicts.{verdicts_of}
use Rattle.slnf_run.proofs.PartVerdicts.{verdicts_of-in_order}
use Rattle.slnf_shards.specs.Parts.{ArePartsOf}
use Rattle.slnf_flight.specs.declared.lanes.Lane.{Lane}
use Rattle.slnf_flight.specs.Actors.{eras_of, era_of_epoch}
use Rattle.slnf_flight.specs.declared.flights.AnyFlight.{AnyFlight}
use Rattle.slnf_flight.specs.Flights.{Arrival}
use Rattle.slnf_flight.specs.PlanSetting.{setting_of}
use Rattle.slnf_ledger.specs.Ledger.{places_in, filled_from}
use Rattle.slnf_ledger.proofs.Filled.{verdicts_told}
use Rattle.slnf_orch.specs.Passing.{SameBefore, IsUnderWay, HaveAllPassed}
use Rattle.slnf_orch.proofs.Making.{made_last}

module _ (plan : Plan) (lanes : List Lane) (histories : List (List Entry)) (ledger : List (List Verdict))
    (end : HaveAllPassed plan lanes histories ledger) where
  no_more : length (eras_of plan.epochs) ≤ end.number
  no_more =
      let q : length (eras_of plan.epochs) ≡ length plan.epochs = length-map plan.epochs era_of_epoch in
      let l : length plan.epochs ≤ end.number = end.no_more in
      omega arith

  -- the journal is the schedule's
  pub scheduled_last : (journal : List Entry) →
      ((epoch : ℕ → ℕ) (m : List Entry) → ArePartsOf epoch m histories → journal ≡ in_order m) →
      IsScheduled (setting_of plan lanes) (usual_way (eras_of plan.epochs)) journal
  scheduled_last journal sorted = record {
    accesses = end.under_way.list;
    made = made_last (setting_of plan lanes) end.number end.base (places_in ledger) end.under_way.list
        no_more end.under_way.made;
    sorted = sorted (era_of (eras_of plan.epochs)) end.under_way.list end.under_way.ready.parts;
  }

  -- the ledger has the verdicts of all packets, and those that it hasn't are left
  pub verdicts_last : (journal : List Entry) →
      ((epoch : ℕ → ℕ) (m : List Entry) → ArePartsOf epoch m histories → journal ≡ in_order m) →
      filled_from ledger 0 lanes ≡ verdicts_of (setting_of plan lanes) journal
  verdicts_last journal sorted =
      let s : Setting AnyFlight Arrival = setting_of plan lanes in
      let u : IsUnderWay plan lanes end.number end.base histories ledger = end.under_way in
      verdicts_told plan lanes (SameBefore end.base u.list) end.number end.base ledger no_more u.fits u.told u.list
      (λ i l. refl)
      ∙ (sym (verdicts_of-in_order s u.list
      (subst (λ k. Grown (IsLaid (era_of (eras_of plan.epochs)) k) [] u.list) u.ready.count u.ready.parts.made))
      ∙ ap (verdicts_of s) (sym (sorted (era_of (eras_of plan.epochs)) u.list u.ready.parts)))
