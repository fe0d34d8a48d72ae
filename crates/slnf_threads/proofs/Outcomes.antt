-- What the journal of a run is where all its epochs have passed, and that no run is stuck.
use Rattle.std.proofs.Common.{◌≡◌, ◌≤◌, List, length, sym, subst, arith}
use Rattle.std.proofs.lemmas.List.{length-map}
use Rattle.std.specs.Prelude.{IsTrue}
use Rattle.slnf_access.specs.declared.requests.Entry.{Entry}
use Rattle.slnf_plan.specs.declared.plan.Plan.{Plan}
use Rattle.slnf_store.specs.Closes.{IsClosed}
use Rattle.slnf_store.specs.Stores.{shards_of}
use Rattle.slnf_run.specs.Verdicts.{verdicts_of}
use Rattle.slnf_run.specs.Stamps.{HasClockStamps}
use Rattle.slnf_flight.specs.declared.lanes.Lane.{Lane}
use Rattle.slnf_flight.specs.Actors.{era_of_epoch, eras_of}
use Rattle.slnf_flight.specs.Lanes.{packet_count}
use Rattle.slnf_flight.specs.PlanSetting.{setting_of}
use Rattle.slnf_setting.specs.Fits.{has_types}
use Rattle.slnf_setting.specs.Runs.{IsRunOfPlan}
use Rattle.slnf_threads.specs.declared.plans.Run.{Run}
use Rattle.slnf_ledger.specs.Ledger.{places_in, filled_from}
use Rattle.slnf_ledger.proofs.Filled.{verdicts_told}
use Rattle.slnf_threads.specs.Passing.{AgreesBefore}
use Rattle.slnf_threads.specs.Merged.{IsMerged}
use Rattle.slnf_threads.specs.UnderWay.{IsGathered, IsStuck, HaveAllPassed}
use Rattle.slnf_threads.proofs.Closing.{own, run_at_end, never_stuck}

module _ (plan : Plan) (lanes : List Lane) (types : IsTrue (has_types plan.function))
    (few : packet_count lanes ≤ 1048576) (run : Run) (journal : List Entry)
    (merged : IsMerged (shards_of run.store) run.root.known journal) where
  closed_of : IsGathered plan run → IsClosed plan.shards run.root.known merged.histories
  closed_of gathered = subst (λ n. IsClosed n run.root.known merged.histories) (sym gathered.shards) merged.closed

  pub told_at_end : HaveAllPassed plan lanes run →
      IsRunOfPlan plan lanes journal × HasClockStamps (setting_of plan lanes) journal
  told_at_end passed =
      let now = passed.under_way in
      run_at_end plan lanes types few run.root.known merged.histories journal (closed_of now.gathered) merged.same
      merged.in_order passed.number run.base (places_in run.ledger) now.passed passed.no_more

  -- and the ledger has its verdicts
  pub verdicts_at_end : HaveAllPassed plan lanes run →
      filled_from run.ledger 0 lanes ≡ verdicts_of (setting_of plan lanes) journal
  verdicts_at_end passed =
      let now = passed.under_way in
      let count : length (eras_of plan.epochs) ≡ length plan.epochs = length-map plan.epochs era_of_epoch in
      verdicts_told plan lanes (AgreesBefore run.base run.root.known) passed.number run.base run.ledger
      (omega (arith, count, passed.no_more)) now.fits now.told journal
      (λ i less. own plan lanes types few run.root.known merged.histories journal (closed_of now.gathered) merged.same
      merged.in_order i)

  pub never_spent : IsStuck plan lanes run → ⊥
  never_spent stuck =
      never_stuck plan lanes types few run.root.known merged.histories journal (closed_of stuck.gathered) merged.same
      merged.in_order stuck.upto run.root.clock stuck.at_work stuck.gathered.clock stuck.late
