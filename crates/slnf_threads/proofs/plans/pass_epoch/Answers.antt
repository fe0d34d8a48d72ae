-- the epoch passes, or stamps are said to be spent
use Rattle.std.proofs.Common.{subst₂, map, Ok, ◌≡◌, ◌+◌, ◌≤◌, ◌++◌, ◌∙◌, ℕ, List, length, sym, ap, refl, subst, arith}
use Rattle.std.specs.Prelude.{IfSome}
use Rattle.slnf_plan.specs.declared.plan.InstancePlan.{InstancePlan}
use Rattle.slnf_instance.specs.declared.endings.Work.{Work}
use Rattle.slnf_crew.specs.Errands.{AreItemsFor}
use Rattle.slnf_access.specs.declared.requests.Entry.{Entry}
use Rattle.slnf_run.specs.Jobs.{Job}
use Rattle.slnf_flight.specs.declared.flights.AnyFlight.{AnyFlight}
use Rattle.slnf_ledger.specs.Ledger.{verdicts_at, DidSo, given_from}
use Rattle.slnf_threads.specs.declared.plans.Run.{Run}
use Rattle.slnf_threads.specs.Passing.{after_joins, clock_after}
use Rattle.slnf_threads.proofs.EpochWork.{HasReports, has_reports, seat_fits, root_stays, known_by, clock_by, outcome_by}
use Rattle.slnf_threads.proofs.EpochBehind.{IsBack, stuck, works_most, goes_on}
use Rattle.slnf_threads.proofs.Reporting.{can_join}
use Rattle.slnf_threads.proofs.plans.pass_epoch.Given.{Over}
use Rattle.slnf_threads.proofs.plans.pass_epoch.Goals.{In_ok-works, In-Some}
use Rattle.slnf_threads.proofs.plans.pass_epoch.Goals as goal

-- the epoch has these reports
reported : (g : Over) (c : In_ok-works g) → HasReports c.args.plan.now c.args.lanes.now c.args.number c.args.run.now
    c.epoch_of-epoch.result.now c.as_slice.result.now c.in_ok-desks.desks.items c.in_ok-reports.reports.items
reported g c =
    has_reports c.args.plan.now c.args.lanes.now c.args.number c.args.run.now c.requires.under_way
    c.epoch_of-epoch.result.now c.epoch_of-epoch.ensures.there c.in_ok-function.function
    c.in_ok-function.ensures.function c.actors_have_jobs.ensures c.in_ok-items.items.items
    c.as_slice.result.now c.as_slice.ensures.value
    c.in_ok-items.ensures.each c.in_ok-items.ensures.count
    c.in_ok-desks.desks.items c.in_ok-desks.ensures.count c.in_ok-desks.ensures.sent c.in_ok-desks.ensures.passes
    c.in_ok-reports.reports.items c.in_ok-reports.ensures

-- the root has their passes back
back : (g : Over) (c : In_ok-works g) → IsBack c.args.plan.now c.args.lanes.now c.args.number c.args.run.now
    c.epoch_of-epoch.result.now c.as_slice.result.now c.in_ok-desks.desks.items c.in_ok-reports.reports.items
    c.requires.under_way (reported g c) c.gather.new.root
back g c = record {
  here = c.gather.ensures.here;
  known = c.in_ok-works.ensures.root
      ∙ ap (after_joins (map known_by c.in_ok-reports.reports.items)) c.in_ok-desks.ensures.root;
  clock = c.in_ok-works.ensures.clock
      ∙ ap (clock_after (map clock_by c.in_ok-reports.reports.items)) c.in_ok-desks.ensures.clock;
}

-- all of them tell of a work
all_work : (g : Over) (c : In-Some g) → map Ok c.in-Some.works.items ≡ map outcome_by c.in_ok-reports.reports.items
all_work g c =
    subst (λ o. IfSome o (λ done. map Ok done.items ≡ map outcome_by c.in_ok-reports.reports.items)) c.in-Some.is
    c.in_ok-works.ensures.all

pub seat-requires-clause-fits : goal.seat-requires-clause-fits
seat-requires-clause-fits g c =
    let for_items : AreItemsFor c.in_ok-function.function c.args.lanes.now c.args.run.now.base
    c.epoch_of-epoch.result.now c.as_slice.result.now =
    subst (AreItemsFor c.in_ok-function.function c.args.lanes.now c.args.run.now.base c.epoch_of-epoch.result.now)
    (sym c.as_slice.ensures.value) c.in_ok-items.ensures.each in
    seat_fits c.args.plan.now c.args.lanes.now c.args.number c.args.run.now c.epoch_of-epoch.result.now
    c.in_ok-function.function c.as_slice.result.now c.requires.under_way for_items

pub gather-requires-clause-root : goal.gather-requires-clause-root
gather-requires-clause-root g c =
    root_stays (length c.as_slice.result.now) c.args.run.now.root.known c.seat.new.root.known
    c.requires.under_way.gathered.root c.in_ok-desks.ensures.root

pub gather-requires-clause-reports : goal.gather-requires-clause-reports
gather-requires-clause-reports g c =
    can_join c.args.run.now.store c.args.run.now.root 0 c.in_ok-desks.desks.items c.in_ok-reports.reports.items
    c.in_ok-desks.ensures.passes c.in_ok-reports.ensures

pub returns-in_default-clause-stuck : goal.returns-in_default-clause-stuck
returns-in_default-clause-stuck g c _ =
    let at = goal.at.returns-in_default-clause-stuck g c in
    stuck c.args.plan.now c.args.lanes.now c.args.number c.args.run.now c.epoch_of-epoch.result.now
    c.as_slice.result.now c.in_ok-desks.desks.items c.in_ok-reports.reports.items c.requires.under_way
    (reported g at.In_ok-works) c.gather.new.root (back g at.In_ok-works)
    (c.in_ok-works.ensures.spent c.in_default.is)

pub add_works-requires-clause-works : goal.add_works-requires-clause-works
add_works-requires-clause-works g c =
    let at = goal.at.add_works-requires-clause-works g c in
    subst₂ (λ (l : List InstancePlan) (m : List Work). length l ≤ length m) (sym c.as_slice-2.ensures)
    (sym c.as_slice-3.ensures.value)
    (works_most c.args.plan.now c.args.lanes.now c.args.number c.args.run.now c.epoch_of-epoch.result.now
    c.as_slice.result.now c.in_ok-desks.desks.items c.in_ok-reports.reports.items c.requires.under_way
    (reported g at.In_ok-works) c.in-Some.works.items (all_work g at.In-Some))

pub returns-clause-passed : goal.returns-clause-passed
returns-clause-passed g c _ =
    let at = goal.at.returns-clause-passed g c in
    let e = reported g at.In_ok-works in
    let added : (jobs : ℕ → InstancePlan → Job AnyFlight) (owns : ℕ → List Entry) →
    DidSo jobs owns c.in-Some.works.items c.epoch_of-epoch.result.now.instances → (lane : ℕ) →
    verdicts_at c.add_works.new.ledger lane ≡ verdicts_at c.args.run.now.ledger lane
    ++ given_from jobs owns 0 c.epoch_of-epoch.result.now.instances lane =
    subst₂ (λ (l : List InstancePlan) (m : List Work). (jobs : ℕ → InstancePlan → Job AnyFlight)
    (owns : ℕ → List Entry) → DidSo jobs owns m l → (lane : ℕ) → verdicts_at c.add_works.new.ledger lane
    ≡ verdicts_at c.args.run.now.ledger lane ++ given_from jobs owns 0 l lane) c.as_slice-2.ensures
    c.as_slice-3.ensures.value c.in_ok-add_works.ensures.given in
    let next : Run =
    record {
      store = c.args.run.now.store;
      root = c.gather.new.root;
      ledger = c.add_works.new.ledger;
      base = c.args.run.now.base + c.len-count.result;
    } in
    let len : c.len-count.result ≡ length c.in_ok-desks.desks.items =
    omega (arith, c.len-count.ensures, c.in_ok-desks.desks.ok) in
    goes_on c.args.plan.now c.args.lanes.now c.args.number c.args.run.now c.epoch_of-epoch.result.now
    c.as_slice.result.now c.in_ok-desks.desks.items c.in_ok-reports.reports.items c.requires.under_way e
    c.in-Some.works.items (all_work g at.In-Some) c.add_works.new.ledger added next (back g at.In_ok-works) refl refl
    c.in_ok-add_works.ensures.count
    (ap (λ n. c.args.run.now.base + n) (len ∙ (e.desks_count ∙ e.items_count)))
    c.epoch_of-epoch.ensures.actors
