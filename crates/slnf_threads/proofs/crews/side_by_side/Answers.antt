-- what became of each actor
use Rattle.std.proofs.Common.{sym, subst, slice_index_or, arith}
use Rattle.slnf_flight.specs.declared.flights.AnyFlight.{AnyFlight}
use Rattle.slnf_crew.specs.declared.items.ActorItems.{ActorItems}
use Rattle.slnf_crew.specs.Errands.{items_work}
use Rattle.slnf_threads.specs.declared.reports.Desk.{Desk}
use Rattle.slnf_threads.specs.declared.reports.Report.{Report}
use Rattle.slnf_threads.specs.Reports.{IsReport}
use Rattle.slnf_threads.proofs.Pairs.{pairwise_at}
use Rattle.slnf_threads.proofs.crews.side_by_side.Goals as goal

pub returns : goal.returns
returns g c =
    let P : Desk ActorItems AnyFlight → Report → Type 0 =
    λ d r. IsReport items_work c.args.store.now d.instance d.pass r.pass r.outcome in
    let reports = c.in_ok-reports.reports in
    pairwise_at P c.args.desks.items reports.items
    (omega (arith, c.in_ok-reports.ensures.len, reports.ok.0, c.args.desks.ok.0))
    (λ i d r l.
    let e = c.in_ok-reports.ensures.each i r l in
    let m = e.1.call in
    subst (λ x. P x (slice_index_or reports.items i r)) (sym (e.1.job_is d)) m.met)
