-- so many actors sit at their desks
use Rattle.std.proofs.Common.{◌≡◌, length}
use Rattle.std.specs.List.{All}
use Rattle.slnf_store.specs.Stores.{IsOf}
use Rattle.slnf_crew.specs.Errands.{items_work}
use Rattle.slnf_ledger.specs.Ledger.{places_in}
use Rattle.slnf_threads.specs.Crews.{EachAt, IsSent, IsNewPass}
use Rattle.slnf_threads.specs.Passing.{after_splits}
use Rattle.slnf_threads.specs.Reports.{IsReady}
use Rattle.slnf_threads.proofs.crews.seat.Given as goal

abbrev pub invariant-loop-number : goal.invariant-loop-number
invariant-loop-number l = record {
  count : length l.desks.items ≡ l.number;
  here : IsOf l.store l.root;
  known : l.root.known ≡ after_splits l.number l.fn.root.known;
  clock : l.root.clock ≡ l.fn.root.clock;
  ready : All (λ d. IsReady items_work l.store d.instance d.errand d.pass) l.desks.items;
  sent : EachAt (λ k d. IsSent l.plan l.epoch (places_in l.ledger) l.items k d.instance) 0 l.desks.items;
  passes : EachAt (λ k d. IsNewPass l.store l.fn.root k d.pass) 0 l.desks.items;
}
