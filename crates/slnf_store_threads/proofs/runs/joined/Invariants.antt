-- the passes that are still to be joined
use Rattle.std.proofs.Common.{◌≡◌, ◌+◌, length}
use Rattle.std.specs.List.{All}
use Rattle.std.specs.Vec.Iter.{into_iter_items}
use Rattle.slnf_turns.specs.Passes.{IsRoot}
use Rattle.slnf_store.specs.Stores.{IsOf}
use Rattle.slnf_store_threads.specs.Callers.{IsCaller}
use Rattle.slnf_store_threads.proofs.runs.joined.Given as goal

abbrev pub invariant-loop-report : goal.invariant-loop-report
invariant-loop-report l = record {
  here : IsOf l.store l.root;
  root : IsRoot l.root.known;
  before : l.root.known.before ≡ l.fn.root.known.before;
  joined : length l.root.known.joined + length (into_iter_items l.report-iterator) ≡ length l.fn.reports.items;
  callers : All (λ report. IsCaller l.store report.pass) (into_iter_items l.report-iterator);
}
