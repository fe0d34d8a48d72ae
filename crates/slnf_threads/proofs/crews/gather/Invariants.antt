-- the passes so far, and those still to come, are all
use Rattle.std.proofs.Common.{◌≡◌, ◌≢◌, ◌++◌, true, false, map, Ok}
use Rattle.std.specs.List.{AllByRecursion}
use Rattle.std.specs.Vec.Iter.{into_iter_items}
use Rattle.slnf_turns.specs.Passes.{IsRoot}
use Rattle.slnf_store.specs.Stores.{IsOf}
use Rattle.slnf_threads.specs.Crews.{SomeSpent}
use Rattle.slnf_threads.specs.Passing.{after_joins, clock_after}
use Rattle.slnf_threads.proofs.crews.gather.Given as goal

abbrev pub invariant-loop-report : goal.invariant-loop-report
invariant-loop-report l = record {
  here : IsOf l.store l.root;
  root : IsRoot l.root.known;
  known : after_joins (map (λ r. r.pass.known) (into_iter_items l.report-iterator)) l.root.known
      ≡ after_joins (map (λ r. r.pass.known) l.fn.reports.items) l.fn.root.known;
  clock : clock_after (map (λ r. r.pass.clock) (into_iter_items l.report-iterator)) l.root.clock
      ≡ clock_after (map (λ r. r.pass.clock) l.fn.reports.items) l.fn.root.clock;
  owed : AllByRecursion (λ r. IsOf l.store r.pass × (r.pass.known.number ≢ 0)) (into_iter_items l.report-iterator);
  all : l.spent ≡ false → map Ok l.works.items ++ map (λ r. r.outcome) (into_iter_items l.report-iterator)
      ≡ map (λ r. r.outcome) l.fn.reports.items;
  lost : l.spent ≡ true → SomeSpent (map (λ r. r.outcome) l.fn.reports.items);
  still : SomeSpent (map (λ r. r.outcome) (into_iter_items l.report-iterator)) →
      SomeSpent (map (λ r. r.outcome) l.fn.reports.items);
}
