-- the passes so far
use Rattle.std.proofs.Common.{◌≡◌, [], length}
use Rattle.std.specs.List.{All}
use Rattle.slnf_turns.specs.Passes.{IsRoot}
use Rattle.slnf_store.specs.Stores.{IsOf}
use Rattle.slnf_store_threads.specs.Callers.{IsFresh}
use Rattle.slnf_store_threads.proofs.runs.passes.Given as goal

abbrev pub invariant-loop-caller : goal.invariant-loop-caller
invariant-loop-caller l = record {
  here : IsOf l.store l.root;
  root : IsRoot l.root.known;
  joined : l.root.known.joined ≡ [];
  before : length l.root.known.before ≡ l.caller;
  count : length l.passes.items ≡ l.caller;
  fresh : All (IsFresh l.store) l.passes.items;
}
