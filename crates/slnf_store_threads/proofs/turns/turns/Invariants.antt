-- the checksum so far
use Rattle.std.proofs.Common.{◌≡◌, ◌≤◌, length}
use Rattle.slnf_store.specs.Passes.{own_entries}
use Rattle.slnf_store_threads.specs.Callers.{IsCaller}
use Rattle.slnf_store_threads.specs.Sums.{with_replies}
use Rattle.slnf_store_threads.proofs.turns.turns.Given as goal

abbrev pub invariant-loop : goal.invariant-loop
invariant-loop g l = record {
  pass : IsCaller l.store l.pass;
  sum : l.sum ≡ with_replies 0 (own_entries l.pass);
  done : l.done ≤ length l.asks;
  room : length l.replies ≡ length l.asks;
}
