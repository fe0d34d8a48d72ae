use Rattle.std.proofs.Common.{◌≡◌, ◌≤◌, length}
use Rattle.slnf_store_threads.proofs.turns.ask_writes.Given as goal

abbrev pub invariant-loop-i : goal.invariant-loop-i
invariant-loop-i l = record {
  asks : length l.asks ≡ length l.fn.asks;
  count : l.count ≤ l.i;
}
