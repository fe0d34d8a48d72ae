use Rattle.std.proofs.Common.{◌≡◌, length}
use Rattle.slnf_store_threads.proofs.turns.draw_looks.Given as goal

abbrev pub invariant-loop-i : goal.invariant-loop-i
invariant-loop-i l = record {
  drawn : length l.drawn ≡ length l.fn.drawn;
  asks : length l.asks ≡ length l.fn.asks;
}
