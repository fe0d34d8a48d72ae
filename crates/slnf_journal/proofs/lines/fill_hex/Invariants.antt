-- the digits that are left of what is left, and those written, are the number's
use Rattle.std.proofs.Common.{◌≡◌, ◌≤◌, ◌++◌, length, drop}
use Rattle.slnf_journal.specs.Words.{hex_text}
use Rattle.slnf_journal.proofs.lines.fill_hex.Given as goal

abbrev pub invariant-loop-place : goal.invariant-loop-place
invariant-loop-place l = record {
  within : l.place ≤ length l.digits;
  written : hex_text l.place l.left ++ drop l.place l.digits ≡ hex_text (length l.initial.digits) l.number;
}

abbrev pub decreases-loop-place : goal.decreases-loop-place
decreases-loop-place l = l.place
