-- the entries so far, and those of the bytes that are left, are those of all
use Rattle.std.proofs.Common.{◌≡◌, ◌≤◌, ◌+◌, ◌-◌, length, drop}
use Rattle.slnf_journal.specs.Versions.{One}
use Rattle.slnf_journal.specs.Fields.{parts_at}
use Rattle.slnf_journal.specs.Reading.{entries_in}
use Rattle.slnf_journal.proofs.Steps.{with_front}
use Rattle.slnf_journal.proofs.read.read_lines.Given as goal

abbrev pub invariant-loop-at : goal.invariant-loop-at
invariant-loop-at l = record {
  place : l.at ≤ length l.body;
  few : l.line ≤ l.at + 2;
  rest : with_front l.entries.items (entries_in One l.line (parts_at 10 (drop l.at l.body))) ≡ entries_in One 2
      (parts_at 10 l.body);
}

abbrev pub decreases-loop-at : goal.decreases-loop-at
decreases-loop-at l = length l.body - l.at
