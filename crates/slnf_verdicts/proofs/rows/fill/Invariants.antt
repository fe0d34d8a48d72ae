-- the verdicts so far, and those of the packets that are left, are all
use Rattle.std.proofs.Common.{◌≡◌, ◌+◌, ◌-◌, ◌++◌, map, slice_get}
use Rattle.std.specs.List.{range_with_len}
use Rattle.slnf_verdicts.specs.Given.{or_left, filled}
use Rattle.slnf_verdicts.proofs.rows.fill.Given as goal

abbrev pub invariant-loop-number : goal.invariant-loop-number
invariant-loop-number l =
    l.row.items ++ map (λ number. or_left (slice_get l.given number))
    (range_with_len (0 + l.number) (l.count - l.number))
    ≡ filled l.given l.count
