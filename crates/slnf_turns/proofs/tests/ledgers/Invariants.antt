use Rattle.std.proofs.Common.{◌≡◌, length, map}
use Rattle.slnf_turns.specs.Views.{number_line}
use Rattle.slnf_turns.specs.Values.{AreFresh}
use Rattle.slnf_turns.proofs.tests.ledgers.Given as goal

abbrev pub invariant-loop-place : goal.invariant-loop-place
invariant-loop-place l = (length l.values.items ≡ l.place) × AreFresh (λ ledger.
    map (λ line. number_line line.0 line.1) ledger.lines.items) (λ ledger. ledger.place) (λ _. 3) 3 l.values.items
