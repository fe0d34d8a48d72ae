-- the rows so far, and those of the lanes that are left, are all
use Rattle.std.proofs.Common.{◌≡◌, ◌++◌, drop}
use Rattle.slnf_ledger.specs.Ledger.{filled_from}
use Rattle.slnf_ledger.proofs.Filling.{lists}
use Rattle.slnf_ledger.proofs.ledgers.Ledger.fill.Given as goal

abbrev pub invariant-loop-number : goal.invariant-loop-number
invariant-loop-number l =
    l.rows.items ++ filled_from (lists l.ledger.items) l.number (drop l.number l.lanes)
    ≡ filled_from (lists l.ledger.items) 0 l.lanes
