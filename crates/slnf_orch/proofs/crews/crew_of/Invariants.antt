-- the actors so far
use Rattle.std.proofs.Common.{◌≡◌, ℕ, List, length}
use Rattle.slnf_flight.specs.declared.functions.AnyFunction.{AnyFunction}
use Rattle.slnf_flight.specs.declared.lanes.Lane.{Lane}
use Rattle.slnf_crew.specs.Errands.{AreItemsFor}
use Rattle.slnf_orch.specs.Hiring.{AreHired}
use Rattle.slnf_ledger.specs.Ledger.{places_in}
use Rattle.slnf_orch.proofs.crews.crew_of.Given as goal

abbrev pub invariant-loop-number : goal.invariant-loop-number
invariant-loop-number l = record {
  count : length l.crew.items ≡ l.number;
  hired : (function : AnyFunction) (lanes : List Lane) (base : ℕ) → AreItemsFor function lanes base l.epoch l.items →
      AreHired l.plan function lanes (places_in l.ledger) base l.epoch l.crew.items;
}
