-- the backends so far, and those of the places that are left, are all; each has its ranges
use Rattle.std.proofs.Common.{◌≡◌, ◌++◌, drop, vec_len, IsTrue}
use Rattle.std.specs.List.{list_all}
use Rattle.slnf_base.specs.Ranges.{is_pair}
use Rattle.slnf_flight.specs.LbPlan.{backends_at}
use Rattle.slnf_flight.proofs.functions.active_of.Given as goal

abbrev pub invariant-loop-place : goal.invariant-loop-place
invariant-loop-place l = record {
  active : l.active.items ++ backends_at l.service (drop l.place-index l.places) ≡ backends_at l.service l.places;
  pairs : IsTrue (list_all is_pair l.active.items);
  count : vec_len l.active ≡ l.place-index;
}
