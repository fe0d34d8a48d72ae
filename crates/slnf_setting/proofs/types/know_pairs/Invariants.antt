-- all are in range where those that are left are
use Rattle.std.proofs.Common.{◌≡◌, drop, true}
use Rattle.std.specs.List.{list_all}
use Rattle.slnf_base.specs.Ranges.{is_pair}
use Rattle.slnf_setting.proofs.types.know_pairs.Given as goal

abbrev pub invariant-loop-pair : goal.invariant-loop-pair
invariant-loop-pair l = list_all is_pair (drop l.pair-index l.pairs) ≡ true → list_all is_pair l.pairs ≡ true
