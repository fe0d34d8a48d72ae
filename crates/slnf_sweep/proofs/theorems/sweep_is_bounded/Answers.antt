use Rattle.slnf_sweep.proofs.Items.{item_short}
use Rattle.slnf_sweep.proofs.theorems.sweep_is_bounded.Goals as goal

pub returns : goal.returns
returns c = item_short c.nat_is_bounded.ensures.sweep
