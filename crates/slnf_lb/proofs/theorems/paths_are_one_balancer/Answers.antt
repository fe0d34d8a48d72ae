use Rattle.slnf_lb.proofs.OneBox.{lb_explained}
use Rattle.slnf_lb.proofs.PinsStay.{pins_stay}
use Rattle.slnf_lb.proofs.theorems.paths_are_one_balancer.Goals as goal

pub returns-clause-one_box : goal.returns-clause-one_box
returns-clause-one_box c = lb_explained

pub returns-clause-pins_stay : goal.returns-clause-pins_stay
returns-clause-pins_stay c = pins_stay
