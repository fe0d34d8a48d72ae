use Rattle.std.proofs.Common.{refl, arith}
use Rattle.slnf_plan.proofs.Ports.{two_ports-other}
use Rattle.slnf_plan.proofs.values.two_ports.Goals as goal

pub returns-in-len1 : goal.returns-in-len1
returns-in-len1 c = rw (two_ports-other c.args.least c.args.items.now (λ two. omega arith), c.of-in-len1.ensures) refl

pub returns-in-len3-up : goal.returns-in-len3-up
returns-in-len3-up c = rw (two_ports-other c.args.least c.args.items.now (λ two. omega arith), c.of-in-len3-up.ensures) refl
