use Rattle.slnf_keys.specs.Values.{conn_number, conn_of}
use Rattle.slnf_keys.proofs.Laws.{coded_same, conn-coded}
use Rattle.slnf_keys.proofs.apart.conns_apart.Goals as goal

pub returns : goal.returns
returns c = coded_same conn_number conn_of (λ value. Unit {0}) conn-coded c.args.left c.args.right tt tt
