use Rattle.std.proofs.Common.{rules}
use Rattle.slnf_keys.specs.Values.{flow_to_number, flow_to_of, IsFlowTo}
use Rattle.slnf_keys.proofs.Laws.{coded_same, flow_to-coded}
use Rattle.slnf_keys.proofs.apart.flow_tos_apart.Goals as goal

pub returns : goal.returns
returns c =
    let left : IsFlowTo c.args.left = record { addr_fits = search rules; port_fits = search rules } in
    let right : IsFlowTo c.args.right = record { addr_fits = search rules; port_fits = search rules } in
    coded_same flow_to_number flow_to_of IsFlowTo flow_to-coded c.args.left c.args.right left right
