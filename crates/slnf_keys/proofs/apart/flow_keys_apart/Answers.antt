use Rattle.std.proofs.Common.{rules}
use Rattle.slnf_keys.specs.Keys.{flow_key_number, flow_key_of, IsFlowKey}
use Rattle.slnf_keys.proofs.Laws.{coded_same, flow_key-coded}
use Rattle.slnf_keys.proofs.apart.flow_keys_apart.Goals as goal

pub returns : goal.returns
returns c =
    let left : IsFlowKey c.args.left = record { addr_fits = search rules; port_fits = search rules } in
    let right : IsFlowKey c.args.right = record { addr_fits = search rules; port_fits = search rules } in
    coded_same flow_key_number flow_key_of IsFlowKey flow_key-coded c.args.left c.args.right left right
