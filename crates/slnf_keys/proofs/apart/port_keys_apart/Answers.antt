use Rattle.std.proofs.Common.{rules}
use Rattle.slnf_keys.specs.Keys.{port_key_number, port_key_of, IsPortKey}
use Rattle.slnf_keys.proofs.Laws.{coded_same, port_key-coded}
use Rattle.slnf_keys.proofs.apart.port_keys_apart.Goals as goal

pub returns : goal.returns
returns c =
    let left : IsPortKey c.args.left = record { addr_fits = search rules; port_fits = search rules } in
    let right : IsPortKey c.args.right = record { addr_fits = search rules; port_fits = search rules } in
    coded_same port_key_number port_key_of IsPortKey port_key-coded c.args.left c.args.right left right
