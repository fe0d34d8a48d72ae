use Rattle.std.proofs.Common.{rules}
use Rattle.slnf_keys.specs.Keys.{conn_key_number, conn_key_of, IsConnKey}
use Rattle.slnf_keys.proofs.Laws.{coded_same, conn_key-coded}
use Rattle.slnf_keys.proofs.apart.conn_keys_apart.Goals as goal

pub returns : goal.returns
returns c =
    let left : IsConnKey c.args.left = (
      record { addr_fits = search rules; port_fits = search rules },
      record { addr_fits = search rules; port_fits = search rules },
    ) in
    let right : IsConnKey c.args.right = (
      record { addr_fits = search rules; port_fits = search rules },
      record { addr_fits = search rules; port_fits = search rules },
    ) in
    coded_same conn_key_number conn_key_of IsConnKey conn_key-coded c.args.left c.args.right left right
