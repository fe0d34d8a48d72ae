use Rattle.std.proofs.Common.{rules}
use Rattle.slnf_keys.specs.Keys.{pin_key_number, pin_key_of, IsPinKey}
use Rattle.slnf_keys.proofs.Laws.{coded_same, pin_key-coded}
use Rattle.slnf_keys.proofs.apart.pin_keys_apart.Goals as goal

pub returns : goal.returns
returns c =
    let left : IsPinKey c.args.left = record { addr_fits = search rules; port_fits = search rules } in
    let right : IsPinKey c.args.right = record { addr_fits = search rules; port_fits = search rules } in
    coded_same pin_key_number pin_key_of IsPinKey pin_key-coded c.args.left c.args.right left right
