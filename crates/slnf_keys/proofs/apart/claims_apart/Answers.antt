use Rattle.std.proofs.Common.{rules}
use Rattle.slnf_keys.specs.Values.{claim_number, claim_of, IsClaim}
use Rattle.slnf_keys.proofs.Laws.{coded_same, claim-coded}
use Rattle.slnf_keys.proofs.apart.claims_apart.Goals as goal

pub returns : goal.returns
returns c =
    let left : IsClaim c.args.left = (search rules, record { addr_fits = search rules; port_fits = search rules }) in
    let right : IsClaim c.args.right = (search rules, record { addr_fits = search rules; port_fits = search rules }) in
    coded_same claim_number claim_of IsClaim claim-coded c.args.left c.args.right left right
