use Rattle.std.proofs.Common.{ℕ, ◌<◌, arith}
use Rattle.std.proofs.lemmas.List.Elements.{All-from_get_or}
use Rattle.slnf_rewrite.proofs.Laws.{pair_transport}
use Rattle.slnf_rewrite.proofs.transport_check.Goals as goal

pub returns-in-Tcp-clause-verifies : goal.returns-in-Tcp-clause-verifies
returns-in-Tcp-clause-verifies c =
    let frame = c.args.frame.now in
    let side = c.args.side in
    let bytes = All-from_get_or (λ (byte : ℕ). byte < 256) frame 0 (λ i inside. omega (arith, c.type_inv.frame i)) in
    pair_transport frame c.args.view.now bytes c.requires.lies
    side.address side.port c.requires.side c.args.pair c.requires.numbers

pub returns-in-Udp-2-clause-verifies : goal.returns-in-Udp-2-clause-verifies
returns-in-Udp-2-clause-verifies c =
    let frame = c.args.frame.now in
    let side = c.args.side in
    let bytes = All-from_get_or (λ (byte : ℕ). byte < 256) frame 0 (λ i inside. omega (arith, c.type_inv.frame i)) in
    pair_transport frame c.args.view.now bytes c.requires.lies
    side.address side.port c.requires.side c.args.pair c.requires.numbers
