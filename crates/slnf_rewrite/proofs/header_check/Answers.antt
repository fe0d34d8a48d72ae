use Rattle.std.proofs.Common.{ℕ, ◌<◌, arith}
use Rattle.std.proofs.lemmas.List.Elements.{All-from_get_or}
use Rattle.slnf_rewrite.proofs.Laws.{pair_header}
use Rattle.slnf_rewrite.proofs.header_check.Goals as goal

pub returns-clause-verifies : goal.returns-clause-verifies
returns-clause-verifies c =
    let frame = c.args.frame.now in
    let side = c.args.side in
    let bytes = All-from_get_or (λ (byte : ℕ). byte < 256) frame 0 (λ i inside. omega (arith, c.type_inv.frame i)) in
    pair_header frame c.args.view.now bytes c.requires.lies side.address side.port c.requires.side c.args.pair c.requires.numbers
