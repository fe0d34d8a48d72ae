use Rattle.std.proofs.Common.{◌≡◌, IfOk, OnErr, IsTrue, ap, ◌∙◌, subst}
use Rattle.slnf_box.specs.NatBox.{pair_of}
use Rattle.slnf_box.specs.Tables.{table_verdict, table_pairs, table_owners, table_is_new}
use Rattle.slnf_box.specs.Translator.{owners_of}
use Rattle.slnf_box.proofs.Flows.{both_ok, verdict_alike, pairs_alike, owners_alike, new_alike}
use Rattle.slnf_box.proofs.translator.NatBox.handle.Goals as goal

pub returns-clause-verdict : goal.returns-clause-verdict
returns-clause-verdict c = λ flows has.
    let box = c.args.self.now in
    let alike = ap (λ pairs. table_verdict box.pool pairs (owners_of box) c.args.packet.now c.args.choice) has.pairs
    ∙ ap (λ owners. table_verdict box.pool (pair_of flows) owners c.args.packet.now c.args.choice) has.owners
    ∙ verdict_alike box.pool flows c.args.packet.now c.args.choice in
    subst (λ given. IfOk c.step.result (λ verdict. verdict ≡ given)) alike c.step.ensures.verdict

pub returns-clause-next : goal.returns-clause-next
returns-clause-next c = λ flows has.
    let box = c.args.self.now in
    let pairs = ap (λ pairs. table_pairs box.pool pairs (owners_of box) c.args.packet.now c.args.choice) has.pairs
    ∙ ap (λ owners. table_pairs box.pool (pair_of flows) owners c.args.packet.now c.args.choice) has.owners
    ∙ pairs_alike box.pool flows c.args.packet.now c.args.choice in
    let owners = ap (λ pairs. table_owners box.pool pairs (owners_of box) c.args.packet.now c.args.choice) has.pairs
    ∙ ap (λ owners. table_owners box.pool (pair_of flows) owners c.args.packet.now c.args.choice) has.owners
    ∙ owners_alike box.pool flows c.args.packet.now c.args.choice in
    both_ok c.step.result (λ new_pairs new_owners. record { pairs = new_pairs ∙ pairs; owners = new_owners ∙ owners })
    c.step.ensures.pairs c.step.ensures.owners

pub returns-clause-new_flow : goal.returns-clause-new_flow
returns-clause-new_flow c = λ flows has.
    let box = c.args.self.now in
    let alike = ap (λ pairs. table_is_new box.pool pairs (owners_of box) c.args.packet.now c.args.choice) has.pairs
    ∙ ap (λ owners. table_is_new box.pool (pair_of flows) owners c.args.packet.now c.args.choice) has.owners
    ∙ new_alike box.pool flows c.args.packet.now c.args.choice in
    subst (λ given. OnErr c.step.result (IsTrue given)) alike c.step.ensures.new_flow
