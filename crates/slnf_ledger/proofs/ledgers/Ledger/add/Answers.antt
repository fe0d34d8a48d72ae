-- the lane has these too
use Rattle.std.proofs.Common.{◌≡◌, ◌<◌, ◌++◌, Vec, Global, length, set, sym, ap, ap₂, ◌∙◌, arith}
use Rattle.std.proofs.lemmas.List.{length-map}
use Rattle.slnf_base.specs.declared.packets.Verdict.{Verdict}
use Rattle.slnf_ledger.specs.Ledger.{verdicts_at}
use Rattle.slnf_ledger.proofs.Filling.{lists, lists-set, lists_at}
use Rattle.slnf_ledger.proofs.ledgers.Ledger.add.Goals as goal

pub returns : goal.returns
returns c =
    let count : length (lists c.self.inside.lanes.items) ≡ length c.self.inside.lanes.items =
    length-map c.self.inside.lanes.items (λ (v : Vec Verdict Global). v.items) in
    let same : length (lists c.self.inside.lanes.items) ≡ length c.args.self.now = ap length c.self.view_is in
    let inside : c.args.lane < length c.args.self.now = c.requires in
    lists-set c.self.inside.lanes.items c.args.lane c.extend_from_slice.new.self
    ∙ ap₂ (λ l w. set l c.args.lane w) c.self.view_is
    (c.in_ok-extend_from_slice.ensures.items
    ∙ ap (λ l. l ++ c.args.verdicts.now)
    (ap (λ (v : Vec Verdict Global). v.items) c.index_mut-there.ensures.value
    ∙ (sym (lists_at c.self.inside.lanes.items c.args.lane c.index_mut-there.result.now (omega arith))
    ∙ ap (λ l. verdicts_at l c.args.lane) c.self.view_is)))
