-- the actor takes the entry, or it isn't expected
use Rattle.std.proofs.Common.{◌≡◌, Some, length, slice_get, refl, sym, ap, ◌∙◌}
use Rattle.std.proofs.lemmas.Option.{slice_get_read}
use Rattle.slnf_follow.proofs.Following.{holds, refused, taken_next}
use Rattle.slnf_follow.proofs.Growing.{set_same}
use Rattle.slnf_follow.proofs.entries.take_at.Goals as goal

pub returns-clause-takes : goal.returns-clause-takes
returns-clause-takes g c s es epoch places h so =
    let hands = c.args.hands.now.items in
    let hand = c.index_mut-hand.result.now in
    let there : slice_get hands c.args.number ≡ Some hand =
    slice_get_read hands (length hands) c.args.number hand refl c.requires.there c.index_mut-hand.ensures.value in
    let own = holds g.T.Items.work s es epoch c.args.base places hands h c.args.number hand c.args.entry.now
    c.requires.own there in
    taken_next g.T.Items.work s es epoch c.args.base places hands h c.args.number hand c.args.entry.now c.requires.own
    there _ _
    ((c.takes.ensures.expects _ _ own).0 so) (c.takes.ensures.next _ _ own so) refl

pub returns-clause-kept : goal.returns-clause-kept
returns-clause-kept g c none =
    let hands = c.args.hands.now.items in
    let hand = c.index_mut-hand.result.now in
    let there : slice_get hands c.args.number ≡ Some hand =
    slice_get_read hands (length hands) c.args.number hand refl c.requires.there c.index_mut-hand.ensures.value in
    set_same hands c.args.number _ (there ∙ ap Some (sym (c.takes.ensures.refused none)))

pub returns-clause-refused : goal.returns-clause-refused
returns-clause-refused g c s es epoch places h none expected =
    let hands = c.args.hands.now.items in
    let hand = c.index_mut-hand.result.now in
    let there : slice_get hands c.args.number ≡ Some hand =
    slice_get_read hands (length hands) c.args.number hand refl c.requires.there c.index_mut-hand.ensures.value in
    let own = holds g.T.Items.work s es epoch c.args.base places hands h c.args.number hand c.args.entry.now
    c.requires.own there in
    refused g.T.Items.work s es epoch c.args.base places hands h c.args.number hand c.args.entry.now c.requires.own there
    (λ x. let yes = (c.takes.ensures.expects _ _ own).1 x in absurd (cc)) expected
