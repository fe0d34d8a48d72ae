-- the lines that the bucket grew by, and what the turn tells
use Rattle.std.proofs.Common.{◌≡◌, ℕ, ◌++◌, map, OnOk, IfOk, sym, ◌∙◌, subst}
use Rattle.slnf_bucket.specs.Bucket.{IsKept, last_stamp}
use Rattle.slnf_turns.specs.Passes.{view}
use Rattle.slnf_store.specs.Accesses.{entries_after, TakesTurn}
use Rattle.slnf_store.proofs.Batched.{reply_in}
use Rattle.slnf_store.proofs.Gives.{made_with, grown_with, number_with, gives, turned}
use Rattle.slnf_store.proofs.Several.{entries_unchanged, after_number, answered_all}
use Rattle.slnf_store.proofs.turns.one_turn_of_many.Goals as goal

pub give-requires-clause-turn : goal.give-requires-clause-turn
give-requires-clause-turn g c =
    let kept = c.take-held.result.value.bucket.value.kept in
    let new = c.make_all-answer.new.bucket.kept in
    let r = c.make_all-answer.result in
    let m = view c.take-held.new.pass in
    let t = c.take-held.ensures in
    let told = c.make_all-answer.ensures in
    let was = c.deref_mut.ensures.value in
    let who = c.args.caller.now in
    let asks = c.args.asks.now in
    let es = entries_after kept.entries kept.shard who.incarnation who.clock asks in
    let grew =
    grown_with es kept.entries new.entries r (rw was at told.entries)
    (entries_unchanged r kept new _ _ (rw was at told.unchanged)) in
    let number = c.requires.number ∙ sym t.kin.0 in
    gives c.take-held.result.shard c.args.shard kept.entries (made_with es r) new.entries m t.shard grew
    (number_with m.number es r (after_number m.number kept.entries kept.shard who.incarnation who.clock asks number))
    t.turn

pub returns-clause-turn : goal.returns-clause-turn
returns-clause-turn g c =
    let kept = c.take-held.result.value.bucket.value.kept in
    let new = c.make_all-answer.new.bucket.kept in
    let r = c.make_all-answer.result in
    let shard = c.args.shard in
    let who = c.args.caller.now in
    let asks = c.args.asks.now in
    let now = c.make_all-answer.new.replies in
    let v = view c.args.pass.now in
    let w = view c.give.new.pass in
    let t = c.take-held.ensures in
    let told = c.make_all-answer.ensures in
    let was = c.deref_mut.ensures.value in
    let gave = c.give.ensures in
    let is : IsKept kept = rw was at told.kept in
    let es = entries_after kept.entries shard who.incarnation who.clock asks in
    let here : kept.shard ≡ shard = t.value.0 in
    let grew =
    subst (λ (s : ℕ). OnOk r
    (new.entries ≡ kept.entries ++ entries_after kept.entries s who.incarnation who.clock asks)) here (rw was at told.entries) in
    let made = grown_with es kept.entries new.entries r grew (entries_unchanged r kept new _ _ (rw was at told.unchanged)) in
    let turn : TakesTurn shard kept.entries (made_with es r) v w =
    turned shard c.take-held.result.shard kept.entries (made_with es r) new.entries v (view c.take-held.new.pass) w
    t.shard made t.grown t.seen t.turn t.own t.kin gave.own gave.seen gave.free gave.kin in
    let replies =
    subst (λ (s : ℕ). OnOk r
    (now ≡ map reply_in (entries_after kept.entries s who.incarnation who.clock asks))) here (rw was at told.replies) in
    let stamp =
    subst (λ (s : ℕ). IfOk r (λ (last : ℕ).
    last ≡ last_stamp who.clock (entries_after kept.entries s who.incarnation who.clock asks))) here (rw was at told.stamp) in
    let all =
    answered_all shard who.incarnation who.clock asks v w c.args.replies.now now kept new r is.legal is.clock_is turn
    replies stamp told.below (rw was at told.unchanged) is.below c.requires.clock (rw was at told.spent) in
    (kept.entries, all.0, all.1)
