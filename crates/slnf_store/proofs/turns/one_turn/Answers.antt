-- the lines that the bucket grew by, and what the turn tells
use Rattle.std.proofs.Common.{◌≡◌, ℕ, [], ◌∷◌, ◌++◌, IfOk, sym, ◌∙◌, subst}
use Rattle.slnf_access.specs.declared.requests.Entry.{Entry}
use Rattle.slnf_access.specs.declared.requests.Reply.{Reply}
use Rattle.slnf_bucket.specs.Bucket.{IsKept, next_entry}
use Rattle.slnf_turns.specs.Passes.{view}
use Rattle.slnf_store.specs.Accesses.{entry_after, TakesTurn}
use Rattle.slnf_store.proofs.Gives.{made_with, grown_one, number_with, gives, turned, same_entry, answered}
use Rattle.slnf_store.proofs.turns.one_turn.Goals as goal

pub give-requires-clause-turn : goal.give-requires-clause-turn
give-requires-clause-turn g c =
    let kept = c.take-held.result.value.bucket.value.kept in
    let new = c.access-answer.new.self.kept in
    let r = c.access-answer.result in
    let m = view c.take-held.new.pass in
    let t = c.take-held.ensures in
    let told = c.access-answer.ensures in
    let was = c.deref_mut-bucket.ensures.value in
    let grew = grown_one _ kept new r (rw was at told.made) (rw was at told.unchanged) in
    let number = number_with m.number (_ ∷ []) r (c.requires.number ∙ sym t.kin.0, tt) in
    gives c.take-held.result.shard c.args.shard kept.entries (made_with (_ ∷ []) r) new.entries m t.shard grew number
    t.turn

pub returns-clause-turn : goal.returns-clause-turn
returns-clause-turn g c =
    let kept = c.take-held.result.value.bucket.value.kept in
    let new = c.access-answer.new.self.kept in
    let r = c.access-answer.result in
    let shard = c.args.shard in
    let who = c.args.caller.now in
    let ask = c.args.ask.now in
    let v = view c.args.pass.now in
    let w = view c.give.new.pass in
    let t = c.take-held.ensures in
    let told = c.access-answer.ensures in
    let was = c.deref_mut-bucket.ensures.value in
    let gave = c.give.ensures in
    let is : IsKept kept = rw was at c.clock.ensures.kept in
    let e = next_entry kept who.incarnation ask.item who.clock ask.request in
    let f = entry_after kept.entries shard who.incarnation who.clock ask.item ask.request in
    let same : e ≡ f = same_entry kept shard who.incarnation who.clock ask.item ask.request t.value.0 is.clock_is in
    let made =
    subst (λ (x : Entry). new.entries ≡ kept.entries ++ made_with (x ∷ []) r) same
    (grown_one e kept new r (rw was at told.made) (rw was at told.unchanged)) in
    let turn : TakesTurn shard kept.entries (made_with (f ∷ []) r) v w =
    turned shard c.take-held.result.shard kept.entries (made_with (f ∷ []) r) new.entries v
    (view c.take-held.new.pass) w t.shard made t.grown t.seen t.turn t.own t.kin gave.own gave.seen gave.free
    gave.kin in
    let reply = subst (λ (x : Entry). IfOk r (λ (y : Reply × ℕ). y.0 ≡ x.reply)) same (rw was at told.reply) in
    let all =
    answered shard who.incarnation who.clock ask.item ask.request v w kept r is.legal is.clock_is turn reply
    (rw was at told.stamp) told.below told.can (rw was at told.spent) in
    (kept.entries, all.0, all.1)
