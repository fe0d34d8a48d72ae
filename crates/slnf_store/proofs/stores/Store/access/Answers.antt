-- the pass after the turn, and what the turn tells of it
use Rattle.std.proofs.Common.{◌≡◌, ◌≢◌, ℕ, ◌-◌, ◌%◌, [], ◌∷◌, refl, sym, ap, ◌∙◌, subst, arith}
use Rattle.slnf_access.specs.Map.{key_of}
use Rattle.slnf_turns.specs.Passes.{view}
use Rattle.slnf_store.specs.Stores.{shards_of}
use Rattle.slnf_store.specs.Passes.{PassState}
use Rattle.slnf_store.specs.Accesses.{entry_after, MakesAccess, RefusesAccesses}
use Rattle.slnf_store.proofs.Grown.{kept_turned, one_made, makes_access, refuses_accesses}
use Rattle.slnf_store.proofs.stores.Store.access.Goals as goal

pub invariant_of-pass : goal.invariant_of-pass
invariant_of-pass g c =
    let p = c.pass.inside in
    let v = view p.pass in
    let turn = c.in-Ok.ensures.turn in
    let t = turn.2 in
    let shard = c.shard_of-shard.result in
    let e = entry_after turn.0 shard (p.number - 1) p.clock c.args.item c.args.request in
    let here = c.one_turn.new.pass.seat.table_id in
    let store = c.args.self.now.turns.table.shared.table_id in
    let from : p.pass.seat.table_id ≡ store = ap (λ (q : PassState). q.table_id) c.pass.view_is ∙ c.requires.here in
    let other : v.number ≢ 0 =
    λ zero. c.requires.split (ap (λ (q : PassState). q.known.number) (sym c.pass.view_is) ∙ zero) in
    let is = c.pass.invariant in
    let number = is.0 in
    let made =
    one_made shard v.number turn.0 (p.number - 1) p.clock c.args.item c.args.request (omega arith) in
    let now =
    kept_turned p.number p.splits p.clock shard turn.0 (e ∷ []) p.pass.seat.table_id here store v
    (view c.one_turn.new.pass) is from c.in-Ok.ensures.here other c.shard_of-shard.ensures.inside t.0 made
    (omega (arith, t.2, t.3)) in
    rw t.2 now

pub invariant_of-pass-in-Err : goal.invariant_of-pass-in-Err
invariant_of-pass-in-Err g c =
    let p = c.pass.inside in
    let v = view p.pass in
    let turn = c.in-Err.ensures.turn in
    let here = c.one_turn.new.pass.seat.table_id in
    let store = c.args.self.now.turns.table.shared.table_id in
    let from : p.pass.seat.table_id ≡ store = ap (λ (q : PassState). q.table_id) c.pass.view_is ∙ c.requires.here in
    let other : v.number ≢ 0 =
    λ zero. c.requires.split (ap (λ (q : PassState). q.known.number) (sym c.pass.view_is) ∙ zero) in
    let is = c.pass.invariant in
    kept_turned p.number p.splits p.clock c.shard_of-shard.result turn.0 [] p.pass.seat.table_id here store v
    (view c.one_turn.new.pass) is from c.in-Err.ensures.here other c.shard_of-shard.ensures.inside turn.2.0 tt
    is.2.below

pub returns-in-Ok-clause-access : goal.returns-in-Ok-clause-access
returns-in-Ok-clause-access g c =
    let p = c.pass.inside in
    let turn = c.in-Ok.ensures.turn in
    let t = turn.2 in
    let store = c.args.self.now.turns.table.shared.table_id in
    let here = c.one_turn.new.pass.seat.table_id in
    let old : PassState = record { table_id = p.pass.seat.table_id; known = view p.pass; clock = p.clock } in
    let new : PassState = record { table_id = here; known = view c.one_turn.new.pass; clock = c.in-Ok.stamp } in
    let from : p.pass.seat.table_id ≡ store = ap (λ (q : PassState). q.table_id) c.pass.view_is ∙ c.requires.here in
    let shard : c.shard_of-shard.result ≡ key_of c.args.request % shards_of c.args.self.now =
    c.shard_of-shard.ensures.value ∙ ap (λ (k : ℕ). k % shards_of c.args.self.now) c.key.ensures in
    let made =
    makes_access c.shard_of-shard.result turn.0 old new p.number c.args.item c.args.request c.in-Ok.reply
    c.pass.invariant.0 t.0 (c.in-Ok.ensures.here ∙ sym from) t.2 t.3 t.1 in
    let all =
    subst (λ (x : ℕ × PassState). MakesAccess x.0 turn.0 x.1 new c.args.item c.args.request c.in-Ok.reply)
    (λ i. (shard i, c.pass.view_is i)) made in
    (turn.0, turn.1, all)

pub returns-in-Err-clause-access : goal.returns-in-Err-clause-access
returns-in-Err-clause-access g c =
    let p = c.pass.inside in
    let turn = c.in-Err.ensures.turn in
    let store = c.args.self.now.turns.table.shared.table_id in
    let here = c.one_turn.new.pass.seat.table_id in
    let old : PassState = record { table_id = p.pass.seat.table_id; known = view p.pass; clock = p.clock } in
    let new : PassState = record { table_id = here; known = view c.one_turn.new.pass; clock = p.clock } in
    let from : p.pass.seat.table_id ≡ store = ap (λ (q : PassState). q.table_id) c.pass.view_is ∙ c.requires.here in
    let shard : c.shard_of-shard.result ≡ key_of c.args.request % shards_of c.args.self.now =
    c.shard_of-shard.ensures.value ∙ ap (λ (k : ℕ). k % shards_of c.args.self.now) c.key.ensures in
    let none =
    refuses_accesses 1 c.shard_of-shard.result turn.0 old new c.in-Err.refusal turn.2.0
    (c.in-Err.ensures.here ∙ sym from) refl c.pass.invariant.2.below turn.2.1 in
    let all =
    subst (λ (x : ℕ × PassState). RefusesAccesses 1 x.0 turn.0 x.1 new c.in-Err.refusal)
    (λ i. (shard i, c.pass.view_is i)) none in
    (turn.0, turn.1, all)
