-- the values of the turns, and their histories
use Rattle.std.proofs.Common.{vec_len, rules, ◌≡◌, ℕ, List, Result, Ok, Err, IfOk, Vec, Global, map, length, sym, ap, ◌∙◌, subst}
use Rattle.std.specs.List.{AllByRecursion}
use Rattle.atomic_table.specs.Seated.{TableId}
use Rattle.slnf_access.specs.declared.requests.Entry.{Entry}
use Rattle.slnf_base.specs.declared.memory.NoMemory.{NoMemory}
use Rattle.slnf_bucket.specs.Bucket.{IsKept}
use Rattle.slnf_turns.specs.declared.views.View.{View}
use Rattle.slnf_turns.specs.Passes.{view}
use Rattle.slnf_store.specs.declared.shards.Shard.{Shard}
use Rattle.slnf_store.specs.Passes.{PassState, IsPass}
use Rattle.slnf_store.specs.Closes.{IsClosed}
use Rattle.slnf_store.specs.Stores.{shards_of}
use Rattle.slnf_store.proofs.Histories.{entries_in}
use Rattle.slnf_store.proofs.Ends.{closed}
use Rattle.slnf_store.proofs.stores.Store.close.Goals as goal

entries : Vec Entry Global → List Entry
entries history = history.items

answered : (shards : ℕ) (v : View) (bs : List Shard) (r : Result (Vec (Vec Entry Global) Global) NoMemory)
    → (AllByRecursion (λ (b : Shard). IsKept b.bucket.value.kept) bs → IsClosed shards v (map entries_in bs))
    → IfOk r (λ (hs : Vec (Vec Entry Global) Global). map (λ (h : Vec Entry Global). h.items) hs.items
    ≡ map entries_in bs)
    → IfOk r (λ (hs : Vec (Vec Entry Global) Global). AllByRecursion (λ (b : Shard). IsKept b.bucket.value.kept) bs)
    → IfOk r (λ (hs : Vec (Vec Entry Global) Global). IsClosed shards v
    (map (λ (h : Vec Entry Global). h.items) hs.items))
answered shards v bs (Ok hs) f same kept = subst (IsClosed shards v) (sym same) (f kept)
answered shards v bs (Err x) f same kept = tt

pub returns : goal.returns
returns c =
    let p = c.root.inside in
    let v = view p.pass in
    let bs = c.close-values.result.0.items in
    let e = c.close-values.ensures in
    let here : p.pass.seat.table_id ≡ c.args.self.turns.table.shared.table_id = ap
    (λ (q : PassState). q.table_id) c.root.view_is ∙ c.requires.here in
    let is : IsPass (shards_of c.args.self) p.clock v = subst
    (λ (z : TableId). IsPass z.slots p.clock v) here c.root.invariant.2 in
    let known : v ≡ c.args.root.known = ap (λ (q : PassState). q.known) c.root.view_is in
    let many : length bs ≡ vec_len c.close-values.result.0 = search rules in
    record {
      closed = answered (shards_of c.args.self) c.args.root.known bs c.histories_of.result
          (λ kept. subst (λ (w : View). IsClosed (shards_of c.args.self) w (map entries_in bs)) known
          (closed (shards_of c.args.self) v bs (many
          ∙ e.count) e.values kept is.joined e.joined)) c.histories_of.ensures.entries c.histories_of.ensures.kept;
    }
