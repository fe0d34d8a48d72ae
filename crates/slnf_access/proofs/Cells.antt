-- The laws of one access on the map: what it leaves, and what it writes.
use Rattle.std.proofs.Common.{◌≡◌, ℕ, Bool, true, false, cond, ◌==◌, Option, Some, None, [], ◌∷◌, refl, ap, sym, ◌∙◌, subst, eqb-true, eq-eqb, ne_eqb}
use Rattle.slnf_access.specs.declared.requests.Held.{Held}
use Rattle.slnf_access.specs.declared.requests.Entry.{Entry}
use Rattle.slnf_access.specs.declared.requests.Request.{Request}
use Rattle.slnf_access.specs.declared.requests.Request.TheVariants.{Read, PutIfAbsent, ReplaceIf, DeleteIf}
use Rattle.slnf_access.specs.declared.requests.Reply.TheVariants.{Done, Found}
use Rattle.slnf_access.specs.Map.{is_done, key_of, reply_to, cell_after, cell_step, Cells, map_after}

-- an access that wasn't done leaves what its key has
pub not_done_leaves : (request : Request) (stamp : ℕ) (cell : Option Held) →
    is_done (reply_to request stamp cell) ≡ false → cell_after request stamp cell ≡ cell
not_done_leaves (Read key) stamp cell h = refl
not_done_leaves (PutIfAbsent key value) stamp None h = cc
not_done_leaves (PutIfAbsent key value) stamp (Some held) h = refl
not_done_leaves (ReplaceIf key version value) stamp None h = refl
not_done_leaves (ReplaceIf key version value) stamp (Some held) h = go (held.version == version) h
  where
    go : (b : Bool) → is_done (cond b (Done stamp) (Found held.value held.version)) ≡ false →
        Some (cond b (record { value = value; version = stamp }) held) ≡ Some held
    go true h = cc
    go false h = refl
not_done_leaves (DeleteIf key version) stamp None h = refl
not_done_leaves (DeleteIf key version) stamp (Some held) h = go (held.version == version) h
  where
    go : (b : Bool) → is_done (cond b (Done stamp) (Found held.value held.version)) ≡ false →
        cond b None (Some held) ≡ Some held
    go true h = cc
    go false h = refl

-- an access to another key leaves a key
pub other_leaves : (k : ℕ) (cell : Option Held) (e : Entry) → (key_of e.request ≡ k → ⊥) → cell_step k cell e ≡ cell
other_leaves k cell e apart = ap (λ b. cond b (cell_after e.request e.stamp cell) cell) (ne_eqb (key_of e.request) k apart)

-- an access to the key leaves what it leaves
pub own_step : (cell : Option Held) (e : Entry) → cell_step (key_of e.request) cell e ≡ cell_after e.request e.stamp cell
own_step cell e = ap (λ b. cond b (cell_after e.request e.stamp cell) cell) (eq-eqb (key_of e.request) (key_of e.request) refl)

-- an entry whose access wasn't done leaves the map
pub not_done_same : (cells : Cells) (e : Entry) → e.reply ≡ reply_to e.request e.stamp (cells (key_of e.request)) →
    is_done e.reply ≡ false → (k : ℕ) → map_after cells (e ∷ []) k ≡ cells k
not_done_same cells e replied h k = go (key_of e.request == k) refl
  where
    go : (b : Bool) → (key_of e.request == k) ≡ b → cond b (cell_after e.request e.stamp (cells k)) (cells k) ≡ cells k
    go false w = refl
    go true w =
        let same : key_of e.request ≡ k = eqb-true (key_of e.request) k w in
        not_done_leaves e.request e.stamp (cells k)
        (subst (λ n. is_done (reply_to e.request e.stamp (cells n)) ≡ false) same (ap is_done (sym replied) ∙ h))

-- the reply to an access on the map, where its key has this
pub reply_is : (cells : Cells) (e : Entry) (request : Request) (cell : Option Held) → e.request ≡ request →
    e.reply ≡ reply_to e.request e.stamp (cells (key_of e.request)) → cells (key_of request) ≡ cell →
    e.reply ≡ reply_to request e.stamp cell
reply_is cells e request cell asked replied is =
    replied ∙ ap (λ (q : Request). reply_to q e.stamp (cells (key_of q))) asked
    ∙ ap (λ (h : Option Held). reply_to request e.stamp h) is

-- what the access's key has after it
pub cell_is : (cells : Cells) (e : Entry) (request : Request) (cell : Option Held) → e.request ≡ request →
    cells (key_of request) ≡ cell → map_after cells (e ∷ []) (key_of request) ≡ cell_after request e.stamp cell
cell_is cells e request cell asked is =
    let there : Option Held = cells (key_of request) in
    ap (λ (q : Request). cond (key_of q == key_of request) (cell_after q e.stamp there) there) asked
    ∙ ap (λ b. cond b (cell_after request e.stamp there) there) (eq-eqb (key_of request) (key_of request) refl)
    ∙ ap (cell_after request e.stamp) is
