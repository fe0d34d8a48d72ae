-- The order of connections' keys, and what a table has after a connection is put in.
use Rattle.std.proofs.Common.{◌≡◌, ℕ, cond, Some, List, ap, sym, ◌∙◌}
use Rattle.std.specs.Prelude.{◌==◌}
use Rattle.std.specs.declared.cmp.Ordering.{Ordering}
use Rattle.std.specs.Ordering.{nat_cmp, ordering_then, is_eq}
use Rattle.std.specs.Map.{lookup}
use Rattle.std.specs.BTreeMap.{is_at}
use Rattle.std.proofs.lemmas.Cmp.{nat_eq_equiv}
use Rattle.slnf_base.specs.declared.addresses.Pair.{Pair}
use Rattle.slnf_base.specs.Equal.{is_same_pair}
use Rattle.slnf_keys.specs.declared.keys.ConnKey.{ConnKey}
use Rattle.slnf_run.specs.Tables.{with_value}
use Rattle.slnf_box.specs.FwBox.{is_same_conn}
use Rattle.slnf_box.specs.declared.choices.Tracked.{Tracked}
use Rattle.slnf_box.specs.declared.conns.Link.{Link}
use Rattle.slnf_box.specs.Conns.{link_of, is_same_link, conn_at}
use Rattle.slnf_box.proofs.Ends.{tells, both_are, lookup_same}

-- the order of pairs, by address and port
abbrev pub pair_cmp : Pair → Pair → Ordering
pair_cmp a b = ordering_then (nat_cmp a.addr b.addr) (nat_cmp a.port b.port)

-- the order of the keys, by protocol and both pairs
abbrev pub link_cmp : Link → Link → Ordering
link_cmp a b = ordering_then (nat_cmp a.proto b.proto) (ordering_then (pair_cmp a.inside b.inside) (pair_cmp a.outside b.outside))

-- the same from the other side, for numbers and pairs
tells_back : (x y : ℕ) → is_eq (nat_cmp x y) ≡ (y == x)
tells_back x y = tells x y ∙ nat_eq_equiv.symm x y

pair_tells : (a b : Pair) → is_eq (pair_cmp a b) ≡ is_same_pair a b
pair_tells a b = both_are _ _ _ _ (tells a.addr b.addr) (tells a.port b.port)

pair_tells_back : (a b : Pair) → is_eq (pair_cmp a b) ≡ is_same_pair b a
pair_tells_back a b = both_are _ _ _ _ (tells_back a.addr b.addr) (tells_back a.port b.port)

-- keys that compare alike are one
link_tells : (a b : Link) → is_eq (link_cmp a b) ≡ is_same_link a b
link_tells a b =
    both_are _ _ _ _ (tells a.proto b.proto)
    (both_are _ _ _ _ (pair_tells a.inside b.inside) (pair_tells a.outside b.outside))

link_tells_back : (a b : Link) → is_eq (link_cmp a b) ≡ is_same_link b a
link_tells_back a b =
    both_are _ _ _ _ (tells_back a.proto b.proto)
    (both_are _ _ _ _ (pair_tells_back a.inside b.inside) (pair_tells_back a.outside b.outside))

-- what the map finds is what the table has
pub found_at : (es : List (Link × Tracked)) (key : ConnKey) → lookup (is_at (link_cmp (link_of key))) es ≡ conn_at es key
found_at es key = lookup_same _ _ (λ k. link_tells (link_of key) k) es

-- the key k has this value, and each other what it had
abbrev pub IsPut : List (Link × Tracked) → List (Link × Tracked) → Link → Tracked → Type 0
IsPut es fs k value = (q : Link)
    → lookup (is_at (link_cmp q)) fs ≡ cond (is_at (link_cmp k) q) (Some value) (lookup (is_at (link_cmp q)) es)

-- what a table has where one connection is put in
put_point : (es fs : List (Link × Tracked)) (k : Link) (key : ConnKey) (value : Tracked) → k ≡ link_of key
    → IsPut es fs k value → (other : ConnKey) → conn_at fs other ≡ with_value is_same_conn (conn_at es) key value other
put_point es fs k key value is_key h other =
    let q = link_of other in
    sym (found_at fs other) ∙ h q
    ∙ ap (λ b. cond b (Some value) (lookup (is_at (link_cmp q)) es)) (link_tells_back k q)
    ∙ ap (λ r. cond (is_same_link q r) (Some value) (lookup (is_at (link_cmp q)) es)) is_key
    ∙ ap (cond (is_same_link q (link_of key)) (Some value)) (found_at es other)

pub put_conns : (es fs : List (Link × Tracked)) (k : Link) (key : ConnKey) (value : Tracked)
    → k ≡ link_of key → IsPut es fs k value → conn_at fs ≡ with_value is_same_conn (conn_at es) key value
put_conns es fs k key value is_key h = λ i other. put_point es fs k key value is_key h other i
