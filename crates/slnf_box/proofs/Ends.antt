-- The order of a table's keys, and what a table has after a pair is put in.
use Rattle.std.proofs.Common.{◌≡◌, ℕ, Bool, true, false, cond, Option, Some, None, List, [], ◌∷◌, refl, ap, sym, ◌∙◌}
use Rattle.std.specs.Prelude.{◌&&◌, ◌==◌}
use Rattle.std.specs.declared.cmp.Ordering.{Ordering}
use Rattle.std.specs.declared.cmp.Ordering.TheVariants.{Less, Equal, Greater}
use Rattle.std.specs.Ordering.{nat_cmp, ordering_then, is_eq, match_ordering}
use Rattle.std.specs.Map.{lookup, remove_entry}
use Rattle.std.specs.BTreeMap.{is_at, insert_entry}
use Rattle.std.proofs.lemmas.Cmp.{nat_eq_equiv}
use Rattle.std.proofs.lemmas.Bool.{and_from, eq-eqb}
use Rattle.slnf_base.specs.declared.addresses.Pair.{Pair}
use Rattle.slnf_base.specs.declared.packets.Proto.{Proto}
use Rattle.slnf_box.specs.LbBox.{with_pin}
use Rattle.slnf_box.specs.declared.pairs.End.{End}
use Rattle.slnf_box.specs.Pairs.{end_cmp, end_of, is_same_end, pair_at, put_in, taken_from}

-- numbers that compare alike are one
pub tells : (x y : ℕ) → is_eq (nat_cmp x y) ≡ (x == y)
tells x y = Prim.grind (Rattle.std.proofs.Common.arith)

-- parts that compare alike
both_eq : (o p : Ordering) → is_eq (ordering_then o p) ≡ (is_eq o && is_eq p)
both_eq Less p = refl
both_eq Equal p = refl
both_eq Greater p = refl

pub both_are : (o p : Ordering) (a b : Bool) → is_eq o ≡ a → is_eq p ≡ b → is_eq (ordering_then o p) ≡ (a && b)
both_are o p a b left right = both_eq o p ∙ (ap (λ x. x && is_eq p) left ∙ ap (λ y. a && y) right)

-- keys that compare alike are one
pub end_tells : (a b : End) → is_eq (end_cmp a b) ≡ is_same_end a b
end_tells a b =
    both_are _ _ _ _ (tells a.proto b.proto) (both_are _ _ _ _ (tells a.addr b.addr) (tells a.port b.port))

-- the same from the other side
pub end_tells_back : (a b : End) → is_eq (end_cmp a b) ≡ is_same_end b a
end_tells_back a b =
    both_are _ _ _ _ (tells a.proto b.proto ∙ nat_eq_equiv.symm a.proto b.proto)
    (both_are _ _ _ _ (tells a.addr b.addr ∙ nat_eq_equiv.symm a.addr b.addr)
    (tells a.port b.port ∙ nat_eq_equiv.symm a.port b.port))

-- tests that answer alike find the same
pub lookup_same : {K X : Type 0} (test other : K → Bool)
    → ((k : K) → test k ≡ other k) → (es : List (K × X)) → lookup test es ≡ lookup other es
lookup_same test other h [] = refl
lookup_same test other h (e ∷ es) =
    ap (λ b. cond b (Some e.1) (lookup test es)) (h e.0) ∙ ap (cond (other e.0) (Some e.1)) (lookup_same test other h es)

-- what the map finds is what the table has
pub found_at : (es : List (End × Pair)) (proto : Proto) (pair : Pair)
    → lookup (is_at (end_cmp (end_of proto pair))) es ≡ pair_at es proto pair
found_at es proto pair = lookup_same _ _ (λ k. end_tells (end_of proto pair) k) es

-- the key k has this value, and each other what it had
abbrev pub IsPut : List (End × Pair) → List (End × Pair) → End → Pair → Type 0
IsPut es fs k value = (q : End)
    → lookup (is_at (end_cmp q)) fs ≡ cond (is_at (end_cmp k) q) (Some value) (lookup (is_at (end_cmp q)) es)

-- what a table has where one pair is put in
put_point : (es fs : List (End × Pair)) (k : End) (proto : Proto) (pair value : Pair)
    → k ≡ end_of proto pair → IsPut es fs k value → (other_proto : Proto) (other : Pair)
    → pair_at fs other_proto other ≡ with_pin (pair_at es) proto pair value other_proto other
put_point es fs k proto pair value key h other_proto other =
    let q = end_of other_proto other in
    sym (found_at fs other_proto other) ∙ h q
    ∙ ap (λ b. cond b (Some value) (lookup (is_at (end_cmp q)) es)) (end_tells_back k q)
    ∙ ap (λ r. cond (is_same_end q r) (Some value) (lookup (is_at (end_cmp q)) es)) key
    ∙ ap (cond (is_same_end q (end_of proto pair)) (Some value)) (found_at es other_proto other)

pub put_pairs : (es fs : List (End × Pair)) (k : End) (proto : Proto) (pair value : Pair)
    → k ≡ end_of proto pair → IsPut es fs k value → pair_at fs ≡ with_pin (pair_at es) proto pair value
put_pairs es fs k proto pair value key h = λ i other_proto other. put_point es fs k proto pair value key h other_proto other i

-- a key is its own
end_itself : (k : End) → is_at (end_cmp k) k ≡ true
end_itself k =
    end_tells k k
    ∙ and_from _ _ (eq-eqb k.proto k.proto refl) (and_from _ _ (eq-eqb k.addr k.addr refl) (eq-eqb k.port k.port refl))

-- something is not nothing
some_none : {X : Type 0} {A : Type 0} (x : X) → let some : Option X = Some x in some ≡ None → A
some_none x h = absurd cc

-- nothing is there in the rest
rest_none : (b : Bool) (x : Pair) (o : Option Pair) → cond b (Some x) o ≡ None → o ≡ None
rest_none true x o h = some_none x h
rest_none false x o h = h

-- what was put in at a key that was not there is taken out again
removed : (compare : End → End → Ordering) (k : End) (value : Pair)
    → is_at (compare k) k ≡ true → (e : End × Pair) (es : List (End × Pair)) (o : Ordering)
    → compare k e.0 ≡ o → cond (is_eq o) (Some e.1) (lookup (is_at (compare k)) es) ≡ None
    → remove_entry (is_at (compare k)) (insert_entry compare es k value) ≡ es → remove_entry (is_at (compare k))
    (match_ordering o ((k, value) ∷ e ∷ es) ((e.0, value) ∷ es) (e ∷ insert_entry compare es k value)) ≡ e ∷ es
removed compare k value itself e es Less is none again =
    ap (λ b. cond b (e ∷ es) ((k, value) ∷ remove_entry (is_at (compare k)) (e ∷ es))) itself
removed compare k value itself e es Equal is none again = some_none e.1 none
removed compare k value itself e es Greater is none again =
    ap (λ o. cond (is_eq o) (insert_entry compare es k value)
    (e ∷ remove_entry (is_at (compare k)) (insert_entry compare es k value))) is
    ∙ ap (λ rest. e ∷ rest) again

undone_by : (compare : End → End → Ordering) (k : End) (value : Pair)
    → is_at (compare k) k ≡ true → (es : List (End × Pair))
    → lookup (is_at (compare k)) es ≡ None → remove_entry (is_at (compare k)) (insert_entry compare es k value) ≡ es
undone_by compare k value itself [] none = ap (λ b. cond b [] ((k, value) ∷ [])) itself
undone_by compare k value itself (e ∷ es) none =
    removed compare k value itself e es (compare k e.0) refl none
    (undone_by compare k value itself es (rest_none (is_at (compare k) e.0) e.1 _ none))

pub undone : (es : List (End × Pair)) (proto : Proto) (pair value : Pair)
    → pair_at es proto pair ≡ None → taken_from (put_in es proto pair value) proto pair ≡ es
undone es proto pair value none =
    undone_by end_cmp (end_of proto pair) value (end_itself (end_of proto pair)) es (found_at es proto pair ∙ none)
