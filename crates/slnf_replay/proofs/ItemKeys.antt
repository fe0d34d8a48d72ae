-- The order of items' keys, and what a table has after one is put in or taken out.
use Rattle.std.proofs.Common.{◌≡◌, ℕ, Bool, true, false, cond, Option, Some, None, List, [], ◌∷◌, refl, ap, sym, ◌∙◌}
use Rattle.std.specs.Prelude.{◌&&◌, ◌==◌}
use Rattle.std.specs.declared.cmp.Ordering.{Ordering}
use Rattle.std.specs.declared.cmp.Ordering.TheVariants.{Less, Equal, Greater}
use Rattle.std.specs.Ordering.{nat_cmp, ordering_then, is_eq}
use Rattle.std.specs.Map.{lookup}
use Rattle.std.specs.BTreeMap.{is_at}
use Rattle.std.proofs.lemmas.Cmp.{nat_eq_equiv}
use Rattle.slnf_replay.specs.declared.hands.ItemKey.{ItemKey}
use Rattle.slnf_replay.specs.declared.hands.InHand.{InHand}
use Rattle.slnf_replay.specs.Hands.{is_same_item, hand_in, with_hand}

-- the order of the keys, by incarnation and item
abbrev pub item_cmp : ItemKey → ItemKey → Ordering
item_cmp a b = ordering_then (nat_cmp a.incarnation b.incarnation) (nat_cmp a.item b.item)

-- numbers that compare alike are one
tells : (x y : ℕ) → is_eq (nat_cmp x y) ≡ (x == y)
tells x y = Prim.grind (Rattle.std.proofs.Common.arith)

tells_back : (x y : ℕ) → is_eq (nat_cmp x y) ≡ (y == x)
tells_back x y = tells x y ∙ nat_eq_equiv.symm x y

both_eq : (o p : Ordering) → is_eq (ordering_then o p) ≡ (is_eq o && is_eq p)
both_eq Less p = refl
both_eq Equal p = refl
both_eq Greater p = refl

both_are : (o p : Ordering) (a b : Bool) → is_eq o ≡ a → is_eq p ≡ b → is_eq (ordering_then o p) ≡ (a && b)
both_are o p a b left right = both_eq o p ∙ (ap (λ x. x && is_eq p) left ∙ ap (λ y. a && y) right)

-- keys that compare alike are one
item_tells : (a b : ItemKey) → is_eq (item_cmp a b) ≡ is_same_item a b
item_tells a b = both_are _ _ _ _ (tells a.incarnation b.incarnation) (tells a.item b.item)

item_tells_back : (a b : ItemKey) → is_eq (item_cmp a b) ≡ is_same_item b a
item_tells_back a b = both_are _ _ _ _ (tells_back a.incarnation b.incarnation) (tells_back a.item b.item)

-- tests that answer alike find the same
lookup_same : {K X : Type 0} (test other : K → Bool) → ((k : K) → test k ≡ other k) → (es : List (K × X)) →
    lookup test es ≡ lookup other es
lookup_same test other h [] = refl
lookup_same test other h (e ∷ es) =
    ap (λ b. cond b (Some e.1) (lookup test es)) (h e.0)
    ∙ ap (cond (other e.0) (Some e.1)) (lookup_same test other h es)

-- the key of an incarnation's item
abbrev pub key_of_item : ℕ → ℕ → ItemKey
key_of_item incarnation item = record { incarnation = incarnation; item = item }

-- what the map finds is what the table has
pub found_at : (es : List (ItemKey × InHand)) (i k : ℕ) → lookup (is_at (item_cmp (key_of_item i k))) es
    ≡ hand_in es i k
found_at es i k = lookup_same _ _ (λ key. item_tells (key_of_item i k) key) es

-- the key has this, and each other what it had
abbrev pub IsUpdated : List (ItemKey × InHand) → List (ItemKey × InHand) → ItemKey → Option InHand → Type 0
IsUpdated es fs key hand = (q : ItemKey) → lookup (is_at (item_cmp q)) fs
    ≡ cond (is_at (item_cmp key) q) hand (lookup (is_at (item_cmp q)) es)

-- what a table has then
pub updated : (es fs : List (ItemKey × InHand)) (i k : ℕ) (hand : Option InHand) →
    IsUpdated es fs (key_of_item i k) hand → hand_in fs ≡ with_hand (hand_in es) i k hand
updated es fs i k hand h = λ z m n. point m n z
  where
    point : (m n : ℕ) → hand_in fs m n ≡ with_hand (hand_in es) i k hand m n
    point m n =
        let q : ItemKey = key_of_item m n in
        sym (found_at fs m n) ∙ h q
        ∙ ap (λ b. cond b hand (lookup (is_at (item_cmp q)) es)) (item_tells_back (key_of_item i k) q)
        ∙ ap (cond (is_same_item q (key_of_item i k)) hand) (found_at es m n)
