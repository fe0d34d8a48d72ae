-- The laws of lists of entries in order, and of stamps that rise on each key.
use Rattle.std.proofs.Common.{◌≡◌, ℕ, ◌%◌, ◌<◌, List, [], ◌∷◌, ◌++◌, arith, ap, ◌∙◌, sym, refl, subst, append_assoc}
use Rattle.std.specs.List.{AllByRecursion}
use Rattle.slnf_access.specs.declared.requests.Entry.{Entry}
use Rattle.slnf_access.specs.Map.{key_of}
use Rattle.slnf_access.specs.Order.{Precedes, InOrder, RisesOnKeys, IsInShard}
use Rattle.slnf_access.proofs.Elements.{each-at, each-back, each-weaker}

-- an order by (stamp, shard) is one
pub precedes-trans : (e f g : Entry) → Precedes e f → Precedes f g → Precedes e g
precedes-trans e f g h k = grind arith

-- the back of a list in order is in order
pub in_order-back : (xs ys : List Entry) → InOrder (xs ++ ys) → InOrder ys
in_order-back [] ys h = h
in_order-back (x ∷ []) [] h = tt
in_order-back (x ∷ []) (y ∷ ys) h = h.1
in_order-back (x ∷ z ∷ xs) ys h = in_order-back (z ∷ xs) ys h.1

-- and so is its front
pub in_order-front : (xs ys : List Entry) → InOrder (xs ++ ys) → InOrder xs
in_order-front [] ys h = tt
in_order-front (x ∷ []) ys h = tt
in_order-front (x ∷ z ∷ xs) ys h = (h.0, in_order-front (z ∷ xs) ys h.1)

-- an entry precedes each that stands behind it
pub in_order-first : (e : Entry) (es : List Entry) → InOrder (e ∷ es) → AllByRecursion (Precedes e) es
in_order-first e [] h = tt
in_order-first e (f ∷ es) h =
    (h.0, each-weaker (Precedes f) (Precedes e) (λ g k. precedes-trans e f g h.0 k) es (in_order-first f es h.1))

-- of two entries in order the first precedes the second
pub in_order-two : (xs ys zs : List Entry) (e f : Entry) → InOrder (xs ++ e ∷ (ys ++ f ∷ zs)) → Precedes e f
in_order-two xs ys zs e f h =
    each-at (Precedes e) ys zs f (in_order-first e (ys ++ f ∷ zs) (in_order-back xs (e ∷ (ys ++ f ∷ zs)) h))

-- of two entries on one key the first has the smaller stamp
pub stamps_rise : (shards : ℕ) (xs ys zs : List Entry) (e f : Entry) → InOrder (xs ++ e ∷ (ys ++ f ∷ zs)) →
    AllByRecursion (IsInShard shards) (xs ++ e ∷ (ys ++ f ∷ zs)) → key_of e.request ≡ key_of f.request →
    e.stamp < f.stamp
stamps_rise shards xs ys zs e f h in_shards key =
    let p : Precedes e f = in_order-two xs ys zs e f h in
    let one : IsInShard shards e = each-at (IsInShard shards) xs (ys ++ f ∷ zs) e in_shards in
    let rest : AllByRecursion (IsInShard shards) (e ∷ (ys ++ f ∷ zs)) =
    each-back (IsInShard shards) xs (e ∷ (ys ++ f ∷ zs)) in_shards in
    let two : IsInShard shards f = each-at (IsInShard shards) ys zs f rest.1 in
    let same : e.shard ≡ f.shard = one.shard ∙ ap (λ k. k % shards) key ∙ sym two.shard in
    grind arith

-- in a list in order whose entries are in their shards stamps rise on each key
pub rises_in_order : (shards : ℕ) (es : List Entry) → InOrder es → AllByRecursion (IsInShard shards) es → RisesOnKeys es
rises_in_order shards es in_order in_shards before middle later e f split key =
    stamps_rise shards before middle later e f (subst InOrder split in_order)
    (subst (AllByRecursion (IsInShard shards)) split in_shards) key

-- and in its front
pub rises-front : (xs ys : List Entry) → RisesOnKeys (xs ++ ys) → RisesOnKeys xs
rises-front xs ys h before middle later e f split key =
    let whole : xs ++ ys ≡ before ++ e ∷ (middle ++ f ∷ (later ++ ys)) =
    ap (λ zs. zs ++ ys) split
    ∙ append_assoc before (e ∷ (middle ++ f ∷ later)) ys
    ∙ ap (λ zs. before ++ e ∷ zs) (append_assoc middle (f ∷ later) ys) in
    h before middle (later ++ ys) e f whole key
