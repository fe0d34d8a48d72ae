-- The laws of merged histories that crates above cite.
use Rattle.std.proofs.Common.{◌≡◌, ℕ, ◌+◌, ◌%◌, ◌<◌, ◌==◌, Bool, true, false, cond, Option, List, [], ◌∷◌, ◌++◌, refl, sym, ap, ◌∙◌, subst, inl, inr, arith, eq-eqb, ne_eqb, eqb-true, append-nil, append_assoc}
use Rattle.std.specs.Prelude.{filter}
use Rattle.std.specs.List.Sorted.{IsPermutation}
use Rattle.std.proofs.lemmas.Bool.{cases_eq}
use Rattle.std.proofs.lemmas.List.Elements.{filter-append}
use Rattle.std.proofs.lemmas.List.Sorted.{IsPermutation-sym}
use Rattle.slnf_access.specs.declared.requests.Entry.{Entry}
use Rattle.slnf_access.specs.declared.requests.Held.{Held}
use Rattle.slnf_access.specs.Map.{key_of, reply_to, cell_step, Cells, empty, map_after, IsLegalFrom, IsLegal}
use Rattle.slnf_access.specs.Order.{InOrder}
use Rattle.slnf_merge.specs.Merge.{AreHistories, all_of, shard_part, InShards, EachLegal, MergesLegally}
pub use Rattle.slnf_merge.proofs.Orders.{IsIn, in_permuted, AllBefore, Strong, strong_from_order, strong_filtered, same_members}
use Rattle.slnf_merge.proofs.Orders.{history_in, history_order, AllIn}

-- two lists in strict order with the same entries are one
pub in_order_same : (xs ys : List Entry) → InOrder xs → InOrder ys → IsPermutation xs ys → xs ≡ ys
in_order_same xs ys a b same =
    same_members xs ys (strong_from_order xs a) (strong_from_order ys b)
    (λ z. in_permuted z xs ys same) (λ z. in_permuted z ys xs (IsPermutation-sym xs ys same))

-- a shard's part: its members, and that it is one history or none
part_of_in : (shard : ℕ) (es : List Entry) → AllIn shard es → shard_part shard es ≡ es
part_of_in shard [] h = refl
part_of_in shard (e ∷ es) h =
    let test : (e.shard == shard) ≡ true = eq-eqb _ _ h.0 in
    rw test (ap (λ (xs : List Entry). e ∷ xs) (part_of_in shard es h.1))

part_of_other : (shard other : ℕ) (es : List Entry) → ¬ (other ≡ shard) → AllIn other es → shard_part shard es ≡ []
part_of_other shard other [] n h = refl
part_of_other shard other (e ∷ es) n h =
    let same = h.0 in
    let test : (e.shard == shard) ≡ false = ne_eqb _ _ (λ k. n (sym same ∙ k)) in
    rw test (part_of_other shard other es n h.1)

part_below : (shard low : ℕ) (hs : List (List Entry)) → shard < low → AreHistories low hs → shard_part shard (all_of hs) ≡ []
part_below shard low [] l h = refl
part_below shard low (x ∷ hs) l h =
    let front = part_of_other shard low x (λ k. omega arith) (history_in low x h.0) in
    let rest = part_below shard (low + 1) hs (omega arith) h.1 in
    filter-append (λ e. e.shard == shard) x (all_of hs)
    ∙ ap (λ (xs : List Entry). xs ++ shard_part shard (all_of hs)) front ∙ rest

-- what holds of no entries and of each history holds of a shard's part
abbrev EachOf : (List Entry → Type 0) → ℕ → List (List Entry) → Type 0
EachOf Q low [] = Unit {0}
EachOf Q low (x ∷ hs) = Q x × EachOf Q (low + 1) hs

part_has : (Q : List Entry → Type 0) (shard low : ℕ) (hs : List (List Entry))
    → Q [] → AreHistories low hs → EachOf Q low hs → Q (shard_part shard (all_of hs))
part_has Q shard low [] none h each = none
part_has Q shard low (x ∷ hs) none h each =
    elim (cases_eq low shard) [
      | inl same ↦
          let front = part_of_in shard x (subst (λ (s : ℕ). AllIn s x) same (history_in low x h.0)) in
          let rest = part_below shard (low + 1) hs (omega arith) h.1 in
          let whole : shard_part shard (all_of (x ∷ hs)) ≡ x =
          filter-append (λ e. e.shard == shard) x (all_of hs)
          ∙ ap (λ (xs : List Entry). xs ++ shard_part shard (all_of hs)) front
          ∙ ap (λ (ys : List Entry). x ++ ys) rest ∙ append-nil x in
          subst Q (sym whole) each.0
      | inr other ↦
          let front = part_of_other shard low x other (history_in low x h.0) in
          let whole : shard_part shard (all_of (x ∷ hs)) ≡ shard_part shard (all_of hs) =
          filter-append (λ e. e.shard == shard) x (all_of hs)
          ∙ ap (λ (xs : List Entry). xs ++ shard_part shard (all_of hs)) front in
          subst Q (sym whole) (part_has Q shard (low + 1) hs none h.1 each.1)
    ]

each_strong : (low : ℕ) (hs : List (List Entry)) → AreHistories low hs → EachOf Strong low hs
each_strong low [] h = tt
each_strong low (x ∷ hs) h = (strong_from_order x (history_order low x h.0), each_strong (low + 1) hs h.1)

each_legal : (low : ℕ) (hs : List (List Entry)) → EachLegal hs → EachOf IsLegal low hs
each_legal low [] h = tt
each_legal low (x ∷ hs) h = (h.0, each_legal (low + 1) hs h.1)

in_filtered : (p : Entry → Bool) (x : Entry) (es : List Entry) → p x ≡ true → IsIn x es → IsIn x (filter p es)
in_filtered p x [] t i = i
in_filtered p x (e ∷ es) t i = by_test (p e) refl i (λ rest. in_filtered p x es t rest)
  where
    by_test : (b : Bool) → p e ≡ b → IsIn x (e ∷ es)
        → (IsIn x es → IsIn x (filter p es)) → IsIn x (cond b (e ∷ filter p es) (filter p es))
    by_test true q (inl same) k = inl same
    by_test true q (inr rest) k = inr (k rest)
    by_test false q (inl same) k = let failed : p x ≡ false = ap p (sym same) ∙ q in cc
    by_test false q (inr rest) k = k rest

filtered_in : (p : Entry → Bool) (x : Entry) (es : List Entry) → IsIn x (filter p es) → (p x ≡ true) × IsIn x es
filtered_in p x [] i = absurd i
filtered_in p x (e ∷ es) i = by_test (p e) refl i (λ rest. filtered_in p x es rest)
  where
    by_test : (b : Bool) → p e ≡ b → IsIn x (cond b (e ∷ filter p es) (filter p es))
        → (IsIn x (filter p es) → (p x ≡ true) × IsIn x es) → (p x ≡ true) × IsIn x (e ∷ es)
    by_test true q (inl same) k = (ap p (sym same) ∙ q, inl same)
    by_test true q (inr rest) k = ((k rest).0, inr (k rest).1)
    by_test false q rest k = ((k rest).0, inr (k rest).1)

-- a shard's part of the merged list is its part of the histories, which is its history
pub merged_part : (shard : ℕ) (hs : List (List Entry)) (merged : List Entry) → AreHistories 0 hs
    → InOrder merged → IsPermutation (all_of hs) merged → shard_part shard merged ≡ shard_part shard (all_of hs)
merged_part shard hs merged h order same =
    let test : Entry → Bool = λ e. e.shard == shard in
    same_members (shard_part shard merged) (shard_part shard (all_of hs))
    (strong_filtered test merged (strong_from_order merged order))
    (part_has Strong shard 0 hs tt h (each_strong 0 hs h))
    (λ z i. let was = filtered_in test z merged i in in_filtered test z
    (all_of hs) was.0 (in_permuted z merged (all_of hs) (IsPermutation-sym (all_of hs) merged same) was.1))
    (λ z i. let was = filtered_in test z (all_of hs) i in
    in_filtered test z merged was.0 (in_permuted z (all_of hs) merged same was.1))

-- a list is legal on each map that agrees at its keys
legal_agree : (K : ℕ → Type 0) (one other : Cells) (es : List Entry) → ((z : Entry) → IsIn z es → K (key_of z.request))
    → ((key : ℕ) → K key → one key ≡ other key) → IsLegalFrom one es → IsLegalFrom other es
legal_agree K one other [] own agree h = tt
legal_agree K one other (e ∷ es) own agree h =
    let here = agree (key_of e.request) (own e (inl refl)) in (
      h.0 ∙ ap (λ (held : Option Held). reply_to e.request e.stamp held) here,
      legal_agree K (map_after one (e ∷ [])) (map_after other (e ∷ [])) es
          (λ z i. own z (inr i)) (λ key k. ap (λ (held : Option Held). cell_step key held e) (agree key k)) h.1,
    )

-- the shard of each entry is its key's
shard_in : (shards : ℕ) (es : List Entry) (z : Entry) → InShards shards es → IsIn z es → z.shard ≡ key_of z.request % shards
shard_in shards [] z h i = absurd i
shard_in shards (e ∷ es) z h (inl same) = subst (λ (y : Entry). y.shard ≡ key_of y.request % shards) same h.0
shard_in shards (e ∷ es) z h (inr rest) = shard_in shards es z h.1 rest

in_shards : (shards : ℕ) (es : List Entry) → ((z : Entry) → IsIn z es → z.shard ≡ key_of z.request % shards) → InShards shards es
in_shards shards [] f = tt
in_shards shards (e ∷ es) f = (f e (inl refl), in_shards shards es (λ z i. f z (inr i)))

pub InShards-permuted : (shards : ℕ) (xs ys : List Entry) → IsPermutation xs ys → InShards shards xs → InShards shards ys
InShards-permuted shards xs ys same h =
    in_shards shards ys (λ z i. shard_in shards xs z h (in_permuted z ys xs (IsPermutation-sym xs ys same) i))

other_cell : (shards shard : ℕ) (cells : Cells) (e : Entry) (key : ℕ) → e.shard ≡ key_of e.request % shards
    → ¬ (e.shard ≡ shard) → key % shards ≡ shard → cells key ≡ map_after cells (e ∷ []) key
other_cell shards shard cells e key own other at =
    let test : (key_of e.request == key) ≡ false = ne_eqb _ _ (λ same. other (own ∙ ap (λ (k : ℕ). k % shards) same ∙ at)) in
    rw test refl

part_same : (cells : Cells) (e : Entry) (es : List Entry) → IsLegalFrom cells (shard_part e.shard (e ∷ es))
    → (e.reply ≡ reply_to e.request e.stamp (cells (key_of e.request)))
    × IsLegalFrom (map_after cells (e ∷ [])) (shard_part e.shard es)
part_same cells e es h =
    let test : (e.shard == e.shard) ≡ true = eq-eqb _ _ refl in
    let whole : shard_part e.shard (e ∷ es) ≡ e ∷ shard_part e.shard es = rw test refl in
    subst (λ (xs : List Entry). IsLegalFrom cells xs) whole h

part_other : (shards shard : ℕ) (cells : Cells) (e : Entry) (es : List Entry)
    → InShards shards (e ∷ es) → ¬ (e.shard ≡ shard)
    → IsLegalFrom cells (shard_part shard (e ∷ es)) → IsLegalFrom (map_after cells (e ∷ [])) (shard_part shard es)
part_other shards shard cells e es own other h =
    let test : (e.shard == shard) ≡ false = ne_eqb _ _ other in
    let whole : shard_part shard (e ∷ es) ≡ shard_part shard es = rw test refl in
    let rest : IsLegalFrom cells (shard_part shard es) = subst (λ (xs : List Entry). IsLegalFrom cells xs) whole h in
    legal_agree (λ key. key % shards ≡ shard) cells (map_after cells (e ∷ [])) (shard_part shard es)
    (λ z i. let was = filtered_in (λ f. f.shard == shard) z es i in sym (shard_in shards es z own.1 was.1) ∙ eqb-true _ _ was.0)
    (λ key at. other_cell shards shard cells e key own.0 other at)
    rest

-- a list is legal where each shard's part is
pub legal_from_parts : (shards : ℕ) (cells : Cells) (es : List Entry)
    → InShards shards es → ((shard : ℕ) → IsLegalFrom cells (shard_part shard es)) → IsLegalFrom cells es
legal_from_parts shards cells [] own parts = tt
legal_from_parts shards cells (e ∷ es) own parts =
    let mine = part_same cells e es (parts e.shard) in (
      mine.0,
      legal_from_parts shards (map_after cells (e ∷ [])) es own.1
          (λ shard. elim (cases_eq e.shard shard) [
            | inl same ↦ subst (λ (s : ℕ). IsLegalFrom (map_after cells (e ∷ [])) (shard_part s es)) same mine.1
            | inr other ↦ part_other shards shard cells e es own other (parts shard)
          ]),
    )

-- histories that are each legal by themselves merge to a legal list
pub merges_legally : (hs : List (List Entry)) (merged : List Entry)
    → AreHistories 0 hs → InOrder merged → IsPermutation (all_of hs) merged → MergesLegally hs merged
merges_legally hs merged h order same shards own legal =
    legal_from_parts shards empty merged (InShards-permuted shards (all_of hs) merged same own)
    (λ shard. rw (merged_part shard hs merged h order same) (part_has IsLegal shard 0 hs tt h (each_legal 0 hs legal)))

all_of-append : (xs ys : List (List Entry)) → all_of (xs ++ ys) ≡ all_of xs ++ all_of ys
all_of-append [] ys = refl
all_of-append (x ∷ xs) ys = ap (λ (zs : List Entry). x ++ zs) (all_of-append xs ys) ∙ sym (append_assoc x (all_of xs) (all_of ys))

-- all entries of one history more
pub all_of-push : (xs : List (List Entry)) (x : List Entry) → all_of (xs ++ x ∷ []) ≡ all_of xs ++ x
all_of-push xs x = all_of-append xs (x ∷ []) ∙ ap (λ (zs : List Entry). all_of xs ++ zs) (append-nil x)
