-- A list in order is known by its shards' parts.
use Rattle.std.proofs.Common.{◌≡◌, ℕ, ◌≤◌, ◌<◌, ◌==◌, inl, inr, List, [], ◌∷◌, refl, sym, ap, ap₂, ◌∙◌, subst, eq-eqb, ne_eqb, arith}
use Rattle.std.proofs.lemmas.Bool.{cases_eq, cases_lt, cond-true, cond-false}
use Rattle.slnf_access.specs.declared.requests.Entry.{Entry}
use Rattle.slnf_access.specs.Order.{Precedes, InOrder}
use Rattle.slnf_run.specs.Scheduled.{in_order}
use Rattle.slnf_run.specs.Made.{Pairs, of_shard}
use Rattle.slnf_run.proofs.Pairing.{each-filter}
use Rattle.slnf_run.proofs.Rising.{rises_of_number}
use Rattle.slnf_run.proofs.Sorting.{precedes_both, pairs_of_order, in_order-pairs, filter-in_order, apart_of_rises}
use Rattle.std.specs.List.{AllByRecursion}

pub of_shard-own : (shard : ℕ) (e : Entry) (es : List Entry) → e.shard ≡ shard → of_shard shard (e ∷ es)
    ≡ e ∷ of_shard shard es
of_shard-own shard e es h = cond-true (e.shard == shard) (e ∷ of_shard shard es) (of_shard shard es)
    (eq-eqb e.shard shard h)

pub of_shard-other : (shard : ℕ) (e : Entry) (es : List Entry) → (e.shard ≡ shard → ⊥) → of_shard shard (e ∷ es)
    ≡ of_shard shard es
of_shard-other shard e es h = cond-false (e.shard == shard) (e ∷ of_shard shard es) (of_shard shard es)
    (ne_eqb e.shard shard h)

cons_parts : (x y : Entry) (xs ys : List Entry) → x ∷ xs ≡ y ∷ ys → (x ≡ y) × (xs ≡ ys)
cons_parts x y xs ys h = (cc, cc)

-- the first of a part is behind the first of the list
first_behind : (x y : Entry) (xs ys : List Entry) → Pairs Precedes (y ∷ ys) → (y.shard ≡ x.shard → ⊥) → x ∷ xs
    ≡ of_shard x.shard (y ∷ ys) → Precedes y x
first_behind x y xs ys h n same =
    let part : of_shard x.shard ys ≡ x ∷ xs = sym (same ∙ of_shard-other x.shard y ys n) in
    (subst (AllByRecursion (Precedes y)) part (each-filter (Precedes y) (λ e. e.shard == x.shard) ys h.0)).0

-- of two lists in order with the same parts the first entries are one
same_first : (x y : Entry) (xs ys : List Entry) → Pairs Precedes (x ∷ xs) → Pairs Precedes (y ∷ ys) →
    ((shard : ℕ) → of_shard shard (x ∷ xs) ≡ of_shard shard (y ∷ ys)) → x ≡ y
same_first x y xs ys h k same =
    let one : x ∷ of_shard x.shard xs ≡ of_shard x.shard (y ∷ ys) = sym (of_shard-own x.shard x xs refl)
    ∙ same x.shard in
    let two : y ∷ of_shard y.shard ys ≡ of_shard y.shard (x ∷ xs) = sym (of_shard-own y.shard y ys refl)
    ∙ sym (same y.shard) in
    elim (cases_eq y.shard x.shard) [
      | inl q ↦ (cons_parts x y (of_shard x.shard xs) (of_shard x.shard ys) (one ∙ of_shard-own x.shard y ys q)).0
      | inr n ↦
          absurd (precedes_both x y
          (first_behind y x (of_shard y.shard ys) xs h (λ q. n (sym q)) two)
          (first_behind x y (of_shard x.shard xs) ys k n one))
    ]

-- two lists in order with the same parts are one
pub same_of_parts : (xs ys : List Entry) → Pairs Precedes xs → Pairs Precedes ys →
    ((shard : ℕ) → of_shard shard xs ≡ of_shard shard ys) → xs ≡ ys
same_of_parts [] [] h k same = refl
same_of_parts [] (y ∷ ys) h k same =
    let q : [] ≡ y ∷ of_shard y.shard ys = same y.shard ∙ of_shard-own y.shard y ys refl in absurd (cc)
same_of_parts (x ∷ xs) [] h k same =
    let q : x ∷ of_shard x.shard xs ≡ [] = sym (of_shard-own x.shard x xs refl) ∙ same x.shard in absurd (cc)
same_of_parts (x ∷ xs) (y ∷ ys) h k same =
    let first : x ≡ y = same_first x y xs ys h k same in
    ap₂ (λ (z : Entry) (zs : List Entry). z ∷ zs) first
    (same_of_parts xs ys h.1 k.1 (λ shard. rest first shard (same shard)))
  where
    rest : x ≡ y → (shard : ℕ) → of_shard shard (x ∷ xs) ≡ of_shard shard (y ∷ ys) → of_shard shard xs
        ≡ of_shard shard ys
    rest first shard q = elim (cases_eq x.shard shard) [
      | inl own ↦
          (cons_parts x y (of_shard shard xs) (of_shard shard ys)
          (sym (of_shard-own shard x xs own) ∙ (q ∙ of_shard-own shard y ys (ap (λ (e : Entry). e.shard) (sym first)
          ∙ own)))).1
      | inr n ↦
          sym (of_shard-other shard x xs n) ∙ (q ∙ of_shard-other shard y ys
          (λ r. n (ap (λ (e : Entry). e.shard) first ∙ r)))
    ]

-- a shard that no entry has has no part
pub no_part : (shards shard : ℕ) (es : List Entry) → shards ≤ shard → AllByRecursion (λ e. e.shard < shards) es →
    of_shard shard es ≡ []
no_part shards shard [] l h = refl
no_part shards shard (e ∷ es) l h =
    of_shard-other shard e es (λ q. let k : e.shard < shards = h.0 in omega arith) ∙ no_part shards shard es l h.1

-- a list in order that has each shard's part of the other is the other in order
pub merged_is_in_order : (shards : ℕ) (j m : List Entry) → Pairs (λ e f. e.shard ≡ f.shard → e.stamp < f.stamp) m →
    AllByRecursion (λ e. e.shard < shards) m → InOrder j → AllByRecursion (λ e. e.shard < shards) j →
    ((shard : ℕ) → shard < shards → of_shard shard j ≡ of_shard shard m) → j ≡ in_order m
merged_is_in_order shards j m rise within ordered inside same =
    same_of_parts j (in_order m) (pairs_of_order j ordered) (in_order-pairs m (apart_of_rises m rise))
    (λ shard. parts shard ∙ sym (filter-in_order (λ e. e.shard == shard) m
    (rises_of_number (λ e. e.shard) shard m rise)))
  where
    parts : (shard : ℕ) → of_shard shard j ≡ of_shard shard m
    parts shard = elim (cases_lt shard shards) [
      | inl l ↦ same shard l
      | inr l ↦ no_part shards shard j l inside ∙ sym (no_part shards shard m l within)
    ]

-- lists with the same parts are one in order
pub in_order_by_parts : (m n : List Entry) → Pairs (λ e f. e.shard ≡ f.shard → e.stamp < f.stamp) m →
    Pairs (λ e f. e.shard ≡ f.shard → e.stamp < f.stamp) n → ((shard : ℕ) → of_shard shard m ≡ of_shard shard n) →
    in_order m ≡ in_order n
in_order_by_parts m n one two same =
    same_of_parts (in_order m) (in_order n) (in_order-pairs m (apart_of_rises m one))
    (in_order-pairs n (apart_of_rises n two))
    (λ shard. filter-in_order (λ e. e.shard == shard) m (rises_of_number (λ e. e.shard) shard m one)
    ∙ (same shard ∙ sym (filter-in_order (λ e. e.shard == shard) n (rises_of_number (λ e. e.shard) shard n two))))
