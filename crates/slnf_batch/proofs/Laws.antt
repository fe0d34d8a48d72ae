-- The laws of first keys and orders that crates above cite.
use Rattle.std.proofs.Common.{◌≡◌, ℕ, zero, suc, ◌<◌, ◌==◌, Bool, true, false, not, ◌&&◌, IsTrue, subst, ◌⊎◌, Option, Some, None, List, [], ◌∷◌, ◌++◌, length, map, get_or, refl, sym, ap, ◌∙◌, inl, inr, arith, ne_eqb}
use Rattle.std.specs.Prelude.{All}
use Rattle.std.proofs.lemmas.Bool.{cases_eq, lt-ltb}
use Rattle.std.proofs.lemmas.Bool.Decides.{nat_tests}
use Rattle.std.proofs.lemmas.List.{length-map, get_or-map}
use Rattle.std.proofs.lemmas.List.Sorted.{sorted_far, ranks_by, All-permutation, IsPermutation-map}
use Rattle.std.proofs.lemmas.List.Elements.{All-map}
use Rattle.std.proofs.lemmas.Map.Keys.{IsDistinct-from_apart, IsDistinct-IsPermutation, apart_from_distinct}
use Rattle.std.proofs.lemmas.Cmp.{then_total, on_total, nat_cmp_total}
use Rattle.std.specs.Cmp.{IsTotalOrder}
use Rattle.std.specs.List.Sorted.{IsPermutation, IsSortedByKey}
use Rattle.std.specs.Ordering.{nat_cmp, ordering_then, is_lt}
use Rattle.std.specs.declared.cmp.Ordering.{Ordering}
use Rattle.slnf_access.specs.declared.requests.Ask.{Ask}
use Rattle.slnf_access.specs.declared.requests.Key.{Key}
use Rattle.slnf_batch.specs.Order.{shard_of, GoesBefore, Ascends, ItemsDiffer}
use Rattle.slnf_run.specs.Jobs.{is_among, with_key, joins}
use Rattle.slnf_batch.specs.Firsts.{StandsAmong, number_of, keys_after}

-- a batch that has a key has it still when it takes one item more
still_has : (key : ℕ) (first : Option Key) (keys : List ℕ) → is_among (Some key) keys ≡ true →
    is_among (Some key) (with_key (number_of first) keys) ≡ true
still_has key None keys h = h
still_has key (Some other) keys h = grind (arith, nat_tests)

-- and when it takes more of them
has_after : (key : ℕ) (keys : List ℕ) (firsts : List (Option Key)) → is_among (Some key) keys ≡ true →
    is_among (Some key) (keys_after keys firsts) ≡ true
has_after key keys [] h = h
has_after key keys (first ∷ firsts) h =
    has_after key (with_key (number_of first) keys) firsts (still_has key first keys h)

-- it has the key of each item that it took
has_own : (key : Key) (first : Option Key) (keys : List ℕ) → first ≡ Some key →
    is_among (Some key.0) (with_key (number_of first) keys) ≡ true
has_own key None keys e = cc
has_own key (Some other) keys e =
    let number : Option Key → ℕ = λ x. elim x [ None ↦ 0 | Some k ↦ k.0 ] in
    let same : other.0 ≡ key.0 = ap number e in
    grind (arith, nat_tests)

has_taken : (key : Key) (keys : List ℕ) (firsts : List (Option Key)) (k : ℕ) → k < length firsts →
    get_or firsts k (Some key) ≡ Some key → is_among (Some key.0) (keys_after keys firsts) ≡ true
has_taken key keys [] k inside e = absurd (omega arith)
has_taken key keys (first ∷ firsts) zero inside e =
    has_after key.0 (with_key (number_of first) keys) firsts (has_own key first keys e)
has_taken key keys (first ∷ firsts) (suc k) inside e =
    has_taken key (with_key (number_of first) keys) firsts k (omega arith) e

-- and each key that it has it had, or took with one of these items
had_or_took : (key : Key) (keys : List ℕ) (firsts : List (Option Key)) →
    is_among (Some key.0) (keys_after keys firsts) ≡ true →
    (is_among (Some key.0) keys ≡ true) ⊎ StandsAmong (Some key) firsts
had_or_took key keys [] h = inl h
had_or_took key keys (first ∷ firsts) h =
    elim (had_or_took key (with_key (number_of first) keys) firsts h) [
      | inl held ↦ by_first first held
      | inr stands ↦ inr (suc stands.0, omega (arith, stands.1), stands.2)
    ]
  where
    by_first : (first : Option Key) → is_among (Some key.0) (with_key (number_of first) keys) ≡ true →
        (is_among (Some key.0) keys ≡ true) ⊎ StandsAmong (Some key) (first ∷ firsts)
    by_first None held = inl held
    by_first (Some other) held =
        elim (cases_eq other.0 key.0) [
          | inl same ↦ inr (0, omega arith, ap (λ (n : ℕ). Some (record { 0 = n })) same)
          | inr apart ↦ inl (grind (arith, nat_tests))
        ]

-- where there is room, a first key joins that stands among no key of the batch
pub joins_new : (limit size : ℕ) (keys : List ℕ) (key : Option ℕ) → size < limit →
    joins limit size keys key ≡ not (is_among key keys)
joins_new limit size keys key room = ap (λ b. b && not (is_among key keys)) (lt-ltb size limit room)

-- a first key stands among these exactly where the batch that took them has it
among_is : (first : Option Key) (firsts : List (Option Key)) (repeated : Bool) →
    (IsTrue repeated → StandsAmong first firsts) → (StandsAmong first firsts → IsTrue repeated) →
    repeated ≡ is_among (number_of first) (keys_after [] firsts)
among_is None firsts true to from = absurd (to refl)
among_is None firsts false to from = refl
among_is (Some key) firsts true to from =
    let stands = to refl in
    sym (has_taken key [] firsts stands.0 stands.1 stands.2)
among_is (Some key) firsts false to from = by_test (is_among (Some key.0) (keys_after [] firsts)) refl
  where
    by_test : (b : Bool) → is_among (Some key.0) (keys_after [] firsts) ≡ b → false ≡ b
    by_test false e = refl
    by_test true e = elim (had_or_took key [] firsts e) [ inl held ↦ absurd (cc) | inr stands ↦ from stands ]

-- the next item joins where its first key isn't repeated
pub joins_is : (limit : ℕ) (first : Option Key) (firsts : List (Option Key)) (repeated : Bool) →
    (IsTrue repeated → StandsAmong first firsts) → (StandsAmong first firsts → IsTrue repeated) →
    length firsts < limit → not repeated ≡ joins limit (length firsts) (keys_after [] firsts) (number_of first)
joins_is limit first firsts repeated to from room =
    ap not (among_is first firsts repeated to from)
    ∙ sym (joins_new limit (length firsts) (keys_after [] firsts) (number_of first) room)

-- the keys after one first key more
pub keys_after-more : (keys : List ℕ) (firsts : List (Option Key)) (first : Option Key) →
    keys_after keys (firsts ++ first ∷ []) ≡ with_key (number_of first) (keys_after keys firsts)
keys_after-more keys [] first = refl
keys_after-more keys (other ∷ firsts) first = keys_after-more (with_key (number_of other) keys) firsts first

-- the order of pairs of numbers
abbrev pub turn_cmp : ℕ × ℕ → ℕ × ℕ → Ordering
turn_cmp a b = ordering_then (nat_cmp a.0 b.0) (nat_cmp a.1 b.1)

turn_total : IsTotalOrder turn_cmp
turn_total = then_total (on_total (λ (p : ℕ × ℕ). p.0) nat_cmp_total) (on_total (λ (p : ℕ × ℕ). p.1) nat_cmp_total)

-- a pair that isn't behind another of another second number comes before it
not_behind : (s t m n : ℕ) → is_lt (turn_cmp (t, n) (s, m)) ≡ false → (m == n) ≡ false → (s < t) ⊎ ((s ≡ t) × (m < n))
not_behind s t m n order items = grind (arith, nat_tests)

-- each ask stands beside its shard
abbrev IsPlaced : ℕ → ℕ × Ask → Type 0
IsPlaced shards of_shard = of_shard.0 ≡ shard_of shards of_shard.1

all_placed : (shards : ℕ) (asks : List Ask) (placed : List (ℕ × Ask)) →
    IsPermutation (map (λ ask. (shard_of shards ask, ask)) asks) placed → All (IsPlaced shards) placed
all_placed shards asks placed same =
    All-permutation (IsPlaced shards) _ placed same
    (All-map (IsPlaced shards) (λ ask. (shard_of shards ask, ask)) asks (λ k d inside. refl))

without_shards : (shards : ℕ) (asks : List Ask) →
    map (λ (of_shard : ℕ × Ask). of_shard.1) (map (λ ask. (shard_of shards ask, ask)) asks) ≡ asks
without_shards shards [] = refl
without_shards shards (ask ∷ asks) = ap (λ rest. ask ∷ rest) (without_shards shards asks)

-- asks that are placed and change places are the same without their shards
pub placed_same : (shards : ℕ) (asks : List Ask) (placed : List (ℕ × Ask)) →
    IsPermutation (map (λ ask. (shard_of shards ask, ask)) asks) placed →
    IsPermutation asks (map (λ (of_shard : ℕ × Ask). of_shard.1) placed)
placed_same shards asks placed same =
    subst (λ from. IsPermutation from (map (λ (of_shard : ℕ × Ask). of_shard.1) placed)) (without_shards shards asks)
    (IsPermutation-map (λ (of_shard : ℕ × Ask). of_shard.1) _ placed same)

-- and where a sort put them in order, they ascend
pub placed_ascend : (shards : ℕ) (asks : List Ask) (placed : List (ℕ × Ask)) →
    IsPermutation (map (λ ask. (shard_of shards ask, ask)) asks) placed → ItemsDiffer asks →
    IsSortedByKey (λ (of_shard : ℕ × Ask). (of_shard.0, of_shard.1.item)) turn_cmp placed →
    Ascends shards (map (λ (of_shard : ℕ × Ask). of_shard.1) placed)
placed_ascend shards asks placed same differ sorted = λ i j d before inside.
    let ask_in : ℕ × Ask → Ask = λ of_shard. of_shard.1 in
    let inner : j < length placed = omega (arith, inside, length-map placed ask_in) in
    let at : (k : ℕ) → k < length placed → get_or (map ask_in placed) k d ≡ (get_or placed k (0, d)).1 =
    λ k within. get_or-map ask_in placed k (0, d) d within in
    let beside = all_placed shards asks placed same in
    let order = sorted_far _ (ranks_by turn_total (λ (of_shard : ℕ × Ask). (of_shard.0, of_shard.1.item))) placed sorted
    i j (0, d) (omega arith) inner in
    let items = ne_eqb _ _ (differ_after asks _ (placed_same shards asks placed same) differ i j d before inside) in
    rw (at i (omega arith), at j inner)
    (by_shard shards (get_or placed i (0, d)) (get_or placed j (0, d)) (beside i (0, d) (omega arith)) (beside j (0, d) inner)
    (not_behind _ _ _ _ order (rw (← at i (omega arith), ← at j inner) items)))
  where
    differ_after : (xs ys : List Ask) → IsPermutation xs ys → ItemsDiffer xs → ItemsDiffer ys
    differ_after xs ys same differ = λ i j d before inside.
        let alike : Ask → Ask → Bool = λ a b. a.item == b.item in
        let apart = IsDistinct-from_apart alike xs (λ i j d before inside. ne_eqb _ _ (differ i j d before inside)) in
        let distinct = IsDistinct-IsPermutation alike (λ a b. grind (arith, nat_tests)) xs ys same apart in
        let items = apart_from_distinct alike ys i j d distinct before inside in
        λ e. grind (arith, nat_tests)

    by_shard : (shards : ℕ) (p q : ℕ × Ask) → IsPlaced shards p → IsPlaced shards q →
        (p.0 < q.0) ⊎ ((p.0 ≡ q.0) × (p.1.item < q.1.item)) → GoesBefore shards p.1 q.1
    by_shard shards p q ep eq h = rw (← ep, ← eq) h

-- the first ask comes before all others, and these ascend
pub Ascends-head : (shards : ℕ) (ask : Ask) (asks : List Ask) → Ascends shards (ask ∷ asks) →
    All (GoesBefore shards ask) asks
Ascends-head shards ask asks h = λ k d inside. h 0 (suc k) d (omega arith) (omega arith)

pub Ascends-tail : (shards : ℕ) (ask : Ask) (asks : List Ask) → Ascends shards (ask ∷ asks) → Ascends shards asks
Ascends-tail shards ask asks h = λ i j d before inside. h (suc i) (suc j) d (omega arith) (omega arith)

pub ItemsDiffer-nil : ItemsDiffer []
ItemsDiffer-nil i j d before inside = absurd (omega arith)

-- no item stands twice where one ask more has another item than all of these
pub ItemsDiffer-cons : (ask : Ask) (asks : List Ask) → All (λ other. ¬ (ask.item ≡ other.item)) asks →
    ItemsDiffer asks → ItemsDiffer (ask ∷ asks)
ItemsDiffer-cons ask asks new differ zero zero d before inside = absurd (omega arith)
ItemsDiffer-cons ask asks new differ zero (suc j) d before inside = new j d (omega arith)
ItemsDiffer-cons ask asks new differ (suc i) zero d before inside = absurd (omega arith)
ItemsDiffer-cons ask asks new differ (suc i) (suc j) d before inside = differ i j d (omega arith) (omega arith)
