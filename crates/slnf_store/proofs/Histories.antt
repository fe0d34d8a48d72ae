-- The histories that come back, shard by shard.
use Rattle.std.proofs.Common.{◌≡◌, ℕ, zero, suc, ◌+◌, ◌<◌, ◌≤◌, ◌^◌, ◌==◌, if◌then◌else◌, Bool, true, false, cond, List, [], ◌∷◌, ◌++◌, map, length, Some, refl, sym, ap, ◌∙◌, subst, inl, inr, ⊎_elim, arith, eq-eqb, ne_eqb}
use Rattle.std.specs.Prelude.{slice_get}
use Rattle.std.specs.List.{AllByRecursion}
use Rattle.std.proofs.lemmas.Bool.{cases_eq}
use Rattle.slnf_access.specs.declared.requests.Entry.{Entry}
use Rattle.slnf_access.specs.Map.{IsLegal}
use Rattle.slnf_access.specs.Order.{IsHistory}
use Rattle.slnf_bucket.specs.Bucket.{IsKept, AreOwn, RisesFrom, last_stamp}
use Rattle.slnf_bucket.proofs.Laws.{IsHistory-from_kept}
use Rattle.slnf_merge.specs.Merge.{AreHistories, InShards, EachLegal, all_of, shard_part}
use Rattle.slnf_turns.specs.declared.views.Line.{Line}
use Rattle.slnf_turns.specs.declared.views.Joined.{Joined}
use Rattle.slnf_turns.specs.declared.views.View.{View}
use Rattle.slnf_turns.specs.Views.{Begins, lines_of, part_of, seen_of, list_in}
use Rattle.slnf_turns.specs.Values.{IsLast}
use Rattle.slnf_store.specs.Lines.{line_of, noted_of, entry_of}
use Rattle.slnf_store.specs.declared.shards.Shard.{Shard}
use Rattle.slnf_store.specs.Passes.{entries_seen}
use Rattle.slnf_store.specs.Closes.{history_at, incarnation_part, list_of}
use Rattle.slnf_store.proofs.Written.{entries_back, begins_back}
use Rattle.slnf_merge.proofs.Laws.{IsIn}
use Rattle.slnf_store.proofs.Members.{in_left, in_right, in_either, all_append, all_map}

-- the entries of a shard's bucket
abbrev pub entries_in : Shard → List Entry
entries_in b = b.bucket.value.kept.entries

abbrev pub lines_in : Shard → List Line
lines_in b = map line_of b.bucket.value.kept.entries

abbrev pub place_of : Shard → ℕ
place_of b = b.bucket.value.kept.shard

abbrev pub places_of : Shard → ℕ
places_of b = b.bucket.value.kept.shards

-- what is known of the history of one shard among so many
pub record IsHistoryOf (shard shards : ℕ) (v : View) (es : List Entry) : Type 0 where
  pub in_place : IsHistory shard es
  pub own : InShards shards es
  pub legal : IsLegal es
  pub parts : (i : ℕ) → lines_of i (map line_of es) ≡ part_of shard (list_in i v)
  pub seen : AllByRecursion (λ (x : Joined). Begins (entries_seen x.seen shard) es) v.joined
  pub ranged : AllByRecursion (λ (e : Entry). (0 < e.stamp) × (e.stamp < 2 ^ 62)) es

abbrev pub AreHistoriesOf : ℕ → ℕ → View → List (List Entry) → Type 0
AreHistoriesOf low shards v [] = Unit {0}
AreHistoriesOf low shards v (h ∷ hs) = IsHistoryOf low shards v h × AreHistoriesOf (low + 1) shards v hs

in_shards : (shard shards : ℕ) (es : List Entry) → AreOwn shard shards es → InShards shards es
in_shards shard shards [] h = tt
in_shards shard shards (e ∷ es) h = (h.0 ∙ sym h.1, in_shards shard shards es h.2)

-- stamps that rise are above the one before them, and none is above the last
rises_last : (clock : ℕ) (es : List Entry) → RisesFrom clock es → clock ≤ last_stamp clock es
rises_last clock [] r = omega arith
rises_last clock (e ∷ es) r = let up = r.0 in let rest = rises_last e.stamp es r.1 in omega arith

rises_within : (clock end : ℕ) (es : List Entry) → RisesFrom clock es → last_stamp clock es < end
    → AllByRecursion (λ (e : Entry). (0 < e.stamp) × (e.stamp < end)) es
rises_within clock end [] r below = tt
rises_within clock end (e ∷ es) r below = let up = r.0 in
    let rest = rises_last e.stamp es r.1 in ((omega arith, omega arith), rises_within e.stamp end es r.1 below)

one_history : (low shards : ℕ) (v : View) (b : Shard) → IsLast lines_in place_of places_of shards v low b
    → IsKept b.bucket.value.kept → IsHistoryOf low shards v (entries_in b)
one_history low shards v b l k =
    record {
      in_place = subst (λ (s : ℕ). IsHistory s (entries_in b)) l.place_is (IsHistory-from_kept b.bucket.value.kept k);
      own = subst (λ (n : ℕ). InShards n (entries_in b)) l.places_are
          (in_shards b.bucket.value.kept.shard b.bucket.value.kept.shards (entries_in b) k.own);
      legal = k.legal;
      parts = l.parts;
      seen = all_map (λ (x : Joined). Begins (seen_of low x.seen) (lines_in b))
          (λ (x : Joined). Begins (entries_seen x.seen low) (entries_in b)) v.joined
          (λ x h. begins_back (seen_of low x.seen) (entries_in b) h) l.joined;
      ranged = rises_within 0 (2 ^ 62) (entries_in b) k.rises
          (let last = k.clock_is in let below = k.below in omega arith);
    }

pub from_last : (low shards : ℕ) (v : View) (bs : List Shard)
    → ((k : ℕ) (b : Shard) → slice_get bs k ≡ Some b → IsLast lines_in place_of places_of shards v (low + k) b)
    → AllByRecursion (λ (b : Shard). IsKept b.bucket.value.kept) bs → AreHistoriesOf low shards v (map entries_in bs)
from_last low shards v [] f kept = tt
from_last low shards v (b ∷ bs) f kept =
    let here : low + 0 ≡ low = omega arith in (
      one_history low shards v b (subst (λ (k : ℕ). IsLast lines_in place_of places_of shards v k b) here
          (f 0 b refl)) kept.0,
      from_last (low + 1) shards v bs (λ k c is. let next : low + suc k
          ≡ low + 1 + k = omega arith in subst (λ (j : ℕ). IsLast lines_in place_of places_of shards v j c) next
          (f (suc k) c is)) kept.1,
    )

-- what merge asks
pub histories_in : (low shards : ℕ) (v : View) (hs : List (List Entry)) → AreHistoriesOf low shards v hs
    → AreHistories low hs
histories_in low shards v [] h = tt
histories_in low shards v (x ∷ xs) h = (h.0.in_place, histories_in (low + 1) shards v xs h.1)

shards_append : (shards : ℕ) (xs ys : List Entry) → InShards shards xs → InShards shards ys
    → InShards shards (xs ++ ys)
shards_append shards [] ys h k = k
shards_append shards (x ∷ xs) ys h k = (h.0, shards_append shards xs ys h.1 k)

pub histories_own : (low shards : ℕ) (v : View) (hs : List (List Entry)) → AreHistoriesOf low shards v hs
    → InShards shards (all_of hs)
histories_own low shards v [] h = tt
histories_own low shards v (x ∷ xs) h = shards_append shards x (all_of xs) h.0.own
    (histories_own (low + 1) shards v xs h.1)

pub histories_legal : (low shards : ℕ) (v : View) (hs : List (List Entry)) → AreHistoriesOf low shards v hs
    → EachLegal hs
histories_legal low shards v [] h = tt
histories_legal low shards v (x ∷ xs) h = (h.0.legal, histories_legal (low + 1) shards v xs h.1)

pub histories_ranged : (low shards : ℕ) (v : View) (hs : List (List Entry)) → AreHistoriesOf low shards v hs
    → AllByRecursion (λ (e : Entry). (0 < e.stamp) × (e.stamp < 2 ^ 62)) (all_of hs)
histories_ranged low shards v [] h = tt
histories_ranged low shards v (x ∷ xs) h = all_append (λ (e : Entry). (0 < e.stamp) × (e.stamp < 2 ^ 62)) x
    (all_of xs) h.0.ranged (histories_ranged (low + 1) shards v xs h.1)

-- the history at a place
pub history_here : (low shards : ℕ) (v : View) (hs : List (List Entry)) (k : ℕ) → AreHistoriesOf low shards v hs
    → k < length hs → IsHistoryOf (low + k) shards v (history_at hs k)
history_here low shards v [] k h inside = absurd (omega arith)
history_here low shards v (x ∷ xs) zero h inside = let here : low + 0
    ≡ low = omega arith in subst (λ (s : ℕ). IsHistoryOf s shards v x) (sym here) h.0
history_here low shards v (x ∷ xs) (suc k) h inside =
    let next : low + 1 + k ≡ low + suc k = omega arith in
    subst (λ (s : ℕ). IsHistoryOf s shards v (history_at xs k)) next
    (history_here (low + 1) shards v xs k h.1 (omega arith))

-- members of all histories
pub in_all : (hs : List (List Entry)) (k : ℕ) (z : Entry) → IsIn z (history_at hs k) → IsIn z (all_of hs)
in_all [] k z i = absurd i
in_all (x ∷ xs) zero z i = in_left z x (all_of xs) i
in_all (x ∷ xs) (suc k) z i = in_right z x (all_of xs) (in_all xs k z i)

history_shard : (shard : ℕ) (es : List Entry) (z : Entry) → IsHistory shard es → IsIn z es → z.shard ≡ shard
history_shard shard [] z h i = absurd i
history_shard shard (e ∷ []) z h (inl same) = ap (λ (x : Entry). x.shard) (sym same) ∙ h
history_shard shard (e ∷ []) z h (inr rest) = absurd rest
history_shard shard (e ∷ f ∷ es) z h (inl same) = ap (λ (x : Entry). x.shard) (sym same) ∙ h.0
history_shard shard (e ∷ f ∷ es) z h (inr rest) = history_shard shard (f ∷ es) z h.2 rest

-- the shard of a member, and its place there
abbrev Found : List (List Entry) → ℕ → Entry → Type 0
Found hs low z = (k : ℕ) × (k < length hs) × (z.shard ≡ low + k) × IsIn z (history_at hs k)

found_next : (x : List Entry) (xs : List (List Entry)) (low : ℕ) (z : Entry) → Found xs (low + 1) z
    → Found (x ∷ xs) low z
found_next x xs low z f = let near = f.1 in let at = f.2 in (suc (f.0), omega arith, omega arith, f.3)

pub found_in : (low : ℕ) (hs : List (List Entry)) (z : Entry) → AreHistories low hs → IsIn z (all_of hs)
    → Found hs low z
found_in low [] z h i = absurd i
found_in low (x ∷ xs) z h i =
    ⊎_elim (λ (j : IsIn z x). (
      0,
      omega arith,
      (let here : low + 0 ≡ low = omega arith in history_shard low x z h.0 j
          ∙ sym here),
      j,
    ))
    (λ (j : IsIn z (all_of xs)). found_next x xs low z (found_in (low + 1) xs z h.1 j)) (in_either z x (all_of xs) i)

pub in_own : (hs : List (List Entry)) (z : Entry) → AreHistories 0 hs → IsIn z (all_of hs)
    → (z.shard < length hs) × IsIn z (history_at hs z.shard)
in_own hs z h i =
    let f = found_in 0 hs z h i in
    let is : f.0 ≡ z.shard = (let at = f.2 in omega arith) in
    (subst (λ (k : ℕ). k < length hs) is f.1, subst (λ (k : ℕ). IsIn z (history_at hs k)) is f.3)

-- the lines of a number are those of its incarnation's entries
same_test : (a b : ℕ) → (a + 1 == suc b) ≡ (a == b)
same_test a b =
    elim (cases_eq a b) [
      | inl same ↦ let next : a + 1 ≡ suc b = omega arith in eq-eqb (a + 1) (suc b) next ∙ sym (eq-eqb a b same)
      | inr other ↦ ne_eqb (a + 1) (suc b) (λ next. other (omega arith)) ∙ sym (ne_eqb a b other)
    ]

pub lines_part : (i : ℕ) (es : List Entry) → lines_of (suc i) (map line_of es) ≡ map line_of (incarnation_part i es)
lines_part i [] = refl
lines_part i (e ∷ es) = ap (λ (b : Bool). if b then line_of e ∷ lines_of (suc i) (map line_of es) else lines_of
    (suc i) (map line_of es)) (same_test e.incarnation i) ∙ by_test (e.incarnation == i) (lines_part i es)
  where
    by_test : (b : Bool) → lines_of (suc i) (map line_of es) ≡ map line_of (incarnation_part i es)
        → (if b then line_of e ∷ lines_of (suc i) (map line_of es) else lines_of (suc i) (map line_of es))
        ≡ map line_of (cond b (e ∷ incarnation_part i es) (incarnation_part i es))
    by_test true rest = ap (λ (ls : List Line). line_of e ∷ ls) rest
    by_test false rest = rest

pub noted_part : (k : ℕ) (es : List Entry) → part_of k (map noted_of es) ≡ map line_of (shard_part k es)
noted_part k [] = refl
noted_part k (e ∷ es) = by_test (e.shard == k) (noted_part k es)
  where
    by_test : (b : Bool) → part_of k (map noted_of es) ≡ map line_of (shard_part k es)
        → (if b then line_of e ∷ part_of k (map noted_of es) else part_of k (map noted_of es))
        ≡ map line_of (cond b (e ∷ shard_part k es) (shard_part k es))
    by_test true rest = ap (λ (ls : List Line). line_of e ∷ ls) rest
    by_test false rest = rest

-- an incarnation's entries in a shard are that shard's part of its list
pub part_here : (shard shards i : ℕ) (v : View) (h : List Entry) → IsHistoryOf shard shards v h
    → list_in (suc i) v ≡ map noted_of (list_of i v) → incarnation_part i h ≡ shard_part shard (list_of i v)
part_here shard shards i v h is written =
    let both : map line_of (incarnation_part i h) ≡ map line_of (shard_part shard (list_of i v)) =
    sym (lines_part i h) ∙ is.parts (suc i) ∙ ap (part_of shard) written ∙ noted_part shard (list_of i v) in
    sym (entries_back (incarnation_part i h)) ∙ ap (map entry_of) both ∙ entries_back (shard_part shard (list_of i v))
