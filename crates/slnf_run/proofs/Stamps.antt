-- The stamps along a list of accesses as they are made.
use Rattle.std.proofs.Common.{◌≡◌, ℕ, ◌+◌, ◌^◌, ◌≤◌, ◌<◌, max, Bool, true, false, cond, IsTrue, None, List, [], ◌∷◌, ◌++◌, length, refl, sym, ◌∙◌, subst, arith, le_trans, length-append}
use Rattle.std.proofs.Math.Nat.{le-max_left, le-max_right}
use Rattle.std.proofs.lemmas.Bool.Decides.{nat_tests}
use Rattle.slnf_access.specs.declared.requests.Entry.{Entry}
use Rattle.slnf_access.specs.Map.{empty, map_after, IsLegalFrom}
use Rattle.slnf_access.proofs.Laws.{cell_of-append}
use Rattle.slnf_run.specs.Scheduled.{greatest, Way}
use Rattle.slnf_run.specs.Made.{Grown, Pairs, is_before, IsMade, IsLaid, IsStamped, IsLawful, IsAbove}
use Rattle.slnf_run.proofs.Pairing.{each-weaker, each-push, pairs-weaker, grown-weaker, pairs_of_grown}
use Rattle.slnf_access.specs.Order.{IsInShard}
use Rattle.std.specs.List.{AllByRecursion}

-- no stamp of those that pass is above the greatest
pub each_below_greatest : (test : Entry → Bool) (es : List Entry) →
    AllByRecursion (λ e. IsTrue (test e) → e.stamp ≤ greatest test es) es
each_below_greatest test [] = tt
each_below_greatest test (e ∷ es) = go (test e) refl (each_below_greatest test es)
  where
    go : (b : Bool) → test e ≡ b → AllByRecursion (λ f. IsTrue (test f) → f.stamp ≤ greatest test es) es →
        AllByRecursion (λ f. IsTrue (test f) → f.stamp ≤ cond b (max e.stamp (greatest test es)) (greatest test es))
        (e ∷ es)
    go true w rest = (
      λ _. le-max_left e.stamp (greatest test es),
      each-weaker (λ f. IsTrue (test f) → f.stamp ≤ greatest test es) (λ f. IsTrue (test f) →
          f.stamp ≤ max e.stamp (greatest test es))
          (λ f k t. le_trans (k t) (le-max_right e.stamp (greatest test es))) es rest,
    )
    go false w rest = (λ t. let q : true ≡ false = sym t ∙ w in cc, rest)

-- and the greatest isn't above a bound of all
pub greatest_below : (test : Entry → Bool) (bound : ℕ) (es : List Entry) → AllByRecursion (λ e. e.stamp ≤ bound) es →
    greatest test es ≤ bound
greatest_below test bound [] h = omega arith
greatest_below test bound (e ∷ es) h = go (test e) (greatest_below test bound es h.1)
  where
    go : (b : Bool) → greatest test es ≤ bound → cond b (max e.stamp (greatest test es)) (greatest test es) ≤ bound
    go true k = let l : e.stamp ≤ bound = h.0 in omega arith
    go false k = k

-- the stamp of each is above those that it comes after
pub stamps_above : (epoch : ℕ → ℕ) (shards : ℕ) (m : List Entry) → Grown (IsLaid epoch shards) [] m →
    Pairs (IsAbove epoch) m
stamps_above epoch shards m h =
    (pairs_of_grown (IsAbove epoch) [] m
    (grown-weaker (IsLaid epoch shards) (λ es e. AllByRecursion (λ x. IsAbove epoch x e) es) above [] m h)).1
  where
    above : (es : List Entry) (e : Entry) → IsLaid epoch shards es e → AllByRecursion (λ x. IsAbove epoch x e) es
    above es e k =
        let test : Entry → Bool = is_before epoch e.incarnation e.shard in
        let stamp : greatest test es < e.stamp = k.above in
        each-weaker (λ x. IsTrue (test x) → x.stamp ≤ greatest test es) (λ x. IsAbove epoch x e)
        (λ x l t. let n : x.stamp ≤ greatest test es = l t in omega arith) es (each_below_greatest test es)

-- epochs never go down
pub epochs_rise : (epoch : ℕ → ℕ) (shards : ℕ) (m : List Entry) → Grown (IsLaid epoch shards) [] m →
    Pairs (λ e f. epoch e.incarnation ≤ epoch f.incarnation) m
epochs_rise epoch shards m h =
    (pairs_of_grown (λ e f. epoch e.incarnation ≤ epoch f.incarnation) [] m
    (grown-weaker (IsLaid epoch shards) (λ es e. AllByRecursion (λ x. epoch x.incarnation ≤ epoch e.incarnation) es)
    (λ es e k. k.epochs) [] m h)).1

before_shard : (epoch : ℕ → ℕ) (e f : Entry) → e.shard ≡ f.shard → IsTrue (is_before epoch f.incarnation f.shard e)
before_shard epoch e f h = grind (arith, nat_tests)

before_incarnation : (epoch : ℕ → ℕ) (e f : Entry) → e.incarnation ≡ f.incarnation →
    IsTrue (is_before epoch f.incarnation f.shard e)
before_incarnation epoch e f h = grind (arith, nat_tests)

before_epoch : (epoch : ℕ → ℕ) (e f : Entry) → epoch e.incarnation < epoch f.incarnation →
    IsTrue (is_before epoch f.incarnation f.shard e)
before_epoch epoch e f h = grind (arith, nat_tests)

-- stamps of one shard rise
pub shard_stamps_rise : (epoch : ℕ → ℕ) (m : List Entry) → Pairs (IsAbove epoch) m →
    Pairs (λ e f. e.shard ≡ f.shard → e.stamp < f.stamp) m
shard_stamps_rise epoch m h = pairs-weaker (IsAbove epoch) (λ e f. e.shard ≡ f.shard → e.stamp < f.stamp)
    (λ e f k s. k (before_shard epoch e f s)) m h

-- and so do those of one incarnation
pub incarnation_stamps_rise : (epoch : ℕ → ℕ) (m : List Entry) → Pairs (IsAbove epoch) m →
    Pairs (λ e f. e.incarnation ≡ f.incarnation → e.stamp < f.stamp) m
incarnation_stamps_rise epoch m h = pairs-weaker (IsAbove epoch) (λ e f. e.incarnation ≡ f.incarnation →
    e.stamp < f.stamp) (λ e f k s. k (before_incarnation epoch e f s)) m h

-- and those of an earlier epoch are below those of a later one
pub epoch_stamps_rise : (epoch : ℕ → ℕ) (m : List Entry) → Pairs (IsAbove epoch) m →
    Pairs (λ e f. epoch e.incarnation < epoch f.incarnation → e.stamp < f.stamp) m
epoch_stamps_rise epoch m h = pairs-weaker (IsAbove epoch) (λ e f. epoch e.incarnation < epoch f.incarnation →
    e.stamp < f.stamp) (λ e f k s. k (before_epoch epoch e f s)) m h

-- no stamp exceeds the number of entries so far
pub stamps_within : (epoch : ℕ → ℕ) (way : Way) → IsLawful epoch way → (es tail : List Entry) →
    AllByRecursion (λ e. e.stamp ≤ length es) es → Grown (IsStamped way.stamp) es tail →
    AllByRecursion (λ e. e.stamp ≤ length es + length tail) tail
    × Grown (λ es e. (1 ≤ e.stamp) × (e.stamp ≤ length es + 1)) es tail
stamps_within epoch way lawful es [] h k = (tt, tt)
stamps_within epoch way lawful es (e ∷ tail) h k =
    let low : way.stamp es e.incarnation e.shard ≤ length es + 1 = lawful.within es e.incarnation e.shard h in
    let high : greatest (is_before epoch e.incarnation e.shard) es < way.stamp es e.incarnation e.shard =
    lawful.above es e.incarnation e.shard h in
    let stamp : e.stamp ≡ way.stamp es e.incarnation e.shard = k.0 in
    let size : length (es ++ e ∷ []) ≡ length es + 1 = length-append es (e ∷ []) in
    let more : AllByRecursion (λ x. x.stamp ≤ length (es ++ e ∷ [])) (es ++ e ∷ []) =
    each-push (λ x. x.stamp ≤ length (es ++ e ∷ [])) es e
    (each-weaker (λ x. x.stamp ≤ length es) (λ x. x.stamp ≤ length (es ++ e ∷ []))
    (λ x l. let n : x.stamp ≤ length es = l in omega arith) es h) (omega arith) in
    let rest : AllByRecursion (λ x. x.stamp ≤ length (es ++ e ∷ []) + length tail) tail
    × Grown (λ es e. (1 ≤ e.stamp) × (e.stamp ≤ length es + 1)) (es ++ e ∷ []) tail =
    stamps_within epoch way lawful (es ++ e ∷ []) tail more k.1 in (
      (
        omega arith,
        each-weaker (λ x. x.stamp ≤ length (es ++ e ∷ []) + length tail)
            (λ x. x.stamp ≤ length es + length (e ∷ tail))
            (λ x l. let n : x.stamp ≤ length (es ++ e ∷ []) + length tail = l in omega arith) tail rest.0,
      ),
      ((omega arith, omega arith), rest.1),
    )

-- each entry is in its shard, where there are fewer than 2^62
pub made_in_shards : (epoch : ℕ → ℕ) (shards bound : ℕ) (es tail : List Entry) →
    AllByRecursion (λ e. e.stamp ≤ bound) tail → bound < 2 ^ 62 → Grown (IsLaid epoch shards) es tail →
    AllByRecursion (IsInShard shards) tail
made_in_shards epoch shards bound es [] h l k = tt
made_in_shards epoch shards bound es (e ∷ tail) h l k =
    let stamp : greatest (is_before epoch e.incarnation e.shard) es < e.stamp = k.0.above in
    let low : e.stamp ≤ bound = h.0 in (
      record { from_one = omega arith; below_end = omega arith; shard = k.0.shard },
      made_in_shards epoch shards bound (es ++ e ∷ []) tail h.1 l k.1,
    )

map_after-push : (es : List Entry) (e : Entry) → map_after empty (es ++ e ∷ [])
    ≡ map_after (map_after empty es) (e ∷ [])
map_after-push es e = λ i key. cell_of-append key None es (e ∷ []) i

-- each reply is the map's
pub made_legal_from : (epoch : ℕ → ℕ) (shards : ℕ) (es tail : List Entry) → Grown (IsLaid epoch shards) es tail →
    IsLegalFrom (map_after empty es) tail
made_legal_from epoch shards es [] h = tt
made_legal_from epoch shards es (e ∷ tail) h = (
  h.0.reply,
  subst (λ cells. IsLegalFrom cells tail) (map_after-push es e)
      (made_legal_from epoch shards (es ++ e ∷ []) tail h.1),
)

-- accesses as they are made are laid
pub laid_of_made : (epoch : ℕ → ℕ) (shards : ℕ) (es tail : List Entry) → Grown (IsMade epoch shards) es tail →
    Grown (IsLaid epoch shards) es tail
laid_of_made epoch shards es tail h = grown-weaker (IsMade epoch shards) (IsLaid epoch shards) one es tail h
  where
    one : (es : List Entry) (e : Entry) → IsMade epoch shards es e → IsLaid epoch shards es e
    one es e k = let stamp : e.stamp ≡ greatest (is_before epoch e.incarnation e.shard) es + 1 = k.stamp in
        record { above = omega arith; shard = k.shard; reply = k.reply; epochs = k.epochs }
