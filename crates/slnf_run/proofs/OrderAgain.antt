-- The order of a list of accesses is itself a list of accesses as they are made: read in order, its stamps are the
-- same.
use Rattle.std.proofs.Common.{◌≡◌, ℕ, ◌+◌, ◌%◌, ◌≤◌, ◌<◌, ◌&&◌, max, Bool, true, false, cond, IsTrue, List, [], ◌∷◌, ◌++◌, refl, sym, ap, ap₂, ◌∙◌, subst, arith, append_assoc, append-nil}
use Rattle.std.proofs.lemmas.Bool.Decides.{nat_tests}
use Rattle.slnf_access.specs.declared.requests.Entry.{Entry}
use Rattle.slnf_access.specs.Map.{key_of, empty, IsLegal}
use Rattle.slnf_access.specs.Order.{Precedes}
use Rattle.slnf_access.proofs.Laws.{legal-back}
use Rattle.slnf_run.specs.Scheduled.{greatest, stands_before, put_in, in_order}
use Rattle.slnf_run.specs.Made.{Grown, Pairs, IsMade, IsAbove, is_before}
use Rattle.slnf_run.proofs.Pairing.{each-weaker, each-both, each_at}
use Rattle.slnf_run.proofs.Growth.{grown_at}
use Rattle.slnf_run.proofs.Stamps.{stamps_above, epochs_rise, laid_of_made}
use Rattle.slnf_run.proofs.Sorting.{pairs_of_order, each-in_order}
use Rattle.slnf_run.proofs.OrderKeeps.{IsOrderOf, made_in_order, made_own}
use Rattle.slnf_run.proofs.Clocks.{greatest-append, greatest-same, greatest-none}
use Rattle.std.specs.List.{AllByRecursion}

-- the greatest stamp is the same in order
greatest-put_in : (test : Entry → Bool) (e : Entry) (es : List Entry) → greatest test (put_in e es)
    ≡ greatest test (e ∷ es)
greatest-put_in test e [] = refl
greatest-put_in test e (f ∷ es) = go (stands_before f e) (greatest-put_in test e es)
  where
    swap : (a b : Bool) → cond b (max f.stamp (cond a (max e.stamp (greatest test es)) (greatest test es)))
        (cond a (max e.stamp (greatest test es)) (greatest test es))
        ≡ cond a (max e.stamp (cond b (max f.stamp (greatest test es)) (greatest test es)))
        (cond b (max f.stamp (greatest test es)) (greatest test es))
    swap true true = omega arith
    swap true false = refl
    swap false true = refl
    swap false false = refl

    go : (b : Bool) → greatest test (put_in e es) ≡ greatest test (e ∷ es) →
        greatest test (cond b (f ∷ put_in e es) (e ∷ f ∷ es)) ≡ greatest test (e ∷ f ∷ es)
    go true r = ap (λ n. cond (test f) (max f.stamp n) n) r ∙ swap (test e) (test f)
    go false r = refl

pub greatest-in_order : (test : Entry → Bool) (es : List Entry) → greatest test (in_order es) ≡ greatest test es
greatest-in_order test [] = refl
greatest-in_order test (e ∷ es) =
    greatest-put_in test e (in_order es) ∙ ap (λ n. cond (test e) (max e.stamp n) n) (greatest-in_order test es)

-- a list grew by a rule that holds wherever it is split
pub grown_of_splits : (Q : List Entry → Entry → Type 0) (es tail : List Entry) →
    ((before later : List Entry) (e : Entry) → tail ≡ before ++ e ∷ later → Q (es ++ before) e) → Grown Q es tail
grown_of_splits Q es [] h = tt
grown_of_splits Q es (e ∷ tail) h = (
  subst (λ l. Q l e) (append-nil es) (h [] tail e refl),
  grown_of_splits Q (es ++ e ∷ []) tail (λ before later f w.
      subst (λ l. Q l f) (sym (append_assoc es (e ∷ []) before)) (h (e ∷ before) later f (ap (λ l. e ∷ l) w))),
)

-- each entry has what holds of it wherever the list is split
each_of_splits : (P : Entry → Type 0) (es : List Entry) →
    ((before later : List Entry) (e : Entry) → es ≡ before ++ e ∷ later → P e) → AllByRecursion P es
each_of_splits P [] h = tt
each_of_splits P (e ∷ es) h = (
  h [] es e refl,
  each_of_splits P es (λ before later f w. h (e ∷ before) later f (ap (λ l. e ∷ l) w)),
)

-- what entries in front of a split have to it, and it to those behind it
pairs_front : (R : Entry → Entry → Type 0) (before later : List Entry) (e : Entry) → Pairs R (before ++ e ∷ later) →
    AllByRecursion (λ x. R x e) before
pairs_front R [] later e h = tt
pairs_front R (x ∷ before) later e h = (each_at (R x) before later e h.0, pairs_front R before later e h.1)

pairs_back : (R : Entry → Entry → Type 0) (before later : List Entry) (e : Entry) → Pairs R (before ++ e ∷ later) →
    AllByRecursion (R e) later
pairs_back R [] later e h = h.0
pairs_back R (x ∷ before) later e h = pairs_back R before later e h.1

-- the entry is one that the other's access comes after, and its event is before the other's
abbrev is_under : (ℕ → ℕ) → Entry → Entry → Bool
is_under epoch e f = is_before epoch e.incarnation e.shard f && stands_before f e

-- the stamp by all entries of a list, in whatever order
abbrev IsStampIn : (ℕ → ℕ) → List Entry → Entry → Type 0
IsStampIn epoch m e = e.stamp ≡ greatest (is_under epoch e) m + 1

-- where nothing behind an entry is under it, the greatest that it comes after is that of all under it
greatest_at_split : (epoch : ℕ → ℕ) (before later : List Entry) (e : Entry) →
    AllByRecursion (λ x. is_before epoch e.incarnation e.shard x ≡ is_under epoch e x) before →
    AllByRecursion (λ x. is_under epoch e x ≡ false) later → greatest (is_under epoch e) (before ++ e ∷ later)
    ≡ greatest (is_before epoch e.incarnation e.shard) before
greatest_at_split epoch before later e front back =
    greatest-append (is_under epoch e) before (e ∷ later)
    ∙ (ap₂ max (sym (greatest-same (is_before epoch e.incarnation e.shard) (is_under epoch e) before front))
    (greatest-none (is_under epoch e) (e ∷ later) (self, back))
    ∙ none (greatest (is_before epoch e.incarnation e.shard) before))
  where
    self : is_under epoch e e ≡ false
    self = grind (arith, nat_tests)

    none : (n : ℕ) → max n 0 ≡ n
    none n = omega arith

under_front : (epoch : ℕ → ℕ) (x e : Entry) → IsAbove epoch x e → is_before epoch e.incarnation e.shard x
    ≡ is_under epoch e x
under_front epoch x e h = go (is_before epoch e.incarnation e.shard x) h
  where
    lower : x.stamp < e.stamp → stands_before x e ≡ true
    lower l = grind (arith, nat_tests)

    go : (b : Bool) → (IsTrue b → x.stamp < e.stamp) → b ≡ (b && stands_before x e)
    go true k = sym (lower (k refl))
    go false k = refl

under_back : (epoch : ℕ → ℕ) (e x : Entry) → IsAbove epoch e x → epoch e.incarnation ≤ epoch x.incarnation →
    is_under epoch e x ≡ false
under_back epoch e x h l = grind (arith, nat_tests, h)

-- entries as they are made have their stamps by all entries
stamps_in : (epoch : ℕ → ℕ) (shards : ℕ) (m : List Entry) → Grown (IsMade epoch shards) [] m →
    AllByRecursion (IsStampIn epoch m) m
stamps_in epoch shards m h = each_of_splits (IsStampIn epoch m) m at
  where
    at : (before later : List Entry) (e : Entry) → m ≡ before ++ e ∷ later → IsStampIn epoch m e
    at before later e w =
        let made : IsMade epoch shards before e = grown_at (IsMade epoch shards) [] before later e
        (subst (Grown (IsMade epoch shards) []) w h) in
        let above : Pairs (IsAbove epoch) (before ++ e ∷ later) =
        subst (Pairs (IsAbove epoch)) w (stamps_above epoch shards m (laid_of_made epoch shards [] m h)) in
        let rise : Pairs (λ e f. epoch e.incarnation ≤ epoch f.incarnation) (before ++ e ∷ later) =
        subst (Pairs (λ e f. epoch e.incarnation ≤ epoch f.incarnation)) w
        (epochs_rise epoch shards m (laid_of_made epoch shards [] m h)) in
        made.stamp ∙ ap (λ n. n + 1) (sym (ap (greatest (is_under epoch e)) w ∙ greatest_at_split epoch before later e
        (each-weaker (λ x. IsAbove epoch x e) (λ x. is_before epoch e.incarnation e.shard x ≡ is_under epoch e x)
        (λ x k. under_front epoch x e k) before (pairs_front (IsAbove epoch) before later e above))
        (each-both (IsAbove epoch e) (λ x. epoch e.incarnation ≤ epoch x.incarnation) (λ x. is_under epoch e x
        ≡ false) (λ x a l. under_back epoch e x a l) later
        (pairs_back (IsAbove epoch) before later e above)
        (pairs_back (λ e f. epoch e.incarnation ≤ epoch f.incarnation) before later e rise))))

precedes_before : (e f : Entry) → Precedes e f → stands_before e f ≡ true
precedes_before e f h = grind (arith, nat_tests)

precedes_not : (e f : Entry) → Precedes e f → stands_before f e ≡ false
precedes_not e f h = grind (arith, nat_tests)

and_true : (a b : Bool) → b ≡ true → a ≡ (a && b)
and_true true b h = sym h
and_true false b h = refl

and_false : (a b : Bool) → b ≡ false → (a && b) ≡ false
and_false true b h = h
and_false false b h = refl

-- the order of accesses as they are made is one of accesses as they are made
pub in_order_made : (epoch : ℕ → ℕ) (shards : ℕ) (m : List Entry) → Grown (IsMade epoch shards) [] m →
    Grown (IsMade epoch shards) [] (in_order m)
in_order_made epoch shards m h = grown_of_splits (IsMade epoch shards) [] (in_order m) at
  where
    order : IsOrderOf epoch m (in_order m)
    order = made_in_order epoch shards m (laid_of_made epoch shards [] m h)

    stamps : AllByRecursion (IsStampIn epoch (in_order m)) (in_order m)
    stamps = each-in_order (IsStampIn epoch (in_order m)) m
        (each-weaker (IsStampIn epoch m) (IsStampIn epoch (in_order m)) (λ e k. k
        ∙ ap (λ n. n + 1) (sym (greatest-in_order (is_under epoch e) m))) m (stamps_in epoch shards m h))

    own : AllByRecursion (λ e. e.shard ≡ key_of e.request % shards) (in_order m)
    own = each-in_order (λ e. e.shard ≡ key_of e.request % shards) m
        (made_own epoch shards [] m (laid_of_made epoch shards [] m h))

    at : (before later : List Entry) (e : Entry) → in_order m ≡ before ++ e ∷ later → IsMade epoch shards before e
    at before later e w =
        let pairs : Pairs Precedes (before ++ e ∷ later) =
        subst (Pairs Precedes) w (pairs_of_order (in_order m) order.ordered) in
        record {
          stamp = each_at (IsStampIn epoch (in_order m)) before later e
              (subst (AllByRecursion (IsStampIn epoch (in_order m))) w stamps)
              ∙ ap (λ n. n + 1) (ap (greatest (is_under epoch e)) w ∙ greatest_at_split epoch before later e
              (each-weaker (λ x. Precedes x e) (λ x. is_before epoch e.incarnation e.shard x ≡ is_under epoch e x)
              (λ x k. and_true _ (stands_before x e) (precedes_before x e k)) before
              (pairs_front Precedes before later e pairs))
              (each-weaker (Precedes e) (λ x. is_under epoch e x ≡ false)
              (λ x k. and_false _ (stands_before x e) (precedes_not e x k)) later
              (pairs_back Precedes before later e pairs)));
          shard = each_at (λ f. f.shard ≡ key_of f.request % shards) before later e
              (subst (AllByRecursion (λ f. f.shard ≡ key_of f.request % shards)) w own);
          reply = (legal-back empty before (e ∷ later) (subst IsLegal w order.legal)).0;
          epochs = pairs_front (λ e f. epoch e.incarnation ≤ epoch f.incarnation) before later e
              (subst (Pairs (λ e f. epoch e.incarnation ≤ epoch f.incarnation)) w order.by_epoch);
        }
