-- Lists split at one of their entries, and what holds of a whole list because it holds at each split.
use Rattle.std.proofs.Common.{◌≡◌, ◌⊎◌, inl, inr, ℕ, ◌<◌, Bool, true, false, cond, IsTrue, filter, List, [], ◌∷◌, ◌++◌, Option, Some, None, length, take, refl, sym, ap, ap₂, ◌∙◌, subst, append_assoc, append-nil, arith, eqb-true, ne_eqb, eq-eqb}
use Rattle.std.specs.List.{AllByRecursion}
use Rattle.std.proofs.lemmas.Bool.{cases_lt, cond-true, cond-false, both_ways, eqb-false}
use Rattle.slnf_access.specs.declared.requests.Entry.{Entry}
use Rattle.slnf_access.specs.Machines.{Machine, Stand, stand_step, stand_after, IsAsked, IsPath}
use Rattle.slnf_run.specs.Jobs.{is_stop}
use Rattle.slnf_run.specs.Made.{Grown}
use Rattle.slnf_run.proofs.Splits.{IsSplit, split_at}

-- Where an entry of those that pass a test stands in the whole list.
pub record IsSplitBy (test : Entry → Bool) (m own : List Entry) (e : Entry) : Type 0 where
  pub before : List Entry
  pub later : List Entry
  pub whole : m ≡ before ++ e ∷ later
  pub front : filter test before ≡ own
  pub passes : test e ≡ true

cons_parts : (x y : Entry) (xs ys : List Entry) → x ∷ xs ≡ y ∷ ys → (x ≡ y) × (xs ≡ ys)
cons_parts x y xs ys h = (cc, cc)

-- each of them stands so
pub split_of_filter : (test : Entry → Bool) (m own rest : List Entry) (e : Entry) →
    filter test m ≡ own ++ e ∷ rest → IsSplitBy test m own e
split_of_filter test [] [] rest e h = absurd (cc)
split_of_filter test [] (x ∷ own) rest e h = absurd (cc)
split_of_filter test (f ∷ m) own rest e h =
    go (test f) refl own h (λ front k. split_of_filter test m front rest e k)
  where
    go : (b : Bool) → test f ≡ b → (front : List Entry) → cond b (f ∷ filter test m) (filter test m) ≡ front ++ e ∷ rest →
        ((later : List Entry) → filter test m ≡ later ++ e ∷ rest → IsSplitBy test m later e) →
        IsSplitBy test (f ∷ m) front e
    go false w front k split =
        let r : IsSplitBy test m front e = split front k in
        record {
          before = f ∷ r.before;
          later = r.later;
          whole = ap (λ l. f ∷ l) r.whole;
          front = cond-false (test f) (f ∷ filter test r.before) (filter test r.before) w ∙ r.front;
          passes = r.passes;
        }
    go true w [] k split =
        let q : (f ≡ e) × (filter test m ≡ rest) = cons_parts f e (filter test m) rest k in
        record {
          before = [];
          later = m;
          whole = ap (λ x. x ∷ m) q.0;
          front = refl;
          passes = subst (λ x. test x ≡ true) q.0 w;
        }
    go true w (x ∷ front) k split =
        let q : (f ≡ x) × (filter test m ≡ front ++ e ∷ rest) =
        cons_parts f x (filter test m) (front ++ e ∷ rest) k in
        let r : IsSplitBy test m front e = split front q.1 in
        record {
          before = f ∷ r.before;
          later = r.later;
          whole = ap (λ l. f ∷ l) r.whole;
          front = cond-true (test f) (f ∷ filter test r.before) (filter test r.before) w
              ∙ ap₂ (λ y l. y ∷ l) q.0 r.front;
          passes = r.passes;
        }

-- what grew in two parts grew in the second
pub grown_back : (Q : List Entry → Entry → Type 0) (es xs ys : List Entry) → Grown Q es (xs ++ ys) →
    Grown Q (es ++ xs) ys
grown_back Q es [] ys h = subst (λ l. Grown Q l ys) (sym (append-nil es)) h
grown_back Q es (x ∷ xs) ys h =
    subst (λ l. Grown Q l ys) (append_assoc es (x ∷ []) xs) (grown_back Q (es ++ x ∷ []) xs ys h.1)

-- each entry has what holds of it wherever the list is split
pub each_of_splits : (P : Entry → Type 0) (es : List Entry) →
    ((before later : List Entry) (e : Entry) → es ≡ before ++ e ∷ later → P e) → AllByRecursion P es
each_of_splits P [] h = tt
each_of_splits P (e ∷ es) h = (
  h [] es e refl,
  each_of_splits P es (λ before later f w. h (e ∷ before) later f (ap (λ l. e ∷ l) w)),
)

-- entries are a path where each is asked behind those before it
pub path_of_splits : {F : Type 0} (machine : Machine F) (stand : Stand F) (es : List Entry) →
    ((own rest : List Entry) (e : Entry) → es ≡ own ++ e ∷ rest → IsAsked machine (stand_after machine stand own) e) →
    IsPath machine stand es
path_of_splits machine stand [] h = tt
path_of_splits machine stand (e ∷ es) h = (
  h [] es e refl,
  path_of_splits machine (stand_step machine stand e) es
      (λ own rest f w. h (e ∷ own) rest f (ap (λ l. e ∷ l) w)),
)

-- so many entries are fewer than the stop, if there is one
abbrev pub IsBelow : Option ℕ → ℕ → Type 0
IsBelow stop made = elim stop [ None ↦ Unit {0} | Some stop ↦ made < stop ]

-- a part that isn't at its stop, and wasn't before any of its entries, is below it
pub below_of_splits : (stop : Option ℕ) (part : List Entry) →
    ((own rest : List Entry) (e : Entry) → part ≡ own ++ e ∷ rest → is_stop stop (length own) ≡ false) →
    is_stop stop (length part) ≡ false → IsBelow stop (length part)
below_of_splits None part running now = tt
below_of_splits (Some stop) part running now =
    let apart : length part ≡ stop → ⊥ = eqb-false (length part) stop now in
    elim (cases_lt stop (length part)) [
      | inr l ↦ omega arith
      | inl l ↦
          let k : (e : Entry) × IsSplit part stop e = split_at part stop l in
          absurd (both_ways (is_stop (Some stop) (length (take stop part)))
          (running (take stop part) _ k.0 k.1.whole) (eq-eqb (length (take stop part)) stop k.1.size))
    ]

-- one that comes to its stop, or stays below it, wasn't at it with fewer entries
pub running_before : (stop : Option ℕ) (m n : ℕ) → m < n →
    IsTrue (is_stop stop n) ⊎ IsBelow stop n → is_stop stop m ≡ false
running_before None m n l h = refl
running_before (Some stop) m n l (inl stopped) =
    let k : n ≡ stop = eqb-true n stop stopped in ne_eqb m stop (λ q. omega arith)
running_before (Some stop) m n l (inr below) = let k : n < stop = below in ne_eqb m stop (λ q. omega arith)
