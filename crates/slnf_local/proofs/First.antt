-- The first entry that isn't allowed after those before it.
use Rattle.std.proofs.Common.{◌≡◌, inl, inr, ℕ, zero, suc, ◌+◌, ◌<◌, Bool, true, List, [], ◌∷◌, ◌++◌, Option, Some, None, length, take, slice_get, refl, sym, subst, append_assoc, append-nil, arith}
use Rattle.std.proofs.lemmas.Bool.{cases_lt, cond_both}
use Rattle.std.proofs.lemmas.List.{length_push}
use Rattle.std.proofs.lemmas.Option.{same_Some}
use Rattle.slnf_access.specs.declared.requests.Entry.{Entry}
use Rattle.slnf_run.specs.Made.{Grown}
use Rattle.slnf_local.specs.Rules.{BreaksFirst, BreaksAt}
use Rattle.slnf_local.specs.Tests.{first_failing}

-- The rule holds of an entry after others exactly where the test passes.
abbrev pub Decides : (List Entry → Entry → Bool) → (List Entry → Entry → Type 0) → Type 0
Decides test Q = (es : List Entry) (e : Entry) → (test es e ≡ true → Q es e) × (Q es e → test es e ≡ true)

-- the tail behind an entry that is allowed
breaks_behind : (Q : List Entry → Entry → Type 0) (es tail : List Entry) (e : Entry) (k : ℕ) →
    BreaksFirst Q es (e ∷ tail) (suc k) → BreaksFirst Q (es ++ e ∷ []) tail k
breaks_behind Q es tail e k h = record {
  entry = h.entry;
  there = h.there;
  grown = h.grown.1;
  broken = λ p. h.broken (subst (λ l. Q l h.entry) (append_assoc es (e ∷ []) (take k tail)) p);
}

breaks_later : (Q : List Entry → Entry → Type 0) (es tail : List Entry) (e : Entry) (k : ℕ) → Q es e →
    BreaksFirst Q (es ++ e ∷ []) tail k → BreaksFirst Q es (e ∷ tail) (suc k)
breaks_later Q es tail e k q h = record {
  entry = h.entry;
  there = h.there;
  grown = (q, h.grown);
  broken = λ p. h.broken (subst (λ l. Q l h.entry) (sym (append_assoc es (e ∷ []) (take k tail))) p);
}

-- each entry before it is allowed: it is the least
pub allowed_before : (Q : List Entry → Entry → Type 0) (es tail : List Entry) (k i : ℕ) (e : Entry) →
    BreaksFirst Q es tail k → i < k → slice_get tail i ≡ Some e → Q (es ++ take i tail) e
allowed_before Q es [] k i e h l at = absurd (cc)
allowed_before Q es (f ∷ tail) zero i e h l at = absurd (omega arith)
allowed_before Q es (f ∷ tail) (suc k) zero e h l at =
    subst (λ x. Q (es ++ []) x) (same_Some f e at) (subst (λ l. Q l f) (sym (append-nil es)) h.grown.0)
allowed_before Q es (f ∷ tail) (suc k) (suc i) e h l at =
    subst (λ l. Q l e) (append_assoc es (f ∷ []) (take i tail))
    (allowed_before Q (es ++ f ∷ []) tail k i e (breaks_behind Q es tail f k h) (omega arith) at)

-- a list that grew by the rule has no such entry
pub broken_grown : (Q : List Entry → Entry → Type 0) (es tail : List Entry) (k : ℕ) → Grown Q es tail →
    BreaksFirst Q es tail k → ⊥
broken_grown Q es [] k grown h = let t : slice_get [] k ≡ Some h.entry = h.there in absurd (cc)
broken_grown Q es (e ∷ tail) zero grown h =
    h.broken (subst (λ x. Q (es ++ []) x) (same_Some e h.entry h.there)
    (subst (λ l. Q l e) (sym (append-nil es)) grown.0))
broken_grown Q es (e ∷ tail) (suc k) grown h =
    broken_grown Q (es ++ e ∷ []) tail k grown.1 (breaks_behind Q es tail e k h)

-- there is one at most
pub breaks_one : (Q : List Entry → Entry → Type 0) (j : List Entry) (k l : ℕ) → BreaksFirst Q [] j k →
    BreaksFirst Q [] j l → k ≡ l
breaks_one Q j k l a b = elim (cases_lt k l) [
  | inl m ↦ absurd (a.broken (allowed_before Q [] j l k a.entry b m a.there))
  | inr m ↦ elim (cases_lt l k) [
    | inl n ↦ absurd (b.broken (allowed_before Q [] j k l b.entry a n b.there))
    | inr n ↦ omega arith
  ]
]

pub breaks_at_one : (Q : List Entry → Entry → Type 0) (j : List Entry) (m n : ℕ) → BreaksAt Q j m → BreaksAt Q j n →
    m ≡ n
breaks_at_one Q j m n a b =
    let p : m ≡ a.0 + 1 = a.1 in
    let q : n ≡ b.0 + 1 = b.1 in
    let r : a.0 ≡ b.0 = breaks_one Q j a.0 b.0 a.2 b.2 in
    omega arith

-- The place, counted from 1 over the whole, is that of the first entry of the tail that isn't allowed; each is where
-- there is no place.
abbrev pub FirstBreak : (List Entry → Entry → Type 0) → List Entry → List Entry → Option ℕ → Type 0
FirstBreak Q es tail None = Grown Q es tail
FirstBreak Q es tail (Some place) = (k : ℕ) × (place ≡ length es + k + 1) × BreaksFirst Q es tail k

-- the next entry isn't allowed
pub break_here : (Q : List Entry → Entry → Type 0) (es tail : List Entry) (e : Entry) (place : ℕ) →
    place ≡ length es + 1 → (Q es e → ⊥) → FirstBreak Q es (e ∷ tail) (Some place)
break_here Q es tail e place w n = (
  0,
  omega arith,
  record { entry = e; there = refl; grown = tt; broken = λ p. n (subst (λ l. Q l e) (append-nil es) p) },
)

-- the next entry is allowed
pub break_later : (Q : List Entry → Entry → Type 0) (es tail : List Entry) (e : Entry) (answer : Option ℕ) → Q es e →
    FirstBreak Q (es ++ e ∷ []) tail answer → FirstBreak Q es (e ∷ tail) answer
break_later Q es tail e None q h = (q, h)
break_later Q es tail e (Some place) q h =
    let l : length (es ++ e ∷ []) ≡ length es + 1 = length_push es e in
    let p : place ≡ length (es ++ e ∷ []) + h.0 + 1 = h.1 in
    (suc h.0, omega arith, breaks_later Q es tail e h.0 q h.2)

pub break_at : (Q : List Entry → Entry → Type 0) (j : List Entry) (place : ℕ) → FirstBreak Q [] j (Some place) →
    BreaksAt Q j place
break_at Q j place h = let p : place ≡ 0 + h.0 + 1 = h.1 in (h.0, omega arith, h.2)

-- a test of the rule finds it
pub failing_tells : (Q : List Entry → Entry → Type 0) (test : List Entry → Entry → Bool) → Decides test Q →
    (place : ℕ) (es tail : List Entry) → place ≡ length es + 1 →
    FirstBreak Q es tail (first_failing test place es tail)
failing_tells Q test tells place es [] w = tt
failing_tells Q test tells place es (e ∷ tail) w =
    let l : length (es ++ e ∷ []) ≡ length es + 1 = length_push es e in
    cond_both (test es e) (first_failing test (place + 1) (es ++ e ∷ []) tail) (Some place)
    (FirstBreak Q es (e ∷ tail))
    (λ passes. break_later Q es tail e (first_failing test (place + 1) (es ++ e ∷ []) tail)
    ((tells es e).0 passes) (failing_tells Q test tells (place + 1) (es ++ e ∷ []) tail (omega arith)))
    (λ fails. break_here Q es tail e place w (λ q. let k : test es e ≡ true = (tells es e).1 q in absurd (cc)))
