-- Lists of entries that grow by one entry at a time, each allowed after those before it.
use Rattle.std.proofs.Common.{◌≡◌, List, [], ◌∷◌, ◌++◌, sym, refl, subst, append_assoc, append-nil}
use Rattle.slnf_access.specs.declared.requests.Entry.{Entry}
use Rattle.slnf_run.specs.Made.{Grown}

-- the one list is the other with a tail that grew so
pub record Extends (Q : List Entry → Entry → Type 0) (es m : List Entry) : Type 0 where
  pub tail : List Entry
  pub whole : m ≡ es ++ tail
  pub grown : Grown Q es tail

-- a tail that grew in two parts
pub grown-append : (Q : List Entry → Entry → Type 0) (es xs ys : List Entry) → Grown Q es xs → Grown Q (es ++ xs) ys →
    Grown Q es (xs ++ ys)
grown-append Q es [] ys h k = subst (λ l. Grown Q l ys) (append-nil es) k
grown-append Q es (x ∷ xs) ys h k =
    (h.0, grown-append Q (es ++ x ∷ []) xs ys h.1 (subst (λ l. Grown Q l ys) (sym (append_assoc es (x ∷ []) xs)) k))

-- what a list grew by was allowed after what stands before it
pub grown_at : (Q : List Entry → Entry → Type 0) (es before later : List Entry) (e : Entry) →
    Grown Q es (before ++ e ∷ later) → Q (es ++ before) e
grown_at Q es [] later e h = subst (λ l. Q l e) (sym (append-nil es)) h.0
grown_at Q es (x ∷ before) later e h =
    subst (λ l. Q l e) (append_assoc es (x ∷ []) before) (grown_at Q (es ++ x ∷ []) before later e h.1)

-- a tail that grew by the one rule grew by a weaker one
pub grown_weaker : (Q R : List Entry → Entry → Type 0) → ((es : List Entry) (e : Entry) → Q es e → R es e) →
    (es tail : List Entry) → Grown Q es tail → Grown R es tail
grown_weaker Q R w es [] h = tt
grown_weaker Q R w es (e ∷ tail) h = (w es e h.0, grown_weaker Q R w (es ++ e ∷ []) tail h.1)

-- a list extends itself
pub extends_same : (Q : List Entry → Entry → Type 0) (es : List Entry) → Extends Q es es
extends_same Q es = record { tail = []; whole = sym (append-nil es); grown = tt }

-- one more entry
pub extends_one : (Q : List Entry → Entry → Type 0) (es : List Entry) (e : Entry) → Q es e →
    Extends Q es (es ++ e ∷ [])
extends_one Q es e h = record { tail = e ∷ []; whole = refl; grown = (h, tt) }

-- one after the other
pub extends_then : (Q : List Entry → Entry → Type 0) (es m n : List Entry) → Extends Q es m → Extends Q m n →
    Extends Q es n
extends_then Q es m n a b = record {
  tail = a.tail ++ b.tail;
  whole = subst (λ l. n ≡ l) (append_assoc es a.tail b.tail) (subst (λ l. n ≡ l ++ b.tail) a.whole b.whole);
  grown = grown-append Q es a.tail b.tail a.grown (subst (λ l. Grown Q l b.tail) a.whole b.grown);
}

-- an extension by the one rule is one by a weaker rule
pub extends_weaker : (Q R : List Entry → Entry → Type 0) → ((es : List Entry) (e : Entry) → Q es e → R es e) →
    (es m : List Entry) → Extends Q es m → Extends R es m
extends_weaker Q R w es m a = record { tail = a.tail; whole = a.whole; grown = grown_weaker Q R w es a.tail a.grown }
