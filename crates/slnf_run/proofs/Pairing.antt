-- What each entry of a list has, and what each has to those behind it.
use Rattle.std.proofs.Common.{Bool, true, false, cond, List, [], ◌∷◌, ◌++◌, filter}
use Rattle.slnf_access.specs.declared.requests.Entry.{Entry}
use Rattle.slnf_run.specs.Made.{Grown, Pairs}
use Rattle.std.specs.List.{AllByRecursion}

pub each-weaker : (P Q : Entry → Type 0) → ((e : Entry) → P e → Q e) → (es : List Entry) → AllByRecursion P es →
    AllByRecursion Q es
each-weaker P Q w [] h = tt
each-weaker P Q w (e ∷ es) h = (w e h.0, each-weaker P Q w es h.1)

pub each-both : (P Q R : Entry → Type 0) → ((e : Entry) → P e → Q e → R e) → (es : List Entry) → AllByRecursion P es →
    AllByRecursion Q es → AllByRecursion R es
each-both P Q R w [] h k = tt
each-both P Q R w (e ∷ es) h k = (w e h.0 k.0, each-both P Q R w es h.1 k.1)

pub each-push : (P : Entry → Type 0) (es : List Entry) (e : Entry) → AllByRecursion P es → P e →
    AllByRecursion P (es ++ e ∷ [])
each-push P [] e h k = (k, tt)
each-push P (f ∷ es) e h k = (h.0, each-push P es e h.1 k)

pub each_at : (P : Entry → Type 0) (before later : List Entry) (e : Entry) → AllByRecursion P (before ++ e ∷ later) →
    P e
each_at P [] later e h = h.0
each_at P (f ∷ before) later e h = each_at P before later e h.1

pub each-filter : (P : Entry → Type 0) (test : Entry → Bool) (es : List Entry) → AllByRecursion P es →
    AllByRecursion P (filter test es)
each-filter P test [] h = tt
each-filter P test (e ∷ es) h = go (test e) (each-filter P test es h.1)
  where
    go : (b : Bool) → AllByRecursion P (filter test es) →
        AllByRecursion P (cond b (e ∷ filter test es) (filter test es))
    go true r = (h.0, r)
    go false r = r

pub pairs-weaker : (R S : Entry → Entry → Type 0) → ((e f : Entry) → R e f → S e f) → (es : List Entry) → Pairs R es →
    Pairs S es
pairs-weaker R S w [] h = tt
pairs-weaker R S w (e ∷ es) h = (each-weaker (R e) (S e) (w e) es h.0, pairs-weaker R S w es h.1)

pub pairs-both : (R S T : Entry → Entry → Type 0) → ((e f : Entry) → R e f → S e f → T e f) → (es : List Entry) →
    Pairs R es → Pairs S es → Pairs T es
pairs-both R S T w [] h k = tt
pairs-both R S T w (e ∷ es) h k = (each-both (R e) (S e) (T e) (w e) es h.0 k.0, pairs-both R S T w es h.1 k.1)

-- two entries of a list have it, wherever they stand
pub pairs_at : (R : Entry → Entry → Type 0) (before middle later : List Entry) (e f : Entry) →
    Pairs R (before ++ e ∷ (middle ++ f ∷ later)) → R e f
pairs_at R [] middle later e f h = each_at (R e) middle later f h.0
pairs_at R (x ∷ before) middle later e f h = pairs_at R before middle later e f h.1

pub pairs_every : (R : Entry → Entry → Type 0) → ((e f : Entry) → R e f) → (es : List Entry) → Pairs R es
pairs_every R w [] = tt
pairs_every R w (e ∷ es) = (each-weaker (λ _. Unit {0}) (R e) (λ f _. w e f) es (every es), pairs_every R w es)
  where
    every : (fs : List Entry) → AllByRecursion (λ _. Unit {0}) fs
    every [] = tt
    every (f ∷ fs) = (tt, every fs)

-- a tail that grew by the one rule grew by a weaker one
pub grown-weaker : (Q R : List Entry → Entry → Type 0) → ((es : List Entry) (e : Entry) → Q es e → R es e) →
    (es tail : List Entry) → Grown Q es tail → Grown R es tail
grown-weaker Q R w es [] h = tt
grown-weaker Q R w es (e ∷ tail) h = (w es e h.0, grown-weaker Q R w (es ++ e ∷ []) tail h.1)

-- what each new entry has to those before it, they have to it
pub each_of_grown : (R : Entry → Entry → Type 0) (es tail : List Entry) (e : Entry) →
    AllByRecursion (λ x. AllByRecursion (R x) (e ∷ tail)) es → AllByRecursion (λ x. AllByRecursion (R x) tail) es
each_of_grown R es tail e h = each-weaker (λ x. AllByRecursion (R x) (e ∷ tail)) (λ x. AllByRecursion (R x) tail)
    (λ x k. k.1) es h

each-snoc : (P : Entry → Type 0) (es : List Entry) (e : Entry) → AllByRecursion P (es ++ e ∷ []) → AllByRecursion P es
    × P e
each-snoc P [] e h = (tt, h.0)
each-snoc P (f ∷ es) e h = let r : AllByRecursion P es × P e = each-snoc P es e h.1 in ((h.0, r.0), r.1)

pub pairs_of_grown : (R : Entry → Entry → Type 0) (es tail : List Entry) →
    Grown (λ es e. AllByRecursion (λ x. R x e) es) es tail → AllByRecursion (λ x. AllByRecursion (R x) tail) es
    × Pairs R tail
pairs_of_grown R es [] h = (each_none es, tt)
  where
    each_none : (fs : List Entry) → AllByRecursion (λ x. AllByRecursion (R x) []) fs
    each_none [] = tt
    each_none (f ∷ fs) = (tt, each_none fs)
pairs_of_grown R es (e ∷ tail) h =
    let rest : AllByRecursion (λ x. AllByRecursion (R x) tail) (es ++ e ∷ []) × Pairs R tail =
    pairs_of_grown R (es ++ e ∷ []) tail h.1 in
    let parts : AllByRecursion (λ x. AllByRecursion (R x) tail) es × AllByRecursion (R e) tail =
    each-snoc (λ x. AllByRecursion (R x) tail) es e rest.0 in (
      each-both (λ x. R x e) (λ x. AllByRecursion (R x) tail) (λ x. AllByRecursion (R x) (e ∷ tail))
          (λ x a b. (a, b)) es h.0 parts.0,
      (parts.1, rest.1),
    )

-- what each has, each two have
pub pairs_of_each : (P : Entry → Type 0) (es : List Entry) → AllByRecursion P es → Pairs (λ e f. P e × P f) es
pairs_of_each P [] h = tt
pairs_of_each P (e ∷ es) h = (each-weaker P (λ f. P e × P f) (λ f k. (h.0, k)) es h.1, pairs_of_each P es h.1)
