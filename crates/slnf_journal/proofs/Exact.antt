-- Readings that are exact: what is taken is spelled so, what is spelled so is taken, and a failure names the
-- first field that nothing can have behind the fields before it. One reading behind another is exact again.
use Rattle.std.proofs.Common.{◌≡◌, ◌≢◌, ◌≤◌, ◌<◌, ◌+◌, ℕ, zero, suc, ◌⊎◌, List, [], ◌∷◌, ◌++◌, Option, Some, None, Result, Ok, Err, length, take, refl, sym, ◌∙◌, ap, subst, append_assoc, arith, inl, inr}
use Rattle.std.proofs.lemmas.List.{length-append, take-append-le}
use Rattle.std.proofs.Math.Seq.{take-append-add}
use Rattle.slnf_journal.specs.Fields.{Fields, ◌>>=◌, field_in, said_in}

-- where a reading fails: so many fields are as those of one value, and with the next one they are of none
pub record FailsAt {A : Type 0} (P : A → Type 0) (s : A → List (List ℕ)) (fields : Fields) (bad : ℕ) : Type 0 where
  pub before : ℕ
  pub place : bad ≡ fields.number + before
  pub one : A
  pub fits : P one
  pub long : before < length (s one)
  pub same : take before (s one) ≡ take before fields.left
  pub none : (a : A) (more : List (List ℕ)) → P a → take (suc before) (s a ++ more) ≢ take (suc before) fields.left

pub record IsExact {A : Type 0} (P : A → Type 0) (s : A → List (List ℕ)) (r : Fields → Result (A × Fields) ℕ) : Type 0 where
  pub takes : (fields : Fields) (x : A × Fields) →
      r fields ≡ Ok x → P x.0 × (fields.left ≡ s x.0 ++ x.1.left) × (x.1.number ≡ fields.number + length (s x.0))
  pub again : (number : ℕ) (a : A) (more : List (List ℕ)) → P a → r (record { number = number; left = s a ++ more })
      ≡ Ok (a, record { number = number + length (s a); left = more })
  pub fails : (fields : Fields) (bad : ℕ) → r fields ≡ Err bad → FailsAt P s fields bad
  pub some : (a : A) × P a

-- ---- steps

pub bind_ok : {A B E : Type 0} (r : Result A E) (f : A → Result B E) (y : B) →
    (r >>= f) ≡ Ok y → (x : A) × (r ≡ Ok x) × (f x ≡ Ok y)
bind_ok (Ok x) f y e = (x, refl, e)
bind_ok (Err d) f y e = absurd cc

pub bind_err : {A B E : Type 0} (r : Result A E) (f : A → Result B E) (d : E) →
    (r >>= f) ≡ Err d → (r ≡ Err d) ⊎ ((x : A) × (r ≡ Ok x) × (f x ≡ Err d))
bind_err (Ok x) f d e = inr (x, refl, e)
bind_err (Err c) f d e = let same : c ≡ d = cc in inl (ap Err same)

abbrev given : {A : Type 0} → A → Result A ℕ
given x = Ok x

pub ok_is : {A : Type 0} (x y : A) → given x ≡ given y → x ≡ y
ok_is x y e = cc

-- ---- fronts of lists

-- a list that is as another one for some way begins as it does
pub begins_so : {X : Type 0} (n : ℕ) (xs front ys : List X) → take (length front + n) xs
    ≡ take (length front + n) (front ++ ys) → (zs : List X) × (xs ≡ front ++ zs) × (take n zs ≡ take n ys)
begins_so n xs [] ys h =
    let e : 0 + n ≡ n = omega arith in
    (xs, refl, sym (ap (λ k. take k xs) e) ∙ h ∙ ap (λ k. take k ys) e)
begins_so n [] (y ∷ front) ys h =
    let e : length (y ∷ front) + n ≡ suc (length front + n) = omega arith in
    let wrong : [] ≡ y ∷ take (length front + n) (front ++ ys) =
    ap (λ k. take k []) (sym e) ∙ h ∙ ap (λ k. take k (y ∷ (front ++ ys))) e in
    let no : ⊥ = cc in
    absurd no
begins_so n (x ∷ xs) (y ∷ front) ys h =
    let e : length (y ∷ front) + n ≡ suc (length front + n) = omega arith in
    let both : x ∷ take (length front + n) xs ≡ y ∷ take (length front + n) (front ++ ys) =
    ap (λ k. take k (x ∷ xs)) (sym e) ∙ h ∙ ap (λ k. take k (y ∷ (front ++ ys))) e in
    let head : x ≡ y = cc in
    let tail : take (length front + n) xs ≡ take (length front + n) (front ++ ys) = cc in
    let rest = begins_so n xs front ys tail in
    (rest.0, ap (λ z. z ∷ xs) head ∙ ap (λ zs. y ∷ zs) rest.1, rest.2)

-- ---- nothing more to read

pub exact_done : {B : Type 0} (b : B) → IsExact (λ x. x ≡ b) (λ x. []) (λ fields. Ok (b, fields))
exact_done {B} b = record {
  takes = λ fields x e.
      let p : (b, fields) ≡ x = ok_is (b, fields) x e in (
        sym (ap (λ (y : B × Fields). y.0) p),
        ap (λ (y : B × Fields). y.1.left) p,
        sym (ap (λ (y : B × Fields). y.1.number) p) ∙ omega arith,
      );
  again = λ number a more is.
      let n : number ≡ number + 0 = omega arith in
      ap (λ (k : ℕ). Ok (b, record { number = k; left = more })) n
      ∙ ap (λ (c : B). Ok (c, record { number = number + 0; left = more })) (sym is);
  fails = λ fields bad e. let wrong : ⊥ = cc in absurd wrong;
  some = (b, refl);
}

-- ---- a field

-- a value has one text, which says it, and no other text does
pub record IsValue {A : Type 0} (P : A → Type 0) (text : A → List ℕ) (value : List ℕ → Option A) : Type 0 where
  pub gives : (field : List ℕ) (a : A) → value field ≡ Some a → P a × (field ≡ text a)
  pub back : (a : A) → P a → value (text a) ≡ Some a
  pub some : (a : A) × P a

abbrev next : ℕ → List (List ℕ) → Fields
next number left = record { number = number + 1; left = left }

said_ok : {A : Type 0} (P : A → Type 0) (text : A → List ℕ) (value : List ℕ → Option A) → IsValue P text value →
    (number : ℕ) (field : List ℕ) (left : List (List ℕ)) (x : A × Fields) (o : Option A) →
    value field ≡ o → said_in number o (next number left) ≡ Ok x →
    P x.0 × (field ∷ left ≡ text x.0 ∷ x.1.left) × (x.1.number ≡ number + 1)
said_ok P text value v number field left x None is e = absurd cc
said_ok {A} P text value v number field left x (Some a) is e =
    let g = v.gives field a is in
    let p : (a, next number left) ≡ x = ok_is (a, next number left) x e in
    subst (λ (y : A × Fields). P y.0 × (field ∷ left ≡ text y.0 ∷ y.1.left) × (y.1.number ≡ number + 1)) p
    (g.0, ap (λ f. f ∷ left) g.1, refl)

none_some : {A : Type 0} (a : A) → None ≡ Some a → ⊥
none_some a e = cc

said_err : {A : Type 0} (P : A → Type 0) (text : A → List ℕ) (value : List ℕ → Option A) → IsValue P text value →
    (number : ℕ) (field : List ℕ) (left : List (List ℕ)) (bad : ℕ) (o : Option A) →
    value field ≡ o → said_in number o (next number left) ≡ Err bad →
    (bad ≡ number) × ((a : A) → P a → field ≢ text a)
said_err P text value v number field left bad (Some a) is e = absurd cc
said_err P text value v number field left bad None is e =
    (cc, λ a fits same. none_some _ (sym is ∙ ap value same ∙ v.back a fits))

field_ok : {A : Type 0} (P : A → Type 0) (text : A → List ℕ) (value : List ℕ → Option A) → IsValue P text value →
    (number : ℕ) (left : List (List ℕ)) (x : A × Fields) → field_in value (record { number = number; left = left }) ≡ Ok x →
    P x.0 × (left ≡ text x.0 ∷ x.1.left) × (x.1.number ≡ number + 1)
unfolding field_in
field_ok P text value v number [] x e = absurd cc
field_ok P text value v number (field ∷ left) x e = said_ok P text value v number field left x (value field) refl e

field_again : {A : Type 0} (P : A → Type 0) (text : A → List ℕ) (value : List ℕ → Option A) → IsValue P text value →
    (number : ℕ) (a : A) (more : List (List ℕ)) → P a →
    field_in value (record { number = number; left = text a ∷ more }) ≡ Ok (a, next number more)
unfolding field_in
field_again P text value v number a more fits = ap (λ o. said_in number o (next number more)) (v.back a fits)

field_err : {A : Type 0} (P : A → Type 0) (text : A → List ℕ) (value : List ℕ → Option A) → IsValue P text value →
    (number : ℕ) (left : List (List ℕ)) (bad : ℕ) → field_in value (record { number = number; left = left }) ≡ Err bad →
    FailsAt P (λ a. text a ∷ []) (record { number = number; left = left }) bad
unfolding field_in
field_err P text value v number [] bad e = record {
  before = 0;
  place = let same : number ≡ bad = cc in sym same ∙ omega arith;
  one = v.some.0;
  fits = v.some.1;
  long = omega arith;
  same = refl;
  none = λ a more fits h. let wrong : ⊥ = cc in wrong;
}
field_err P text value v number (field ∷ left) bad e =
    let no = said_err P text value v number field left bad (value field) refl e in
    record {
      before = 0;
      place = no.0 ∙ omega arith;
      one = v.some.0;
      fits = v.some.1;
      long = omega arith;
      same = refl;
      none = λ a more fits h. no.1 a fits (let is : text a ≡ field = cc in sym is);
    }

pub exact_field : {A : Type 0} (P : A → Type 0) (text : A → List ℕ) (value : List ℕ → Option A) →
    IsValue P text value → IsExact P (λ a. text a ∷ []) (field_in value)
exact_field P text value v = record {
  takes = λ fields x e. field_ok P text value v fields.number fields.left x e;
  again = λ number a more fits. field_again P text value v number a more fits;
  fails = λ fields bad e. field_err P text value v fields.number fields.left bad e;
  some = v.some;
}

-- ---- one reading behind another

module _ {A B : Type 0} (P : A → Type 0) (s : A → List (List ℕ)) (r : Fields → Result (A × Fields) ℕ)
    (Q : A → B → Type 0) (t : A → B → List (List ℕ)) (k : A → Fields → Result (B × Fields) ℕ) (w : B → List (List ℕ))
    (er : IsExact P s r) (ek : (a : A) → P a → IsExact (Q a) (t a) (k a))
    (joins : (a : A) (b : B) → P a → Q a b → w b ≡ s a ++ t a b) where
  abbrev Both : B → Type 0
  Both b = (a : A) × P a × Q a b

  abbrev both : Fields → Result (B × Fields) ℕ
  both fields = r fields >>= (λ x. k x.0 x.1)

  regrouped : (a : A) (b : B) (more : List (List ℕ)) → P a → Q a b → w b ++ more ≡ s a ++ (t a b ++ more)
  regrouped a b more p q = ap (λ l. l ++ more) (joins a b p q) ∙ append_assoc (s a) (t a b) more

  size : (a : A) (b : B) → P a → Q a b → length (w b) ≡ length (s a) + length (t a b)
  size a b p q = ap length (joins a b p q) ∙ length-append (s a) (t a b)

  both_takes : (fields : Fields) (y : B × Fields) →
      both fields ≡ Ok y → Both y.0 × (fields.left ≡ w y.0 ++ y.1.left) × (y.1.number ≡ fields.number + length (w y.0))
  both_takes fields y e =
      let o = bind_ok (r fields) (λ x. k x.0 x.1) y e in
      let x = o.0 in
      let one = er.takes fields x o.1 in
      let two = (ek x.0 one.0).takes x.1 y o.2 in (
        (x.0, one.0, two.0),
        one.1 ∙ ap (λ l. s x.0 ++ l) two.1 ∙ sym (regrouped x.0 y.0 y.1.left one.0 two.0),
        omega (arith, one.2, two.2, size x.0 y.0 one.0 two.0),
      )

  both_again : (number : ℕ) (b : B) (more : List (List ℕ)) → Both b → both
      (record { number = number; left = w b ++ more }) ≡ Ok (b, record { number = number + length (w b); left = more })
  both_again number b more (a, p, q) =
      let n : number + length (s a) + length (t a b) ≡ number + length (w b) = omega (arith, size a b p q) in
      ap (λ l. both (record { number = number; left = l })) (regrouped a b more p q)
      ∙ ap (λ v. v >>= (λ x. k x.0 x.1)) (er.again number a (t a b ++ more) p)
      ∙ (ek a p).again (number + length (s a)) b more q
      ∙ ap (λ (m : ℕ). Ok (b, record { number = m; left = more })) n

  -- the first reading fails
  first_fails : (fields : Fields) (bad : ℕ) → r fields ≡ Err bad → FailsAt Both w fields bad
  first_fails fields bad e =
      let f = er.fails fields bad e in
      let b = (ek f.one f.fits).some in
      let short : f.before ≤ length (s f.one) = omega (arith, f.long) in
      record {
        before = f.before;
        place = f.place;
        one = b.0;
        fits = (f.one, f.fits, b.1);
        long = omega (arith, f.long, size f.one b.0 f.fits b.1);
        same = ap (λ l. take f.before l) (joins f.one b.0 f.fits b.1)
            ∙ take-append-le f.before (s f.one) (t f.one b.0) short ∙ f.same;
        none = λ c more fits h. f.none fits.0 (t fits.0 c ++ more) fits.1
            (ap (λ l. take (suc f.before) l) (sym (regrouped fits.0 c more fits.1 fits.2)) ∙ h);
      }

  no_other : (fields : Fields) (x : A × Fields) (before : ℕ) → P x.0 → fields.left ≡ s x.0 ++ x.1.left →
      ((b : B) (more : List (List ℕ)) → Q x.0 b → take (suc before) (t x.0 b ++ more) ≢ take (suc before) x.1.left) →
      (b : B) (more : List (List ℕ)) →
      Both b → take (suc (length (s x.0) + before)) (w b ++ more) ≢ take (suc (length (s x.0) + before)) fields.left
  no_other fields x before p parts none b more (a, pa, q) h =
      let n : suc (length (s x.0) + before) ≡ length (s x.0) + suc before = omega arith in
      let whole : List (List ℕ) = s a ++ (t a b ++ more) in
      let alike : take (length (s x.0) + suc before) whole ≡ take (length (s x.0) + suc before) (s x.0 ++ x.1.left) =
      ap (λ m. take m whole) (sym n) ∙ ap (λ l. take (suc (length (s x.0) + before)) l) (sym (regrouped a b more pa q)) ∙ h
      ∙ ap (λ m. take m fields.left) n ∙ ap (λ l. take (length (s x.0) + suc before) l) parts in
      let cut = begins_so (suc before) whole (s x.0) x.1.left alike in
      let here = er.again 0 a (t a b ++ more) pa in
      let there = ap (λ l. r (record { number = 0; left = l })) cut.1 ∙ er.again 0 x.0 cut.0 p in
      let pair : (a, record { number = 0 + length (s a); left = t a b ++ more })
      ≡ (x.0, record { number = 0 + length (s x.0); left = cut.0 }) = ok_is _ _ (sym here ∙ there) in
      let value : a ≡ x.0 = ap (λ (y : A × Fields). y.0) pair in
      let rest : t a b ++ more ≡ cut.0 = ap (λ (y : A × Fields). y.1.left) pair in
      let at : Q x.0 b → take (suc before) (t x.0 b ++ more) ≢ take (suc before) x.1.left = none b more in
      subst (λ (c : A). Q c b → take (suc before) (t c b ++ more) ≢ take (suc before) x.1.left) (sym value) at q
      (ap (λ l. take (suc before) l) rest ∙ cut.2)

  -- the second fails, and what the first took is taken of all that begin so
  second_fails : (fields : Fields) (x : A × Fields) (bad : ℕ) → r fields ≡ Ok x → k x.0 x.1 ≡ Err bad → FailsAt Both w fields bad
  second_fails fields x bad e1 e2 =
      let one = er.takes fields x e1 in
      let f = (ek x.0 one.0).fails x.1 bad e2 in
      let len = length (s x.0) in
      record {
        before = len + f.before;
        place = omega (arith, f.place, one.2);
        one = f.one;
        fits = (x.0, one.0, f.fits);
        long = omega (arith, f.long, size x.0 f.one one.0 f.fits);
        same = ap (λ l. take (len + f.before) l) (joins x.0 f.one one.0 f.fits) ∙ take-append-add (s x.0) (t x.0 f.one) f.before
            ∙ ap (λ l. s x.0 ++ l) f.same ∙ sym (take-append-add (s x.0) x.1.left f.before)
            ∙ ap (λ l. take (len + f.before) l) (sym one.1);
        none = λ b more fits h. no_other fields x f.before one.0 one.1 f.none b more fits h;
      }

  both_fails : (fields : Fields) (bad : ℕ) → both fields ≡ Err bad → FailsAt Both w fields bad
  both_fails fields bad e =
      elim (bind_err (r fields) (λ x. k x.0 x.1) bad e) [
        | inl h ↦ first_fails fields bad h
        | inr h ↦ second_fails fields h.0 bad h.1 h.2
      ]

  pub exact_then : IsExact Both w both
  exact_then =
      let b = (ek er.some.0 er.some.1).some in
      record { takes = both_takes; again = both_again; fails = both_fails; some = (b.0, (er.some.0, er.some.1, b.1)) }

-- ---- in other words

pub exact_spelled : {A : Type 0} (P P' : A → Type 0) (s s' : A → List (List ℕ)) (r : Fields → Result (A × Fields) ℕ) →
    ((a : A) → P a → P' a) → ((a : A) → P' a → P a) → ((a : A) → P a → s' a ≡ s a) → IsExact P s r → IsExact P' s' r
exact_spelled P P' s s' r to from spelled e = record {
  takes = λ fields x h.
      let p = e.takes fields x h in
      let same = spelled x.0 p.0 in
      (to x.0 p.0, p.1 ∙ ap (λ l. l ++ x.1.left) (sym same), p.2 ∙ ap (λ l. fields.number + length l) (sym same));
  again = λ number a more fits.
      let same = spelled a (from a fits) in
      ap (λ l. r (record { number = number; left = l ++ more })) same ∙ e.again number a more (from a fits)
      ∙ ap (λ (l : List (List ℕ)). Ok (a, record { number = number + length l; left = more })) (sym same);
  fails = λ fields bad h.
      let f = e.fails fields bad h in
      let same = spelled f.one f.fits in
      record {
        before = f.before;
        place = f.place;
        one = f.one;
        fits = to f.one f.fits;
        long = omega (arith, f.long, ap length same);
        same = ap (λ l. take f.before l) same ∙ f.same;
        none = λ a more fits h. f.none a more (from a fits)
            (ap (λ l. take (suc f.before) (l ++ more)) (sym (spelled a (from a fits))) ∙ h);
      };
  some = (e.some.0, to e.some.0 e.some.1);
}

pub exact_as : {A : Type 0} (P P' : A → Type 0) (s : A → List (List ℕ)) (r : Fields → Result (A × Fields) ℕ) →
    ((a : A) → P a → P' a) → ((a : A) → P' a → P a) → IsExact P s r → IsExact P' s r
exact_as P P' s r to from e = exact_spelled P P' s s r to from (λ a p. refl) e
