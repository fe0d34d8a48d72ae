-- What the code's steps do to its lists.
use Rattle.std.proofs.Common.{◌≡◌, inl, inr, ℕ, suc, ◌+◌, ◌-◌, ◌<◌, ◌≤◌, if◌then◌else◌, List, [], ◌∷◌, ◌++◌, Option, Some, Ok, Result, length, get_or, set, take, drop, slice_get, refl, sym, ap, ap₂, ◌∙◌, arith, Bool, true, false, ◌==◌}
use Rattle.std.specs.Result.{is_ok}
use Rattle.std.proofs.lemmas.Bool.{cases_lt, cases_eq}
use Rattle.std.proofs.lemmas.Bool.Decides.{nat_tests}
use Rattle.std.proofs.lemmas.List.{get_or-set_same, get_or-set_other, drop_all, take_all, append-nil, drop-drop, length-drop}
use Rattle.std.proofs.lemmas.List.FromFn.{map-range_with_len_more}
use Rattle.std.proofs.lemmas.Option.{slice_get-get_or, slice_get_within, same_Some}
use Rattle.slnf_base.specs.declared.packets.Verdict.{Verdict}
use Rattle.slnf_access.specs.Machines.{Stand}
use Rattle.slnf_instance.specs.Works.{flight_at, flights_at}
use Rattle.slnf_instance.specs.Hands.{AreBegun}

pub pushed : {X U E : Type 0} (items old : List X) (x : X) (result : Result U E) (u : U) →
    items ≡ (if is_ok result then old ++ x ∷ [] else old) → result ≡ Ok u → items ≡ old ++ x ∷ []
pushed items old x result u h e = h ∙ ap (λ r. if is_ok r then old ++ x ∷ [] else old) e

pub flights_more : {F : Type 0} (stand : ℕ → Stand F) (from n item : ℕ) (flights after : List (Option F))
    (flight : Option F) → flights ≡ flights_at stand from n → after ≡ flights ++ flight ∷ [] →
    flight ≡ flight_at (stand item) → from + n ≡ item → after ≡ flights_at stand from (n + 1)
flights_more stand from n item flights after flight h more is q =
    more ∙ (ap₂ (λ fs f. fs ++ f ∷ []) h is ∙ sym (map-range_with_len_more (λ i. flight_at (stand i)) from n item q))

pub begun_none : (f : ℕ → Verdict) (at from : ℕ) (xs : List Verdict) → AreBegun f at from 0 xs xs
begun_none f at from xs = record { earlier = λ k d l. refl; begins = λ item d l u. absurd (omega arith) }

pub begun_more : (f : ℕ → Verdict) (at from n : ℕ) (old mid : List Verdict) (v : Verdict) → at ≤ from →
    AreBegun f at from n old mid → from + n - at < length mid → v ≡ f (from + n) →
    AreBegun f at from (n + 1) old (set mid (from + n - at) v)
begun_more f at from n old mid v l h inside is = record {
  earlier = λ k d u. get_or-set_other mid (from + n - at) k v d (λ q. omega arith) ∙ h.earlier k d u;
  begins = λ item d a u. elim (cases_lt item (from + n)) [
    | inl b ↦ get_or-set_other mid (from + n - at) (item - at) v d (λ q. omega arith) ∙ h.begins item d a b
    | inr b ↦
        let q : item ≡ from + n = omega arith in
        ap (λ i. get_or (set mid (from + n - at) v) (i - at) d) q
        ∙ (get_or-set_same mid (from + n - at) v d inside ∙ (is ∙ sym (ap f q)))
  ];
}

pub pushed_len : {U E : Type 0} (n m : ℕ) (result : Result U E) (u : U) → n ≡ (if is_ok result then m + 1 else m) →
    result ≡ Ok u → n ≡ m + 1
pushed_len n m result u h e = h ∙ ap (λ r. if is_ok r then m + 1 else m) e

-- a vector that is written as a whole
pub written_all : {X : Type 0} (n : ℕ) (xs ys : List X) → length ys ≡ length xs → n ≡ length xs →
    take n (ys ++ drop (length ys) xs) ≡ ys
written_all n xs ys e k =
    ap (λ zs. take n (ys ++ zs)) (drop_all (length ys) xs (omega arith))
    ∙ (ap (take n) (append-nil ys) ∙ take_all n ys (omega arith))

pub not_zero : (n : ℕ) (r : Bool) → r ≡ (n == 0) → r ≡ false → 0 < n
not_zero n r h e = grind (arith, nat_tests)

pub is_zero : (n : ℕ) (r : Bool) → r ≡ (n == 0) → r ≡ true → n ≡ 0
is_zero n r h e = grind (arith, nat_tests)

pub below_not : (m n : ℕ) → m ≤ n → (m < n → ⊥) → m ≡ n
below_not m n l h = elim (cases_lt m n) [ inl k ↦ absurd (h k) | inr k ↦ omega arith ]

pub same_slot : {F : Type 0} (items : List (Option F)) (place : ℕ) (flight : F) (now slot : Option F) (u : F) →
    slice_get items place ≡ Some (Some flight) → now ≡ get_or items place now → slot ≡ now → slot ≡ Some u →
    u ≡ flight
same_slot items place flight now slot u there at is some =
    let l = slice_get_within items place (Some flight) there in
    let e : get_or items place now ≡ Some flight = same_Some _ _ (sym (slice_get-get_or items place now l) ∙ there) in
    same_Some u flight (sym some ∙ (is ∙ (at ∙ e)))

pub some_left : (m n k : ℕ) → m < n → (m + 1 ≡ n → ⊥) → k ≡ n - (m + 1) → 0 < k
some_left m n k l h e = elim (cases_eq (m + 1) n) [ inl q ↦ absurd (h q) | inr q ↦ omega arith ]

-- what is left behind the first of what is left
pub drop_next : {X : Type 0} (xs : List X) (n : ℕ) (a : X) (ys : List X) → drop n xs ≡ a ∷ ys → drop (n + 1) xs ≡ ys
drop_next xs n a ys h = sym (drop-drop 1 n xs) ∙ ap (drop 1) h

pub two_left : {X : Type 0} (xs : List X) (n : ℕ) (a b : X) (ys : List X) → drop n xs ≡ a ∷ b ∷ ys →
    n + 1 ≡ length xs → ⊥
two_left xs n a b ys h e =
    let k : length (drop n xs) ≡ suc (suc (length ys)) = ap length h in let l : length (drop n xs) ≡ length xs - n =
    length-drop n xs in omega arith
