-- Laws of the words on lines, lists of lines and sights.
use Rattle.std.proofs.Common.{◌≡◌, ◌≢◌, ℕ, List, [], ◌∷◌, ◌++◌, cond, eqb, true, false, refl, sym, ap, ◌∙◌, eq-eqb, ne_eqb, Bool}
use Rattle.std.specs.List.{AllByRecursion}
use Rattle.slnf_turns.specs.declared.views.Line.{Line}
use Rattle.slnf_turns.specs.declared.views.Noted.{Noted}
use Rattle.slnf_turns.specs.declared.views.Joined.{Joined}
use Rattle.slnf_turns.specs.Views.{lines_of, AllOf, part_of, noted, kept_of}

pub if_eq : {A : Type 0} (a b : ℕ) (x y : A) → a ≡ b → cond (eqb a b) x y ≡ x
if_eq a b x y e = ap (λ t. cond t x y) (eq-eqb a b e)

pub if_ne : {A : Type 0} (a b : ℕ) (x y : A) → a ≢ b → cond (eqb a b) x y ≡ y
if_ne a b x y n = ap (λ t. cond t x y) (ne_eqb a b n)

cond_prepend : {A : Type 0} (t : Bool) (x : A) (a b c : List A) → a ≡ b ++ c → cond t (x ∷ a) a ≡ cond t (x ∷ b) b ++ c
cond_prepend true x a b c e = ap (λ l. x ∷ l) e
cond_prepend false x a b c e = e

pub lines_of_append : (i : ℕ) (a b : List Line) → lines_of i (a ++ b) ≡ lines_of i a ++ lines_of i b
lines_of_append i [] b = refl
lines_of_append i (l ∷ ls) b =
    cond_prepend (eqb l.number i) l (lines_of i (ls ++ b)) (lines_of i ls) (lines_of i b) (lines_of_append i ls b)

pub part_of_append : (k : ℕ) (a b : List Noted) → part_of k (a ++ b) ≡ part_of k a ++ part_of k b
part_of_append k [] b = refl
part_of_append k (x ∷ xs) b =
    cond_prepend (eqb x.shard k) x.line (part_of k (xs ++ b)) (part_of k xs) (part_of k b) (part_of_append k xs b)

pub lines_of_all : (i : ℕ) (ls : List Line) → AllOf i ls → lines_of i ls ≡ ls
lines_of_all i [] a = refl
lines_of_all i (l ∷ ls) a = if_eq l.number i (l ∷ lines_of i ls) (lines_of i ls) a.0 ∙ ap (λ z. l ∷ z) (lines_of_all i ls a.1)

pub lines_of_none : (i j : ℕ) (ls : List Line) → i ≢ j → AllOf i ls → lines_of j ls ≡ []
lines_of_none i j [] n a = refl
lines_of_none i j (l ∷ ls) n a =
    if_ne l.number j (l ∷ lines_of j ls) (lines_of j ls) (λ e. n (sym a.0 ∙ e)) ∙ lines_of_none i j ls n a.1

pub part_here : (k : ℕ) (ls : List Line) → part_of k (noted k ls) ≡ ls
part_here k [] = refl
part_here k (l ∷ ls) = if_eq k k (l ∷ part_of k (noted k ls)) (part_of k (noted k ls)) refl ∙ ap (λ z. l ∷ z) (part_here k ls)

pub part_else : (k j : ℕ) (ls : List Line) → k ≢ j → part_of j (noted k ls) ≡ []
part_else k j [] n = refl
part_else k j (l ∷ ls) n = if_ne k j (l ∷ part_of j (noted k ls)) (part_of j (noted k ls)) n ∙ part_else k j ls n

pub kept_else : (i : ℕ) (xs : List Joined) (x : Joined) → x.listed.number ≢ i → kept_of i (xs ++ x ∷ []) ≡ kept_of i xs
kept_else i [] x n = if_ne x.listed.number i x.listed.lines [] n
kept_else i (y ∷ ys) x n = ap (λ z. cond (eqb y.listed.number i) y.listed.lines z) (kept_else i ys x n)

pub kept_last : (i : ℕ) (xs : List Joined) (x : Joined) → AllByRecursion (λ (y : Joined). y.listed.number ≢ i) xs
    → x.listed.number ≡ i → kept_of i (xs ++ x ∷ []) ≡ x.listed.lines
kept_last i [] x a e = if_eq x.listed.number i x.listed.lines [] e
kept_last i (y ∷ ys) x a e = if_ne y.listed.number i y.listed.lines (kept_of i (ys ++ x ∷ [])) a.0 ∙ kept_last i ys x a.1 e
