-- An actor's clock, one more entry at a time, and the greatest stamp of all by the histories' last stamps.
use Rattle.std.proofs.Common.{◌≡◌, ℕ, ◌+◌, ◌≤◌, ◌<◌, ◌==◌, ◌||◌, nat_le, max, true, false, List, [], ◌∷◌, ◌++◌, length, refl, sym, ap, ap₂, ◌∙◌, subst, arith, append-nil}
use Rattle.std.proofs.lemmas.Bool.Decides.{nat_tests}
use Rattle.std.specs.List.{AllByRecursion}
use Rattle.slnf_access.specs.declared.requests.Entry.{Entry}
use Rattle.slnf_run.specs.Parts.{part_of}
use Rattle.slnf_run.specs.Scheduled.{greatest}
use Rattle.slnf_run.specs.Made.{Pairs, last_stamp, is_of_earlier, clock_of, clock, HaveParts, greatest_last}
use Rattle.slnf_run.proofs.Pairing.{each-weaker}
use Rattle.slnf_run.proofs.Rising.{rises_of_number}
use Rattle.slnf_run.proofs.Parting.{part_of-append, part_of-own, part_of-other}
use Rattle.slnf_run.proofs.Clocks.{greatest-or, greatest-same, greatest-none, greatest-append, greatest_is_last, last_stamp-push, earlier_at_start}

clock_of-some : (epoch : ℕ → ℕ) (es : List Entry) (incarnation : ℕ) (part : List Entry) (e : Entry) →
    clock_of epoch es incarnation (part ++ e ∷ []) ≡ e.stamp
clock_of-some epoch es incarnation [] e = refl
clock_of-some epoch es incarnation (f ∷ part) e = last_stamp-push (f ∷ part) e

-- an actor's clock after its own access
pub clock-own : (epoch : ℕ → ℕ) (es : List Entry) (e : Entry) → clock epoch (es ++ e ∷ []) e.incarnation ≡ e.stamp
clock-own epoch es e =
    ap (clock_of epoch (es ++ e ∷ []) e.incarnation)
    (part_of-append e.incarnation es (e ∷ [])
    ∙ ap (λ l. part_of e.incarnation es ++ l) (part_of-own e.incarnation e [] refl))
    ∙ clock_of-some epoch (es ++ e ∷ []) e.incarnation (part_of e.incarnation es) e

clock_of-other : (epoch : ℕ → ℕ) (es : List Entry) (incarnation : ℕ) (part : List Entry) (e : Entry) →
    epoch incarnation ≤ epoch e.incarnation →
    clock_of epoch (es ++ e ∷ []) incarnation part ≡ clock_of epoch es incarnation part
clock_of-other epoch es incarnation [] e l =
    greatest-append (is_of_earlier epoch incarnation) es (e ∷ [])
    ∙ (ap (max (greatest (is_of_earlier epoch incarnation) es))
    (greatest-none (is_of_earlier epoch incarnation) (e ∷ []) (not_earlier, tt))
    ∙ max_none (greatest (is_of_earlier epoch incarnation) es))
  where
    not_earlier : is_of_earlier epoch incarnation e ≡ false
    not_earlier = grind (arith, nat_tests)

    max_none : (n : ℕ) → max n 0 ≡ n
    max_none n = omega arith
clock_of-other epoch es incarnation (f ∷ part) e l = refl

-- and after another's of no earlier epoch
pub clock-other : (epoch : ℕ → ℕ) (incarnation : ℕ) (es : List Entry) (e : Entry) →
    (e.incarnation ≡ incarnation → ⊥) → epoch incarnation ≤ epoch e.incarnation →
    clock epoch (es ++ e ∷ []) incarnation ≡ clock epoch es incarnation
clock-other epoch incarnation es e n l =
    ap (clock_of epoch (es ++ e ∷ []) incarnation)
    (part_of-append incarnation es (e ∷ [])
    ∙ (ap (λ p. part_of incarnation es ++ p) (part_of-other incarnation e [] n)
    ∙ append-nil (part_of incarnation es)))
    ∙ clock_of-other epoch es incarnation (part_of incarnation es) e l

-- where an actor's epoch begins, its clock is the greatest stamp of all
pub clock-first : (epoch : ℕ → ℕ) (incarnation : ℕ) (es : List Entry) →
    AllByRecursion (λ e. epoch e.incarnation < epoch incarnation) es →
    clock epoch es incarnation ≡ greatest (λ _. true) es
clock-first epoch incarnation es h =
    ap (clock_of epoch es incarnation) (empty es h)
    ∙ (ap (greatest (is_of_earlier epoch incarnation)) (sym (append-nil es))
    ∙ earlier_at_start epoch incarnation es [] h tt)
  where
    empty : (fs : List Entry) → AllByRecursion (λ e. epoch e.incarnation < epoch incarnation) fs →
        part_of incarnation fs ≡ []
    empty [] k = refl
    empty (f ∷ fs) k =
        part_of-other incarnation f fs (λ q.
        let l : epoch f.incarnation < epoch f.incarnation =
        subst (λ n. epoch f.incarnation < epoch n) (sym q) k.0 in absurd (omega arith)) ∙ empty fs k.1

from_here : (from : ℕ) (histories : List (List Entry)) (m : List Entry) →
    Pairs (λ e f. e.shard ≡ f.shard → e.stamp < f.stamp) m →
    AllByRecursion (λ e. e.shard < from + length histories) m → HaveParts from histories m →
    greatest (λ e. nat_le from e.shard) m ≡ greatest_last histories
from_here from [] m rise within h =
    greatest-none (λ e. nat_le from e.shard) m
    (each-weaker (λ e. e.shard < from + 0) (λ e. nat_le from e.shard ≡ false) below m within)
  where
    below : (e : Entry) → e.shard < from + 0 → nat_le from e.shard ≡ false
    below e l = grind (arith, nat_tests)
from_here from (x ∷ xs) m rise within h =
    greatest-same (λ e. nat_le from e.shard) (λ e. e.shard == from || nat_le (from + 1) e.shard) m
    (each-weaker (λ e. e.shard < from + length (x ∷ xs))
    (λ e. nat_le from e.shard ≡ (e.shard == from || nat_le (from + 1) e.shard)) (λ e _. parts e) m within)
    ∙ (greatest-or (λ e. e.shard == from) (λ e. nat_le (from + 1) e.shard) m
    ∙ ap₂ max
    (greatest_is_last (λ e. e.shard == from) m (rises_of_number (λ e. e.shard) from m rise)
    ∙ ap last_stamp (sym h.0))
    (from_here (from + 1) xs m rise (each-weaker (λ e. e.shard < from + length (x ∷ xs))
    (λ e. e.shard < from + 1 + length xs) (λ e l. more e l) m within) h.1))
  where
    parts : (e : Entry) → nat_le from e.shard ≡ (e.shard == from || nat_le (from + 1) e.shard)
    parts e = grind (arith, nat_tests)

    more : (e : Entry) → e.shard < from + length (x ∷ xs) → e.shard < from + 1 + length xs
    more e l = omega arith

-- the greatest stamp of all is that of the histories' last stamps
pub greatest_of_histories : (histories : List (List Entry)) (m : List Entry) →
    Pairs (λ e f. e.shard ≡ f.shard → e.stamp < f.stamp) m →
    AllByRecursion (λ e. e.shard < length histories) m → HaveParts 0 histories m →
    greatest (λ _. true) m ≡ greatest_last histories
greatest_of_histories histories m rise within h =
    greatest-same (λ _. true) (λ e. nat_le 0 e.shard) m
    (each-weaker (λ e. e.shard < length histories) (λ e. true ≡ nat_le 0 e.shard) (λ e _. all e) m within)
    ∙ from_here 0 histories m rise (each-weaker (λ e. e.shard < length histories)
    (λ e. e.shard < 0 + length histories) (λ e l. more e l) m within) h
  where
    all : (e : Entry) → true ≡ nat_le 0 e.shard
    all e = grind (arith, nat_tests)

    more : (e : Entry) → e.shard < length histories → e.shard < 0 + length histories
    more e l = omega arith
