-- Histories and their parts.
use Rattle.std.proofs.Common.{◌≡◌, ℕ, zero, suc, ◌+◌, ◌<◌, ◌≤◌, Bool, true, false, not, cond, List, [], ◌∷◌, length, take, drop, get_or, map, refl, sym, ap, ◌∙◌, arith}
use Rattle.std.specs.Prelude.{filter, nat_lt, nat_le}
use Rattle.std.proofs.lemmas.Bool.Decides.{nat_tests}
use Rattle.slnf_access.specs.declared.requests.Entry.{Entry}
use Rattle.slnf_access.specs.Order.{IsHistory}
use Rattle.slnf_merge.specs.Merge.{AreHistories}

-- all are of the shard, and their stamps rise from this one on
abbrev Rise : ℕ → ℕ → List Entry → Type 0
Rise shard low [] = Unit {0}
Rise shard low (e ∷ es) = (e.shard ≡ shard) × (low ≤ e.stamp) × Rise shard (suc e.stamp) es

rise_weak : (shard low high : ℕ) (es : List Entry) → low ≤ high → Rise shard high es → Rise shard low es
rise_weak shard low high [] l h = tt
rise_weak shard low high (e ∷ es) l h = let r = h.1 in (h.0, omega arith, h.2)

rise_of : (shard : ℕ) (es : List Entry) → IsHistory shard es → Rise shard 0 es
rise_of shard [] h = tt
rise_of shard (e ∷ []) h = (h, omega arith, tt)
rise_of shard (e ∷ f ∷ es) h =
    let r = rise_of shard (f ∷ es) h.2 in
    let l = h.1 in
    (h.0, omega arith, (r.0, omega arith, r.2))

history_of : (shard low : ℕ) (es : List Entry) → Rise shard low es → IsHistory shard es
history_of shard low [] h = tt
history_of shard low (e ∷ []) h = h.0
history_of shard low (e ∷ f ∷ es) h =
    let l = h.2.1 in
    (h.0, omega arith, history_of shard (suc e.stamp) (f ∷ es) h.2)

rise_kept : (shard low : ℕ) (e : Entry) (es : List Entry) (t : Bool) → e.shard ≡ shard → low ≤ e.stamp →
    Rise shard (suc e.stamp) es → Rise shard low (cond t (e ∷ es) es)
rise_kept shard low e es true s l h = (s, l, h)
rise_kept shard low e es false s l h = rise_weak shard low (suc e.stamp) es (omega arith) h

rise_filtered : (p : Entry → Bool) (shard low : ℕ) (es : List Entry) → Rise shard low es → Rise shard low (filter p es)
rise_filtered p shard low [] h = tt
rise_filtered p shard low (e ∷ es) h =
    rise_kept shard low e (filter p es) (p e) h.0 h.1 (rise_filtered p shard (suc e.stamp) es h.2)

-- some entries of each history are histories
pub histories_filtered : (p : Entry → Bool) (shard : ℕ) (hs : List (List Entry)) → AreHistories shard hs →
    AreHistories shard (map (filter p) hs)
histories_filtered p shard [] h = tt
histories_filtered p shard (x ∷ hs) h = (
  history_of shard 0 (filter p x) (rise_filtered p shard 0 x (rise_of shard x h.0)),
  histories_filtered p (shard + 1) hs h.1,
)

above_at : (shard low : ℕ) (es : List Entry) → Rise shard low es → (j : ℕ) (d : Entry) → j < length es →
    low ≤ (get_or es j d).stamp
above_at shard low [] h j d l = absurd (omega arith)
above_at shard low (e ∷ es) h zero d l = h.1
above_at shard low (e ∷ es) h (suc j) d l =
    let up = h.1 in
    let far = above_at shard (suc e.stamp) es h.2 j d (omega arith) in omega arith

rises_at : (shard low : ℕ) (es : List Entry) → Rise shard low es → (i j : ℕ) (d : Entry) → i ≤ j → j < length es →
    (get_or es i d).stamp ≤ (get_or es j d).stamp
rises_at shard low [] h i j d le lt = absurd (omega arith)
rises_at shard low (e ∷ es) h zero zero d le lt = omega arith
rises_at shard low (e ∷ es) h zero (suc j) d le lt =
    let far = above_at shard (suc e.stamp) es h.2 j d (omega arith) in omega arith
rises_at shard low (e ∷ es) h (suc i) zero d le lt = absurd (omega arith)
rises_at shard low (e ∷ es) h (suc i) (suc j) d le lt =
    rises_at shard (suc e.stamp) es h.2 i j d (omega arith) (omega arith)

-- in a history no entry below the bound comes behind another
pub below_first : (shard bound : ℕ) (es : List Entry) → IsHistory shard es → (i j : ℕ) (d : Entry) → i ≤ j →
    j < length es → nat_lt (get_or es j d).stamp bound ≡ true → nat_lt (get_or es i d).stamp bound ≡ true
below_first shard bound es h i j d le lt t =
    let rises = rises_at shard 0 es (rise_of shard es h) i j d le lt in grind (arith, nat_tests)

module _ (p q : Entry → Bool) (other : (e : Entry) → q e ≡ not (p e)) where
  none_pass : (es : List Entry) → ((k : ℕ) (d : Entry) → k < length es → p (get_or es k d) ≡ false) →
      (filter p es ≡ []) × (filter q es ≡ es)
  none_pass [] f = (refl, refl)
  none_pass (e ∷ es) f =
      let fails : p e ≡ false = f 0 e (omega arith) in
      let passes : q e ≡ true = other e ∙ ap not fails in
      let rest = none_pass es (λ k d l. f (suc k) d (omega arith)) in
      (rw fails rest.0, rw passes (ap (λ l. e ∷ l) rest.1))

  -- where all in front of a place pass and none behind it does, these are the parts
  pub parts_at : (es : List Entry) (k : ℕ) → k ≤ length es →
      ((i : ℕ) (d : Entry) → i < k → p (get_or es i d) ≡ true) →
      ((i : ℕ) (d : Entry) → k ≤ i → i < length es → p (get_or es i d) ≡ false) →
      (take k es ≡ filter p es) × (drop k es ≡ filter q es)
  parts_at [] zero l f g = (refl, refl)
  parts_at [] (suc k) l f g = absurd (omega arith)
  parts_at (e ∷ es) zero l f g =
      let none = none_pass (e ∷ es) (λ i d m. g i d (omega arith) m) in (sym none.0, sym none.1)
  parts_at (e ∷ es) (suc k) l f g =
      let passes : p e ≡ true = f 0 e (omega arith) in
      let fails : q e ≡ false = other e ∙ ap not passes in
      let rest = parts_at es k (omega arith) (λ i d m. f (suc i) d (omega arith))
      (λ i d m n. g (suc i) d (omega arith) (omega arith)) in
      (rw passes (ap (λ l. e ∷ l) rest.0), rw fails rest.1)

-- what isn't below the bound is from it on
pub from_is_other : (bound : ℕ) (e : Entry) → nat_le bound e.stamp ≡ not (nat_lt e.stamp bound)
from_is_other bound e = grind (arith, nat_tests)
