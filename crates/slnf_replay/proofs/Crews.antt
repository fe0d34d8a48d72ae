-- The functions of a plan's epochs, one after another.
use Rattle.std.proofs.Common.{◌≡◌, ℕ, zero, suc, ◌+◌, Some, List, [], ◌∷◌, ◌++◌, length, slice_get, sym, ap, ◌∙◌, subst, arith}
use Rattle.std.proofs.lemmas.Option.{same_Some}
use Rattle.slnf_plan.specs.declared.plan.Epoch.{Epoch}
use Rattle.slnf_plan.specs.declared.plan.FunctionPlan.{FunctionPlan}
use Rattle.slnf_flight.specs.declared.functions.AnyFunction.{AnyFunction}
use Rattle.slnf_flight.specs.Functions.{IsFunctionOf}

-- each function is its epoch's
abbrev pub AreFunctionsSoFar : FunctionPlan → List Epoch → List AnyFunction → Type 0
AreFunctionsSoFar f epochs functions = (number : ℕ) (function : AnyFunction) → slice_get functions number
    ≡ Some function → IsFunctionOf f (slice_get epochs number) function

-- what stands in a list with one more is of the list, or that one
last_one : (P : ℕ → AnyFunction → Type 0) (base : ℕ) (xs : List AnyFunction) (x : AnyFunction) →
    ((k : ℕ) (y : AnyFunction) → slice_get xs k ≡ Some y → P (base + k) y) → P (base + length xs) x → (k : ℕ)
    (y : AnyFunction) → slice_get (xs ++ x ∷ []) k ≡ Some y → P (base + k) y
last_one P base [] x h here zero y at = subst (P (base + 0)) (same_Some x y at) here
last_one P base [] x h here (suc k) y at = absurd (cc)
last_one P base (z ∷ xs) x h here zero y at = h zero y at
last_one P base (z ∷ xs) x h here (suc k) y at =
    let q : base + 1 + k ≡ base + suc k = omega arith in
    let r : base + suc (length xs) ≡ base + 1 + length xs = omega arith in
    subst (λ n. P n y) q (last_one P (base + 1) xs x
    (λ m w there. let p : base + suc m ≡ base + 1 + m = omega arith in subst (λ n. P n w) p (h (suc m) w there))
    (subst (λ n. P n x) r here) k y at)

-- one more function
pub one_more : (f : FunctionPlan) (epochs : List Epoch) (functions more : List AnyFunction) (function : AnyFunction)
    (number : ℕ) → length functions ≡ number → IsFunctionOf f (slice_get epochs number) function → more ≡ functions
    ++ function ∷ [] → AreFunctionsSoFar f epochs functions → AreFunctionsSoFar f epochs more
one_more f epochs functions more function number count here push each k g at =
    let P : ℕ → AnyFunction → Type 0 = λ n x. IsFunctionOf f (slice_get epochs n) x in
    let z : number ≡ 0 + length functions = omega arith in
    let q : 0 + k ≡ k = omega arith in
    subst (λ n. P n g) q (last_one P 0 functions function
    (λ m w there. let p : m ≡ 0 + m = omega arith in subst (λ n. P n w) p (each m w there))
    (subst (λ n. P n function) z here) k g (ap (λ l. slice_get l k) (sym push) ∙ at))
