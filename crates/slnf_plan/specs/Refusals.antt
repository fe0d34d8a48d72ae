-- Why a value is refused, and where.
use Rattle.std.specs.Prelude.{◌≡◌, ℕ, List, Some, None, Result, Ok, Err}
use Rattle.slnf_plan.specs.declared.refusal.Cause.{Cause}
use Rattle.slnf_plan.specs.declared.refusal.Refusal.{Refusal}
use Rattle.slnf_plan.specs.declared.refusal.Fault.{Fault}
use Rattle.slnf_plan.specs.declared.refusal.Fault.TheVariants as faults
use Rattle.slnf_plan.specs.Paths.{path_below}

infixl 10 ◌>>=◌
abbrev pub ◌>>=◌ : {A B : Type 0} → Result A Refusal → (A → Result B Refusal) → Result B Refusal
(Ok x) >>= f = f x
(Err r) >>= f = Err r

-- the value itself is refused
abbrev pub refuse : {A : Type 0} → Cause → Result A Refusal
refuse cause = Err (record { cause = cause; path = None })

-- a refusal below this key, or at this place of a list
abbrev pub refusal_under : List ℕ → Refusal → Refusal
refusal_under step r = record { cause = r.cause; path = Some (path_below step r.path) }

-- what was read there
abbrev pub under : {A : Type 0} → List ℕ → Result A Refusal → Result A Refusal
under step (Ok x) = Ok x
under step (Err r) = Err (refusal_under step r)

-- what the code failed with is what reading gives, unless memory ran out
abbrev pub Fails : {A : Type 0} → Fault → Result A Refusal → Type 0
Fails faults.Memory read = Unit {0}
Fails (faults.Refused r) read = read ≡ Err r

-- what the code gave, seen by view, is what reading gives, unless memory ran out
abbrev pub Gives : {X A : Type 0} → (X → A) → Result X Fault → Result A Refusal → Type 0
Gives view (Ok x) read = read ≡ Ok (view x)
Gives view (Err fault) read = Fails fault read

-- The second fault is the first one as it is told one step higher, unless memory ran out.
abbrev pub IsUnder : List ℕ → Fault → Fault → Type 0
IsUnder step faults.Memory told = told ≡ faults.Memory
IsUnder step (faults.Refused r) faults.Memory = Unit {0}
IsUnder step (faults.Refused r) (faults.Refused told) = told ≡ refusal_under step r

-- what was read, and how that is told one step higher
abbrev pub GoesUnder : {X : Type 0} → List ℕ → Result X Fault → Result X Fault → Type 0
GoesUnder step (Ok x) told = told ≡ Ok x
GoesUnder step (Err fault) (Ok x) = ⊥
GoesUnder step (Err fault) (Err told) = IsUnder step fault told
