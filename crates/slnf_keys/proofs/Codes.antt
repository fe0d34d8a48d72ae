-- values that have one number each, and what follows for any type of them
use Rattle.std.proofs.Common.{◌≡◌, ℕ, Bool, true, false, Option, Some, None, if◌then◌else◌, refl, sym, ap, ◌∙◌}
use Rattle.std.specs.Option.{option_map, IfSome}
use Rattle.std.proofs.lemmas.Option.{same_Some}
use Rattle.slnf_base.specs.declared.addresses.Pair.{Pair}
use Rattle.slnf_base.specs.declared.packets.Proto.{Proto}
use Rattle.slnf_keys.specs.declared.layout.Kind.{Kind}
use Rattle.slnf_keys.specs.declared.layout.Parts.{Parts}
use Rattle.slnf_base.specs.Ranges.{IsPair}
use Rattle.slnf_keys.specs.Layout.{pair_number, pair_of, single_number, single_of}
use Rattle.slnf_keys.proofs.Layouts.{single_of-single_number, single_number-single_of, pair_of-pair_number, pair_number-pair_of}

-- each value's number is read as it, and what is read of a number has that number
pub record IsCoded {T : Type 0} (number : T → ℕ) (of : ℕ → Option T) (Fits : T → Type 0) : Type 0 where
  pub reads : (x : T) → Fits x → of (number x) ≡ Some x
  pub has : (n : ℕ) (x : T) → of n ≡ Some x → (number x ≡ n) × Fits x

-- values with one number are one
pub coded_same : {T : Type 0} (number : T → ℕ) (of : ℕ → Option T) (Fits : T → Type 0)
    → IsCoded number of Fits → (a b : T) → Fits a → Fits b → number a ≡ number b → a ≡ b
coded_same number of Fits coded a b fits_a fits_b e = same_Some _ _ (sym (coded.reads a fits_a) ∙ ap of e ∙ coded.reads b fits_b)

if_some : {T : Type 0} (P : T → Type 0) (o : Option T) → ((x : T) → o ≡ Some x → P x) → IfSome o P
if_some P (Some x) h = h x refl
if_some P None h = tt

-- the answer to a number is a value that has it
pub coded_gives : {T : Type 0} (number : T → ℕ) (of : ℕ → Option T) (Fits : T → Type 0)
    → IsCoded number of Fits → (n : ℕ) → IfSome (of n) (λ x. number x ≡ n)
coded_gives number of Fits coded n = if_some (λ x. number x ≡ n) (of n) (λ x found. (coded.has n x found).0)

-- a value that has the number is the answer
pub coded_finds : {T : Type 0} (number : T → ℕ) (of : ℕ → Option T) (Fits : T → Type 0)
    → IsCoded number of Fits → (n : ℕ) (x : T) → Fits x → number x ≡ n → of n ≡ Some x
coded_finds number of Fits coded n x fits e = ap of (sym e) ∙ coded.reads x fits

pub mapped : {A B : Type 0} (f : A → B) (o : Option A) (y : B) → option_map f o ≡ Some y → (x : A) × (o ≡ Some x) × (f x ≡ y)
mapped f (Some x) y h = (x, refl, same_Some _ _ h)
mapped f None y h = cc

pub chosen : {A : Type 0} (b : Bool) (x y : A) → (if b then Some x else None) ≡ Some y → (b ≡ true) × (x ≡ y)
chosen true x y h = (refl, same_Some _ _ h)
chosen false x y h = cc

-- a key of a protocol and one pair, made by `make` and taken apart by `proto` and `pair`
pub single-coded : {K : Type 0} (kind : Kind) (make : Parts → K) (proto : K → Proto) (pair : K → Pair)
    → ((key : K) → make (record { proto = proto key; first = pair key; second = record { addr = 0; port = 0 } }) ≡ key)
    → ((parts : Parts) → proto (make parts) ≡ parts.proto)
    → ((parts : Parts) → pair (make parts) ≡ parts.first) → IsCoded (λ key. single_number kind (proto key) (pair key))
    (λ number. option_map make (single_of kind number)) (λ key. IsPair (pair key))
single-coded kind make proto pair made proto_is pair_is =
    record {
      reads = λ key fits. ap (option_map make) (single_of-single_number kind (proto key) (pair key) fits)
          ∙ ap (λ x. Some x) (made key);
      has = λ n key found.
          let read = mapped make (single_of kind n) key found in
          rw (← read.2, proto_is, pair_is) (single_number-single_of kind n read.0 read.1);
    }

-- a value of one pair, made by `make` and taken apart by `pair`
pub pair-coded : {V : Type 0} (make : Pair → V) (pair : V → Pair) → ((value : V) → make (pair value) ≡ value)
    → ((at : Pair) → pair (make at) ≡ at) → IsCoded (λ value. pair_number (pair value))
    (λ number. option_map make (pair_of number)) (λ value. IsPair (pair value))
pair-coded make pair made pair_is =
    record {
      reads = λ value fits. ap (option_map make) (pair_of-pair_number (pair value) fits) ∙ ap (λ x. Some x) (made value);
      has = λ n value found.
          let read = mapped make (pair_of n) value found in
          rw (← read.2, pair_is) (pair_number-pair_of n read.0 read.1);
    }
