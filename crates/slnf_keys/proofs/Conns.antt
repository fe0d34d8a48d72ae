-- a connection's number, read by its two parts
use Rattle.std.proofs.Common.{◌≡◌, ℕ, ◌+◌, ◌*◌, ◌/◌, ◌%◌, ◌^◌, ◌≤◌, ◌<◌, nat_le, Bool, true, false, Option, Some, None, option_and_then, if◌then◌else◌, refl, sym, ap, ◌∙◌, arith}
use Rattle.std.proofs.lemmas.Bool.{leb-true, leb-false}
use Rattle.std.proofs.lemmas.Bool.Decides.{nat_tests}
use Rattle.std.proofs.lemmas.Option.{same_Some}
use Rattle.std.specs.Coded.{le_prop}
use Rattle.slnf_keys.specs.declared.values.Conn.{Conn}
use Rattle.slnf_keys.specs.Flag.{flag_of}
use Rattle.slnf_keys.specs.Values.{conn_by, conn_with, conn_number, conn_of}

abbrev conn_at : (by_outside : Bool) (state : ℕ) → 1 ≤ state → state ≤ 8 → Conn
conn_at by_outside state low high = record { by_outside = by_outside; state = state; from_one = low; to_eight = high }

conn_by-state : (b : Bool) (s : ℕ) (low high : Bool) (e : nat_le 1 s ≡ low)
    (f : nat_le s 8 ≡ high) (p : 1 ≤ s) (q : s ≤ 8) → conn_by b s low high e f ≡ Some (conn_at b s p q)
conn_by-state b s true true e f p q =
    ap (λ (x : 1 ≤ s). Some (conn_at b s x (leb-true s 8 f))) (le_prop _ p)
    ∙ ap (λ (x : s ≤ 8). Some (conn_at b s p x)) (le_prop _ q)
conn_by-state b s true false e f p q = let h : 8 < s = leb-false _ _ f in absurd (omega arith)
conn_by-state b s false high e f p q = let h : s < 1 = leb-false _ _ e in absurd (omega arith)

-- a state's connection
pub conn_with-state : (b : Bool) (s : ℕ) (p : 1 ≤ s) (q : s ≤ 8) → conn_with b s ≡ Some (conn_at b s p q)
conn_with-state b s p q = conn_by-state b s _ _ refl refl p q

flag : Bool → ℕ
flag b = if b then 1 else 0

flag_of-flag : (b : Bool) → flag_of (flag b) ≡ Some b
unfolding flag
flag_of-flag true = refl
flag_of-flag false = refl

flag-flag_of : (n : ℕ) (b : Bool) → flag_of n ≡ Some b → flag b ≡ n
unfolding flag
flag-flag_of n true h = grind (arith, nat_tests)
flag-flag_of n false h = grind (arith, nat_tests)

conn_of-parts : (b : Bool) (n s : ℕ) → n / 2 ^ 8 ≡ flag b → n % 2 ^ 8 ≡ s → conn_of n ≡ conn_with b s
unfolding conn_of
conn_of-parts b n s high low =
    ap (λ (f : Option Bool). option_and_then (λ by. conn_with by (n % 2 ^ 8)) f) (ap flag_of high ∙ flag_of-flag b)
    ∙ ap (λ x. conn_with b x) low

-- a connection's number is read
pub conn_of-conn_number : (value : Conn) → conn_of (conn_number value) ≡ Some value
unfolding conn_number flag
conn_of-conn_number value =
    let low = value.from_one in
    let high = value.to_eight in
    let by = value.by_outside in
    conn_of-parts by (flag by * 2 ^ 8 + value.state) value.state (omega arith) (omega arith)
    ∙ conn_with-state by value.state low high

and_then_at : {A B : Type 0} (f : A → Option B) (o : Option A) (y : B)
    → option_and_then f o ≡ Some y → (x : A) × (o ≡ Some x) × (f x ≡ Some y)
and_then_at f (Some x) y h = (x, refl, h)
and_then_at f None y h = cc

conn_by-parts : (b : Bool) (s : ℕ) (low high : Bool) (e : nat_le 1 s ≡ low) (f : nat_le s 8 ≡ high) (v : Conn)
    → conn_by b s low high e f ≡ Some v → (v.by_outside ≡ b) × (v.state ≡ s)
conn_by-parts b s true true e f v h =
    let same = same_Some _ _ h in
    (ap (λ (x : Conn). x.by_outside) (sym same), ap (λ (x : Conn). x.state) (sym same))
conn_by-parts b s true false e f v h = cc
conn_by-parts b s false high e f v h = cc

-- what is read of a number has that number
pub conn_number-conn_of : (number : ℕ) (value : Conn) → conn_of number ≡ Some value → conn_number value ≡ number
unfolding conn_of conn_number flag
conn_number-conn_of number value h =
    let read = and_then_at _ _ _ h in
    let parts = conn_by-parts read.0 (number % 2 ^ 8) _ _ refl refl value read.2 in
    let high : flag read.0 ≡ number / 2 ^ 8 = flag-flag_of _ _ read.1 in
    let by : flag value.by_outside ≡ flag read.0 = ap flag parts.0 in
    let low : value.state ≡ number % 2 ^ 8 = parts.1 in
    let sum : flag value.by_outside * 2 ^ 8 + value.state ≡ number = omega arith in
    sum
