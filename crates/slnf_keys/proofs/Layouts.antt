-- the layout of a key's number: what its parts are, and that they give the number back
use Rattle.std.proofs.Common.{◌≡◌, ℕ, ◌+◌, ◌*◌, ◌/◌, ◌%◌, ◌^◌, ◌<◌, ◌==◌, ◌&&◌, nat_lt, Bool, true, false, Option, Some, None, if◌then◌else◌, refl, sym, ap, ◌∙◌, arith, lt-ltb, ltb-true, eq-eqb}
use Rattle.std.specs.Option.{option_map}
use Rattle.std.proofs.lemmas.Option.{same_Some}
use Rattle.std.proofs.lemmas.Bool.{eqb-true}
use Rattle.std.proofs.lemmas.Bool.Decides.{nat_tests}
use Rattle.slnf_base.specs.declared.addresses.Pair.{Pair}
use Rattle.slnf_base.specs.declared.packets.Proto.{Proto}
use Rattle.slnf_base.specs.declared.packets.Proto.TheVariants.{Tcp, Udp}
use Rattle.slnf_base.specs.Numbers.{proto_number, proto_with}
use Rattle.slnf_keys.specs.declared.layout.Kind.{Kind}
use Rattle.slnf_keys.specs.declared.layout.Parts.{Parts}
use Rattle.slnf_base.specs.Ranges.{IsPair}
use Rattle.slnf_keys.specs.Layout.{pair_number, pair_at, pair_of, kind_tag, key_number, single_number, parts_of, single_of}

pair : ℕ → ℕ → Pair
pair a p = record { addr = a; port = p }

same_Pair : (a b : Pair) → a.addr ≡ b.addr → a.port ≡ b.port → a ≡ b
unfolding pair
same_Pair a b p q = ap (λ x. pair x a.port) p ∙ ap (λ y. pair b.addr y) q

-- a pair's number is below 2^48
pub pair_number-below : (p : Pair) → IsPair p → pair_number p < 2 ^ 48
unfolding pair_number
pair_number-below p h = omega (arith, h.addr_fits, h.port_fits)

-- the pair in the lowest 48 bits
pub pair_at-low : (high : ℕ) (p : Pair) → IsPair p → pair_at (high * 2 ^ 48 + pair_number p) ≡ p
unfolding pair_at pair_number
pair_at-low high p h = same_Pair _ _ (omega (arith, h.addr_fits, h.port_fits)) (omega (arith, h.addr_fits, h.port_fits))

pub pair_at-pair_number : (p : Pair) → IsPair p → pair_at (pair_number p) ≡ p
unfolding pair_at pair_number
pair_at-pair_number p h = same_Pair _ _ (omega (arith, h.addr_fits, h.port_fits)) (omega (arith, h.addr_fits, h.port_fits))

pub pair_number-pair_at : (n : ℕ) → pair_number (pair_at n) ≡ n % 2 ^ 48
unfolding pair_at pair_number
pair_number-pair_at n = omega arith

pub IsPair-pair_at : (n : ℕ) → IsPair (pair_at n)
unfolding pair_at
IsPair-pair_at n = record { addr_fits = omega arith; port_fits = omega arith }

-- the fields of a sum of four parts
record Fields (n t q s f : ℕ) : Type 0 where
  tag : n / 2 ^ 120 ≡ t
  proto : n / 2 ^ 112 % 2 ^ 8 ≡ q
  zeros : n / 2 ^ 96 % 2 ^ 16 ≡ 0
  second : n / 2 ^ 48 ≡ (t * 2 ^ 24 + q * 2 ^ 16) * 2 ^ 48 + s
  first : n ≡ ((t * 2 ^ 24 + q * 2 ^ 16) * 2 ^ 48 + s) * 2 ^ 48 + f

fields : (t q s f : ℕ) → q < 2 ^ 8 → s < 2 ^ 48 → f < 2 ^ 48 → Fields (t * 2 ^ 120 + q * 2 ^ 112 + s * 2 ^ 48 + f) t q s f
fields t q s f a b c = record {
  tag = omega arith;
  proto = omega arith;
  zeros = omega arith;
  second = omega arith;
  first = omega arith;
}

proto_small : (p : Proto) → proto_number p < 2 ^ 8
proto_small Tcp = omega arith
proto_small Udp = omega arith

pub proto_with-proto_number : (p : Proto) → proto_with (proto_number p) ≡ Some p
proto_with-proto_number Tcp = refl
proto_with-proto_number Udp = refl

pub proto_number-proto_with : (n : ℕ) (p : Proto) → proto_with n ≡ Some p → proto_number p ≡ n
proto_number-proto_with n Tcp h = grind (arith, nat_tests)
proto_number-proto_with n Udp h = grind (arith, nat_tests)

-- the parts that a number has, with this protocol
parts_with : ℕ → Proto → Parts
parts_with n p = record { proto = p; first = pair_at n; second = pair_at (n / 2 ^ 48) }

same_Parts : (a b : Parts) → a.proto ≡ b.proto → a.first ≡ b.first → a.second ≡ b.second → a ≡ b
same_Parts a b p f s =
    let make : Proto → Pair → Pair → Parts = λ x y z. record { proto = x; first = y; second = z } in
    ap (λ x. make x a.first a.second) p ∙ ap (λ x. make b.proto x a.second) f ∙ ap (λ x. make b.proto b.first x) s

-- each kind's number is read
pub parts_of-key_number : (k : Kind) (p : Proto) (first second : Pair) → IsPair first → IsPair second
    → parts_of k (key_number k p first second) ≡ Some (record { proto = p; first = first; second = second })
unfolding parts_of key_number parts_with
parts_of-key_number k p first second hf hs =
    let n = kind_tag k * 2 ^ 120 + proto_number p * 2 ^ 112 + pair_number second * 2 ^ 48 + pair_number first in
    let small = proto_small p in
    let low = pair_number-below first hf in
    let high = pair_number-below second hs in
    let at = fields (kind_tag k) (proto_number p) (pair_number second) (pair_number first) small high low in
    let tag : (n / 2 ^ 120 == kind_tag k) ≡ true = eq-eqb _ _ at.tag in
    let zeros : (n / 2 ^ 96 % 2 ^ 16 == 0) ≡ true = eq-eqb _ _ at.zeros in
    let proto : proto_with (n / 2 ^ 112 % 2 ^ 8) ≡ Some p = ap proto_with at.proto ∙ proto_with-proto_number p in
    rw (tag, zeros, proto)
    (ap (λ (x : Parts). Some x) (same_Parts _ _ refl
    (ap pair_at at.first ∙ pair_at-low _ first hf) (ap pair_at at.second ∙ pair_at-low _ second hs)))

parts_from : (b : Bool) (o : Option Proto) (n : ℕ) (r : Parts) → (if b then option_map (parts_with n) o else None)
    ≡ Some r → (b ≡ true) × (o ≡ Some r.proto) × (r ≡ parts_with n r.proto)
unfolding parts_with
parts_from true (Some p) n r h =
    let same : parts_with n p ≡ r = same_Some _ _ h in
    let proto : p ≡ r.proto = ap (λ (x : Parts). x.proto) same in
    (refl, ap (λ (x : Proto). Some x) proto, sym same ∙ ap (parts_with n) proto)
parts_from true None n r h = cc
parts_from false o n r h = cc

and_both : (a b : Bool) → (a && b) ≡ true → (a ≡ true) × (b ≡ true)
and_both true true h = (refl, refl)
and_both true false h = cc
and_both false b h = cc

-- what is read of a number has that number
pub key_number-parts_of : (k : Kind) (n : ℕ) (r : Parts)
    → parts_of k n ≡ Some r → (key_number k r.proto r.first r.second ≡ n) × IsPair r.first × IsPair r.second
unfolding parts_of key_number parts_with
key_number-parts_of k n r h =
    let read = parts_from _ _ n r h in
    let tests = and_both _ _ read.0 in
    let tag : n / 2 ^ 120 ≡ kind_tag k = eqb-true _ _ tests.0 in
    let zeros : n / 2 ^ 96 % 2 ^ 16 ≡ 0 = eqb-true _ _ tests.1 in
    let proto : proto_number r.proto ≡ n / 2 ^ 112 % 2 ^ 8 = proto_number-proto_with _ _ read.1 in
    let first : r.first ≡ pair_at n = ap (λ (x : Parts). x.first) read.2 in
    let second : r.second ≡ pair_at (n / 2 ^ 48) = ap (λ (x : Parts). x.second) read.2 in
    let low : pair_number r.first ≡ n % 2 ^ 48 = ap pair_number first ∙ pair_number-pair_at n in
    let high : pair_number r.second ≡ n / 2 ^ 48 % 2 ^ 48 = ap pair_number second ∙ pair_number-pair_at (n / 2 ^ 48) in
    (omega arith, rw first (IsPair-pair_at n), rw second (IsPair-pair_at (n / 2 ^ 48)))

zeros : Pair
zeros = record { addr = 0; port = 0 }

IsPair-zeros : IsPair zeros
unfolding zeros
IsPair-zeros = record { addr_fits = omega arith; port_fits = omega arith }

-- a pair of number 0 is the pair of zeros
same_zeros : (p : Pair) → pair_number p ≡ 0 → p ≡ zeros
unfolding zeros pair_number
same_zeros p h = same_Pair _ _ (omega arith) (omega arith)

second-zeros : (k : Kind) (p : Proto) (first : Pair) → IsPair first → key_number k p first zeros / 2 ^ 48 % 2 ^ 48 ≡ 0
unfolding key_number pair_number zeros
second-zeros k p first h = let low = h.addr_fits in let high = h.port_fits in omega arith

-- the number of a key with one pair is read
pub single_of-single_number : (k : Kind) (p : Proto) (first : Pair) → IsPair first → single_of k
    (single_number k p first) ≡ Some (record { proto = p; first = first; second = record { addr = 0; port = 0 } })
unfolding single_of single_number zeros
single_of-single_number k p first h =
    let second : key_number k p first zeros / 2 ^ 48 % 2 ^ 48 ≡ 0 = second-zeros k p first h in
    let test : (key_number k p first zeros / 2 ^ 48 % 2 ^ 48 == 0) ≡ true = eq-eqb _ _ second in
    rw test (parts_of-key_number k p first zeros h IsPair-zeros)

single_from : (b : Bool) (o : Option Parts) (r : Parts) → (if b then o else None) ≡ Some r → (b ≡ true) × (o ≡ Some r)
single_from true o r h = (refl, h)
single_from false o r h = cc

second-none : (k : Kind) (n : ℕ) (r : Parts) → key_number k r.proto r.first r.second ≡ n
    → IsPair r.first → IsPair r.second → n / 2 ^ 48 % 2 ^ 48 ≡ 0 → pair_number r.second ≡ 0
unfolding key_number
second-none k n r e f s none =
    let low = pair_number-below r.first f in
    let high = pair_number-below r.second s in
    omega arith

-- what is read of a number with one pair has that number
pub single_number-single_of : (k : Kind) (n : ℕ) (r : Parts)
    → single_of k n ≡ Some r → (single_number k r.proto r.first ≡ n) × IsPair r.first
unfolding single_of single_number zeros
single_number-single_of k n r h =
    let read = single_from _ _ r h in
    let none : n / 2 ^ 48 % 2 ^ 48 ≡ 0 = eqb-true _ _ read.0 in
    let whole = key_number-parts_of k n r read.1 in
    let second = same_zeros r.second (second-none k n r whole.0 whole.1 whole.2 none) in
    (rw second at whole.0, whole.1)

-- a pair's own number is read
pub pair_of-pair_number : (p : Pair) → IsPair p → pair_of (pair_number p) ≡ Some p
unfolding pair_of
pair_of-pair_number p h =
    let test : nat_lt (pair_number p) (2 ^ 48) ≡ true = lt-ltb _ _ (pair_number-below p h) in
    rw (test, pair_at-pair_number p h) refl

pair_from : (b : Bool) (x p : Pair) → (if b then Some x else None) ≡ Some p → (b ≡ true) × (x ≡ p)
pair_from true x p h = (refl, same_Some _ _ h)
pair_from false x p h = cc

-- the pair that is read of a number has that number
pub pair_number-pair_of : (n : ℕ) (p : Pair) → pair_of n ≡ Some p → (pair_number p ≡ n) × IsPair p
unfolding pair_of
pair_number-pair_of n p h =
    let read = pair_from _ _ p h in
    let small : n < 2 ^ 48 = ltb-true _ _ read.0 in
    let same : pair_number (pair_at n) ≡ n % 2 ^ 48 = pair_number-pair_at n in
    let value : pair_number p ≡ n % 2 ^ 48 = rw (← read.1) same in
    (omega arith, rw (← read.1) (IsPair-pair_at n))

-- the tag stands in the highest bits
pub key_number-tag : (k : Kind) (p : Proto) (first second : Pair)
    → IsPair first → IsPair second → key_number k p first second / 2 ^ 120 ≡ kind_tag k
unfolding key_number
key_number-tag k p first second hf hs =
    let small = proto_small p in
    let low = pair_number-below first hf in
    let high = pair_number-below second hs in
    omega arith

pub single_number-tag : (k : Kind) (p : Proto) (first : Pair) → IsPair first → single_number k p first / 2 ^ 120 ≡ kind_tag k
unfolding single_number zeros
single_number-tag k p first h = key_number-tag k p first zeros h IsPair-zeros
