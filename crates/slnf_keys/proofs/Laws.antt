-- The laws of the numbers of keys and values, for the crates above.
use Rattle.std.proofs.Common.{◌≡◌, ℕ, ◌+◌, ◌*◌, ◌/◌, ◌^◌, ◌<◌, nat_lt, true, Some, refl, arith, lt-ltb, ltb-true}
use Rattle.slnf_keys.specs.declared.layout.Kind.{Kind}
use Rattle.slnf_keys.specs.declared.layout.Kind.TheVariants as kind
use Rattle.slnf_keys.specs.declared.keys.FlowKey.{FlowKey}
use Rattle.slnf_keys.specs.declared.keys.PortKey.{PortKey}
use Rattle.slnf_keys.specs.declared.keys.ConnKey.{ConnKey}
use Rattle.slnf_keys.specs.declared.keys.PinKey.{PinKey}
use Rattle.slnf_keys.specs.declared.values.Pin.{Pin}
use Rattle.slnf_keys.specs.Layout.{pair_number, kind_tag}
use Rattle.slnf_keys.specs.Keys.{flow_key_number, flow_key_of, IsFlowKey, port_key_number, port_key_of, IsPortKey, conn_key_number, conn_key_of, IsConnKey, pin_key_number, pin_key_of, IsPinKey}
use Rattle.slnf_keys.specs.Values.{flow_to_number, flow_to_of, IsFlowTo, claim_number, claim_of, IsClaim, conn_number, conn_of, pin_number, pin_of, IsPin}
use Rattle.slnf_keys.proofs.Layouts.{pair_number-below, pair_at-low, pair_number-pair_at, IsPair-pair_at, parts_of-key_number, key_number-parts_of, key_number-tag, single_number-tag}
use Rattle.slnf_keys.proofs.Codes.{mapped, chosen, single-coded, pair-coded}
pub use Rattle.slnf_keys.proofs.Codes.{IsCoded, coded_same, coded_gives, coded_finds}
pub use Rattle.slnf_keys.proofs.Conns.{conn_of-conn_number, conn_number-conn_of}

-- a flow's key
pub flow_key-coded : IsCoded flow_key_number flow_key_of IsFlowKey
unfolding flow_key_number flow_key_of
flow_key-coded =
    single-coded kind.Flow (λ parts. record { proto = parts.proto; inside = parts.first })
    (λ key. key.proto) (λ key. key.inside) (λ key. refl) (λ parts. refl) (λ parts. refl)

pub flow_key_number-tag : (key : FlowKey) → IsFlowKey key → flow_key_number key / 2 ^ 120 ≡ kind_tag kind.Flow
unfolding flow_key_number
flow_key_number-tag key h = single_number-tag kind.Flow key.proto key.inside h

-- an outside port's key
pub port_key-coded : IsCoded port_key_number port_key_of IsPortKey
unfolding port_key_number port_key_of
port_key-coded =
    single-coded kind.Port (λ parts. record { proto = parts.proto; outside = parts.first })
    (λ key. key.proto) (λ key. key.outside) (λ key. refl) (λ parts. refl) (λ parts. refl)

pub port_key_number-tag : (key : PortKey) → IsPortKey key → port_key_number key / 2 ^ 120 ≡ kind_tag kind.Port
unfolding port_key_number
port_key_number-tag key h = single_number-tag kind.Port key.proto key.outside h

-- a client's key
pub pin_key-coded : IsCoded pin_key_number pin_key_of IsPinKey
unfolding pin_key_number pin_key_of
pin_key-coded =
    single-coded kind.Pin (λ parts. record { proto = parts.proto; client = parts.first })
    (λ key. key.proto) (λ key. key.client) (λ key. refl) (λ parts. refl) (λ parts. refl)

pub pin_key_number-same : (a b : PinKey) → IsPinKey a → IsPinKey b → pin_key_number a ≡ pin_key_number b → a ≡ b
pin_key_number-same a b fits_a fits_b e = coded_same pin_key_number pin_key_of IsPinKey pin_key-coded a b fits_a fits_b e

pub pin_key_number-tag : (key : PinKey) → IsPinKey key → pin_key_number key / 2 ^ 120 ≡ kind_tag kind.Pin
unfolding pin_key_number
pin_key_number-tag key h = single_number-tag kind.Pin key.proto key.client h

-- a connection's key
pub conn_key-coded : IsCoded conn_key_number conn_key_of IsConnKey
unfolding conn_key_number conn_key_of
conn_key-coded =
    record {
      reads = λ key fits. rw (parts_of-key_number kind.Conn key.proto key.inside key.outside fits.0 fits.1) refl;
      has = λ number key found.
          let read = mapped _ _ _ found in
          let whole = key_number-parts_of kind.Conn number read.0 read.1 in
          rw (← read.2) (whole.0, (whole.1, whole.2));
    }

pub conn_key_number-tag : (key : ConnKey) → IsConnKey key → conn_key_number key / 2 ^ 120 ≡ kind_tag kind.Conn
unfolding conn_key_number
conn_key_number-tag key h = key_number-tag kind.Conn key.proto key.inside key.outside h.0 h.1

-- keys of different kinds have different numbers, since their tags differ
pub kinds_apart : (one other : Kind) (m n : ℕ) → ¬ (kind_tag one ≡ kind_tag other)
    → m / 2 ^ 120 ≡ kind_tag one → n / 2 ^ 120 ≡ kind_tag other → m ≡ n → ⊥
kinds_apart one other m n differ tag_of_m tag_of_n e = differ (omega (arith, tag_of_m, tag_of_n))

-- a flow's record
pub flow_to-coded : IsCoded flow_to_number flow_to_of IsFlowTo
unfolding flow_to_number flow_to_of
flow_to-coded = pair-coded (λ pair. record { outside = pair }) (λ value. value.outside) (λ value. refl) (λ pair. refl)

-- a pin
pub pin-coded : IsCoded pin_number pin_of IsPin
unfolding pin_number pin_of
pin-coded = pair-coded (λ pair. record { backend = pair }) (λ value. value.backend) (λ value. refl) (λ pair. refl)

pub pin_of-pin_number : (value : Pin) → IsPin value → pin_of (pin_number value) ≡ Some value
pin_of-pin_number value fits = pin-coded.reads value fits

-- a claim
pub claim-coded : IsCoded claim_number claim_of IsClaim
unfolding claim_number claim_of
claim-coded =
    record {
      reads = λ value fits.
          let low = pair_number-below value.inside fits.1 in
          let high = fits.0 in
          let number = value.incarnation * 2 ^ 48 + pair_number value.inside in
          let small : number < 2 ^ 80 = omega arith in
          let test : nat_lt number (2 ^ 80) ≡ true = lt-ltb _ _ small in
          let incarnation : number / 2 ^ 48 ≡ value.incarnation = omega arith in
          rw (test, incarnation, pair_at-low value.incarnation value.inside fits.1) refl;
      has = λ number value found.
          let read = chosen _ _ _ found in
          let small : number < 2 ^ 80 = ltb-true _ _ read.0 in
          let low = pair_number-pair_at number in
          rw (← read.1) (omega arith, (omega arith, IsPair-pair_at number));
    }

-- a connection, whose type keeps its range
pub conn-coded : IsCoded conn_number conn_of (λ value. Unit {0})
conn-coded = record {
  reads = λ value fits. conn_of-conn_number value;
  has = λ number value found. (conn_number-conn_of number value found, tt);
}
