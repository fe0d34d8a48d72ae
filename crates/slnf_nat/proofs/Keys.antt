-- The keys of flows and ports are apart.
use Rattle.std.proofs.Common.{◌≡◌, ap, arith}
use Rattle.slnf_base.specs.declared.addresses.Pair.{Pair}
use Rattle.slnf_base.specs.declared.packets.Proto.{Proto}
use Rattle.slnf_keys.specs.declared.keys.FlowKey.{FlowKey}
use Rattle.slnf_keys.specs.declared.keys.PortKey.{PortKey}
use Rattle.slnf_keys.specs.declared.layout.Kind.TheVariants as kind
use Rattle.slnf_base.specs.Ranges.{IsPair}
use Rattle.slnf_keys.specs.Layout.{kind_tag}
use Rattle.slnf_keys.specs.Keys.{flow_key_number, flow_key_of, IsFlowKey, port_key_number, port_key_of, IsPortKey}
use Rattle.slnf_keys.proofs.Laws.{coded_same, flow_key-coded, port_key-coded, flow_key_number-tag, port_key_number-tag, kinds_apart}
use Rattle.slnf_nat.specs.Machine.{flow_key, port_key}

pub flow_key_same : (p q : Proto) (a b : Pair) → IsPair a → IsPair b → flow_key p a ≡ flow_key q b → (p ≡ q) × (a ≡ b)
flow_key_same p q a b fits_a fits_b h =
    let one : record { proto = p; inside = a } ≡ (let r : FlowKey = record { proto = q; inside = b } in r) =
    coded_same flow_key_number flow_key_of IsFlowKey flow_key-coded _ _ fits_a fits_b h in
    (ap (λ (k : FlowKey). k.proto) one, ap (λ (k : FlowKey). k.inside) one)

pub port_key_same : (p q : Proto) (a b : Pair) → IsPair a → IsPair b → port_key p a ≡ port_key q b → (p ≡ q) × (a ≡ b)
port_key_same p q a b fits_a fits_b h =
    let one : record { proto = p; outside = a } ≡ (let r : PortKey = record { proto = q; outside = b } in r) =
    coded_same port_key_number port_key_of IsPortKey port_key-coded _ _ fits_a fits_b h in
    (ap (λ (k : PortKey). k.proto) one, ap (λ (k : PortKey). k.outside) one)

tags_differ : kind_tag kind.Flow ≡ kind_tag kind.Port → ⊥
tags_differ h = omega arith

pub flow_port : (p q : Proto) (a b : Pair) → IsPair a → IsPair b → flow_key p a ≡ port_key q b → ⊥
flow_port p q a b fits_a fits_b h =
    kinds_apart kind.Flow kind.Port (flow_key p a)
    (port_key q b) tags_differ (flow_key_number-tag (record { proto = p; inside = a }) fits_a)
    (port_key_number-tag (record { proto = q; outside = b }) fits_b) h
