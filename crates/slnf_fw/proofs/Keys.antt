-- Connections' keys and values have one number each.
use Rattle.std.proofs.Common.{◌≡◌, ℕ, Bool, true, false, Some, refl, ap, ◌∙◌}
use Rattle.std.specs.Prelude.{◌&&◌, ◌==◌}
use Rattle.std.specs.Option.{option_map, option_and_then}
use Rattle.std.proofs.lemmas.Bool.{eqb-true, eq-eqb, and_parts, and_from}
use Rattle.slnf_base.specs.declared.addresses.Pair.{Pair}
use Rattle.slnf_base.specs.declared.packets.Proto.{Proto}
use Rattle.slnf_base.specs.declared.packets.Proto.TheVariants.{Tcp, Udp}
use Rattle.slnf_base.specs.declared.packets.Packet.{Packet}
use Rattle.slnf_base.specs.Numbers.{proto_number}
use Rattle.slnf_base.specs.Equal.{is_same_pair, is_same_proto}
use Rattle.slnf_base.specs.Ranges.{IsPair}
use Rattle.slnf_fw_table.specs.declared.connections.State.{State}
use Rattle.slnf_fw_table.proofs.Laws.{state_with-state_number}
use Rattle.slnf_keys.specs.declared.keys.ConnKey.{ConnKey}
use Rattle.slnf_keys.specs.Keys.{conn_key_number, conn_key_of, IsConnKey}
use Rattle.slnf_keys.proofs.Laws.{coded_same, conn_key-coded, conn_of-conn_number}
use Rattle.slnf_run.proofs.Tables.{IsKeyed}
use Rattle.slnf_box.specs.FwBox.{is_same_conn}
use Rattle.slnf_box.specs.Packets.{from_outside, conn_by_side, conn_of_packet}
use Rattle.slnf_box.specs.declared.choices.Tracked.{Tracked}
use Rattle.slnf_box.specs.declared.policies.Policy.{Policy}
use Rattle.slnf_fw.specs.Conns.{conn_value, tracked_number, tracked_in, tracked_of}

pair_ext : (a b : Pair) → a.addr ≡ b.addr → a.port ≡ b.port → a ≡ b
pair_ext a b addr port =
    let at_addr : ℕ → Pair = λ n. record { addr = n; port = a.port } in
    let at_port : ℕ → Pair = λ n. record { addr = b.addr; port = n } in
    ap at_addr addr ∙ ap at_port port

same_pair : (a b : Pair) → is_same_pair a b ≡ true → a ≡ b
same_pair a b h =
    let parts = and_parts (a.addr == b.addr) (a.port == b.port) h in
    pair_ext a b (eqb-true a.addr b.addr parts.0) (eqb-true a.port b.port parts.1)

pair_itself : (a : Pair) → is_same_pair a a ≡ true
pair_itself a = and_from _ _ (eq-eqb a.addr a.addr refl) (eq-eqb a.port a.port refl)

same_proto : (a b : Proto) → is_same_proto a b ≡ true → a ≡ b
same_proto Tcp Tcp h = refl
same_proto Tcp Udp h = cc
same_proto Udp Tcp h = cc
same_proto Udp Udp h = refl

conn_ext : (a b : ConnKey) → a.proto ≡ b.proto → a.inside ≡ b.inside → a.outside ≡ b.outside → a ≡ b
conn_ext a b proto inside outside =
    let at_proto : Proto → ConnKey = λ x. record { proto = x; inside = a.inside; outside = a.outside } in
    let at_inside : Pair → ConnKey = λ x. record { proto = b.proto; inside = x; outside = a.outside } in
    let at_outside : Pair → ConnKey = λ x. record { proto = b.proto; inside = b.inside; outside = x } in
    ap at_proto proto ∙ ap at_inside inside ∙ ap at_outside outside

same_conn : (a b : ConnKey) → is_same_conn a b ≡ true → a ≡ b
same_conn a b h =
    let parts = and_parts (is_same_proto a.proto b.proto)
    (is_same_pair a.inside b.inside && is_same_pair a.outside b.outside) h in
    let pairs = and_parts (is_same_pair a.inside b.inside) (is_same_pair a.outside b.outside) parts.1 in
    conn_ext a b (same_proto a.proto b.proto parts.0) (same_pair a.inside b.inside pairs.0)
    (same_pair a.outside b.outside pairs.1)

conn_itself : (a : ConnKey) → is_same_conn a a ≡ true
conn_itself a =
    and_from _ _ (eq-eqb (proto_number a.proto) (proto_number a.proto) refl)
    (and_from _ _ (pair_itself a.inside) (pair_itself a.outside))

-- the table of connections has keys that the store tells apart
pub conn_keyed : IsKeyed conn_key_number IsConnKey is_same_conn
conn_keyed = record {
  same = same_conn;
  itself = conn_itself;
  apart = λ a b fits_a fits_b e. coded_same conn_key_number conn_key_of IsConnKey conn_key-coded a b fits_a fits_b e;
}

-- what is kept is read from its number
pub tracked_read : (tracked : Tracked) → tracked_of (tracked_number tracked) ≡ Some tracked
tracked_read tracked =
    let with_state : State → Tracked = λ state. record { by_outside = tracked.by_outside; state = state } in
    ap (option_and_then tracked_in) (conn_of-conn_number (conn_value tracked))
    ∙ ap (option_map with_state) (state_with-state_number tracked.state)

-- a packet's connection is in range
pub conn_fits : (policy : Policy) (packet : Packet) → IsPair packet.source → IsPair packet.dest →
    IsConnKey (conn_of_packet policy packet)
conn_fits policy packet source dest = go (from_outside policy packet)
  where
    go : (b : Bool) → IsConnKey (conn_by_side b packet)
    go false = (source, dest)
    go true = (dest, source)
