-- the tags, in the highest 8 bits, differ
use Rattle.std.proofs.Common.{rules}
use Rattle.slnf_keys.specs.Keys.{IsFlowKey, IsPortKey, IsConnKey, IsPinKey}
use Rattle.slnf_keys.specs.declared.layout.Kind.TheVariants as kind
use Rattle.slnf_keys.proofs.Laws.{kinds_apart, flow_key_number-tag, port_key_number-tag, conn_key_number-tag, pin_key_number-tag}
use Rattle.slnf_keys.proofs.apart.types_apart.Goals as goal

pub returns : goal.returns
returns c =
    let flow : IsFlowKey c.args.flow = record { addr_fits = search rules; port_fits = search rules } in
    let port : IsPortKey c.args.port = record { addr_fits = search rules; port_fits = search rules } in
    let conn : IsConnKey c.args.conn = (
      record { addr_fits = search rules; port_fits = search rules },
      record { addr_fits = search rules; port_fits = search rules },
    ) in
    let pin : IsPinKey c.args.pin = record { addr_fits = search rules; port_fits = search rules } in
    let flow_tag = flow_key_number-tag c.args.flow flow in
    let port_tag = port_key_number-tag c.args.port port in
    let conn_tag = conn_key_number-tag c.args.conn conn in
    let pin_tag = pin_key_number-tag c.args.pin pin in
    record {
      flow_port = kinds_apart kind.Flow kind.Port _ _ (λ same. cc) flow_tag port_tag;
      flow_conn = kinds_apart kind.Flow kind.Conn _ _ (λ same. cc) flow_tag conn_tag;
      flow_pin = kinds_apart kind.Flow kind.Pin _ _ (λ same. cc) flow_tag pin_tag;
      port_conn = kinds_apart kind.Port kind.Conn _ _ (λ same. cc) port_tag conn_tag;
      port_pin = kinds_apart kind.Port kind.Pin _ _ (λ same. cc) port_tag pin_tag;
      conn_pin = kinds_apart kind.Conn kind.Pin _ _ (λ same. cc) conn_tag pin_tag;
    }
