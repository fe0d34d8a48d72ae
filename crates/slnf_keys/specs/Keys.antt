use Rattle.std.specs.Prelude.{ℕ, Option}
use Rattle.std.specs.Option.{option_map}
use Rattle.slnf_keys.specs.declared.keys.FlowKey.{FlowKey}
use Rattle.slnf_keys.specs.declared.keys.PortKey.{PortKey}
use Rattle.slnf_keys.specs.declared.keys.ConnKey.{ConnKey}
use Rattle.slnf_keys.specs.declared.keys.PinKey.{PinKey}
use Rattle.slnf_keys.specs.declared.layout.Kind.TheVariants.{Flow, Port, Conn, Pin}
use Rattle.slnf_base.specs.Ranges.{IsPair}
use Rattle.slnf_keys.specs.Layout.{key_number, single_number, parts_of, single_of}

-- the number of a flow's key: its inside pair
unfoldable pub flow_key_number : FlowKey → ℕ
flow_key_number key = single_number Flow key.proto key.inside

-- the number of an outside port's key: its outside pair
unfoldable pub port_key_number : PortKey → ℕ
port_key_number key = single_number Port key.proto key.outside

-- the number of a connection's key: the inside pair first, the outside pair second
unfoldable pub conn_key_number : ConnKey → ℕ
conn_key_number key = key_number Conn key.proto key.inside key.outside

-- the number of a client's pin: the client's pair
unfoldable pub pin_key_number : PinKey → ℕ
pin_key_number key = single_number Pin key.proto key.client

-- the flow's key with this number
unfoldable pub flow_key_of : ℕ → Option FlowKey
flow_key_of number = option_map (λ parts. record { proto = parts.proto; inside = parts.first }) (single_of Flow number)

-- the outside port's key with this number
unfoldable pub port_key_of : ℕ → Option PortKey
port_key_of number = option_map (λ parts. record { proto = parts.proto; outside = parts.first }) (single_of Port number)

-- the connection's key with this number
unfoldable pub conn_key_of : ℕ → Option ConnKey
conn_key_of number =
    option_map (λ parts. record { proto = parts.proto; inside = parts.first; outside = parts.second }) (parts_of Conn number)

-- the client's key with this number
unfoldable pub pin_key_of : ℕ → Option PinKey
pin_key_of number = option_map (λ parts. record { proto = parts.proto; client = parts.first }) (single_of Pin number)

-- a flow's key whose pair is in range
abbrev pub IsFlowKey : FlowKey → Type 0
IsFlowKey key = IsPair key.inside

-- an outside port's key whose pair is in range
abbrev pub IsPortKey : PortKey → Type 0
IsPortKey key = IsPair key.outside

-- a client's key whose pair is in range
abbrev pub IsPinKey : PinKey → Type 0
IsPinKey key = IsPair key.client

-- a connection's key whose pairs are in range
abbrev pub IsConnKey : ConnKey → Type 0
IsConnKey key = IsPair key.inside × IsPair key.outside
