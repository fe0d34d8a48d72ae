-- The clients' backends in the store's map, which the box has.
use Rattle.std.specs.Prelude.{◌≡◌, Option, None}
use Rattle.std.specs.Option.{option_map, option_and_then}
use Rattle.slnf_base.specs.declared.addresses.Pair.{Pair}
use Rattle.slnf_base.specs.declared.packets.Proto.{Proto}
use Rattle.slnf_base.specs.Ranges.{IsPair}
use Rattle.slnf_access.specs.declared.requests.Held.{Held}
use Rattle.slnf_access.specs.Map.{Cells}
use Rattle.slnf_keys.specs.Keys.{pin_key_number}
use Rattle.slnf_keys.specs.Values.{pin_of}
use Rattle.slnf_box.specs.LbBox.{Pins}

-- the backend in what the store has at a key
abbrev pub backend_in : Option Held → Option Pair
backend_in held = option_map (λ pin. pin.backend) (option_and_then (λ there. pin_of there.value.0) held)

-- the client's backend in the store's map
abbrev pub pin_at : Cells → Proto → Pair → Option Pair
pin_at cells proto client = backend_in (cells (pin_key_number (record { proto = proto; client = client })))

-- The box has the pins of the store's map, and what the map has at a client's key is a pin.
pub record IsSameMap (kept : Pins) (cells : Cells) : Type 0 where
  pub agrees : (proto : Proto) (client : Pair) → IsPair client → kept proto client ≡ pin_at cells proto client
  pub whole : (proto : Proto) (client : Pair) → IsPair client
      → pin_at cells proto client ≡ None → cells (pin_key_number (record { proto = proto; client = client })) ≡ None
