-- What is kept of connections, in the store: the number of a value, and the connections of a map.
use Rattle.std.specs.Prelude.{ℕ, Option}
use Rattle.std.specs.Option.{option_map, option_and_then}
use Rattle.slnf_access.specs.Map.{Cells}
use Rattle.slnf_run.specs.Tables.{IsTable}
use Rattle.slnf_fw_table.specs.States.{state_number, state_with, state_from_one, state_to_eight}
use Rattle.slnf_keys.specs.declared.values.Conn.{Conn}
use Rattle.slnf_keys.specs.Keys.{conn_key_number, IsConnKey}
use Rattle.slnf_keys.specs.Values.{conn_number, conn_of}
use Rattle.slnf_box.specs.FwBox.{Conns}
use Rattle.slnf_box.specs.declared.choices.Tracked.{Tracked}

-- the value that the store has of a connection
abbrev pub conn_value : Tracked → Conn
conn_value tracked = record {
  by_outside = tracked.by_outside;
  state = state_number tracked.state;
  from_one = state_from_one tracked.state;
  to_eight = state_to_eight tracked.state;
}

-- its number
abbrev pub tracked_number : Tracked → ℕ
tracked_number tracked = conn_number (conn_value tracked)

-- what is kept where the store has this value
abbrev pub tracked_in : Conn → Option Tracked
tracked_in conn = option_map (λ state. record { by_outside = conn.by_outside; state = state }) (state_with conn.state)

-- what is kept where the store has the value with this number; an ill one is no number of a connection
abbrev pub tracked_of : ℕ → Option Tracked
tracked_of number = option_and_then tracked_in (conn_of number)

-- the box has the connections of the store's map
abbrev pub IsSameConns : Conns → Cells → Type 0
IsSameConns = IsTable conn_key_number IsConnKey tracked_number
