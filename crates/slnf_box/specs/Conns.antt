-- What a table of connections has.
use Rattle.std.specs.Prelude.{Bool, ◌&&◌, ◌==◌, List}
use Rattle.std.specs.Map.{lookup}
use Rattle.slnf_base.specs.Numbers.{proto_number}
use Rattle.slnf_base.specs.Equal.{is_same_pair}
use Rattle.slnf_keys.specs.declared.keys.ConnKey.{ConnKey}
use Rattle.slnf_box.specs.FwBox.{Conns}
use Rattle.slnf_box.specs.declared.choices.Tracked.{Tracked}
use Rattle.slnf_box.specs.declared.conns.Link.{Link}

-- the key of a connection
abbrev pub link_of : ConnKey → Link
link_of key = record { proto = proto_number key.proto; inside = key.inside; outside = key.outside }

-- the keys are one
abbrev pub is_same_link : Link → Link → Bool
is_same_link a b = a.proto == b.proto && (is_same_pair a.inside b.inside && is_same_pair a.outside b.outside)

-- what the entries have of a connection
abbrev pub conn_at : List (Link × Tracked) → Conns
conn_at entries key = lookup (is_same_link (link_of key)) entries
