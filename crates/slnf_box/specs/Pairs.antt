-- What a table of pairs has.
use Rattle.std.specs.Prelude.{Bool, ◌&&◌, ◌==◌, Option, List}
use Rattle.std.specs.declared.cmp.Ordering.{Ordering}
use Rattle.std.specs.Ordering.{nat_cmp, ordering_then}
use Rattle.std.specs.Map.{lookup, remove_entry}
use Rattle.std.specs.BTreeMap.{is_at, insert_entry}
use Rattle.slnf_base.specs.declared.addresses.Pair.{Pair}
use Rattle.slnf_base.specs.declared.packets.Proto.{Proto}
use Rattle.slnf_base.specs.Numbers.{proto_number}
use Rattle.slnf_box.specs.declared.pairs.End.{End}

-- the key of a protocol's pair
abbrev pub end_of : Proto → Pair → End
end_of proto pair = record { proto = proto_number proto; addr = pair.addr; port = pair.port }

-- the keys are one
abbrev pub is_same_end : End → End → Bool
is_same_end a b = a.proto == b.proto && (a.addr == b.addr && a.port == b.port)

-- what the entries have at a protocol's pair
abbrev pub pair_at : List (End × Pair) → Proto → Pair → Option Pair
pair_at entries proto pair = lookup (is_same_end (end_of proto pair)) entries

-- the order of the keys, by protocol, address and port
abbrev pub end_cmp : End → End → Ordering
end_cmp a b = ordering_then (nat_cmp a.proto b.proto) (ordering_then (nat_cmp a.addr b.addr) (nat_cmp a.port b.port))

-- the entries with one that is put in, and without one
abbrev pub put_in : List (End × Pair) → Proto → Pair → Pair → List (End × Pair)
put_in entries proto pair value = insert_entry end_cmp entries (end_of proto pair) value

abbrev pub taken_from : List (End × Pair) → Proto → Pair → List (End × Pair)
taken_from entries proto pair = remove_entry (is_at (end_cmp (end_of proto pair))) entries
