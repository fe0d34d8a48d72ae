-- The checksum of accesses: FNV-1a with 64 bits, number by number.
use Rattle.std.specs.Prelude.{ℕ, ◌*◌, ◌%◌, ◌^◌, List, [], ◌∷◌, bit_xor}
use Rattle.slnf_access.specs.declared.requests.Entry.{Entry}
use Rattle.slnf_access.specs.declared.requests.Reply.{Reply}
use Rattle.slnf_access.specs.declared.requests.Reply.TheVariants.{Done, Found, Absent}

-- the checksum of no numbers
abbrev pub no_sum : ℕ
no_sum = 14695981039346656037

-- the checksum with one number more
abbrev pub with_number : ℕ → ℕ → ℕ
with_number sum number = (bit_xor sum number * 1099511628211) % 2 ^ 64

-- the checksum with a reply more: its kind, and its numbers, of a value the low 64 bits
abbrev pub with_reply : ℕ → Reply → ℕ
with_reply sum (Done stamp) = with_number (with_number sum 1) stamp
with_reply sum (Found value version) = with_number (with_number (with_number sum 2) (value.0 % 2 ^ 64)) version
with_reply sum Absent = with_number sum 3

-- the checksum with these accesses more: of each its stamp, its shard and its reply
abbrev pub with_entries : ℕ → List Entry → ℕ
with_entries sum [] = sum
with_entries sum (e ∷ es) = with_entries (with_reply (with_number (with_number sum e.stamp) e.shard) e.reply) es
