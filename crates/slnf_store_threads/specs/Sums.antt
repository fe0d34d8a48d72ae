-- The checksum of what a caller was told.
use Rattle.std.specs.Prelude.{ℕ, ◌+◌, ◌*◌, ◌%◌, ◌^◌, List, [], ◌∷◌}
use Rattle.slnf_access.specs.declared.requests.Entry.{Entry}
use Rattle.slnf_access.specs.declared.requests.Reply.{Reply}
use Rattle.slnf_access.specs.declared.requests.Reply.TheVariants.{Done, Found, Absent}

-- what a reply tells but for stamps and versions: of a value the low 64 bits
abbrev pub told_by : Reply → ℕ
told_by (Done stamp) = 1
told_by (Found value version) = value.0 % 2 ^ 64
told_by Absent = 2

-- the checksum with one reply more
abbrev pub with_reply : ℕ → Reply → ℕ
with_reply sum reply = (sum * 31 + told_by reply) % 2 ^ 64

-- the checksum with the replies of these accesses more
abbrev pub with_replies : ℕ → List Entry → ℕ
with_replies sum [] = sum
with_replies sum (e ∷ es) = with_replies (with_reply sum e.reply) es

-- the checksum with these replies more
abbrev pub with_all : ℕ → List Reply → ℕ
with_all sum [] = sum
with_all sum (r ∷ rs) = with_all (with_reply sum r) rs
