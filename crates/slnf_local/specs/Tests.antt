-- Tests of requests, of replies and of an entry's order.
use Rattle.std.specs.Prelude.{ℕ, ◌+◌, ◌^◌, ◌%◌, Bool, true, false, ◌&&◌, ◌==◌, nat_lt, nat_le, if◌then◌else◌, Option, Some, None, List, [], ◌∷◌, ◌++◌}
use Rattle.slnf_access.specs.declared.requests.Entry.{Entry}
use Rattle.slnf_access.specs.declared.requests.Request.{Request}
use Rattle.slnf_access.specs.declared.requests.Request.TheVariants.{Read, PutIfAbsent, ReplaceIf, DeleteIf}
use Rattle.slnf_access.specs.declared.requests.Reply.{Reply}
use Rattle.slnf_access.specs.declared.requests.Reply.TheVariants.{Done, Found, Absent}
use Rattle.slnf_access.specs.Map.{key_of, reply_to, cell_of}
use Rattle.slnf_run.specs.Jobs.{last_of, below_or}

-- the two accesses are the same
abbrev pub same_request : Request → Request → Bool
same_request (Read a) (Read b) = a.0 == b.0
same_request (PutIfAbsent a v) (PutIfAbsent b w) = a.0 == b.0 && v.0 == w.0
same_request (ReplaceIf a m v) (ReplaceIf b n w) = a.0 == b.0 && (m == n && v.0 == w.0)
same_request (DeleteIf a m) (DeleteIf b n) = a.0 == b.0 && m == n
same_request a b = false

-- the two replies are the same
abbrev pub same_reply : Reply → Reply → Bool
same_reply (Done m) (Done n) = m == n
same_reply (Found v m) (Found w n) = v.0 == w.0 && m == n
same_reply Absent Absent = true
same_reply a b = false

-- the entry is in order after this one, if there is one
abbrev pub comes_after : Option Entry → Entry → Bool
comes_after None e = true
comes_after (Some before) e = below_or before.stamp e.stamp (nat_lt before.shard e.shard)

-- the entry is in order after these, with a stamp that texts have and in its key's shard
abbrev pub is_orderly : ℕ → List Entry → Entry → Bool
is_orderly shards es e =
    (nat_le 1 e.stamp && (nat_lt e.stamp (2 ^ 62) && e.shard == key_of e.request % shards))
    && comes_after (last_of es) e

-- the entry's reply is that of the map which these make
abbrev pub is_true_reply : List Entry → Entry → Bool
is_true_reply es e = same_reply e.reply (reply_to e.request e.stamp (cell_of (key_of e.request) None es))

-- the place, counted from 1, of the first entry of the tail that fails the test after those before it
abbrev pub first_failing : (List Entry → Entry → Bool) → ℕ → List Entry → List Entry → Option ℕ
first_failing test place es [] = None
first_failing test place es (e ∷ tail) =
    if test es e then first_failing test (place + 1) (es ++ e ∷ []) tail else Some place
