-- The stamps of a journal, by the clocks of its shards and its actors.
use Rattle.std.specs.Prelude.{◌≡◌, ℕ, ◌+◌, max, List, []}
use Rattle.slnf_access.specs.declared.requests.Entry.{Entry}
use Rattle.slnf_run.specs.Setting.{Setting, era_of}
use Rattle.slnf_run.specs.Made.{Grown, of_shard, last_stamp, clock}

-- the stamp is one more than the greater of the last stamp before it in its shard and its actor's clock
abbrev pub HasClockStamp : (ℕ → ℕ) → List Entry → Entry → Type 0
HasClockStamp epoch es e = e.stamp ≡ max (last_stamp (of_shard e.shard es)) (clock epoch es e.incarnation) + 1

-- each stamp of a journal is so
abbrev pub HasClockStamps : {F A : Type 0} → Setting F A → List Entry → Type 0
HasClockStamps s j = Grown (HasClockStamp (era_of s.eras)) [] j
