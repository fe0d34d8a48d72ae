use Rattle.std.specs.Prelude.{◌≡◌, ℕ, ◌+◌, ◌%◌, ◌^◌, ◌<◌, ◌≤◌, max, None, List, [], ◌∷◌, ◌++◌}
use Rattle.slnf_access.specs.declared.requests.Entry.{Entry}
use Rattle.slnf_access.specs.declared.requests.Request.{Request}
use Rattle.slnf_access.specs.Map.{key_of, reply_to, cell_of, Cells, IsLegal}

-- What a bucket keeps: its shard of so many, the stamp of its last access, and its history.
pub record Kept : Type 0 where
  pub shard : ℕ
  pub shards : ℕ
  pub clock : ℕ
  pub entries : List Entry

-- a bucket, and for how many accesses it has memory
pub record Bucketed : Type 0 where
  pub kept : Kept
  pub spare : ℕ

-- the entry of an access by a caller with this clock: its stamp is one more than the greater clock, and its reply is
-- the access's on the map that the history makes
abbrev pub next_entry : Kept → ℕ → ℕ → ℕ → Request → Entry
next_entry kept incarnation item clock request =
    record {
      stamp = max kept.clock clock + 1;
      shard = kept.shard;
      incarnation = incarnation;
      item = item;
      request = request;
      reply = reply_to request (max kept.clock clock + 1) (cell_of (key_of request) None kept.entries);
    }

-- what is kept after the entry: it ends the history, and its stamp is the clock
abbrev pub with_entry : Kept → Entry → Kept
with_entry kept e =
    record { shard = kept.shard; shards = kept.shards; clock = e.stamp; entries = kept.entries ++ e ∷ [] }

-- the last stamp of these entries after one with this stamp
abbrev pub last_stamp : ℕ → List Entry → ℕ
last_stamp stamp [] = stamp
last_stamp stamp (e ∷ es) = last_stamp e.stamp es

-- the stamps rise strictly, from above this one
abbrev pub RisesFrom : ℕ → List Entry → Type 0
RisesFrom stamp [] = Unit {0}
RisesFrom stamp (e ∷ es) = (stamp < e.stamp) × RisesFrom e.stamp es

-- each entry is the shard's, and so is its key
abbrev pub AreOwn : ℕ → ℕ → List Entry → Type 0
AreOwn shard shards [] = Unit {0}
AreOwn shard shards (e ∷ es) = (e.shard ≡ shard) × (key_of e.request % shards ≡ shard) × AreOwn shard shards es

-- what each bucket keeps is a legal history of its shard, with rising stamps from 1 to 2^62 - 1, up to its clock
pub record IsKept (kept : Kept) : Type 0 where
  pub inside : kept.shard < kept.shards
  pub most : kept.shards ≤ 64
  pub legal : IsLegal kept.entries
  pub own : AreOwn kept.shard kept.shards kept.entries
  pub rises : RisesFrom 0 kept.entries
  pub clock_is : kept.clock ≡ last_stamp 0 kept.entries
  pub below : kept.clock < 2 ^ 62

-- the same of a bucket with this map, which is what the history makes of the empty map
pub record IsBucket (cells : Cells) (kept : Kept) : Type 0 where
  pub replayed : (key : ℕ) → cells key ≡ cell_of key None kept.entries
  pub is_kept : IsKept kept
