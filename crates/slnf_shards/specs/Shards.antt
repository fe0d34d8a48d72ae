-- Buckets as their histories, and what one access makes of these.
use Rattle.std.specs.Prelude.{◌≡◌, ℕ, ◌+◌, ◌%◌, ◌^◌, ◌<◌, max, None, List, [], ◌∷◌, ◌++◌, length, map, set, get_or}
use Rattle.slnf_access.specs.declared.requests.Entry.{Entry}
use Rattle.slnf_access.specs.declared.requests.Request.{Request}
use Rattle.slnf_access.specs.Map.{key_of, reply_to, cell_of}
use Rattle.slnf_bucket.specs.Bucket.{Bucketed}
use Rattle.slnf_merge.specs.Merge.{AreHistories, InShards, EachLegal, all_of}
use Rattle.slnf_run.specs.Made.{last_stamp}

-- the shards' histories
abbrev pub histories_of : List Bucketed → List (List Entry)
histories_of buckets = map (λ bucket. bucket.kept.entries) buckets

-- The bucket is that of this shard, of so many, and its clock is its history's last stamp.
pub record IsOf (shard shards : ℕ) (bucket : Bucketed) : Type 0 where
  pub shard_is : bucket.kept.shard ≡ shard
  pub shards_are : bucket.kept.shards ≡ shards
  pub clock_is : bucket.kept.clock ≡ last_stamp bucket.kept.entries
  pub below : bucket.kept.clock < 2 ^ 62

-- these are the buckets of the shards from this one on, of so many
abbrev pub AreShards : ℕ → ℕ → List Bucketed → Type 0
AreShards shard shards [] = Unit {0}
AreShards shard shards (bucket ∷ buckets) = IsOf shard shards bucket × AreShards (shard + 1) shards buckets

-- the buckets of a store
pub record IsSharded (buckets : List Bucketed) : Type 0 where
  pub some : 0 < length buckets
  pub own : AreShards 0 (length buckets) buckets

-- no shard has an entry
abbrev pub AreEmpty : List (List Entry) → Type 0
AreEmpty histories = (k : ℕ) → get_or histories k [] ≡ []

-- the shard of the access's key
abbrev pub shard_on : List (List Entry) → Request → ℕ
shard_on histories request = key_of request % length histories

-- the greater of the last stamp of the key's shard and of the caller's clock
abbrev pub latest_on : List (List Entry) → ℕ → Request → ℕ
latest_on histories clock request = max (last_stamp (get_or histories (shard_on histories request) [])) clock

-- The entry that an access makes, by a caller with this clock: its stamp is one more than the greater of the clocks,
-- and its reply is what its shard's history makes of it.
abbrev pub entry_on : List (List Entry) → ℕ → ℕ → ℕ → Request → Entry
entry_on histories clock incarnation item request =
    record {
      stamp = latest_on histories clock request + 1;
      shard = shard_on histories request;
      incarnation = incarnation;
      item = item;
      request = request;
      reply = reply_to request (latest_on histories clock request + 1)
          (cell_of (key_of request) None (get_or histories (shard_on histories request) []));
    }

-- the histories with one entry more
abbrev pub with_entry_on : List (List Entry) → Entry → List (List Entry)
with_entry_on histories e = set histories e.shard (get_or histories e.shard [] ++ e ∷ [])

-- how many stamps are spent, shard by shard
abbrev pub spent : List (List Entry) → ℕ
spent [] = 0
spent (history ∷ histories) = last_stamp history + spent histories

-- The histories of so many shards, in their order: each is legal by itself, and has the shard's keys alone.
pub record AreStored (shards : ℕ) (histories : List (List Entry)) : Type 0 where
  pub in_place : AreHistories 0 histories
  pub own : InShards shards (all_of histories)
  pub legal : EachLegal histories
