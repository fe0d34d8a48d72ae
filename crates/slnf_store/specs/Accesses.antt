-- What an access does, and what several accesses of one turn do.
use Rattle.std.specs.Prelude.{◌≡◌, ℕ, ◌+◌, ◌-◌, ◌^◌, ◌%◌, ◌<◌, ◌==◌, ◌↔◌, if◌then◌else◌, max, None, List, [], ◌∷◌, ◌++◌, map}
use Rattle.std.specs.List.{AllByRecursion}
use Rattle.slnf_access.specs.declared.requests.Entry.{Entry}
use Rattle.slnf_access.specs.declared.requests.Ask.{Ask}
use Rattle.slnf_access.specs.declared.requests.Request.{Request}
use Rattle.slnf_access.specs.declared.requests.Reply.{Reply}
use Rattle.slnf_access.specs.Map.{key_of, reply_to, cell_of}
use Rattle.slnf_bucket.specs.Bucket.{last_stamp}
use Rattle.slnf_bucket.specs.declared.errors.BucketError.{BucketError}
use Rattle.slnf_bucket.specs.declared.errors.BucketError.TheVariants.{StampsSpent}
use Rattle.slnf_turns.specs.declared.views.View.{View}
use Rattle.slnf_turns.specs.Views.{Begins, seen_of, noted}
use Rattle.slnf_turns.specs.Passes.{HasNoTurn, KeepsKin}
use Rattle.slnf_store.specs.Lines.{line_of}
use Rattle.slnf_store.specs.Passes.{PassState, own_entries, last_seen}

-- The entry of an access in this shard with this history, by a caller with this clock: its stamp is one more than the
-- greater of the shard's last stamp and the clock, and its reply is the access's on the map that the history makes.
abbrev pub entry_after : List Entry → (shard incarnation clock item : ℕ) → Request → Entry
entry_after earlier shard incarnation clock item request =
    record {
      stamp = max (last_stamp 0 earlier) clock + 1;
      shard = shard;
      incarnation = incarnation;
      item = item;
      request = request;
      reply = reply_to request (max (last_stamp 0 earlier) clock + 1) (cell_of (key_of request) None earlier);
    }

-- the entries of these accesses, made one after another, each with the stamp of the one before it as the clock
abbrev pub entries_after : List Entry → (shard incarnation clock : ℕ) → List Ask → List Entry
entries_after earlier shard incarnation clock [] = []
entries_after earlier shard incarnation clock (a ∷ asks) =
    entry_after earlier shard incarnation clock a.item a.request
    ∷ entries_after (earlier ++ entry_after earlier shard incarnation clock a.item a.request ∷ [])
    shard incarnation (max (last_stamp 0 earlier) clock + 1) asks

-- The refusal of so many accesses, the first of which met this greater clock, is for want of stamps exactly where one
-- of them would meet 2^62 - 1.
abbrev pub IsRefusal : ℕ → ℕ → BucketError → Type 0
IsRefusal count greater refusal =
    (last : ℕ) → (refusal ≡ StampsSpent last)
    ↔ ((last ≡ 2 ^ 62 - 1) × (before : ℕ) × (before < count) × (greater + before ≡ last))

-- what a turn at a shard with this history does, in which these entries are made
pub record TakesTurn (shard : ℕ) (earlier more : List Entry) (v w : View) : Type 0 where
  pub grown : Begins (seen_of shard v.seen) (map line_of earlier)
  pub seen : (k : ℕ) → seen_of k w.seen ≡ (if k == shard then map line_of (earlier ++ more) else seen_of k v.seen)
  pub own : w.own ≡ v.own ++ noted shard (map line_of more)
  pub free : HasNoTurn w
  pub kin : KeepsKin v w

-- The pass makes these entries in one turn at a shard with this history.
pub record MakesEntries (shard : ℕ) (earlier more : List Entry) (old new : PassState) : Type 0 where
  -- what the pass had seen of the shard is a prefix of its history
  pub grown : Begins (last_seen shard old) earlier
  -- it has seen the history up to these entries, and of other shards what it had seen
  pub seen : (k : ℕ) → last_seen k new ≡ (if k == shard then earlier ++ more else last_seen k old)
  pub own : own_entries new ≡ own_entries old ++ more
  -- its clock is their last stamp, and stays where there is none
  pub clock : new.clock ≡ last_stamp old.clock more
  pub below : new.clock < 2 ^ 62
  pub table : new.table_id ≡ old.table_id
  -- its number stays, and what it knows of splits and joins
  pub kin : KeepsKin old.known new.known

-- the access of this pass made its entry, with this reply
abbrev pub MakesAccess : ℕ → List Entry → (old new : PassState) → ℕ → Request → Reply → Type 0
MakesAccess shard earlier old new item request reply =
    MakesEntries shard earlier
    (entry_after earlier shard (old.known.number - 1) old.clock item request ∷ []) old new
    × (reply ≡ (entry_after earlier shard (old.known.number - 1) old.clock item request).reply)

-- so many accesses of this pass made no entry, for this reason
abbrev pub RefusesAccesses : (count shard : ℕ) → List Entry → (old new : PassState) → BucketError → Type 0
RefusesAccesses count shard earlier old new refusal =
    MakesEntries shard earlier [] old new × IsRefusal count (max (last_stamp 0 earlier) old.clock) refusal

-- all these accesses of this pass made their entries, with these replies
abbrev pub MakesAccesses : ℕ → List Entry → (old new : PassState) → List Ask → List Reply → Type 0
MakesAccesses shard earlier old new asks replies =
    MakesEntries shard earlier (entries_after earlier shard (old.known.number - 1) old.clock asks) old new
    × (replies ≡ map (λ (e : Entry). e.reply) (entries_after earlier shard (old.known.number - 1) old.clock asks))

-- the keys of these accesses are all of this shard among so many
abbrev pub AreInShard : (shards shard : ℕ) → List Ask → Type 0
AreInShard shards shard asks = AllByRecursion (λ (a : Ask). key_of a.request % shards ≡ shard) asks

-- the shard of the first of these accesses
abbrev pub first_shard : ℕ → List Ask → ℕ
first_shard shards [] = 0
first_shard shards (a ∷ asks) = key_of a.request % shards
