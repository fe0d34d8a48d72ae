use Rattle.std.specs.Prelude.{ℕ, ◌+◌, ◌%◌, None, List, length}
use Rattle.slnf_access.specs.declared.requests.Entry.{Entry}
use Rattle.slnf_access.specs.declared.requests.Request.{Request}
use Rattle.slnf_access.specs.Map.{key_of, reply_to, cell_of}

-- a plain store: the entries so far, and the number of shards
pub record Stored : Type 0 where
  pub entries : List Entry
  pub shards : ℕ

-- the entry that an access to this store makes: its stamp is its place in the list
abbrev pub next_entry : Stored → ℕ → ℕ → Request → Entry
next_entry store incarnation item request =
    record {
      stamp = length store.entries + 1;
      shard = key_of request % store.shards;
      incarnation = incarnation;
      item = item;
      request = request;
      reply = reply_to request (length store.entries + 1) (cell_of (key_of request) None store.entries);
    }
