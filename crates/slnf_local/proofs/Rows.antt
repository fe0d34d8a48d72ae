-- Worked rows: lists that are runs, and lists that break each rule at a place.
use Rattle.std.proofs.Common.{◌≡◌, ℕ, ◌-◌, ◌==◌, if◌then◌else◌, Option, Some, None, List, [], ◌∷◌, refl}
use Rattle.slnf_base.specs.declared.packets.Verdict.TheVariants.{Dropped, Lost}
use Rattle.slnf_base.specs.declared.packets.Reason.TheVariants.{NotIpv4}
use Rattle.slnf_access.specs.declared.requests.Entry.{Entry}
use Rattle.slnf_access.specs.declared.requests.Request.{Request}
use Rattle.slnf_access.specs.declared.requests.Request.TheVariants.{Read, PutIfAbsent}
use Rattle.slnf_access.specs.declared.requests.Reply.{Reply}
use Rattle.slnf_access.specs.declared.requests.Reply.TheVariants.{Done, Found, Absent}
use Rattle.slnf_access.specs.Machines.{Machine, Flies, Ends}
use Rattle.slnf_run.specs.Setting.{Actor, Era, Setting}
use Rattle.slnf_run.specs.Scene.{Scene}
use Rattle.slnf_local.specs.declared.broken.Broken.TheVariants.{Order, Reply as ReplyOf, Unexpected, Unended}
use Rattle.slnf_local.specs.Passes.{first_broken}

abbrev read : ℕ → Request
read key = Read (record { 0 = key })

-- a flight counts the accesses behind the next one
abbrev machine : Machine ℕ
machine = record {
  asks = λ flight. read flight;
  goes = λ flight reply. if flight == 0 then Ends (Some Lost) else Flies (flight - 1);
  decided = λ flight. None;
}

-- packet 0 makes two accesses, packet 1 none, and any other one
abbrev scene : Scene ℕ ℕ
scene = record {
  machine = λ incarnation. machine;
  begins = λ incarnation item.
      if item == 0 then Flies 1 else if item == 1 then Ends (Some (Dropped NotIpv4)) else Flies 0;
  place = λ es number flight verdict. 0;
  arrival = λ flight e. 0;
  removals = λ e. [];
}

abbrev of_lane : ℕ → Option ℕ → Option ℕ → Actor
of_lane lane quota stop = record { lane = Some lane; quota = quota; stop = stop }

abbrev epoch : List Actor → Era
epoch actors = record { actors = actors; schedule = [] }

-- incarnation 0 stops at once; then an epoch without actors; 1 stops after two accesses; 2 goes on in lane 0, and 3 has
-- an empty lane
abbrev setting : Setting ℕ ℕ
setting = record {
  shards = 1;
  batch = 1;
  lanes = 3 ∷ 0 ∷ [];
  sweep_items = 1;
  eras = epoch (of_lane 0 None (Some 0) ∷ []) ∷ epoch [] ∷ epoch (of_lane 0 None (Some 2) ∷ [])
      ∷ epoch (of_lane 0 None None ∷ of_lane 1 None None ∷ []) ∷ [];
  scene = scene;
}

abbrev made : ℕ → ℕ → ℕ → ℕ → Entry
made stamp incarnation item key = record {
  stamp = stamp;
  shard = 0;
  incarnation = incarnation;
  item = item;
  request = read key;
  reply = Absent;
}

abbrev one : Entry
one = made 1 1 0 1

abbrev two : Entry
two = made 2 1 0 0

abbrev three : Entry
three = made 3 2 2 0

pub row_accepted : first_broken setting (one ∷ two ∷ three ∷ []) ≡ None
row_accepted = refl

-- rule 2: the second entry isn't in order, not in its key's shard, or has a stamp that no text has
pub row_same_stamp : first_broken setting (one ∷ made 1 1 0 0 ∷ three ∷ []) ≡ Some (Order 2)
row_same_stamp = refl

abbrev in_shard : ℕ → Entry
in_shard shard =
    record { stamp = 2; shard = shard; incarnation = 1; item = 0; request = read 0; reply = Absent }

pub row_wrong_shard : first_broken setting (one ∷ in_shard 1 ∷ three ∷ []) ≡ Some (Order 2)
row_wrong_shard = refl

pub row_no_stamp : first_broken setting (made 0 1 0 1 ∷ two ∷ three ∷ []) ≡ Some (Order 1)
row_no_stamp = refl

pub row_last_stamp : first_broken setting (one ∷ made 4611686018427387904 1 0 0 ∷ []) ≡ Some (Order 2)
row_last_stamp = refl

-- rule 3: the third entry finds what nobody put
abbrev found : Entry
found = record {
  stamp = 3;
  shard = 0;
  incarnation = 2;
  item = 2;
  request = read 0;
  reply = Found (record { 0 = 7 }) 1;
}

pub row_false_reply : first_broken setting (one ∷ two ∷ found ∷ []) ≡ Some (ReplyOf 3)
row_false_reply = refl

-- each rule is tried over the whole list before the next: the last entry breaks rule 2, the one before it rule 3, and
-- the
-- first rule 4
pub row_order_first : first_broken setting (made 1 4 0 1 ∷ found ∷ three ∷ []) ≡ Some (Order 3)
row_order_first = refl

pub row_reply_first : first_broken setting (made 1 4 0 1 ∷ found ∷ []) ≡ Some (ReplyOf 2)
row_reply_first = refl

-- rule 4: an entry of a later epoch comes too early
pub row_early : first_broken setting (one ∷ made 2 2 2 0 ∷ made 3 1 0 0 ∷ []) ≡ Some (Unexpected 2)
row_early = refl

-- one of an actor with stop 0, of a stopped one, of one whose lane is empty, and of none
pub row_stop_of_none : first_broken setting (made 1 0 0 1 ∷ []) ≡ Some (Unexpected 1)
row_stop_of_none = refl

pub row_stopped : first_broken setting (one ∷ two ∷ made 3 1 2 0 ∷ []) ≡ Some (Unexpected 3)
row_stopped = refl

pub row_empty_lane : first_broken setting (one ∷ two ∷ made 3 3 0 1 ∷ []) ≡ Some (Unexpected 3)
row_empty_lane = refl

pub row_no_actor : first_broken setting (one ∷ two ∷ three ∷ made 4 4 0 1 ∷ []) ≡ Some (Unexpected 4)
row_no_actor = refl

-- a packet that was dropped, one that an earlier epoch took, and another request
pub row_dropped : first_broken setting (one ∷ two ∷ made 3 2 1 0 ∷ []) ≡ Some (Unexpected 3)
row_dropped = refl

pub row_taken : first_broken setting (one ∷ two ∷ made 3 2 0 1 ∷ []) ≡ Some (Unexpected 3)
row_taken = refl

pub row_request : first_broken setting (one ∷ made 2 1 0 1 ∷ []) ≡ Some (Unexpected 2)
row_request = refl

abbrev put : Entry
put = record {
  stamp = 2;
  shard = 0;
  incarnation = 1;
  item = 0;
  request = PutIfAbsent (record { 0 = 0 }) (record { 0 = 7 });
  reply = Done 2;
}

pub row_put : first_broken setting (one ∷ put ∷ []) ≡ Some (Unexpected 2)
row_put = refl

-- rule 5: the least incarnation that hasn't ended
pub row_unended : first_broken setting (one ∷ two ∷ []) ≡ Some (Unended 2)
row_unended = refl

pub row_unended_first : first_broken setting (one ∷ []) ≡ Some (Unended 1)
row_unended_first = refl

pub row_nothing : first_broken setting [] ≡ Some (Unended 1)
row_nothing = refl

-- an instance of a lane of three packets, and then another of it beside a sweep of one port
abbrev together : ℕ → Option ℕ → Option ℕ → Setting ℕ ℕ
together batch quota stop = record {
  shards = 1;
  batch = batch;
  lanes = 3 ∷ [];
  sweep_items = 1;
  eras = epoch (of_lane 0 quota stop ∷ [])
      ∷ epoch (of_lane 0 None None ∷ record { lane = None; quota = None; stop = None } ∷ []) ∷ [];
  scene = scene;
}

-- in one batch each order of its packets is accepted, also one that no round has
pub row_one_batch :
    first_broken (together 3 None None)
    (made 1 0 0 1 ∷ made 2 0 2 0 ∷ made 3 0 0 0 ∷ made 4 2 0 1 ∷ made 5 2 0 0 ∷ []) ≡ None
row_one_batch = refl

pub row_other_order :
    first_broken (together 3 None None)
    (made 1 0 2 0 ∷ made 2 0 0 1 ∷ made 3 0 0 0 ∷ made 4 2 0 1 ∷ made 5 2 0 0 ∷ []) ≡ None
row_other_order = refl

pub row_no_rounds :
    first_broken (together 3 None None)
    (made 1 0 0 1 ∷ made 2 0 0 0 ∷ made 3 0 2 0 ∷ made 4 2 0 1 ∷ made 5 2 0 0 ∷ []) ≡ None
row_no_rounds = refl

-- a packet of a later batch comes only behind its batch
pub row_later_batch : first_broken (together 2 None None) (made 1 0 2 0 ∷ []) ≡ Some (Unexpected 1)
row_later_batch = refl

-- the sweep's port, of which an access is still to be made
pub row_sweep :
    first_broken (together 3 None None) (made 1 0 2 0 ∷ made 2 0 0 1 ∷ made 3 0 0 0 ∷ made 4 2 0 1 ∷ [])
    ≡ Some (Unended 2)
row_sweep = refl

-- a quota: what it leaves the next epoch takes, at once where it is dropped
pub row_quota :
    first_broken (together 3 (Some 1) None)
    (made 1 0 0 1 ∷ made 2 0 0 0 ∷ made 3 1 2 0 ∷ made 4 2 0 1 ∷ made 5 2 0 0 ∷ []) ≡ None
row_quota = refl

pub row_quota_of_none :
    first_broken (together 3 (Some 0) None)
    (made 1 1 2 0 ∷ made 2 1 0 1 ∷ made 3 2 0 1 ∷ made 4 1 0 0 ∷ made 5 2 0 0 ∷ []) ≡ None
row_quota_of_none = refl

-- a stop within a batch takes the whole batch: the next epoch has none of it
pub row_stop_in_batch :
    first_broken (together 3 None (Some 1)) (made 1 0 2 0 ∷ made 2 2 0 1 ∷ made 3 2 0 0 ∷ []) ≡ None
row_stop_in_batch = refl

pub row_stop_in_batch_taken :
    first_broken (together 3 None (Some 1)) (made 1 0 2 0 ∷ made 2 1 0 1 ∷ []) ≡ Some (Unexpected 2)
row_stop_in_batch_taken = refl

-- a stop with the last access of a batch leaves the batch behind it, though it is dropped without an access
pub row_stop_before_dropped :
    first_broken (together 1 None (Some 2))
    (made 1 0 0 1 ∷ made 2 0 0 0 ∷ made 3 1 2 0 ∷ made 4 2 0 1 ∷ made 5 2 0 0 ∷ []) ≡ None
row_stop_before_dropped = refl

-- a sweep's ports go one after another; the second has no access
abbrev swept : Setting ℕ ℕ
swept = record {
  shards = 1;
  batch = 3;
  lanes = [];
  sweep_items = 3;
  eras = epoch (record { lane = None; quota = None; stop = None } ∷ []) ∷ [];
  scene = scene;
}

pub row_ports : first_broken swept (made 1 0 0 1 ∷ made 2 0 0 0 ∷ made 3 0 2 0 ∷ []) ≡ None
row_ports = refl

pub row_port_early : first_broken swept (made 1 0 0 1 ∷ made 2 0 2 0 ∷ made 3 0 0 0 ∷ []) ≡ Some (Unexpected 2)
row_port_early = refl

-- two instances, each with one packet that puts its own value at one key, where there is none
abbrev putting : Machine ℕ
putting = record {
  asks = λ value. PutIfAbsent (record { 0 = 0 }) (record { 0 = value });
  goes = λ value reply. Ends (Some Lost);
  decided = λ value. None;
}

abbrev race : Setting ℕ ℕ
race = record {
  shards = 1;
  batch = 1;
  lanes = 1 ∷ 1 ∷ [];
  sweep_items = 0;
  eras = epoch (of_lane 0 None None ∷ of_lane 1 None None ∷ []) ∷ [];
  scene = record {
    machine = λ incarnation. putting;
    begins = λ incarnation item. Flies (if incarnation == 0 then 7 else 8);
    place = λ es number flight verdict. 0;
    arrival = λ flight e. 0;
    removals = λ e. [];
  };
}

abbrev puts : ℕ → ℕ → ℕ → Reply → Entry
puts stamp incarnation value reply = record {
  stamp = stamp;
  shard = 0;
  incarnation = incarnation;
  item = 0;
  request = PutIfAbsent (record { 0 = 0 }) (record { 0 = value });
  reply = reply;
}

-- either may come first, and the other finds what it put
pub row_race : first_broken race (puts 1 0 7 (Done 1) ∷ puts 2 1 8 (Found (record { 0 = 7 }) 1) ∷ []) ≡ None
row_race = refl

pub row_race_other : first_broken race (puts 1 1 8 (Done 1) ∷ puts 2 0 7 (Found (record { 0 = 8 }) 1) ∷ []) ≡ None
row_race_other = refl

-- another reply breaks rule 3, another value with the true reply rule 4, and a list without the second entry rule 5
pub row_race_reply : first_broken race (puts 1 0 7 (Done 1) ∷ puts 2 1 8 (Done 2) ∷ []) ≡ Some (ReplyOf 2)
row_race_reply = refl

pub row_race_version :
    first_broken race (puts 1 0 7 (Done 1) ∷ puts 2 1 8 (Found (record { 0 = 7 }) 2) ∷ []) ≡ Some (ReplyOf 2)
row_race_version = refl

pub row_race_value :
    first_broken race (puts 1 0 7 (Done 1) ∷ puts 2 1 7 (Found (record { 0 = 7 }) 1) ∷ []) ≡ Some (Unexpected 2)
row_race_value = refl

pub row_race_open : first_broken race (puts 1 0 7 (Done 1) ∷ []) ≡ Some (Unended 1)
row_race_open = refl
