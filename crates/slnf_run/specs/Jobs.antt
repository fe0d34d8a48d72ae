-- An actor's job, and what its own entries say: what it is offered in which batches, the access that it wants next,
-- what it took, and its verdicts. Nothing here but `job_of` knows a setting or the list of all entries.
use Rattle.std.specs.Prelude.{ℕ, suc, ◌+◌, ◌-◌, ◌%◌, min, Bool, false, not, ◌&&◌, ◌||◌, ◌==◌, nat_lt, nat_le, if◌then◌else◌, Option, Some, None, List, [], ◌∷◌, length, filter, take, slice_index}
use Rattle.std.specs.List.{list_any, range_with_len}
use Rattle.slnf_base.specs.declared.packets.Verdict.{Verdict}
use Rattle.slnf_base.specs.declared.packets.Verdict.TheVariants.{Lost}
use Rattle.slnf_access.specs.declared.requests.Entry.{Entry}
use Rattle.slnf_access.specs.declared.requests.Ask.{Ask}
use Rattle.slnf_access.specs.Map.{key_of}
use Rattle.slnf_access.specs.Machines.{Machine, Stand, Flies, Ends, stand_after}
use Rattle.slnf_run.specs.Setting.{Actor, Setting}

-- the entries of an item, in order
abbrev pub of_item : ℕ → List Entry → List Entry
of_item item es = filter (λ e. e.item == item) es

-- the key of an item's first access; an item without an access has none
abbrev pub first_key_of : {F : Type 0} → Machine F → Stand F → Option ℕ
first_key_of machine (Flies flight) = Some (key_of (machine.asks flight))
first_key_of machine (Ends verdict) = None

-- An item that is offered to an actor, and the number of its batch.
pub record Offer : Type 0 where
  pub item : ℕ
  pub batch : ℕ

-- the first key stands among these
abbrev pub is_among : Option ℕ → List ℕ → Bool
is_among None keys = false
is_among (Some key) keys = list_any (λ held. held == key) keys

-- these keys and a first key
abbrev pub with_key : Option ℕ → List ℕ → List ℕ
with_key None keys = keys
with_key (Some key) keys = key ∷ keys

-- an item with this first key joins a batch that has `size` items and these first keys
abbrev pub joins : ℕ → ℕ → List ℕ → Option ℕ → Bool
joins limit size keys first = nat_lt size limit && not (is_among first keys)

-- The batches of these items: each is the longest run of next items that has at most `limit` of them, and no
-- first key twice. The batch in hand has the number `number`, `size` items and the first keys `keys`.
abbrev pub batched : ℕ → (ℕ → Option ℕ) → ℕ → ℕ → List ℕ → List ℕ → List Offer
batched limit first number size keys [] = []
batched limit first number size keys (item ∷ items) =
    if joins limit size keys (first item)
    then record { item = item; batch = number } ∷ batched limit first number (size + 1)
    (with_key (first item) keys) items
    else record { item = item; batch = number + 1 } ∷ batched limit first (number + 1) 1
    (with_key (first item) []) items

-- how many of the next items join a batch that has `size` items and these first keys
abbrev pub joining : {I : Type 0} → ℕ → (I → Option ℕ) → ℕ → List ℕ → List I → ℕ
joining limit first size keys [] = 0
joining limit first size keys (item ∷ items) =
    if joins limit size keys (first item)
    then suc (joining limit first (size + 1) (with_key (first item) keys) items)
    else 0

-- these items as one batch
abbrev pub one_batch : ℕ → List ℕ → List Offer
one_batch number [] = []
one_batch number (item ∷ items) = record { item = item; batch = number } ∷ one_batch number items

-- at most so many, where there is a quota
abbrev pub within_quota : Option ℕ → ℕ → ℕ
within_quota None count = count
within_quota (Some quota) count = min quota count

-- the number of an item's batch
abbrev pub batch_of : ℕ → List Offer → ℕ
batch_of item [] = 0
batch_of item (offer ∷ offers) = if offer.item == item then offer.batch else batch_of item offers

-- the last entry
abbrev pub last_of : List Entry → Option Entry
last_of [] = None
last_of (e ∷ []) = Some e
last_of (e ∷ f ∷ es) = last_of (f ∷ es)

-- the offers up to the batch of this entry; none without an entry
abbrev pub offers_until : Option Entry → List Offer → List Offer
offers_until None offers = []
offers_until (Some e) offers = filter (λ offer. nat_le offer.batch (batch_of e.item offers)) offers

-- An access that an item could make next: its batch, how many accesses the item has made, and its shard.
pub record Wish : Type 0 where
  pub batch : ℕ
  pub made : ℕ
  pub shard : ℕ
  pub ask : Ask

-- the first number is below the other, or they are equal and the test goes on
abbrev pub below_or : ℕ → ℕ → Bool → Bool
below_or m n next = nat_lt m n || (m == n && next)

-- Batches go one after another, a batch goes in rounds, and a round by (shard, item).
abbrev pub by_rounds : Wish → Wish → Bool
by_rounds v w =
    below_or v.batch w.batch (below_or v.made w.made (below_or v.shard w.shard (nat_lt v.ask.item w.ask.item)))

-- the one wish, unless the other comes before it
abbrev pub sooner : (Wish → Wish → Bool) → Wish → Option Wish → Wish
sooner comes_before w None = w
sooner comes_before w (Some v) = if comes_before v w then v else w

-- the wish that comes first
abbrev pub first_of_wishes : (Wish → Wish → Bool) → List Wish → Option Wish
first_of_wishes comes_before [] = None
first_of_wishes comes_before (w ∷ ws) = Some (sooner comes_before w (first_of_wishes comes_before ws))

-- what a wish asks
abbrev pub ask_of : Option Wish → Option Ask
ask_of None = None
ask_of (Some w) = Some w.ask

-- the entries of a part that count: a stopped actor's last access gives no verdict
abbrev pub counted : Bool → List Entry → List Entry
counted stopped part = if stopped then take (length part - 1) part else part

-- the verdict that is reached, else the packet is lost
abbrev pub verdict_at : {F : Type 0} → Stand F → Verdict
verdict_at (Flies flight) = Lost
verdict_at (Ends None) = Lost
verdict_at (Ends (Some verdict)) = verdict

-- A job: the machine, how items begin, and of which items, in batches of how many at most, and after how many
-- accesses it stops.
pub record Job (F : Type 0) : Type 0 where
  pub machine : Machine F
  pub begins : ℕ → Stand F
  pub shards : ℕ
  pub batch : ℕ
  pub at : ℕ
  pub count : ℕ
  pub stop : Option ℕ

-- the first key of an item
abbrev pub first_in : {F : Type 0} → Job F → ℕ → Option ℕ
first_in job item = first_key_of job.machine (job.begins item)

-- what the actor is offered
abbrev pub offers_in : {F : Type 0} → Job F → List Offer
offers_in job = batched job.batch (first_in job) 0 0 [] (range_with_len job.at job.count)

-- where an item stands after the actor's own entries
abbrev pub stand_in : {F : Type 0} → Job F → List Entry → ℕ → Stand F
stand_in job own item = stand_after job.machine (job.begins item) (of_item item own)

-- there is a stop, and exactly that many accesses are made
abbrev pub is_stop : Option ℕ → ℕ → Bool
is_stop stop made = elim stop [ None ↦ false | Some stop ↦ made == stop ]

-- the wish of an item that stands so, in front of others; one that has ended has none
abbrev pub wish_in : {F : Type 0} → Job F → List Entry → Offer → Stand F → List Wish → List Wish
wish_in job own offer (Ends verdict) wishes = wishes
wish_in job own offer (Flies flight) wishes =
    record {
      batch = offer.batch;
      made = length (of_item offer.item own);
      shard = key_of (job.machine.asks flight) % job.shards;
      ask = record { item = offer.item; request = job.machine.asks flight };
    } ∷ wishes

-- the wishes of these offers
abbrev pub wishes_in : {F : Type 0} → Job F → List Entry → List Offer → List Wish
wishes_in job own [] = []
wishes_in job own (offer ∷ offers) = wish_in job own offer (stand_in job own offer.item) (wishes_in job own offers)

-- The actor's next access after its own entries, in this order of wishes. An actor that has ended has none.
abbrev pub wanted_in : {F : Type 0} → (Wish → Wish → Bool) → Job F → List Entry → Option Ask
wanted_in comes_before job own =
    if is_stop job.stop (length own) then None else ask_of
    (first_of_wishes comes_before (wishes_in job own (offers_in job)))

-- What an actor with this stop took of its offers after its own entries: all where it isn't stopped, and else those
-- up to the batch that has its last entry, and none where its stop is 0.
abbrev pub taken_from : Option ℕ → List Entry → List Offer → List Offer
taken_from stop own offers = if is_stop stop (length own) then offers_until (last_of own) offers else offers

-- what the actor took
abbrev pub taken_in : {F : Type 0} → Job F → List Entry → List Offer
taken_in job own = taken_from job.stop own (offers_in job)

-- where an item stands by the entries that count
abbrev pub stand_counted : {F : Type 0} → Job F → List Entry → ℕ → Stand F
stand_counted job own item = stand_after job.machine (job.begins item)
    (of_item item (counted (is_stop job.stop (length own)) own))

-- the verdict of an item that it took
abbrev pub verdict_in : {F : Type 0} → Job F → List Entry → ℕ → Verdict
verdict_in job own item = verdict_at (stand_counted job own item)

-- The job of an incarnation of a setting, as this actor, from this place of its lane on. A sweep's ports are a batch
-- each.
abbrev pub job_of : {F A : Type 0} → Setting F A → ℕ → ℕ → Actor → Job F
job_of s incarnation at actor = record {
  machine = s.scene.machine incarnation;
  begins = s.scene.begins incarnation;
  shards = s.shards;
  batch = elim (actor.lane) [ None ↦ 1 | Some lane ↦ s.batch ];
  at = elim (actor.lane) [ None ↦ 0 | Some lane ↦ at ];
  count = elim (actor.lane) [
    | None ↦ s.sweep_items
    | Some lane ↦
        within_quota actor.quota (slice_index s.lanes lane - at)
  ];
  stop = actor.stop;
}
