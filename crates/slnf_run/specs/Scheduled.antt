-- The list of accesses that the written schedule makes.
use Rattle.std.specs.Prelude.{◌≡◌, ℕ, ◌+◌, ◌%◌, Bool, ◌||◌, ◌==◌, nat_lt, max, if◌then◌else◌, Option, Some, None, List, [], ◌∷◌, ◌++◌, length, slice_get}
use Rattle.std.specs.List.{range_with_len, repeat}
use Rattle.slnf_access.specs.declared.requests.Entry.{Entry}
use Rattle.slnf_access.specs.declared.requests.Ask.{Ask}
use Rattle.slnf_access.specs.Map.{key_of, reply_to, cell_of}
use Rattle.slnf_run.specs.Setting.{Actor, Era, Setting, era_of}
use Rattle.slnf_run.specs.Parts.{part_of, at_lane, places_after}
use Rattle.slnf_run.specs.Jobs.{wanted_in, job_of}
pub use Rattle.slnf_run.specs.Jobs.{Wish, below_or, by_rounds, sooner, first_of_wishes, ask_of}

-- A way of making accesses: which of an actor's wishes comes before another, and the stamp of an access after these
-- entries, by an incarnation to a shard.
pub record Way : Type 0 where
  pub comes_before : Wish → Wish → Bool
  pub stamp : List Entry → ℕ → ℕ → ℕ

-- The next access of an actor that begins at this place of its lane, after these entries. An actor that has ended
-- has none.
abbrev pub wanted : {F A : Type 0} → Setting F A → (Wish → Wish → Bool) → List Entry → ℕ → ℕ → Actor → Option Ask
wanted s comes_before es incarnation at actor =
    wanted_in comes_before (job_of s incarnation at actor) (part_of incarnation es)

-- the greatest stamp of the entries that pass a test, or 0
abbrev pub greatest : (Entry → Bool) → List Entry → ℕ
greatest test [] = 0
greatest test (e ∷ es) = if test e then max e.stamp (greatest test es) else greatest test es

-- the entry is one that an access of this incarnation to this shard comes after: of the shard, its own, or of an
-- earlier epoch
abbrev pub is_earlier : List Era → ℕ → ℕ → Entry → Bool
is_earlier eras incarnation shard e =
    e.shard == shard || e.incarnation == incarnation || nat_lt (era_of eras e.incarnation) (era_of eras incarnation)

-- the stamp of an access after these, by an incarnation to a shard: by the shard's clock and the actor's
abbrev pub stamp_after : List Era → List Entry → ℕ → ℕ → ℕ
stamp_after eras es incarnation shard = greatest (is_earlier eras incarnation shard) es + 1

-- the way of the written schedule
abbrev pub usual_way : List Era → Way
usual_way eras = record { comes_before = by_rounds; stamp = stamp_after eras }

-- the way of a plain store: a stamp is an access's place in the list
abbrev pub place_way : Way
place_way = record { comes_before = by_rounds; stamp = λ es incarnation shard. length es + 1 }

-- the entry that an access makes after these
abbrev pub entry_after : {F A : Type 0} → Setting F A → Way → List Entry → ℕ → Ask → Entry
entry_after s way es incarnation ask =
    let shard = key_of ask.request % s.shards in
    let stamp = way.stamp es incarnation shard in
    record {
      stamp = stamp;
      shard = shard;
      incarnation = incarnation;
      item = ask.item;
      request = ask.request;
      reply = reply_to ask.request stamp (cell_of (key_of ask.request) None es);
    }

-- the list after the access that is asked for, if one is
abbrev pub with_access : {F A : Type 0} → Setting F A → Way → List Entry → ℕ → Option Ask → List Entry
with_access s way es incarnation None = es
with_access s way es incarnation (Some ask) = es ++ entry_after s way es incarnation ask ∷ []

-- the list after one turn of an actor of an epoch, by its number there; a turn of an actor that has ended makes none
abbrev pub turn_of : {F A : Type 0} → Setting F A → Way → ℕ → (ℕ → ℕ) → List Entry → ℕ → Option Actor → List Entry
turn_of s way base places es number None = es
turn_of s way base places es number (Some actor) =
    with_access s way es (base + number) (wanted s way.comes_before es (base + number) (at_lane places actor) actor)

abbrev pub turn : {F A : Type 0} → Setting F A → Way → ℕ → (ℕ → ℕ) → Era → List Entry → ℕ → List Entry
turn s way base places era es number = turn_of s way base places es number (slice_get era.actors number)

-- the list after these turns
abbrev pub turns : {F A : Type 0} → Setting F A → Way → ℕ → (ℕ → ℕ) → Era → List ℕ → List Entry → List Entry
turns s way base places era [] es = es
turns s way base places era (number ∷ numbers) es =
    turns s way base places era numbers (turn s way base places era es number)

-- one round: each actor of the epoch, in order of their numbers
abbrev pub round : Era → List ℕ
round era = range_with_len 0 (length era.actors)

-- all actors of these have ended, of which the first is this incarnation
abbrev pub NobodyWants : {F A : Type 0} → Setting F A → (Wish → Wish → Bool) → (ℕ → ℕ) → List Entry → ℕ → List Actor →
    Type 0
NobodyWants s comes_before places es incarnation [] = Unit {0}
NobodyWants s comes_before places es incarnation (actor ∷ actors) =
    (wanted s comes_before es incarnation (at_lane places actor) actor ≡ None)
    × NobodyWants s comes_before places es (incarnation + 1) actors

-- These epochs make the list of the one with which they begin: in each the schedule's numbers go in order, and then
-- the actors go round until all have ended.
abbrev pub Makes : {F A : Type 0} → Setting F A → Way → ℕ → (ℕ → ℕ) → List Era → List Entry → List Entry → Type 0
Makes s way base places [] es m = m ≡ es
Makes s way base places (era ∷ eras) es m =
    (rounds : ℕ) × (let after = turns s way base places era (era.schedule ++ repeat rounds (round era)) es in
    NobodyWants s way.comes_before places after base era.actors
    × Makes s way (base + length era.actors) (places_after s after base places era) eras after m)

-- the entry comes before the other in the journal, by (stamp, shard)
abbrev pub stands_before : Entry → Entry → Bool
stands_before e f = below_or e.stamp f.stamp (nat_lt e.shard f.shard)

-- an entry put into a journal in order
abbrev pub put_in : Entry → List Entry → List Entry
put_in e [] = e ∷ []
put_in e (f ∷ es) = if stands_before f e then f ∷ put_in e es else e ∷ f ∷ es

-- the accesses in the journal's order
abbrev pub in_order : List Entry → List Entry
in_order [] = []
in_order (e ∷ es) = put_in e (in_order es)

-- The journal of a setting: the accesses that its schedule makes in this way, in order of (stamp, shard).
pub record IsScheduled {F A : Type 0} (s : Setting F A) (way : Way) (j : List Entry) : Type 0 where
  pub accesses : List Entry
  pub made : Makes s way 0 (λ lane. 0) s.eras [] accesses
  pub sorted : j ≡ in_order accesses
