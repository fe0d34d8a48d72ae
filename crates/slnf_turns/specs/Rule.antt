-- The rule of the table, which holds between any two steps.
use Rattle.std.specs.Prelude.{◌≡◌, ◌≢◌, ℕ, suc, ◌+◌, ◌*◌, ◌%◌, ◌^◌, ◌<◌, ◌≤◌, ◌==◌, if◌then◌else◌, List, [], ◌∷◌, length, slice_index, Option, Some}
use Rattle.std.specs.List.{AllByRecursion}
use mathlib.Core.Option.{none, some}
use lib.ListN.{get_elem?}
use Rattle.atomic_table.specs.Table.{State}
use Rattle.slnf_turns.specs.declared.views.Line.{Line}
use Rattle.slnf_turns.specs.declared.views.Noted.{Noted}
use Rattle.slnf_turns.specs.declared.views.Joined.{Joined}
use Rattle.slnf_turns.specs.declared.views.View.{View}
use Rattle.slnf_turns.specs.declared.views.Stage.{Stage}
use Rattle.slnf_turns.specs.declared.views.Stage.TheVariants.{Free, Waits, Turn, Open, Spent}
use Rattle.slnf_turns.specs.Views.{Begins, lines_of, AllOf, part_of, seen_of, kept_of, WasTold}

-- What the rule knows beside the table.
pub record Account : Type 0 where
  -- the tickets of each shard that were drawn, and those that were served
  pub drawn : ℕ → ℕ
  pub served : ℕ → ℕ
  -- 0, or one more than the number of the pass that has the shard open
  pub holder : ℕ → ℕ
  pub published : ℕ → List Line
  -- each number's list of lines
  pub list_of : ℕ → List Noted
  -- what the root keeps of the splits and of the joins
  pub before : List (List ℕ)
  pub joined : List Joined

-- 1 where a pass at this stage has a ticket of the shard, else 0
abbrev pub queues_at : ℕ → Stage → ℕ
queues_at k Free = 0
queues_at k (Waits j t) = if j == k then 1 else 0
queues_at k (Turn j t) = if j == k then 1 else 0
queues_at k (Open j t base more) = if j == k then 1 else 0
queues_at k Spent = 0

abbrev pub queues : ℕ → View → ℕ
queues k v = queues_at k v.stage

-- 1 before the join, 0 after it
abbrev pub living_at : Stage → ℕ
living_at Spent = 0
living_at Free = 1
living_at (Waits k t) = 1
living_at (Turn k t) = 1
living_at (Open k t base more) = 1

abbrev pub living : View → ℕ
living v = living_at v.stage

-- f of each view, added up
abbrev pub total : (View → ℕ) → List View → ℕ
total f [] = 0
total f (v ∷ vs) = f v + total f vs

-- the pass has this ticket of this shard
abbrev pub HasTicket : ℕ → ℕ → Stage → Type 0
HasTicket k t Free = ⊥
HasTicket k t (Waits j u) = (j ≡ k) × (u ≡ t)
HasTicket k t (Turn j u) = (j ≡ k) × (u ≡ t)
HasTicket k t (Open j u base more) = (j ≡ k) × (u ≡ t)
HasTicket k t Spent = ⊥

-- some pass has this ticket of this shard
abbrev pub IsOwned : List View → ℕ → ℕ → Type 0
IsOwned views k t = (j : ℕ) × (v : View) × (get_elem? views j ≡ some v) × HasTicket k t v.stage

-- the pass has this shard open
abbrev pub IsOpenAt : ℕ → Stage → Type 0
IsOpenAt k Free = ⊥
IsOpenAt k (Waits j t) = ⊥
IsOpenAt k (Turn j t) = ⊥
IsOpenAt k (Open j t base more) = j ≡ k
IsOpenAt k Spent = ⊥

module _ (a : Account) (n : ℕ) where
  -- the ticket was drawn, and isn't served yet
  abbrev pub IsQueued : ℕ → ℕ → Type 0
  IsQueued k t = (k < n) × (a.served k ≤ t) × (t < a.drawn k)

  -- what holds of the pass j at a stage: it has its turn only where its ticket is the one being served
  abbrev pub Knows : ℕ → Stage → Type 0
  Knows j Free = Unit {0}
  Knows j (Waits k t) = IsQueued k t
  Knows j (Turn k t) = IsQueued k t × (t ≡ a.served k)
  Knows j (Open k t base more) = IsQueued k t × (t ≡ a.served k) × (a.holder k ≡ suc j) × (base ≡ a.published k) × AllOf j more
  Knows j Spent = Unit {0}

module _ {B : Type 0} (lines : B → List Line) (place places : B → ℕ) where
  -- the words, the tickets and the slots
  pub record AreQueued (a : Account) (s : State (Option B) View) : Type 0 where
    -- the words count modulo 2 ^ 64
    pub wide : length s.words ≡ 32 * length s.homes
    pub tickets : (k : ℕ) → k < length s.homes → slice_index s.words (32 * k) ≡ a.drawn k % 2 ^ 64
    pub serving : (k : ℕ) → k < length s.homes → slice_index s.words (32 * k + 1) ≡ a.served k % 2 ^ 64
    -- as many tickets are out as passes have one
    pub queued : (k : ℕ) → k < length s.homes → a.drawn k ≡ a.served k + total (queues k) s.views
    -- so few passes that words which count modulo 2 ^ 64 tell their tickets apart
    pub few : length s.views < 2 ^ 32
    pub stages : (j : ℕ) (v : View) → get_elem? s.views j ≡ some v → Knows a (length s.homes) j v.stage
    -- each ticket that is out is some pass's, and no two passes have one
    pub owned : (k t : ℕ) → k < length s.homes → a.served k ≤ t → t < a.drawn k → IsOwned s.views k t
    pub apart : (i j k t : ℕ) (v w : View) → get_elem? s.views i ≡ some v
        → get_elem? s.views j ≡ some w → HasTicket k t v.stage → HasTicket k t w.stage → i ≡ j
    -- a shard that nobody has open is at home, with the published lines
    pub home : (k : ℕ) → k < length s.homes → a.holder k ≡ 0 → (b : B) × (get_elem? s.homes k ≡ some (some (Some b)))
        × (place b ≡ k) × (places b ≡ length s.homes) × (lines b ≡ a.published k)
    -- one that some pass has open isn't
    pub out : (k j : ℕ) → k < length s.homes → a.holder k ≡ suc j
        → (get_elem? s.homes k ≡ some none) × (v : View) × (get_elem? s.views j ≡ some v) × IsOpenAt k v.stage

-- the lines: each number's lines in a shard are that shard's part of its own list, and a number not given has none
pub record AreListed (a : Account) (n : ℕ) (views : List View) : Type 0 where
  pub parts : (k i : ℕ) → k < n → lines_of i (a.published k) ≡ part_of k (a.list_of i)
  pub fresh : (i : ℕ) → length views ≤ i → a.list_of i ≡ []
  -- a pass's number is the place of its view, and its own list is its number's
  pub numbers : (j : ℕ) (v : View) → get_elem? views j ≡ some v → living v ≡ 1 → v.number ≡ j
  pub own : (j : ℕ) (v : View) → get_elem? views j ≡ some v → living v ≡ 1 → v.own ≡ a.list_of j
  -- what a pass saw of a shard is a prefix of the published lines
  pub seen : (j k : ℕ) (v : View) → get_elem? views j ≡ some v → living v ≡ 1 → k < n → Begins (seen_of k v.seen) (a.published k)

-- what the root keeps of a joined pass, whose view is spent
pub record IsKept (a : Account) (n : ℕ) (views : List View) (x : Joined) : Type 0 where
  pub spent : (v : View) → get_elem? views x.listed.number ≡ some v → living v ≡ 0
  pub within : x.listed.number < length views
  pub list : x.listed.lines ≡ a.list_of x.listed.number
  pub seen : (k : ℕ) → k < n → Begins (seen_of k x.seen) (a.published k)
  pub told : WasTold a.before a.joined x.listed.number x.told

-- the splits and the joins
pub record AreKin (a : Account) (n : ℕ) (views : List View) : Type 0 where
  pub root : (v : View) → get_elem? views 0 ≡ some v → (living v ≡ 1) × (v.before ≡ a.before) × (v.joined ≡ a.joined)
  -- each split made one view more, and each join spent one
  pub counted : length views ≡ length a.before + 1
  pub living_ones : total living views + length a.joined ≡ length views
  pub kept : AllByRecursion (IsKept a n views) a.joined
  pub lists : (j : ℕ) (v : View) → get_elem? views j ≡ some v → living v ≡ 0 → kept_of j a.joined ≡ a.list_of j
  pub told : (j : ℕ) (v : View) → get_elem? views j ≡ some v → living v ≡ 1 → j ≢ 0 → WasTold a.before a.joined j v.told

module _ {B : Type 0} (lines : B → List Line) (place places : B → ℕ) where
  pub record Rule (s : State (Option B) View) : Type 0 where
    pub account : Account
    pub queue : AreQueued lines place places account s
    pub tale : AreListed account (length s.homes) s.views
    pub kin : AreKin account (length s.homes) s.views
