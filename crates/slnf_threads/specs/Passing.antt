-- A run on the shared store passes from epoch to epoch.
use Rattle.std.specs.Prelude.{◌≡◌, ◌⊎◌, ℕ, zero, suc, ◌-◌, ◌^◌, ◌<◌, ◌≤◌, max, List, [], ◌∷◌, ◌++◌, length, map, drop, slice_get, Some}
use Rattle.std.specs.List.{AllByRecursion, range_with_len}
use Rattle.slnf_access.specs.declared.requests.Entry.{Entry}
use Rattle.slnf_bucket.specs.Bucket.{last_stamp}
use Rattle.slnf_turns.specs.declared.views.Joined.{Joined}
use Rattle.slnf_turns.specs.declared.views.Stage.TheVariants.{Free}
use Rattle.slnf_turns.specs.declared.views.View.{View}
use Rattle.slnf_turns.specs.Views.{after_split, after_join}
use Rattle.slnf_store.specs.Passes.{entries_of, entries_seen}
use Rattle.slnf_store.specs.Closes.{list_of}
use Rattle.slnf_run.specs.Setting.{Setting, base_of}
use Rattle.slnf_run.specs.Parts.{part_of, Post, posts_of, posts_from}
use Rattle.slnf_run.specs.Jobs.{job_of}
use Rattle.slnf_threads.specs.Parts.{AreOfEarlier}
use Rattle.slnf_threads.specs.Worked.{IsWorked, HasWorked}

-- what the root knows: the numbers that were joined before each split, and the joined passes
abbrev pub root_with : List (List ℕ) → List Joined → View
root_with before joined =
    record { number = 0; stage = Free; own = []; seen = []; told = []; before = before; joined = joined }

abbrev pub joined_number : Joined → ℕ
joined_number x = x.listed.number

-- the root after so many splits, and after these joins in order
abbrev pub after_splits : ℕ → View → View
after_splits zero root = root
after_splits (suc n) root = after_split (after_splits n root)

abbrev pub after_joins : List View → View → View
after_joins [] root = root
after_joins (v ∷ vs) root = after_joins vs (after_join root v)

-- the root's clock after joins of passes with these clocks
abbrev pub clock_after : List ℕ → ℕ → ℕ
clock_after [] clock = clock
clock_after (c ∷ clocks) clock = clock_after clocks (max clock c)

-- the parts of the incarnations before this one are the lists of their passes
abbrev pub AgreesBefore : ℕ → View → List Entry → Type 0
AgreesBefore base root es = (i : ℕ) → i < base → part_of i es ≡ list_of i root

module _ {F A : Type 0} (s : Setting F A) where
  -- The posts of the incarnations before `base` are those of whole epochs, and each actor has worked at its own up to
  -- its end. Later epochs begin where lanes have come to.
  pub record HaveWorked (number base : ℕ) (places : ℕ → ℕ) (root : View) (es : List Entry) : Type 0 where
    pub posts : List Post
    pub count : length posts ≡ base
    pub whole : posts_of s es ≡ posts ++ posts_from s es number base places (drop number s.eras)
    pub each : (i : ℕ) (post : Post) → slice_get posts i ≡ Some post →
        HasWorked (job_of s i post.at post.actor) (list_of i root)

  -- The epochs before the one with this number have passed, whose first incarnation is `base`. Lanes have come so far,
  -- and the root knows this, whatever entries come.
  pub record HavePassed (number base : ℕ) (places : ℕ → ℕ) (root : View) : Type 0 where
    pub base_is : base ≡ base_of s.eras number
    pub root_is : root ≡ root_with root.before root.joined
    pub splits : length root.before ≡ base
    pub numbers : map joined_number root.joined ≡ range_with_len 1 base
    pub split : (i : ℕ) (numbers : List ℕ) → slice_get root.before i ≡ Some numbers → AreOfEarlier s.eras i numbers
    pub worked : (es : List Entry) → AgreesBefore base root es → HaveWorked number base places root es

  -- Each actor of the incarnations before `base` has worked so far, whatever entries come.
  pub record AreAtWork (base : ℕ) (root : View) : Type 0 where
    pub numbers : map joined_number root.joined ≡ range_with_len 1 base
    pub worked : (es : List Entry) → AgreesBefore base root es → (posts later : List Post) × (length posts ≡ base)
        × (posts_of s es ≡ posts ++ later)
        × ((i : ℕ) (post : Post) → slice_get posts i ≡ Some post →
        IsWorked (job_of s i post.at post.actor) [] (list_of i root))

-- the clock is one of the root's passes or of none: no greater than each bound of the stamps in their lists
abbrev pub IsClockOf : View → ℕ → Type 0
IsClockOf root clock =
    (bound : ℕ) →
    AllByRecursion (λ (x : Joined). AllByRecursion (λ (e : Entry). e.stamp ≤ bound) (entries_of x.listed.lines))
    root.joined → clock ≤ bound

-- a late stamp is the root's clock, or the last that a joined pass saw in one of so many shards
abbrev pub HasLateStamp : ℕ → View → ℕ → Type 0
HasLateStamp shards root clock =
    (2 ^ 62 - 32 ≤ clock)
    ⊎ ((number : ℕ) × (x : Joined) × (slice_get root.joined number ≡ Some x) × (shard : ℕ) × (shard < shards)
    × (2 ^ 62 - 32 ≤ last_stamp 0 (entries_seen x.seen shard)))
