-- What an answer about a list of entries tells: that it is a run, or which rule it breaks first, and where.
use Rattle.std.specs.Prelude.{◌≡◌, ℕ, ◌<◌, Option, Some, None, List, [], slice_get}
use Rattle.slnf_access.specs.declared.requests.Entry.{Entry}
use Rattle.slnf_access.specs.Map.{IsLegal}
use Rattle.slnf_run.specs.Setting.{Setting}
use Rattle.slnf_run.specs.Parts.{Post, posts_of}
use Rattle.slnf_run.specs.Run.{IsRun}
use Rattle.slnf_run.specs.Made.{Grown}
use Rattle.slnf_local.specs.declared.broken.Broken.{Broken}
use Rattle.slnf_local.specs.declared.broken.Broken.TheVariants.{Order, Reply, Unexpected, Unended}
use Rattle.slnf_local.specs.Local.{IsOver, EachOver, IsExpected}
use Rattle.slnf_local.specs.Rules.{IsOrderly, IsTrueReply, IsOrdered, BreaksAt}

-- The incarnation is the first that hasn't ended.
pub record IsFirstOpen {F A : Type 0} (s : Setting F A) (j : List Entry) (incarnation : ℕ) : Type 0 where
  pub post : Post
  pub posted : slice_get (posts_of s j) incarnation ≡ Some post
  pub opening : IsOver s j incarnation post → ⊥
  pub before : (i : ℕ) (p : Post) → i < incarnation → slice_get (posts_of s j) i ≡ Some p → IsOver s j i p

-- all actors have ended, or this incarnation is the first that hasn't
abbrev pub Ends : {F A : Type 0} → Setting F A → List Entry → Option ℕ → Type 0
Ends s j None = EachOver s j
Ends s j (Some incarnation) = IsFirstOpen s j incarnation

-- what an answer by rules 4 and 5 tells
abbrev pub Lapses : {F A : Type 0} → Setting F A → List Entry → Option Broken → Type 0
Lapses s j None = Grown (IsExpected s) [] j × EachOver s j
Lapses s j (Some (Order place)) = ⊥
Lapses s j (Some (Reply place)) = ⊥
Lapses s j (Some (Unexpected place)) = BreaksAt (IsExpected s) j place
Lapses s j (Some (Unended incarnation)) = Grown (IsExpected s) [] j × IsFirstOpen s j incarnation

-- What an answer by rules 2 to 5 tells: the rules go in order, each over the whole list before the next, and the first
-- that is broken is named with its least place.
abbrev pub Tells : {F A : Type 0} → Setting F A → List Entry → Option Broken → Type 0
Tells s j None = IsRun s j
Tells s j (Some (Order place)) = BreaksAt (IsOrderly s.shards) j place
Tells s j (Some (Reply place)) = IsOrdered s.shards j × BreaksAt IsTrueReply j place
Tells s j (Some (Unexpected place)) = IsOrdered s.shards j × IsLegal j × BreaksAt (IsExpected s) j place
Tells s j (Some (Unended incarnation)) =
    IsOrdered s.shards j × IsLegal j × Grown (IsExpected s) [] j × IsFirstOpen s j incarnation
