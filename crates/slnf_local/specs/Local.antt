-- The local form of a run: what may come next after a list of entries, by these entries alone.
use Rattle.std.specs.Prelude.{◌≡◌, ◌⊎◌, ℕ, ◌<◌, false, IsTrue, Some, List, [], slice_get}
use Rattle.std.specs.List.{AllByRecursion}
use Rattle.slnf_access.specs.declared.requests.Entry.{Entry}
use Rattle.slnf_access.specs.Map.{IsLegal}
use Rattle.slnf_access.specs.Order.{InOrder, IsInShard}
use Rattle.slnf_access.specs.Machines.{IsAsked}
use Rattle.slnf_run.specs.Setting.{Setting, era_of}
use Rattle.slnf_run.specs.Scene.{stand_of}
use Rattle.slnf_run.specs.Parts.{part_of, batch_of, is_stopped, Post, posts_of, offers_at}
use Rattle.slnf_run.specs.Run.{AllEnded, IsOffered, EarlierEnded}
use Rattle.slnf_run.specs.Made.{Grown}

-- an actor has ended: it is stopped, or each item that it is offered has ended
abbrev pub IsOver : {F A : Type 0} → Setting F A → List Entry → ℕ → Post → Type 0
IsOver s es incarnation post =
    IsTrue (is_stopped post.actor (part_of incarnation es)) ⊎ AllEnded s incarnation es (offers_at s incarnation post)

-- all actors have ended
abbrev pub EachOver : {F A : Type 0} → Setting F A → List Entry → Type 0
EachOver s es = (incarnation : ℕ) (post : Post) → slice_get (posts_of s es) incarnation ≡ Some post →
    IsOver s es incarnation post

-- all actors of epochs before this one have ended
abbrev pub AllOver : {F A : Type 0} → Setting F A → List Entry → ℕ → Type 0
AllOver s es era = (incarnation : ℕ) (post : Post) → slice_get (posts_of s es) incarnation ≡ Some post →
    era_of s.eras incarnation < era → IsOver s es incarnation post

-- The entry is expected after these: all that it asks speaks of these entries alone, also the actor's post.
pub record IsExpected {F A : Type 0} (s : Setting F A) (es : List Entry) (e : Entry) : Type 0 where
  -- its incarnation is an actor, which isn't stopped; all actors of earlier epochs have ended
  pub post : Post
  pub posted : slice_get (posts_of s es) e.incarnation ≡ Some post
  pub running : is_stopped post.actor (part_of e.incarnation es) ≡ false
  pub earlier_over : AllOver s es (era_of s.eras e.incarnation)
  -- its item is one of the batch in hand that hasn't ended: it is offered, all items of earlier batches have ended,
  -- and it asks for this request
  pub offered : IsOffered e.item (offers_at s e.incarnation post)
  pub in_hand : EarlierEnded s e.incarnation es (batch_of e.item (offers_at s e.incarnation post))
      (offers_at s e.incarnation post)
  pub asked : IsAsked (s.scene.machine e.incarnation) (stand_of s.scene e.incarnation e.item es) e

-- The list is a run, entry by entry.
pub record IsLocalRun {F A : Type 0} (s : Setting F A) (j : List Entry) : Type 0 where
  pub in_order : InOrder j
  pub in_shards : AllByRecursion (IsInShard s.shards) j
  pub legal : IsLegal j
  -- each entry is expected after those before it, and in the end every actor has ended
  pub expected : Grown (IsExpected s) [] j
  pub over : EachOver s j
