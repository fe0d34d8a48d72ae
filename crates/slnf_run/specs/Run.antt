-- A list of entries is a run of a setting: the six rules.
use Rattle.std.specs.Prelude.{◌≡◌, ◌⊎◌, ℕ, ◌<◌, ◌≤◌, IsTrue, Some, None, List, [], ◌∷◌, ◌++◌, length, slice_get}
use Rattle.std.specs.List.{AllByRecursion}
use Rattle.slnf_access.specs.declared.requests.Entry.{Entry}
use Rattle.slnf_access.specs.Map.{IsLegal}
use Rattle.slnf_access.specs.Order.{InOrder, IsInShard}
use Rattle.slnf_access.specs.Machines.{IsPath, HasEnded}
use Rattle.slnf_run.specs.Setting.{Actor, Setting, era_of}
use Rattle.slnf_run.specs.Scene.{stand_of}
use Rattle.slnf_run.specs.Parts.{part_of, of_item, Offer, batch_of, is_stopped, Post, posts_of, offers_at}

-- each of these offers has ended after these entries
abbrev pub AllEnded : {F A : Type 0} → Setting F A → ℕ → List Entry → List Offer → Type 0
AllEnded s incarnation es [] = Unit {0}
AllEnded s incarnation es (offer ∷ offers) = HasEnded (stand_of s.scene incarnation offer.item es)
    × AllEnded s incarnation es offers

-- the actor's part is shorter than its stop, if it has one
abbrev pub IsBelowStop : Actor → List Entry → Type 0
IsBelowStop actor part = elim (actor.stop) [ None ↦ Unit {0} | Some stop ↦ length part < stop ]

-- an actor has done its work: it is stopped, or it is below its stop and each of its items has a whole path
abbrev pub IsDone : {F A : Type 0} → Setting F A → List Entry → ℕ → Post → Type 0
IsDone s es incarnation post =
    IsTrue (is_stopped post.actor (part_of incarnation es))
    ⊎ (IsBelowStop post.actor (part_of incarnation es) × AllEnded s incarnation es (offers_at s incarnation post))

-- the item is one of these offers
abbrev pub IsOffered : ℕ → List Offer → Type 0
IsOffered item [] = ⊥
IsOffered item (offer ∷ offers) = (offer.item ≡ item) ⊎ IsOffered item offers

-- each offer of a batch before this one has ended after these entries
abbrev pub EarlierEnded : {F A : Type 0} → Setting F A → ℕ → List Entry → ℕ → List Offer → Type 0
EarlierEnded s incarnation es batch [] = Unit {0}
EarlierEnded s incarnation es batch (offer ∷ offers) =
    (offer.batch < batch → HasEnded (stand_of s.scene incarnation offer.item es))
    × EarlierEnded s incarnation es batch offers

pub record IsRun {F A : Type 0} (s : Setting F A) (j : List Entry) : Type 0 where
  -- 1. The entries are in strict order of (stamp, shard), with stamps from 1 to 2^62 - 1 in the shards of their keys,
  -- and each reply is the map's.
  pub in_order : InOrder j
  pub in_shards : AllByRecursion (IsInShard s.shards) j
  pub legal : IsLegal j
  -- 2. Each entry is of an actor, and the entries of each actor and item are a path of its machine.
  pub of_actors : AllByRecursion (λ e. e.incarnation < length (posts_of s j)) j
  pub paths : (incarnation item : ℕ) → IsPath (s.scene.machine incarnation) (s.scene.begins incarnation item)
      (of_item item (part_of incarnation j))
  -- 3. Each actor is stopped, or is below its stop and has whole paths of all its items.
  pub done : (incarnation : ℕ) (post : Post) → slice_get (posts_of s j) incarnation ≡ Some post →
      IsDone s j incarnation post
  -- 4. All entries of an epoch stand before those of a later one.
  pub by_epoch : (before middle later : List Entry) (e f : Entry) → j ≡ before ++ e ∷ (middle ++ f ∷ later) →
      era_of s.eras e.incarnation ≤ era_of s.eras f.incarnation
  -- 5 and 6. An actor's items are those that it is offered, packets of its batches or a sweep's ports, and an entry
  -- of a batch stands only after whole paths of all items of the batches before. A sweep's ports are a batch each.
  pub offered : (incarnation : ℕ) (post : Post) → slice_get (posts_of s j) incarnation ≡ Some post →
      AllByRecursion (λ e. IsOffered e.item (offers_at s incarnation post)) (part_of incarnation j)
  pub by_batch : (before later : List Entry) (e : Entry) (post : Post) → j ≡ before ++ e ∷ later →
      slice_get (posts_of s j) e.incarnation ≡ Some post →
      EarlierEnded s e.incarnation before (batch_of e.item (offers_at s e.incarnation post))
      (offers_at s e.incarnation post)
