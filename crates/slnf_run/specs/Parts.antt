-- The parts of a list of entries: what each incarnation made, which packets it was offered in which batch, and
-- which of these it took.
use Rattle.std.specs.Prelude.{ℕ, ◌+◌, Bool, ◌==◌, if◌then◌else◌, Some, None, List, [], ◌∷◌, ◌++◌, length, map, filter}
use Rattle.slnf_access.specs.declared.requests.Entry.{Entry}
use Rattle.slnf_run.specs.Setting.{Actor, Era, Setting, is_on}
use Rattle.slnf_run.specs.Jobs.{offers_in, is_stop, taken_from, taken_in, job_of}
pub use Rattle.slnf_run.specs.Jobs.{of_item, first_key_of, Offer, is_among, with_key, batched, within_quota, batch_of, last_of, offers_until}

-- the entries of an incarnation, in order
abbrev pub part_of : ℕ → List Entry → List Entry
part_of incarnation es = filter (λ e. e.incarnation == incarnation) es

-- each of these items in a batch of its own, from this number on
abbrev pub one_by_one : ℕ → List ℕ → List Offer
one_by_one number [] = []
one_by_one number (item ∷ items) = record { item = item; batch = number } ∷ one_by_one (number + 1) items

-- What an actor is offered that begins at this place of its lane: an instance its lane's packets from there on
-- within its quota, in batches, and a sweep each port in a batch of its own.
abbrev pub offers_of : {F A : Type 0} → Setting F A → ℕ → ℕ → Actor → List Offer
offers_of s incarnation at actor = offers_in (job_of s incarnation at actor)

-- the actor has a stop, and its part has exactly that many entries
abbrev pub is_stopped : Actor → List Entry → Bool
is_stopped actor part = is_stop actor.stop (length part)

-- what an actor took of its offers
abbrev pub taken_of : Actor → List Entry → List Offer → List Offer
taken_of actor part offers = taken_from actor.stop part offers

-- An actor's post: its epoch, and the place in its lane from which on it takes packets.
pub record Post : Type 0 where
  pub actor : Actor
  pub era : ℕ
  pub at : ℕ

-- the place in its lane at which an actor begins, where each lane has come so far
abbrev pub at_lane : (ℕ → ℕ) → Actor → ℕ
at_lane places actor = elim (actor.lane) [ None ↦ 0 | Some lane ↦ places lane ]

-- how many packets of a lane these actors took, the first of which is this incarnation
abbrev pub taken_on : {F A : Type 0} → Setting F A → List Entry → ℕ → (ℕ → ℕ) → ℕ → List Actor → ℕ
taken_on s es incarnation places lane [] = 0
taken_on s es incarnation places lane (actor ∷ actors) =
    (if is_on lane actor then length (taken_of actor (part_of incarnation es)
    (offers_of s incarnation (at_lane places actor) actor)) else 0)
    + taken_on s es (incarnation + 1) places lane actors

-- how far each lane has come after an epoch whose first incarnation is this
abbrev pub places_after : {F A : Type 0} → Setting F A → List Entry → ℕ → (ℕ → ℕ) → Era → ℕ → ℕ
places_after s es base places era = λ lane. places lane + taken_on s es base places lane era.actors

-- the posts of these epochs
abbrev pub posts_from : {F A : Type 0} → Setting F A → List Entry → ℕ → ℕ → (ℕ → ℕ) → List Era → List Post
posts_from s es number base places [] = []
posts_from s es number base places (era ∷ eras) =
    map (λ actor. record { actor = actor; era = number; at = at_lane places actor }) era.actors
    ++ posts_from s es (number + 1) (base + length era.actors) (places_after s es base places era) eras

-- The posts of all incarnations, in order. An actor begins in its lane where earlier epochs left off.
abbrev pub posts_of : {F A : Type 0} → Setting F A → List Entry → List Post
posts_of s es = posts_from s es 0 0 (λ lane. 0) s.eras

-- what an incarnation is offered at its post
abbrev pub offers_at : {F A : Type 0} → Setting F A → ℕ → Post → List Offer
offers_at s incarnation post = offers_of s incarnation post.at post.actor

-- what an incarnation took at its post
abbrev pub taken_at : {F A : Type 0} → Setting F A → List Entry → ℕ → Post → List Offer
taken_at s es incarnation post = taken_in (job_of s incarnation post.at post.actor) (part_of incarnation es)
