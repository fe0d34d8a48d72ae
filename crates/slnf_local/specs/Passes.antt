-- One pass over a list of entries, and the whole answer by rules 2 to 5.
use Rattle.std.specs.Prelude.{ℕ, zero, suc, ◌+◌, ◌-◌, Bool, false, nat_lt, if◌then◌else◌, Option, Some, None, List, [], ◌∷◌, length, slice_get}
use Rattle.slnf_access.specs.declared.requests.Entry.{Entry}
use Rattle.slnf_access.specs.Machines.{Machine, Stand, Flies, Ends}
use Rattle.slnf_run.specs.Setting.{Actor, Era, Setting}
use Rattle.slnf_run.specs.Jobs.{is_stop}
use Rattle.slnf_local.specs.declared.broken.Broken.{Broken}
use Rattle.slnf_local.specs.declared.broken.Broken.TheVariants.{Order, Reply, Unexpected, Unended}
use Rattle.slnf_local.specs.Hands.{Hand, stand_in, hand_is_over}
use Rattle.slnf_local.specs.Followers.{Follower, actors_at, all_over, first_epoch, next_epoch, with_hand, hand_next}
use Rattle.slnf_local.specs.Tests.{same_request, is_orderly, is_true_reply, first_failing}

-- the entry's request is the one that is asked where the item stands so
abbrev pub asks_at : {F : Type 0} → Machine F → Stand F → Entry → Bool
asks_at machine (Flies flight) e = same_request e.request (machine.asks flight)
asks_at machine (Ends verdict) e = false

abbrev pub asks_in : {F : Type 0} → Machine F → Option (Stand F) → Entry → Bool
asks_in machine None e = false
asks_in machine (Some stand) e = asks_at machine stand e

-- the entry is expected of the actor with this hand
abbrev pub hand_allows : {F : Type 0} → Machine F → Actor → Hand F → Entry → Bool
hand_allows machine actor hand e =
    if is_stop actor.stop hand.made then false else asks_in machine (stand_in e.item hand.items) e

-- the epochs from this number on
abbrev pub eras_from : ℕ → List Era → List Era
eras_from zero eras = eras
eras_from (suc number) [] = []
eras_from (suc number) (era ∷ eras) = eras_from number eras

-- The state with the epoch of an incarnation in hand, where these epochs are to come, the first of which is in hand: it
-- goes on while all actors in hand have ended. None where no entry of the incarnation is expected.
abbrev pub advance : {F A : Type 0} → Setting F A → List Era → Follower F → ℕ → Option (Follower F)
advance s [] f incarnation = None
advance s (era ∷ eras) f incarnation =
    if nat_lt incarnation (f.base + length era.actors)
    then if nat_lt incarnation f.base then None else Some f
    else if all_over era.actors f.hands then advance s eras (next_epoch s f) incarnation else None

-- the state after an entry of the k-th actor in hand, if it is expected
abbrev pub accept_hand : {F A : Type 0} → Setting F A → Follower F → Entry → ℕ → Option Actor → Option (Hand F) →
    Option (Follower F)
accept_hand s f e k None hand = None
accept_hand s f e k (Some actor) None = None
accept_hand s f e k (Some actor) (Some hand) =
    if hand_allows (s.scene.machine e.incarnation) actor hand e
    then Some (with_hand f k (hand_next s f actor hand e))
    else None

abbrev pub accept_in : {F A : Type 0} → Setting F A → Entry → Option (Follower F) → Option (Follower F)
accept_in s e None = None
accept_in s e (Some f) =
    accept_hand s f e (e.incarnation - f.base) (slice_get (actors_at s.eras f.number) (e.incarnation - f.base))
    (slice_get f.hands (e.incarnation - f.base))

-- the state after an entry, if it is expected
abbrev pub accept : {F A : Type 0} → Setting F A → Follower F → Entry → Option (Follower F)
accept s f e = accept_in s e (advance s (eras_from f.number s.eras) f e.incarnation)

-- What a pass comes to: the place of the first entry that isn't expected, or the state after all.
pub data Walk (F : Type 0) : Type 0 where
  Stuck : ℕ → Walk F
  Reached : Follower F → Walk F

-- what a pass comes to that is stuck at this place, unless there is a state after it
abbrev pub or_stuck : {F : Type 0} → ℕ → (Follower F → Walk F) → Option (Follower F) → Walk F
or_stuck place go None = Stuck place
or_stuck place go (Some f) = go f

-- the pass from here on, where the next entry has this place
abbrev pub walk : {F A : Type 0} → Setting F A → ℕ → List Entry → Follower F → Walk F
walk s place [] f = Reached f
walk s place (e ∷ tail) f = or_stuck place (walk s (place + 1) tail) (accept s f e)

-- the first of these actors that hasn't ended, of which the first is this incarnation
abbrev pub first_open : {F : Type 0} → ℕ → List Actor → List (Hand F) → Option ℕ
first_open incarnation [] hands = None
first_open incarnation (actor ∷ actors) [] = Some incarnation
first_open incarnation (actor ∷ actors) (hand ∷ hands) =
    if hand_is_over actor hand then first_open (incarnation + 1) actors hands else Some incarnation

abbrev pub or_else : Option ℕ → Option ℕ → Option ℕ
or_else None other = other
or_else (Some n) other = Some n

-- the first actor of these epochs that hasn't ended, the first of which is in hand
abbrev pub finish : {F A : Type 0} → Setting F A → List Era → Follower F → Option ℕ
finish s [] f = None
finish s (era ∷ eras) f = or_else (first_open f.base era.actors f.hands) (finish s eras (next_epoch s f))

-- the answer by rule 5
abbrev pub unended : Option ℕ → Option Broken
unended None = None
unended (Some incarnation) = Some (Unended incarnation)

-- the answer by rules 4 and 5, by what the pass comes to
abbrev pub lapse_at : {F A : Type 0} → Setting F A → Walk F → Option Broken
lapse_at s (Stuck place) = Some (Unexpected place)
lapse_at s (Reached f) = unended (finish s (eras_from f.number s.eras) f)

abbrev pub lapse : {F A : Type 0} → Setting F A → List Entry → Option Broken
lapse s j = lapse_at s (walk s 1 j (first_epoch s))

-- the answer by rules 3, 4 and 5, by the first reply that isn't the map's
abbrev pub replied : {F A : Type 0} → Setting F A → List Entry → Option ℕ → Option Broken
replied s j None = lapse s j
replied s j (Some place) = Some (Reply place)

-- and by the first entry that isn't in order
abbrev pub ordered : {F A : Type 0} → Setting F A → List Entry → Option ℕ → Option Broken
ordered s j None = replied s j (first_failing is_true_reply 1 [] j)
ordered s j (Some place) = Some (Order place)

-- The first rule that the list breaks, and where: rules 2 to 5 in order, each over the whole list before the next.
abbrev pub first_broken : {F A : Type 0} → Setting F A → List Entry → Option Broken
first_broken s j = ordered s j (first_failing (is_orderly s.shards) 1 [] j)
