-- One ordinary box explains a run: the list that its packets make, and each verdict that is written.
use Rattle.std.specs.Prelude.{◌≡◌, ◌↔◌, ◌⊎◌, ℕ, ◌+◌, ◌-◌, ◌<◌, ◌≤◌, IsTrue, Option, Some, None, List, [], ◌∷◌, ◌++◌, length, slice_get, slice_index}
use Rattle.slnf_base.specs.declared.packets.Reason.{Reason}
use Rattle.slnf_base.specs.declared.packets.Verdict.{Verdict}
use Rattle.slnf_base.specs.declared.packets.Verdict.TheVariants.{Emit, Dropped, Lost, Left}
use Rattle.slnf_access.specs.declared.requests.Entry.{Entry}
use Rattle.slnf_access.specs.Map.{CanReply, Cells}
use Rattle.slnf_access.specs.Machines.{Machine, Stand, Flies, Ends, stand_after, IsPath, decided_at, HasEnded}
use Rattle.slnf_run.specs.Scene.{Scene}
use Rattle.slnf_run.specs.Visits.{Decision, decision_at, Visit, visits_of}
use Rattle.slnf_run.specs.Boxes.{Box, content_through, content_after, IsExplained}
use Rattle.slnf_run.specs.Steady.{IsSteady}
use Rattle.slnf_run.specs.Setting.{Actor, Era, Setting, is_on, actors_of}
use Rattle.slnf_run.specs.Parts.{first_key_of, places_after, Post, posts_of, offers_at, batch_of, last_of, is_stopped, part_of}
use Rattle.slnf_run.specs.Run.{IsOffered}
use Rattle.slnf_run.specs.Verdicts.{stand_by, takes, verdict_of, verdicts_of, left_in}
use Rattle.std.specs.List.{AllByRecursion}

-- no lane stands twice among these actors
abbrev pub HasLanesOnce : List Actor → Type 0
HasLanesOnce actors = (lane i k : ℕ) (a b : Actor) → slice_get actors i ≡ Some a → slice_get actors k ≡ Some b →
    IsTrue (is_on lane a) → IsTrue (is_on lane b) → i ≡ k

-- a verdict that a packet can end with
abbrev pub IsAnswer : Verdict → Type 0
IsAnswer (Emit change) = Unit {0}
IsAnswer (Dropped reason) = Unit {0}
IsAnswer Lost = ⊥
IsAnswer Left = ⊥

-- where a packet has ended, it has been emitted or dropped
abbrev pub EndsWell : {F : Type 0} → Stand F → Type 0
EndsWell (Flies flight) = Unit {0}
EndsWell (Ends None) = ⊥
EndsWell (Ends (Some verdict)) = IsAnswer verdict

-- an item that begins so can make these accesses: a path of its machine, with replies that a store can give
abbrev pub CanMake : {F : Type 0} → Machine F → Stand F → List Entry → Type 0
CanMake machine stand own = IsPath machine stand own × AllByRecursion (λ e. CanReply e.request e.reply) own

-- What a setting owes, so that one box can explain its runs.
pub record IsSound {F A : Type 0} (s : Setting F A) : Type 0 where
  -- A machine keeps what it has decided, and has decided nothing at first.
  pub steady : (incarnation : ℕ) → IsSteady (s.scene.machine incarnation)
  pub undecided : (incarnation item : ℕ) (first : F) → s.scene.begins incarnation item ≡ Flies first →
      (s.scene.machine incarnation).decided first ≡ None
  -- A packet of an instance's lane is emitted or dropped, however it ends.
  pub ends_well : (incarnation lane item : ℕ) (actor : Actor) (own : List Entry) →
      slice_get (actors_of s.eras) incarnation ≡ Some actor → IsTrue (is_on lane actor) →
      item < slice_index s.lanes lane → CanMake (s.scene.machine incarnation) (s.scene.begins incarnation item) own →
      EndsWell (stand_after (s.scene.machine incarnation) (s.scene.begins incarnation item) own)
  -- One that ends at once is dropped.
  pub begins_dropped : (incarnation lane item : ℕ) (actor : Actor) (verdict : Verdict) →
      slice_get (actors_of s.eras) incarnation ≡ Some actor → IsTrue (is_on lane actor) →
      item < slice_index s.lanes lane → s.scene.begins incarnation item ≡ Ends (Some verdict) → (reason : Reason)
      × (verdict ≡ Dropped reason)
  -- A sweep's ports come to no verdict.
  pub sweeps : (incarnation item : ℕ) (actor : Actor) (own : List Entry) → slice_get (actors_of s.eras) incarnation
      ≡ Some actor → actor.lane ≡ None → CanMake (s.scene.machine incarnation) (s.scene.begins incarnation item) own →
      decided_at (s.scene.machine incarnation) (stand_after (s.scene.machine incarnation)
      (s.scene.begins incarnation item) own) ≡ None
  -- No epoch has two actors on one lane.
  pub lanes_once : (number : ℕ) (era : Era) → slice_get s.eras number ≡ Some era → HasLanesOnce era.actors

-- the incarnation is on the lane
abbrev pub IsOn : {F A : Type 0} → Setting F A → List Entry → ℕ → ℕ → Type 0
IsOn s es lane incarnation = (post : Post) × (slice_get (posts_of s es) incarnation ≡ Some post)
    × IsTrue (is_on lane post.actor)

-- the incarnation took the packet of the lane
abbrev pub Took : {F A : Type 0} → Setting F A → List Entry → ℕ → ℕ → ℕ → Type 0
Took s es lane number incarnation = (post : Post) × (slice_get (posts_of s es) incarnation ≡ Some post)
    × IsTrue (takes s es incarnation post lane number)

-- no incarnation took it
abbrev pub NobodyTook : {F A : Type 0} → Setting F A → List Entry → ℕ → ℕ → Type 0
NobodyTook s es lane number = (incarnation : ℕ) → Took s es lane number incarnation → ⊥

-- The incarnation's item has come to this verdict by the entries that count.
pub record HasCome {F A : Type 0} (s : Setting F A) (es : List Entry) (incarnation item : ℕ)
    (verdict : Verdict) : Type 0 where
  pub post : Post
  pub posted : slice_get (posts_of s es) incarnation ≡ Some post
  pub comes : stand_by s es incarnation post item ≡ Ends (Some verdict)

-- The incarnation was stopped, with the item in hand and under way: it has made exactly as many accesses as its stop,
-- the item is in the batch of the last of these, and it had not ended by those before the last.
pub record WasInHand {F A : Type 0} (s : Setting F A) (es : List Entry) (incarnation item : ℕ) : Type 0 where
  pub post : Post
  pub posted : slice_get (posts_of s es) incarnation ≡ Some post
  pub stopped : IsTrue (is_stopped post.actor (part_of incarnation es))
  pub last : Entry
  pub at_last : last_of (part_of incarnation es) ≡ Some last
  pub batch : batch_of item (offers_at s incarnation post) ≡ batch_of last.item (offers_at s incarnation post)
  pub under_way : HasEnded (stand_by s es incarnation post item) → ⊥

-- The incarnation was stopped before the batch of an item that it was offered: with no entry, or with its last entry in an
-- earlier batch.
pub record WasStoppedBefore {F A : Type 0} (s : Setting F A) (es : List Entry) (incarnation item : ℕ)
    (post : Post) : Type 0 where
  pub stopped : IsTrue (is_stopped post.actor (part_of incarnation es))
  pub before : (part_of incarnation es ≡ []) ⊎ ((last : Entry) × (last_of (part_of incarnation es) ≡ Some last)
      × (batch_of last.item (offers_at s incarnation post) < batch_of item (offers_at s incarnation post)))

-- each instance of the lane that was offered the packet was stopped before its batch
abbrev pub AllStoppedBefore : {F A : Type 0} → Setting F A → List Entry → ℕ → ℕ → Type 0
AllStoppedBefore s es lane number =
    (incarnation : ℕ) (post : Post) → slice_get (posts_of s es) incarnation ≡ Some post →
    IsTrue (is_on lane post.actor) → IsOffered number (offers_at s incarnation post) →
    WasStoppedBefore s es incarnation number post

-- The incarnation was offered the item, in a batch no later than its last entry's where it was stopped.
pub record WasOffered {F A : Type 0} (s : Setting F A) (es : List Entry) (incarnation item : ℕ) : Type 0 where
  pub post : Post
  pub posted : slice_get (posts_of s es) incarnation ≡ Some post
  pub offered : IsOffered item (offers_at s incarnation post)
  pub until : IsTrue (is_stopped post.actor (part_of incarnation es)) →
      (last : Entry) × (last_of (part_of incarnation es) ≡ Some last)
      × (batch_of item (offers_at s incarnation post) ≤ batch_of last.item (offers_at s incarnation post))

-- The incarnation's item is decided at the entry with the number `decider`, one of its own.
pub record IsDecided {F A : Type 0} (s : Setting F A) (es : List Entry) (incarnation item decider : ℕ)
    (decision : Decision F) : Type 0 where
  pub e : Entry
  pub at : slice_get es decider ≡ Some e
  pub by : e.incarnation ≡ incarnation
  pub of : e.item ≡ item
  pub decided : decision_at s.scene es decider ≡ Some decision

-- the packet comes to the box by the decision at the entry with this number
abbrev pub ReachesBox : {F A : Type 0} → Setting F A → List Entry → ℕ → ℕ → ℕ → Type 0
ReachesBox {F = F} s es lane number decider = (incarnation : ℕ) × (decision : Decision F) × IsOn s es lane incarnation
    × IsDecided s es incarnation number decider decision

-- it comes by no decision
abbrev pub NeverReachesBox : {F A : Type 0} → Setting F A → List Entry → ℕ → ℕ → Type 0
NeverReachesBox s es lane number = (decider : ℕ) → ReachesBox s es lane number decider → ⊥

-- it comes by at most one decision
abbrev pub ReachesBoxOnce : {F A : Type 0} → Setting F A → List Entry → ℕ → ℕ → Type 0
ReachesBoxOnce s es lane number = (c d : ℕ) → ReachesBox s es lane number c → ReachesBox s es lane number d → c ≡ d

-- where the verdict of a packet that an incarnation took comes from: it was dropped at once, or is lost in the hand
-- of its stopped incarnation, or was decided at an entry of that incarnation, and come to by the entries that count
abbrev pub IsGiven : {F A : Type 0} → Setting F A → List Entry → ℕ → ℕ → Verdict → Type 0
IsGiven {F = F} s es incarnation number verdict =
    ((reason : Reason) × (s.scene.begins incarnation number ≡ Ends (Some (Dropped reason)))
    × (verdict ≡ Dropped reason))
    ⊎ ((verdict ≡ Lost) × WasInHand s es incarnation number)
    ⊎ ((decider : ℕ) × (decision : Decision F) × IsDecided s es incarnation number decider decision
    × (decision.verdict ≡ verdict) × IsAnswer verdict × HasCome s es incarnation number verdict)

-- What a run tells of its packets, whatever boxes explain it.
pub record IsTold {F A : Type 0} (s : Setting F A) (es : List Entry) : Type 0 where
  -- Each packet that is decided is of a lane, and was taken by the incarnation of its entries.
  pub taken : (decider : ℕ) (e : Entry) (decision : Decision F) → slice_get es decider ≡ Some e →
      decision_at s.scene es decider ≡ Some decision → (lane : ℕ) × Took s es lane e.item e.incarnation
  -- Each entry of an instance is of a packet that the instance took.
  pub entries : (lane number : ℕ) (e : Entry) → slice_get es number ≡ Some e → IsOn s es lane e.incarnation →
      Took s es lane e.item e.incarnation
  -- No two incarnations took one packet.
  pub one_taker : (lane number i k : ℕ) → Took s es lane number i → Took s es lane number k → i ≡ k
  -- A packet is left where nobody took it. A taken one was dropped at once, or has the verdict that was decided at an
  -- entry, or it is lost with its instance.
  pub left : (lane number : ℕ) → NobodyTook s es lane number → verdict_of s es lane number ≡ Left
  pub left_alone : (lane number : ℕ) → verdict_of s es lane number ≡ Left → NobodyTook s es lane number
  pub given : (lane number incarnation : ℕ) → Took s es lane number incarnation →
      IsGiven s es incarnation number (verdict_of s es lane number)
  -- A packet is lost exactly where the instance that took it was stopped with it in hand and under way.
  pub lost : (lane number incarnation : ℕ) → Took s es lane number incarnation →
      ((verdict_of s es lane number ≡ Lost) ↔ WasInHand s es incarnation number)

pub record IsOneBox {F A C : Type 0} (s : Setting F A) (box : Box A C) (Same : C → Cells → Type 0)
    (es : List Entry) : Type 0 where
  -- The box takes the packets one at a time, in the list's order, and gives each its decided verdict.
  pub explained : IsExplained s.scene box Same es
  pub told : IsTold s es

-- The place stands between an entry of the deciding entry's item and the deciding entry.
pub record IsWithin (es : List Entry) (decider : ℕ) (e : Entry) (place : ℕ) : Type 0 where
  pub first : ℕ
  pub own : Entry
  pub at : slice_get es first ≡ Some own
  pub incarnation : own.incarnation ≡ e.incarnation
  pub item : own.item ≡ e.item
  pub from : first ≤ place
  pub upto : place ≤ decider

-- Each packet that is decided has its place between an entry of its own and its deciding entry.
abbrev pub HasPlaces : {F A : Type 0} → Scene F A → List Entry → Type 0
HasPlaces {F = F} s es = (decider : ℕ) (e : Entry) (decision : Decision F) → slice_get es decider ≡ Some e →
    decision_at s es decider ≡ Some decision → IsWithin es decider e
    (s.place es decider decision.first decision.verdict)

-- The box sees the packet of this decision at its place, between other visits of that entry, and gives it the
-- decided verdict.
pub record IsSeen {F A C : Type 0} (s : Scene F A) (box : Box A C) (es : List Entry) (decider : ℕ)
    (decision : Decision F) : Type 0 where
  pub e : Entry
  pub earlier : List (Visit A)
  pub later : List (Visit A)
  pub at : slice_get es (s.place es decider decision.first decision.verdict) ≡ Some e
  pub visits : visits_of s es (s.place es decider decision.first decision.verdict) e ≡ earlier
      ++ record { arrival = s.arrival decision.first e; verdict = Some decision.verdict } ∷ later
  pub answer : box.verdict (content_through box
      (content_after s box es (s.place es decider decision.first decision.verdict)) earlier)
      (s.arrival decision.first e) ≡ decision.verdict

-- What becomes of a packet of a lane, where `Seen` is what the boxes make of a decision at an entry.
pub data Fate {F A : Type 0} (s : Setting F A) (Seen : ℕ → Decision F → Type 0) (es : List Entry)
    (lane number : ℕ) : Type 0 where
  -- Nobody took it, since each instance that was offered it was stopped before its batch: it is left, and the box never
  -- sees it.
  Untaken : NobodyTook s es lane number → AllStoppedBefore s es lane number → verdict_of s es lane number ≡ Left →
      NeverReachesBox s es lane number → Fate s Seen es lane number
  -- It was offered and dropped with no access, and the box never sees it.
  Begun : (incarnation : ℕ) (reason : Reason) → Took s es lane number incarnation →
      WasOffered s es incarnation number → s.scene.begins incarnation number ≡ Ends (Some (Dropped reason)) →
      verdict_of s es lane number ≡ Dropped reason → NeverReachesBox s es lane number →
      Fate s Seen es lane number
  -- It is lost in the hand of its stopped instance, under way. The box sees it once, if it was decided.
  WithInstance : (incarnation : ℕ) → Took s es lane number incarnation → WasInHand s es incarnation number →
      verdict_of s es lane number ≡ Lost → ((decider : ℕ) (decision : Decision F) →
      IsDecided s es incarnation number decider decision → Seen decider decision) → ReachesBoxOnce s es lane number →
      Fate s Seen es lane number
  -- It has come to its verdict. The box sees it once, and gives it the verdict that is written.
  Placed : (incarnation decider : ℕ) (decision : Decision F) → Took s es lane number incarnation →
      IsDecided s es incarnation number decider decision → Seen decider decision → decision.verdict
      ≡ verdict_of s es lane number → IsAnswer (verdict_of s es lane number) →
      HasCome s es incarnation number (verdict_of s es lane number) → ReachesBoxOnce s es lane number →
      Fate s Seen es lane number

-- how far each lane has come after these epochs, the first of which begins with this incarnation
abbrev pub come_after : {F A : Type 0} → Setting F A → List Entry → ℕ → (ℕ → ℕ) → List Era → ℕ → ℕ
come_after s es base places [] = places
come_after s es base places (era ∷ eras) = come_after s es (base + length era.actors)
    (places_after s es base places era) eras

-- how far each lane has come after all epochs
abbrev pub come_in_all : {F A : Type 0} → Setting F A → List Entry → ℕ → ℕ
come_in_all s es = come_after s es 0 (λ lane. 0) s.eras

-- how many packets lie behind that, of these lanes, the first of which has this number
abbrev pub behind_from : {F A : Type 0} → Setting F A → List Entry → ℕ → List ℕ → ℕ
behind_from s es lane [] = 0
behind_from s es lane (count ∷ counts) = (count - come_in_all s es lane) + behind_from s es (lane + 1) counts

-- What was taken of each lane is a front, and what is left is the rest.
pub record IsFront {F A : Type 0} (s : Setting F A) (es : List Entry) : Type 0 where
  pub taken : (lane number incarnation : ℕ) → Took s es lane number incarnation → number < come_in_all s es lane
  pub all : (lane number : ℕ) → number < come_in_all s es lane → (incarnation : ℕ) × Took s es lane number incarnation
  pub within : (lane : ℕ) → come_in_all s es lane ≤ slice_index s.lanes lane
  pub left : left_in (verdicts_of s es) ≡ behind_from s es 0 s.lanes

-- the first key of an entry's packet
abbrev pub first_key_at : {F A : Type 0} → Setting F A → Entry → Option ℕ
first_key_at s e = first_key_of (s.scene.machine e.incarnation) (s.scene.begins e.incarnation e.item)

-- One ordinary box explains a run, with all that is written.
pub record IsOneBoxWhole {F A C : Type 0} (s : Setting F A) (box : Box A C) (Same : C → Cells → Type 0)
    (es : List Entry) : Type 0 where
  pub one_box : IsOneBox s box Same es
  -- Each decided packet has its place between an entry of its own and its deciding entry.
  pub places : HasPlaces s.scene es
  -- Each visit of the box is a removal, or of a packet that was taken, and that has its place there and
  -- this decided verdict.
  pub visits : (t : ℕ) (e : Entry) (earlier later : List (Visit A)) (visit : Visit A) (verdict : Verdict) →
      visits_of s.scene es t e ≡ earlier ++ visit ∷ later → visit.verdict ≡ Some verdict → (lane : ℕ) × (decider : ℕ)
      × (f : Entry) × (decision : Decision F) × (slice_get es decider ≡ Some f)
      × (decision_at s.scene es decider ≡ Some decision) × Took s es lane f.item f.incarnation
      × (s.scene.place es decider decision.first decision.verdict ≡ t) × (decision.verdict ≡ verdict)
  -- What becomes of each packet, and that what is left of a lane is its end.
  pub becomes : (lane number : ℕ) → Fate s (IsSeen s.scene box es) es lane number
  pub front : IsFront s es
  -- Of two packets of a lane with one first key, all entries of the earlier stand before those of the later, and so
  -- its place is lower.
  pub in_order : (lane c d : ℕ) (e f : Entry) → slice_get es c ≡ Some e → slice_get es d ≡ Some f →
      IsOn s es lane e.incarnation → IsOn s es lane f.incarnation → e.item < f.item → first_key_at s e
      ≡ first_key_at s f → c < d
  pub places_in_order : (lane k l i m c d : ℕ) (x y : Decision F) → k < l → IsOn s es lane i → IsOn s es lane m →
      IsDecided s es i k c x → IsDecided s es m l d y → first_key_of (s.scene.machine i) (s.scene.begins i k)
      ≡ first_key_of (s.scene.machine m) (s.scene.begins m l) →
      s.scene.place es c x.first x.verdict < s.scene.place es d y.first y.verdict
