-- The journal of a setting's schedule is a run of the setting.
use Rattle.std.proofs.Common.{ℕ, ◌+◌, ◌^◌, ◌<◌, ◌≤◌, List, [], ◌∷◌, ◌++◌, length, refl, sym, ap, subst, ◌∙◌, arith}
use Rattle.slnf_access.specs.declared.requests.Entry.{Entry}
use Rattle.slnf_run.specs.Setting.{Actor, Era, Setting, era_of}
use Rattle.slnf_run.specs.Parts.{places_after, posts_of}
use Rattle.slnf_run.specs.Run.{IsDone, IsRun}
use Rattle.slnf_run.specs.Scheduled.{Way, usual_way, stamp_after, turns, round, Makes, in_order, IsScheduled}
use Rattle.slnf_run.specs.Made.{Grown, IsMade, IsLaid, IsStamped, IsLawful}
use Rattle.slnf_run.proofs.Growth.{Extends, extends_same, extends_then, grown_weaker}
use Rattle.slnf_run.proofs.Pairing.{each-weaker}
use Rattle.slnf_run.proofs.Stamps.{stamps_within}
use Rattle.slnf_run.proofs.Turns.{IsKept, turns_reach}
use Rattle.slnf_run.proofs.Ways.{usual_lawful}
use Rattle.std.specs.List.{repeat, AllByRecursion}
use Rattle.slnf_run.proofs.Lists.{EveryAt}
use Rattle.slnf_run.proofs.Sorting.{length-in_order}
use Rattle.slnf_run.proofs.OrderAgain.{in_order_made}
use Rattle.slnf_run.proofs.GrowthRule.{IsNext}
use Rattle.slnf_run.proofs.RunOfGrown.{IsLooseRun, run_in_order}
use Rattle.slnf_run.proofs.OwnParts.{own_run_of_grown, loose_of_own}
use Rattle.slnf_run.proofs.Epochs.{makes_run}

-- what a schedule makes is laid
pub makes_laid : {F A : Type 0} (s : Setting F A) (way : Way) → IsLawful (era_of s.eras) way → (m : List Entry) →
    Makes s way 0 (λ lane. 0) s.eras [] m → Grown (IsLaid (era_of s.eras) s.shards) [] m
makes_laid s way lawful m h =
    grown_weaker (IsNext s (posts_of s m)) (IsLaid (era_of s.eras) s.shards) (λ es e k. k.made) [] m
    (makes_run s way lawful m h).0

-- and keeps the rules of runs that don't speak of an order over all incarnations
pub makes_loose : {F A : Type 0} (s : Setting F A) (way : Way) → IsLawful (era_of s.eras) way → (m : List Entry) →
    Makes s way 0 (λ lane. 0) s.eras [] m → IsLooseRun s m
makes_loose s way lawful m h =
    let both : Grown (IsNext s (posts_of s m)) [] m × EveryAt (IsDone s m) 0 (posts_of s m) =
    makes_run s way lawful m h in
    loose_of_own s m (own_run_of_grown s (posts_of s m) m both.0 both.1)

-- its accesses have the way's stamps
pub stamped_kept : {F A : Type 0} (s : Setting F A) (way : Way) (base : ℕ) (places : ℕ → ℕ) (actors : List Actor) →
    IsKept s way base places actors (λ es. Unit {0}) (IsStamped way.stamp)
stamped_kept s way base places actors = record { allowed = λ es number actor ask h k e. refl; lasts = λ es e h k. tt }

stamped_from : {F A : Type 0} (s : Setting F A) (way : Way) (eras : List Era) (base : ℕ) (places : ℕ → ℕ)
    (es m : List Entry) → Makes s way base places eras es m → Extends (IsStamped way.stamp) es m
stamped_from s way [] base places es m h = subst (λ l. Extends (IsStamped way.stamp) es l) (sym h)
    (extends_same (IsStamped way.stamp) es)
stamped_from s way (era ∷ eras) base places es m h =
    let after : List Entry = turns s way base places era (era.schedule ++ repeat h.0 (round era)) es in
    extends_then (IsStamped way.stamp) es after m
    (turns_reach s way base places era (λ es. Unit {0}) (IsStamped way.stamp) (era.schedule
    ++ repeat h.0 (round era)) es (stamped_kept s way base places era.actors) tt).extends
    (stamped_from s way eras (base + length era.actors) (places_after s after base places era) after m h.1.1)

pub makes_stamped : {F A : Type 0} (s : Setting F A) (way : Way) (m : List Entry) →
    Makes s way 0 (λ lane. 0) s.eras [] m → Grown (IsStamped way.stamp) [] m
makes_stamped s way m h =
    let ext : Extends (IsStamped way.stamp) [] m = stamped_from s way s.eras 0 (λ lane. 0) [] m h in
    subst (Grown (IsStamped way.stamp) []) (sym ext.whole) ext.grown

-- fewer than 2^62 accesses have stamps below that
short_stamps : (epoch : ℕ → ℕ) (way : Way) → IsLawful epoch way → (m : List Entry) → length m < 2 ^ 62 →
    Grown (IsStamped way.stamp) [] m → AllByRecursion (λ e. e.stamp < 2 ^ 62) m
short_stamps epoch way lawful m l h =
    each-weaker (λ e. e.stamp ≤ 0 + length m) (λ e. e.stamp < 2 ^ 62) (λ e k. let n : e.stamp ≤ 0 + length m = k in
    omega arith) m (stamps_within epoch way lawful [] m tt h).0

-- the journal of a setting's schedule is a run of the setting
pub scheduled_is_run : {F A : Type 0} (s : Setting F A) (way : Way) → IsLawful (era_of s.eras) way →
    (j : List Entry) → IsScheduled s way j → length j < 2 ^ 62 → IsRun s j
scheduled_is_run s way lawful j h l =
    subst (IsRun s) (sym h.sorted)
    (run_in_order s h.accesses (short_stamps (era_of s.eras) way lawful h.accesses
    (subst (λ n. n < 2 ^ 62) (ap length h.sorted ∙ length-in_order h.accesses) l)
    (makes_stamped s way h.accesses h.made))
    (makes_laid s way lawful h.accesses h.made) (makes_loose s way lawful h.accesses h.made))

-- what grew by the rule of runs in any order of its accesses, and leaves each actor with its work done, is a run when
-- it is put in order
pub run_of_grown : {F A : Type 0} (s : Setting F A) (m : List Entry) → AllByRecursion (λ e. e.stamp < 2 ^ 62) m →
    Grown (IsNext s (posts_of s m)) [] m → EveryAt (IsDone s m) 0 (posts_of s m) → IsRun s (in_order m)
run_of_grown s m l grown done =
    run_in_order s m l (grown_weaker (IsNext s (posts_of s m)) (IsLaid (era_of s.eras) s.shards)
    (λ es e k. k.made) [] m grown)
    (loose_of_own s m (own_run_of_grown s (posts_of s m) m grown done))

pub made_of_laid : (eras : List Era) (shards : ℕ) (es tail : List Entry) → Grown (IsLaid (era_of eras) shards) es tail →
    Grown (IsStamped (stamp_after eras)) es tail → Grown (IsMade (era_of eras) shards) es tail
made_of_laid eras shards es [] h k = tt
made_of_laid eras shards es (e ∷ tail) h k = (
  record { stamp = k.0; shard = h.0.shard; reply = h.0.reply; epochs = h.0.epochs },
  made_of_laid eras shards (es ++ e ∷ []) tail h.1 k.1,
)

-- the journal read in order is one of accesses as they are made: its stamps are those that its own entries give
pub scheduled_made : {F A : Type 0} (s : Setting F A) (j : List Entry) → IsScheduled s (usual_way s.eras) j →
    Grown (IsMade (era_of s.eras) s.shards) [] j
scheduled_made s j h =
    subst (Grown (IsMade (era_of s.eras) s.shards) []) (sym h.sorted)
    (in_order_made (era_of s.eras) s.shards h.accesses
    (made_of_laid s.eras s.shards [] h.accesses (makes_laid s (usual_way s.eras)
    (usual_lawful s.eras) h.accesses h.made) (makes_stamped s (usual_way s.eras) h.accesses h.made)))
