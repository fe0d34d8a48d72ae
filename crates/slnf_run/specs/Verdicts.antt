-- The verdict of each packet, by the entries of the incarnation that took it alone.
use Rattle.std.specs.Prelude.{ℕ, ◌+◌, Bool, true, false, ◌&&◌, ◌==◌, if◌then◌else◌, List, [], ◌∷◌, map}
use Rattle.std.specs.List.{range_with_len, list_any}
use Rattle.slnf_base.specs.declared.packets.Verdict.{Verdict}
use Rattle.slnf_base.specs.declared.packets.Verdict.TheVariants.{Emit, Dropped, Lost, Left}
use Rattle.slnf_access.specs.declared.requests.Entry.{Entry}
use Rattle.slnf_access.specs.Machines.{Stand}
use Rattle.slnf_run.specs.Setting.{Setting, is_on}
use Rattle.slnf_run.specs.Parts.{part_of, Post, posts_of, taken_at}
use Rattle.slnf_run.specs.Jobs.{stand_counted, verdict_in, job_of}
pub use Rattle.slnf_run.specs.Jobs.{counted, verdict_at}

-- where an incarnation's item stands by the entries that count
abbrev pub stand_by : {F A : Type 0} → Setting F A → List Entry → ℕ → Post → ℕ → Stand F
stand_by s es incarnation post number = stand_counted (job_of s incarnation post.at post.actor)
    (part_of incarnation es) number

-- the verdict of a packet that this incarnation took
abbrev pub verdict_by : {F A : Type 0} → Setting F A → List Entry → ℕ → Post → ℕ → Verdict
verdict_by s es incarnation post number = verdict_in (job_of s incarnation post.at post.actor)
    (part_of incarnation es) number

-- the incarnation at this post took the packet
abbrev pub takes : {F A : Type 0} → Setting F A → List Entry → ℕ → Post → ℕ → ℕ → Bool
takes s es incarnation post lane number =
    is_on lane post.actor && list_any (λ offer. offer.item == number) (taken_at s es incarnation post)

-- the verdict of a packet among these posts, the first of which is this incarnation's: a packet that none took is
-- left
abbrev pub verdict_among : {F A : Type 0} → Setting F A → List Entry → ℕ → ℕ → ℕ → List Post → Verdict
verdict_among s es lane number incarnation [] = Left
verdict_among s es lane number incarnation (post ∷ posts) =
    if takes s es incarnation post lane number
    then verdict_by s es incarnation post number
    else verdict_among s es lane number (incarnation + 1) posts

-- the verdict of a lane's packet
abbrev pub verdict_of : {F A : Type 0} → Setting F A → List Entry → ℕ → ℕ → Verdict
verdict_of s es lane number = verdict_among s es lane number 0 (posts_of s es)

-- the verdicts of these lanes, of which the first has this number, packet by packet
abbrev pub verdicts_from : {F A : Type 0} → Setting F A → List Entry → ℕ → List ℕ → List (List Verdict)
verdicts_from s es lane [] = []
verdicts_from s es lane (count ∷ counts) =
    map (verdict_of s es lane) (range_with_len 0 count) ∷ verdicts_from s es (lane + 1) counts

-- the verdicts of all packets, lane by lane
abbrev pub verdicts_of : {F A : Type 0} → Setting F A → List Entry → List (List Verdict)
verdicts_of s es = verdicts_from s es 0 s.lanes

-- the packet is left
abbrev pub is_left : Verdict → Bool
is_left (Emit change) = false
is_left (Dropped reason) = false
is_left Lost = false
is_left Left = true

-- how many packets of a lane are left
abbrev pub left_of : List Verdict → ℕ
left_of [] = 0
left_of (verdict ∷ verdicts) = (if is_left verdict then 1 else 0) + left_of verdicts

-- how many packets of all lanes are left
abbrev pub left_in : List (List Verdict) → ℕ
left_in [] = 0
left_in (verdicts ∷ lanes) = left_of verdicts + left_in lanes
