-- Verdicts depend on parts alone.
use Rattle.std.proofs.Common.{◌≡◌, ℕ, ◌+◌, ◌&&◌, ◌==◌, if◌then◌else◌, List, [], ◌∷◌, map, refl, ap, ap₂, ◌∙◌}
use Rattle.std.specs.List.{range_with_len, list_any}
use Rattle.slnf_base.specs.declared.packets.Verdict.{Verdict}
use Rattle.slnf_access.specs.declared.requests.Entry.{Entry}
use Rattle.slnf_access.specs.Machines.{stand_after}
use Rattle.slnf_run.specs.Setting.{Setting, era_of, is_on}
use Rattle.slnf_run.specs.Parts.{part_of, of_item, is_stopped, Post, posts_of, taken_of, offers_at}
use Rattle.slnf_run.specs.Scheduled.{in_order}
use Rattle.slnf_run.specs.Verdicts.{counted, verdict_at, verdict_by, takes, verdict_among, verdict_of, verdicts_from, verdicts_of}
use Rattle.slnf_run.specs.Made.{Grown, IsLaid}
use Rattle.slnf_run.proofs.OrderKeeps.{made_in_order}
use Rattle.slnf_run.proofs.Parting.{posts_of-same}

verdict_by-same : {F A : Type 0} (s : Setting F A) (m j : List Entry) (incarnation : ℕ) (post : Post) (number : ℕ) →
    part_of incarnation m ≡ part_of incarnation j → verdict_by s m incarnation post number
    ≡ verdict_by s j incarnation post number
verdict_by-same s m j incarnation post number h =
    ap (λ part. verdict_at (stand_after (s.scene.machine incarnation) (s.scene.begins incarnation number)
    (of_item number (counted (is_stopped post.actor part) part)))) h

takes-same : {F A : Type 0} (s : Setting F A) (m j : List Entry) (incarnation : ℕ) (post : Post) (lane number : ℕ) →
    part_of incarnation m ≡ part_of incarnation j → takes s m incarnation post lane number
    ≡ takes s j incarnation post lane number
takes-same s m j incarnation post lane number h =
    ap (λ part. is_on lane post.actor && list_any (λ offer. offer.item == number)
    (taken_of post.actor part (offers_at s incarnation post))) h

verdict_among-same : {F A : Type 0} (s : Setting F A) (m j : List Entry) (lane number incarnation : ℕ)
    (posts : List Post) → ((i : ℕ) → part_of i m ≡ part_of i j) → verdict_among s m lane number incarnation posts
    ≡ verdict_among s j lane number incarnation posts
verdict_among-same s m j lane number incarnation [] same = refl
verdict_among-same s m j lane number incarnation (post ∷ posts) same =
    ap (λ b. if b then verdict_by s m incarnation post number else verdict_among s m lane number
    (incarnation + 1) posts) (takes-same s m j incarnation post lane number (same incarnation))
    ∙ ap₂ (λ v w. if takes s j incarnation post lane number then v else w)
    (verdict_by-same s m j incarnation post number (same incarnation))
    (verdict_among-same s m j lane number (incarnation + 1) posts same)

pub verdict_of-same : {F A : Type 0} (s : Setting F A) (m j : List Entry) (lane number : ℕ) →
    ((i : ℕ) → part_of i m ≡ part_of i j) → verdict_of s m lane number ≡ verdict_of s j lane number
verdict_of-same s m j lane number same =
    ap (verdict_among s m lane number 0) (posts_of-same s m j same)
    ∙ verdict_among-same s m j lane number 0 (posts_of s j) same

verdicts_from-same : {F A : Type 0} (s : Setting F A) (m j : List Entry) (lane : ℕ) (counts : List ℕ) →
    ((i : ℕ) → part_of i m ≡ part_of i j) → verdicts_from s m lane counts ≡ verdicts_from s j lane counts
verdicts_from-same s m j lane [] same = refl
verdicts_from-same s m j lane (count ∷ counts) same =
    ap₂ (λ (f : ℕ → Verdict) (rest : List (List Verdict)). map f (range_with_len 0 count) ∷ rest)
    (λ i number. verdict_of-same s m j lane number same i) (verdicts_from-same s m j (lane + 1) counts same)

pub verdicts_of-same : {F A : Type 0} (s : Setting F A) (m j : List Entry) → ((i : ℕ) → part_of i m ≡ part_of i j) →
    verdicts_of s m ≡ verdicts_of s j
verdicts_of-same s m j same = verdicts_from-same s m j 0 s.lanes same

-- the verdicts are those of the accesses
pub verdicts_of-in_order : {F A : Type 0} (s : Setting F A) (m : List Entry) →
    Grown (IsLaid (era_of s.eras) s.shards) [] m → verdicts_of s (in_order m) ≡ verdicts_of s m
verdicts_of-in_order s m made = verdicts_of-same s (in_order m) m
    (made_in_order (era_of s.eras) s.shards m made).parts
