-- Actors that have ended make no more entries, so each entry's post is that of the whole list.
use Rattle.std.proofs.Common.{◌≡◌, inl, inr, ℕ, ◌≤◌, List, [], ◌∷◌, ◌++◌, Some, slice_get, sym, ap, ◌∙◌, subst, true, arith}
use Rattle.std.specs.List.{AllByRecursion}
use Rattle.std.proofs.lemmas.Bool.{cases_lt, both_ways}
use Rattle.std.proofs.lemmas.Option.{same_Some}
use Rattle.slnf_access.specs.declared.requests.Entry.{Entry}
use Rattle.slnf_access.specs.Machines.{Machine, Stand, Flies, Ends, IsAsked, HasEnded}
use Rattle.slnf_run.specs.Setting.{Setting, era_of}
use Rattle.slnf_run.specs.Scene.{stand_of}
use Rattle.slnf_run.specs.Parts.{part_of, is_stopped, Post, posts_of, offers_at}
use Rattle.slnf_run.specs.Made.{Grown, Pairs}
use Rattle.slnf_run.proofs.Parting.{all_ended-same}
use Rattle.slnf_run.proofs.Taking.{offered_has, all_ended_at}
use Rattle.slnf_local.specs.Local.{IsOver, AllOver, IsExpected}
use Rattle.slnf_local.proofs.Splitting.{grown_back}
use Rattle.slnf_local.proofs.Until.{posts_of-until, part_of-earlier}

-- an item that has ended asks for nothing
pub ended_asks_nothing : {F : Type 0} (machine : Machine F) (stand : Stand F) (e : Entry) → HasEnded stand →
    IsAsked machine stand e → ⊥
ended_asks_nothing machine (Flies flight) e h k = h
ended_asks_nothing machine (Ends verdict) e h k = k

-- no entry is expected of an actor that has ended
pub over_expects_nothing : {F A : Type 0} (s : Setting F A) (es : List Entry) (e : Entry) (post : Post) →
    IsExpected s es e → slice_get (posts_of s es) e.incarnation ≡ Some post → IsOver s es e.incarnation post → ⊥
over_expects_nothing s es e post h at over =
    go (subst (IsOver s es e.incarnation) (same_Some post h.post (sym at ∙ h.posted)) over)
  where
    go : IsOver s es e.incarnation h.post → ⊥
    go (inl stopped) = both_ways (is_stopped h.post.actor (part_of e.incarnation es)) h.running stopped
    go (inr ended) =
        ended_asks_nothing (s.scene.machine e.incarnation) (stand_of s.scene e.incarnation e.item es) e
        (all_ended_at s e.incarnation es e.item (offers_at s e.incarnation h.post) ended
        (offered_has e.item (offers_at s e.incarnation h.post) h.offered))
        h.asked

-- an actor has ended in each list with the same part of it
pub is_over-same : {F A : Type 0} (s : Setting F A) (es fs : List Entry) (incarnation : ℕ) (post : Post) →
    part_of incarnation es ≡ part_of incarnation fs → IsOver s es incarnation post → IsOver s fs incarnation post
is_over-same s es fs incarnation post h (inl stopped) = inl
    (subst (λ part. is_stopped post.actor part ≡ true) h stopped)
is_over-same s es fs incarnation post h (inr ended) = inr
    (all_ended-same s incarnation es fs (offers_at s incarnation post) h ended)

-- where all actors of earlier epochs have ended, an expected entry is of no earlier epoch
pub expected_from : {F A : Type 0} (s : Setting F A) (es : List Entry) (e : Entry) (era : ℕ) → AllOver s es era →
    IsExpected s es e → era ≤ era_of s.eras e.incarnation
expected_from s es e era over h =
    elim (cases_lt (era_of s.eras e.incarnation) era) [
      | inl l ↦ absurd (over_expects_nothing s es e h.post h h.posted (over e.incarnation h.post h.posted l))
      | inr l ↦ l
    ]

-- and they have ended also after such entries
pub over-append : {F A : Type 0} (s : Setting F A) (es tail : List Entry) (era : ℕ) → AllOver s es era →
    AllByRecursion (λ e. era ≤ era_of s.eras e.incarnation) tail → AllOver s (es ++ tail) era
over-append s es tail era over h = λ i post at l.
    is_over-same s es (es ++ tail) i post (sym (part_of-earlier s era i es tail l h))
    (over i post (posts_of-until s es (es ++ tail) i (λ k m. sym (part_of-earlier s era k es tail (omega arith) h))
    ∙ at) l)

-- all entries that come after them are of no earlier epoch
pub grown_from : {F A : Type 0} (s : Setting F A) (es tail : List Entry) (era : ℕ) → AllOver s es era →
    Grown (IsExpected s) es tail → AllByRecursion (λ e. era ≤ era_of s.eras e.incarnation) tail
grown_from s es [] era over h = tt
grown_from s es (e ∷ tail) era over h =
    let l : era ≤ era_of s.eras e.incarnation = expected_from s es e era over h.0 in
    (l, grown_from s (es ++ e ∷ []) tail era (over-append s es (e ∷ []) era over (l, tt)) h.1)

-- entries of an epoch stand before those of a later one
pub grown_by_epoch : {F A : Type 0} (s : Setting F A) (es tail : List Entry) → Grown (IsExpected s) es tail →
    Pairs (λ e f. era_of s.eras e.incarnation ≤ era_of s.eras f.incarnation) tail
grown_by_epoch s es [] h = tt
grown_by_epoch s es (e ∷ tail) h = (
  (grown_from s es (e ∷ tail) (era_of s.eras e.incarnation) h.0.earlier_over h).1,
  grown_by_epoch s (es ++ e ∷ []) tail h.1,
)

-- the post of an expected entry is that of each list that goes on from it by expected entries
pub post_lasts : {F A : Type 0} (s : Setting F A) (es tail : List Entry) (e : Entry) → IsExpected s es e →
    Grown (IsExpected s) es (e ∷ tail) →
    slice_get (posts_of s (es ++ e ∷ tail)) e.incarnation ≡ slice_get (posts_of s es) e.incarnation
post_lasts s es tail e h grown =
    let from : AllByRecursion (λ f. era_of s.eras e.incarnation ≤ era_of s.eras f.incarnation) (e ∷ tail) =
    grown_from s es (e ∷ tail) (era_of s.eras e.incarnation) h.earlier_over grown in
    posts_of-until s (es ++ e ∷ tail) es e.incarnation
    (λ k l. part_of-earlier s (era_of s.eras e.incarnation) k es (e ∷ tail) l from)

-- What it tells of an entry of a list that grew by expected entries: it is expected after those before it, and its post
-- is that of the whole list.
pub record IsAt {F A : Type 0} (s : Setting F A) (j before : List Entry) (e : Entry) : Type 0 where
  pub expected : IsExpected s before e
  pub posted : slice_get (posts_of s j) e.incarnation ≡ Some expected.post

pub at_split : {F A : Type 0} (s : Setting F A) (j before later : List Entry) (e : Entry) →
    Grown (IsExpected s) [] j → j ≡ before ++ e ∷ later → IsAt s j before e
at_split s j before later e grown w =
    let here : Grown (IsExpected s) before (e ∷ later) =
    grown_back (IsExpected s) [] before (e ∷ later) (subst (Grown (IsExpected s) []) w grown) in
    record {
      expected = here.0;
      posted = ap (λ l. slice_get (posts_of s l) e.incarnation) w
          ∙ (post_lasts s before later e here.0 here ∙ here.0.posted);
    }

pub same_post : {F A : Type 0} (s : Setting F A) (j before : List Entry) (e : Entry) (incarnation : ℕ)
    (post : Post) (x : IsAt s j before e) → e.incarnation ≡ incarnation →
    slice_get (posts_of s j) incarnation ≡ Some post → x.expected.post ≡ post
same_post s j before e incarnation post x mine at =
    same_Some x.expected.post post (sym x.posted ∙ (ap (slice_get (posts_of s j)) mine ∙ at))
