-- Items of batches behind the one in hand have no entries yet.
use Rattle.std.proofs.Common.{◌≡◌, inl, inr, ◌⊎◌, ℕ, ◌<◌, List, [], ◌∷◌, ◌++◌, Some, slice_get, refl, sym, ap, ◌∙◌, subst, subst₂, append-nil, ◌==◌, eqb-true}
use Rattle.std.proofs.lemmas.Bool.{cases_eq}
use Rattle.std.proofs.lemmas.List.Elements.{filter-append}
use Rattle.slnf_access.specs.declared.requests.Entry.{Entry}
use Rattle.slnf_access.specs.Machines.{Machine, Stand, Flies, Ends, stand_after, HasEnded}
use Rattle.slnf_run.specs.Setting.{Setting}
use Rattle.slnf_run.specs.Scene.{is_of, own_of, stand_of}
use Rattle.slnf_run.specs.Parts.{part_of, of_item, Offer, batch_of, Post, offers_at}
use Rattle.slnf_run.specs.Run.{IsOffered, EarlierEnded}
use Rattle.slnf_run.specs.Made.{Grown}
use Rattle.slnf_run.proofs.Parting.{part_of-own, part_of-other, own_of_part}
use Rattle.slnf_run.proofs.AddedEntries.{of_item-other, stand_of-append}
use Rattle.std.proofs.lemmas.Bool.{and_parts}
use Rattle.slnf_run.specs.Parts.{posts_of}
use Rattle.slnf_local.specs.Local.{IsExpected}
use Rattle.slnf_local.proofs.Splitting.{IsSplitBy, split_of_filter}
use Rattle.slnf_local.proofs.Over.{IsAt, at_split, same_post}
use Rattle.slnf_run.proofs.NextAccess.{stand_after-ended}
use Rattle.slnf_run.proofs.Taking.{earlier_ended_at}

stays : {F : Type 0} (machine : Machine F) (stand : Stand F) (es : List Entry) → HasEnded stand →
    HasEnded (stand_after machine stand es)
stays machine (Flies flight) es h = absurd h
stays machine (Ends verdict) es h = subst HasEnded (sym (stand_after-ended machine verdict es)) tt

-- an item that has ended stays so
pub ended_stays : {F A : Type 0} (s : Setting F A) (incarnation item : ℕ) (es tail : List Entry) →
    HasEnded (stand_of s.scene incarnation item es) → HasEnded (stand_of s.scene incarnation item (es ++ tail))
ended_stays s incarnation item es tail h =
    subst HasEnded (sym (stand_of-append s incarnation item es tail))
    (stays (s.scene.machine incarnation) (stand_of s.scene incarnation item es)
    (of_item item (part_of incarnation tail)) h)

-- an item has no entries while one of an earlier batch flies
abbrev pub IsUntouched : {F A : Type 0} → Setting F A → List Entry → ℕ → List Offer → Type 0
IsUntouched s es incarnation offers =
    (item other : ℕ) → IsOffered other offers → batch_of other offers < batch_of item offers →
    (own_of incarnation item es ≡ []) ⊎ HasEnded (stand_of s.scene incarnation other es)

pub own_of-other_item : (incarnation item : ℕ) (es : List Entry) (e : Entry) →
    (e.item ≡ item → ⊥) → own_of incarnation item (es ++ e ∷ []) ≡ own_of incarnation item es
own_of-other_item incarnation item es e n =
    filter-append (is_of incarnation item) es (e ∷ [])
    ∙ (ap (λ l. own_of incarnation item es ++ l) (own_of_part incarnation item (e ∷ [])
    ∙ none (cases_eq e.incarnation incarnation))
    ∙ append-nil (own_of incarnation item es))
  where
    none : (e.incarnation ≡ incarnation) ⊎ (e.incarnation ≡ incarnation → ⊥) →
        of_item item (part_of incarnation (e ∷ [])) ≡ []
    none (inl own) = ap (of_item item) (part_of-own incarnation e [] own) ∙ of_item-other item e [] n
    none (inr m) = ap (of_item item) (part_of-other incarnation e [] m)

-- in a list that grew by expected entries
pub untouched : {F A : Type 0} (s : Setting F A) (es : List Entry) (incarnation : ℕ) (post : Post) →
    Grown (IsExpected s) [] es → slice_get (posts_of s es) incarnation ≡ Some post →
    IsUntouched s es incarnation (offers_at s incarnation post)
untouched s es incarnation post grown at item other offered before =
    go (own_of incarnation item es) refl
  where
    offers : List Offer
    offers = offers_at s incarnation post

    ended : (e : Entry) → IsSplitBy (is_of incarnation item) es [] e → HasEnded (stand_of s.scene incarnation other es)
    ended e k =
        let p = and_parts (e.incarnation == incarnation) (e.item == item) k.passes in
        let mine : e.incarnation ≡ incarnation = eqb-true e.incarnation incarnation p.0 in
        let x : IsAt s es k.before e = at_split s es k.before k.later e grown k.whole in
        let earlier : EarlierEnded s incarnation k.before (batch_of e.item offers) offers =
        subst₂ (λ i p. EarlierEnded s i k.before (batch_of e.item (offers_at s i p)) (offers_at s i p)) mine
        (same_post s es k.before e incarnation post x mine at) x.expected.in_hand in
        subst (λ l. HasEnded (stand_of s.scene incarnation other l)) (sym k.whole)
        (ended_stays s incarnation other k.before (e ∷ k.later)
        (earlier_ended_at s incarnation k.before (batch_of e.item offers) other offers earlier offered
        (subst (λ n. batch_of other offers < batch_of n offers) (sym (eqb-true e.item item p.1)) before)))

    go : (own : List Entry) → own_of incarnation item es ≡ own →
        (own_of incarnation item es ≡ []) ⊎ HasEnded (stand_of s.scene incarnation other es)
    go [] w = inl w
    go (e ∷ rest) w = inr (ended e (split_of_filter (is_of incarnation item) es [] rest e w))
