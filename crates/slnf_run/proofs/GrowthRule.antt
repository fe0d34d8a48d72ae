-- The rule by which a run's list of accesses grows, and what it tells of the whole list.
use Rattle.std.proofs.Common.{◌≡◌, inl, inr, ℕ, ◌<◌, List, [], ◌∷◌, ◌++◌, Some, length, slice_get, sym, ap, ◌∙◌, subst, subst₂, append_assoc, append-nil}
use Rattle.std.proofs.lemmas.Bool.{cases_eq}
use Rattle.std.proofs.lemmas.Option.{slice_get_within, same_Some}
use Rattle.slnf_access.specs.declared.requests.Entry.{Entry}
use Rattle.slnf_access.specs.Machines.{IsAsked, IsPath}
use Rattle.slnf_run.specs.Setting.{Setting, era_of}
use Rattle.slnf_run.specs.Scene.{stand_of}
use Rattle.slnf_run.specs.Parts.{part_of, of_item, batch_of, Post, offers_at}
use Rattle.slnf_run.specs.Run.{IsBelowStop, IsOffered, EarlierEnded}
use Rattle.slnf_run.specs.Made.{Grown, IsLaid}
use Rattle.slnf_run.proofs.Growth.{grown_at}
use Rattle.slnf_run.proofs.Parting.{part_of-append, part_of-own, part_of-other}
use Rattle.slnf_run.proofs.AddedEntries.{of_item-own, of_item-other, stand_of-own, stand_of-other, stand_of-other_item}
use Rattle.slnf_run.proofs.Stops.{IsWithinStop, within_stop-more}
use Rattle.std.specs.List.{AllByRecursion}

-- The entry may stand after these entries, where the incarnations have these posts: an access makes it, which is the
-- next of its item, and its actor is offered the item, all of whose earlier batches have ended.
pub record IsNext {F A : Type 0} (s : Setting F A) (posts : List Post) (es : List Entry) (e : Entry) : Type 0 where
  pub made : IsLaid (era_of s.eras) s.shards es e
  pub asked : IsAsked (s.scene.machine e.incarnation) (stand_of s.scene e.incarnation e.item es) e
  pub post : Post
  pub posted : slice_get posts e.incarnation ≡ Some post
  pub offered : IsOffered e.item (offers_at s e.incarnation post)
  pub below : IsBelowStop post.actor (part_of e.incarnation es)
  pub earlier : EarlierEnded s e.incarnation es (batch_of e.item (offers_at s e.incarnation post))
      (offers_at s e.incarnation post)

pub grown_of_actors : {F A : Type 0} (s : Setting F A) (posts : List Post) (es tail : List Entry) →
    Grown (IsNext s posts) es tail → AllByRecursion (λ e. e.incarnation < length posts) tail
grown_of_actors s posts es [] h = tt
grown_of_actors s posts es (e ∷ tail) h =
    (slice_get_within posts e.incarnation h.0.post h.0.posted, grown_of_actors s posts (es ++ e ∷ []) tail h.1)

-- each item goes on by a path from where it stands
pub grown_path : {F A : Type 0} (s : Setting F A) (posts : List Post) (incarnation item : ℕ) (es tail : List Entry) →
    Grown (IsNext s posts) es tail → IsPath (s.scene.machine incarnation) (stand_of s.scene incarnation item es)
    (of_item item (part_of incarnation tail))
grown_path s posts incarnation item es [] h = tt
grown_path s posts incarnation item es (e ∷ tail) h =
    let rest : IsPath (s.scene.machine incarnation) (stand_of s.scene incarnation item (es ++ e ∷ []))
    (of_item item (part_of incarnation tail)) =
    grown_path s posts incarnation item (es ++ e ∷ []) tail h.1 in
    elim (cases_eq e.incarnation incarnation) [
      | inr n ↦
          subst₂ (λ stand part. IsPath (s.scene.machine incarnation) stand (of_item item part))
          (stand_of-other s incarnation item es e n) (sym (part_of-other incarnation e tail n)) rest
      | inl i ↦ elim (cases_eq e.item item) [
        | inr n ↦
            subst₂ (λ stand own. IsPath (s.scene.machine incarnation) stand own)
            (stand_of-other_item s incarnation item es e i n)
            (sym (ap (of_item item) (part_of-own incarnation e tail i)
            ∙ of_item-other item e (part_of incarnation tail) n))
            rest
        | inl k ↦
            subst (λ own. IsPath (s.scene.machine incarnation) (stand_of s.scene incarnation item es) own)
            (sym (ap (of_item item) (part_of-own incarnation e tail i)
            ∙ of_item-own item e (part_of incarnation tail) k)) (
              subst₂ (λ own number. IsAsked (s.scene.machine own) (stand_of s.scene own number es) e) i k h.0.asked,
              subst (λ stand. IsPath (s.scene.machine incarnation) stand (of_item item (part_of incarnation tail)))
                  (stand_of-own s incarnation item es e i k) rest,
            )
      ]
    ]

-- the entries of an incarnation are of items that it is offered at its post
pub grown_offered : {F A : Type 0} (s : Setting F A) (posts : List Post) (incarnation : ℕ) (post : Post)
    (es tail : List Entry) → slice_get posts incarnation ≡ Some post → Grown (IsNext s posts) es tail →
    AllByRecursion (λ e. IsOffered e.item (offers_at s incarnation post)) (part_of incarnation tail)
grown_offered s posts incarnation post es [] p h = tt
grown_offered s posts incarnation post es (e ∷ tail) p h =
    let rest : AllByRecursion (λ e. IsOffered e.item (offers_at s incarnation post)) (part_of incarnation tail) =
    grown_offered s posts incarnation post (es ++ e ∷ []) tail p h.1 in
    elim (cases_eq e.incarnation incarnation) [
      | inr n ↦ subst (AllByRecursion (λ e. IsOffered e.item (offers_at s incarnation post)))
          (sym (part_of-other incarnation e tail n)) rest
      | inl i ↦
          let same : h.0.post ≡ post = same_Some h.0.post post (sym h.0.posted ∙ (ap (slice_get posts) i ∙ p)) in
          subst (AllByRecursion (λ e. IsOffered e.item (offers_at s incarnation post)))
          (sym (part_of-own incarnation e tail i))
          (subst₂ (λ own post. IsOffered e.item (offers_at s own post)) i same h.0.offered, rest)
    ]

-- where an entry stands, all offers of earlier batches have ended
pub grown_by_batch : {F A : Type 0} (s : Setting F A) (posts : List Post) (before later : List Entry) (e : Entry)
    (post : Post) → Grown (IsNext s posts) [] (before ++ e ∷ later) → slice_get posts e.incarnation ≡ Some post →
    EarlierEnded s e.incarnation before (batch_of e.item (offers_at s e.incarnation post))
    (offers_at s e.incarnation post)
grown_by_batch s posts before later e post h p =
    let next : IsNext s posts before e = grown_at (IsNext s posts) [] before later e h in
    let same : next.post ≡ post = same_Some next.post post (sym next.posted ∙ p) in
    subst (λ post. EarlierEnded s e.incarnation before (batch_of e.item (offers_at s e.incarnation post))
    (offers_at s e.incarnation post)) same next.earlier

-- no part passes its stop
pub grown_within_stop : {F A : Type 0} (s : Setting F A) (posts : List Post) (incarnation : ℕ) (post : Post)
    (es tail : List Entry) → slice_get posts incarnation ≡ Some post → Grown (IsNext s posts) es tail →
    IsWithinStop post.actor (part_of incarnation es) → IsWithinStop post.actor (part_of incarnation (es ++ tail))
grown_within_stop s posts incarnation post es [] p h k =
    subst (λ l. IsWithinStop post.actor (part_of incarnation l)) (sym (append-nil es)) k
grown_within_stop s posts incarnation post es (e ∷ tail) p h k =
    let more : IsWithinStop post.actor (part_of incarnation (es ++ e ∷ [])) =
    elim (cases_eq e.incarnation incarnation) [
      | inr n ↦
          subst (IsWithinStop post.actor)
          (sym (part_of-append incarnation es (e ∷ [])
          ∙ (ap (λ l. part_of incarnation es ++ l) (part_of-other incarnation e [] n)
          ∙ append-nil (part_of incarnation es))))
          k
      | inl i ↦
          let same : h.0.post ≡ post = same_Some h.0.post post (sym h.0.posted ∙ (ap (slice_get posts) i ∙ p)) in
          subst (IsWithinStop post.actor)
          (sym (part_of-append incarnation es (e ∷ [])
          ∙ ap (λ l. part_of incarnation es ++ l) (part_of-own incarnation e [] i)))
          (within_stop-more post.actor (part_of incarnation es) e
          (subst₂ (λ own post. IsBelowStop post.actor (part_of own es)) i same h.0.below))
    ] in
    subst (λ l. IsWithinStop post.actor (part_of incarnation l)) (append_assoc es (e ∷ []) tail)
    (grown_within_stop s posts incarnation post (es ++ e ∷ []) tail p h.1 more)
