-- The rules of runs on each incarnation's own part: they depend on the parts alone, in whatever order the list has
-- them.
use Rattle.std.proofs.Common.{◌≡◌, ℕ, ◌+◌, ◌<◌, ◌≤◌, List, [], ◌∷◌, ◌++◌, Some, length, slice_get, refl, sym, ap, ◌∙◌, subst, arith}
use Rattle.std.proofs.lemmas.Option.{slice_get_within}
use Rattle.slnf_access.specs.declared.requests.Entry.{Entry}
use Rattle.slnf_access.specs.Machines.{IsPath}
use Rattle.slnf_run.specs.Setting.{Setting}
use Rattle.slnf_run.specs.Parts.{part_of, of_item, batch_of, Post, posts_of, offers_at}
use Rattle.slnf_run.specs.Run.{IsDone, IsOffered, EarlierEnded}
use Rattle.slnf_run.specs.Made.{Grown}
use Rattle.slnf_run.proofs.Parting.{earlier_ended-same, part_of-part_of, IsSplit, split_of_part, part_of-other, part_at}
use Rattle.slnf_run.proofs.AddedEntries.{each_before}
use Rattle.slnf_run.proofs.RunOfGrown.{IsLooseRun}
use Rattle.slnf_run.proofs.Lists.{EveryAt, every_at}
use Rattle.slnf_run.proofs.GrowthRule.{IsNext, grown_path, grown_offered, grown_by_batch}
use Rattle.std.specs.List.{AllByRecursion}

-- The rules on the parts of a list, where the incarnations have these posts.
pub record IsOwnRun {F A : Type 0} (s : Setting F A) (posts : List Post) (m : List Entry) : Type 0 where
  -- only actors have entries
  pub of_actors : (incarnation : ℕ) → length posts ≤ incarnation → part_of incarnation m ≡ []
  pub paths : (incarnation item : ℕ) → IsPath (s.scene.machine incarnation) (s.scene.begins incarnation item)
      (of_item item (part_of incarnation m))
  pub done : (incarnation : ℕ) (post : Post) → slice_get posts incarnation ≡ Some post → IsDone s m incarnation post
  pub offered : (incarnation : ℕ) (post : Post) → slice_get posts incarnation ≡ Some post →
      AllByRecursion (λ e. IsOffered e.item (offers_at s incarnation post)) (part_of incarnation m)
  -- behind these entries of its part an entry stands only where all offers of earlier batches have ended
  pub by_batch : (incarnation : ℕ) (post : Post) (own rest : List Entry) (e : Entry) → slice_get posts incarnation
      ≡ Some post → part_of incarnation m ≡ own ++ e ∷ rest →
      EarlierEnded s incarnation own (batch_of e.item (offers_at s incarnation post)) (offers_at s incarnation post)

no_part : {F A : Type 0} (s : Setting F A) (posts : List Post) (incarnation : ℕ) (es tail : List Entry) →
    length posts ≤ incarnation → Grown (IsNext s posts) es tail → part_of incarnation tail ≡ []
no_part s posts incarnation es [] l h = refl
no_part s posts incarnation es (e ∷ tail) l h =
    let k : e.incarnation < length posts = slice_get_within posts e.incarnation h.0.post h.0.posted in
    part_of-other incarnation e tail (λ q. omega arith) ∙ no_part s posts incarnation (es ++ e ∷ []) tail l h.1

-- the entry of a split stands behind ended offers
batch_of_split : {F A : Type 0} (s : Setting F A) (posts : List Post) (m : List Entry) (incarnation : ℕ) (post : Post)
    (own : List Entry) (e : Entry) → Grown (IsNext s posts) [] m → slice_get posts incarnation ≡ Some post →
    IsSplit incarnation m own e → EarlierEnded s incarnation own (batch_of e.item (offers_at s incarnation post))
    (offers_at s incarnation post)
batch_of_split s posts m incarnation post own e grown at split =
    let here : EarlierEnded s e.incarnation split.before (batch_of e.item (offers_at s e.incarnation post))
    (offers_at s e.incarnation post) =
    grown_by_batch s posts split.before split.later e post (subst (Grown (IsNext s posts) []) split.whole grown)
    (ap (slice_get posts) split.mine ∙ at) in
    earlier_ended-same s incarnation split.before own (batch_of e.item (offers_at s incarnation post))
    (offers_at s incarnation post)
    (sym (part_of-part_of incarnation split.before) ∙ ap (part_of incarnation) split.part)
    (subst (λ i. EarlierEnded s i split.before (batch_of e.item (offers_at s i post)) (offers_at s i post)) split.mine
    here)

-- what grew by the rule of runs, and leaves each actor with its work done, keeps the rules on parts
pub own_run_of_grown : {F A : Type 0} (s : Setting F A) (posts : List Post) (m : List Entry) →
    Grown (IsNext s posts) [] m → EveryAt (IsDone s m) 0 posts → IsOwnRun s posts m
own_run_of_grown s posts m grown done = record {
  of_actors = λ incarnation l. no_part s posts incarnation [] m l grown;
  paths = λ incarnation item. grown_path s posts incarnation item [] m grown;
  done = λ incarnation post at.
      let q : 0 + incarnation ≡ incarnation = omega arith in
      subst (λ i. IsDone s m i post) q (every_at (IsDone s m) 0 posts incarnation post done at);
  offered = λ incarnation post at. grown_offered s posts incarnation post [] m at grown;
  by_batch = λ incarnation post own rest e at h.
      batch_of_split s posts m incarnation post own e grown at (split_of_part incarnation m own rest e h);
}

-- the rules on parts are those of a loose run
pub loose_of_own : {F A : Type 0} (s : Setting F A) (m : List Entry) → IsOwnRun s (posts_of s m) m → IsLooseRun s m
loose_of_own s m own = record {
  of_actors = each_before (length (posts_of s m)) m own.of_actors;
  paths = own.paths;
  done = own.done;
  offered = own.offered;
  by_batch = λ before later e post h at.
      earlier_ended-same s e.incarnation (part_of e.incarnation before) before
      (batch_of e.item (offers_at s e.incarnation post)) (offers_at s e.incarnation post)
      (part_of-part_of e.incarnation before)
      (own.by_batch e.incarnation post (part_of e.incarnation before) (part_of e.incarnation later) e at
      (part_at before later e m h));
}
