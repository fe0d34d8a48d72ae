-- The rules of runs that tell what a list's entries are of: they hold also before each actor has done its work.
use Rattle.std.proofs.Common.{◌≡◌, ℕ, ◌<◌, List, [], ◌∷◌, ◌++◌, Some, length, slice_get, subst}
use Rattle.std.specs.List.{AllByRecursion}
use Rattle.slnf_access.specs.declared.requests.Entry.{Entry}
use Rattle.slnf_access.specs.Machines.{IsPath}
use Rattle.slnf_run.specs.Setting.{Setting}
use Rattle.slnf_run.specs.Parts.{part_of, batch_of, Post, posts_of, offers_at}
use Rattle.slnf_run.specs.Run.{IsOffered, EarlierEnded, IsRun}
use Rattle.slnf_run.specs.Keeps.{HasPaths}
use Rattle.slnf_run.specs.Made.{Grown}
use Rattle.slnf_run.proofs.Runs.{own_in_part, paths_of_run}
use Rattle.slnf_run.proofs.RunOfGrown.{IsLooseRun}
use Rattle.slnf_run.proofs.GrowthRule.{IsNext, grown_of_actors, grown_path, grown_offered, grown_by_batch}

pub record IsOffering {F A : Type 0} (s : Setting F A) (j : List Entry) : Type 0 where
  pub of_actors : AllByRecursion (λ e. e.incarnation < length (posts_of s j)) j
  pub paths : HasPaths s.scene j
  pub offered : (incarnation : ℕ) (post : Post) → slice_get (posts_of s j) incarnation ≡ Some post →
      AllByRecursion (λ e. IsOffered e.item (offers_at s incarnation post)) (part_of incarnation j)
  pub by_batch : (before later : List Entry) (e : Entry) (post : Post) → j ≡ before ++ e ∷ later →
      slice_get (posts_of s j) e.incarnation ≡ Some post →
      EarlierEnded s e.incarnation before (batch_of e.item (offers_at s e.incarnation post))
      (offers_at s e.incarnation post)

pub offering_of_run : {F A : Type 0} (s : Setting F A) (j : List Entry) → IsRun s j → IsOffering s j
offering_of_run s j run = record {
  of_actors = run.of_actors;
  paths = paths_of_run s j run;
  offered = run.offered;
  by_batch = run.by_batch;
}

pub offering_of_loose : {F A : Type 0} (s : Setting F A) (m : List Entry) → IsLooseRun s m → IsOffering s m
offering_of_loose s m loose = record {
  of_actors = loose.of_actors;
  paths = λ i k. subst (IsPath (s.scene.machine i) (s.scene.begins i k)) (own_in_part i k m) (loose.paths i k);
  offered = loose.offered;
  by_batch = loose.by_batch;
}

-- what grows by the rule of runs keeps them at each moment
pub offering_of_grown : {F A : Type 0} (s : Setting F A) (m : List Entry) → Grown (IsNext s (posts_of s m)) [] m →
    IsOffering s m
offering_of_grown s m grown = record {
  of_actors = grown_of_actors s (posts_of s m) [] m grown;
  paths = λ i k. subst (IsPath (s.scene.machine i) (s.scene.begins i k)) (own_in_part i k m)
      (grown_path s (posts_of s m) i k [] m grown);
  offered = λ i post at. grown_offered s (posts_of s m) i post [] m at grown;
  by_batch = λ before later e post split at.
      grown_by_batch s (posts_of s m) before later e post (subst (Grown (IsNext s (posts_of s m)) []) split grown) at;
}
