-- What the parts of a merged list are to be, so that it is a run.
use Rattle.std.specs.Prelude.{◌≡◌, ◌⊎◌, ℕ, suc, ◌-◌, ◌<◌, ◌≤◌, Some, List, [], ◌∷◌, length, slice_get}
use Rattle.std.specs.List.{AllByRecursion}
use Rattle.slnf_access.specs.declared.requests.Entry.{Entry}
use Rattle.slnf_run.specs.Setting.{Era, Setting, era_of}
use Rattle.slnf_run.specs.Parts.{Post, posts_of}
use Rattle.slnf_run.specs.Jobs.{job_of}
use Rattle.slnf_turns.specs.declared.views.View.{View}
use Rattle.slnf_store.specs.Closes.{list_of}
use Rattle.slnf_threads.specs.Worked.{IsWorked, HasWorked}

-- the number is one of these
abbrev pub IsOneOf : ℕ → List ℕ → Type 0
IsOneOf n [] = ⊥
IsOneOf n (x ∷ xs) = (x ≡ n) ⊎ IsOneOf n xs

-- When the pass of an incarnation was split off, the passes of these numbers had been joined: those of all incarnations
-- of earlier epochs, and no other. A pass has one more than its incarnation as its number.
pub record AreOfEarlier (eras : List Era) (incarnation : ℕ) (numbers : List ℕ) : Type 0 where
  pub earlier : AllByRecursion (λ n. era_of eras (n - 1) < era_of eras incarnation) numbers
  pub all : (k : ℕ) → era_of eras k < era_of eras incarnation → IsOneOf (suc k) numbers

-- By what the root knows, each actor of the setting has worked up to its end in the list of its pass, after the actors
-- of all earlier epochs, and nobody else has.
pub record AreParts {F A : Type 0} (s : Setting F A) (root : View) (merged : List Entry) : Type 0 where
  pub nobody_else : (incarnation : ℕ) → length (posts_of s merged) ≤ incarnation → list_of incarnation root ≡ []
  pub worked : (incarnation : ℕ) (post : Post) → slice_get (posts_of s merged) incarnation ≡ Some post →
      HasWorked (job_of s incarnation post.at post.actor) (list_of incarnation root)
  pub split : (incarnation : ℕ) (numbers : List ℕ) → slice_get root.before incarnation ≡ Some numbers →
      AreOfEarlier s.eras incarnation numbers

-- The same while actors are at work: each has worked so far.
pub record ArePartsSoFar {F A : Type 0} (s : Setting F A) (root : View) (merged : List Entry) : Type 0 where
  pub nobody_else : (incarnation : ℕ) → length (posts_of s merged) ≤ incarnation → list_of incarnation root ≡ []
  pub worked : (incarnation : ℕ) (post : Post) → slice_get (posts_of s merged) incarnation ≡ Some post →
      IsWorked (job_of s incarnation post.at post.actor) [] (list_of incarnation root)
