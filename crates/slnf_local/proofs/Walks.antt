-- One pass answers rule 4, and after it rule 5.
use Rattle.std.proofs.Common.{◌≡◌, ℕ, ◌+◌, List, [], ◌∷◌, ◌++◌, Option, Some, None, length, refl, sym, subst, arith, append_assoc, append-nil}
use Rattle.std.proofs.lemmas.List.{length_push}
use Rattle.slnf_access.specs.declared.requests.Entry.{Entry}
use Rattle.slnf_run.specs.Setting.{Setting}
use Rattle.slnf_run.specs.Made.{Grown}
use Rattle.slnf_local.specs.Local.{IsExpected}
use Rattle.slnf_local.specs.Tells.{Ends, Lapses}
use Rattle.slnf_local.specs.Followers.{Follower, first_epoch, IsFollowed}
use Rattle.slnf_local.specs.Passes.{eras_from, accept, Walk, Stuck, Reached, or_stuck, walk, finish, unended, lapse_at, lapse}
use Rattle.slnf_local.proofs.First.{FirstBreak, break_here, break_later, break_at}
use Rattle.slnf_local.proofs.Following.{followed_first}
use Rattle.slnf_local.proofs.Accepting.{Accepted, accepted}
use Rattle.slnf_local.proofs.Ending.{finishes}

-- What a pass tells of the entries to come.
abbrev pub Walks : {F A : Type 0} → Setting F A → List Entry → List Entry → Walk F → Type 0
Walks s es tail (Stuck place) = FirstBreak (IsExpected s) es tail (Some place)
Walks s es tail (Reached f) = IsFollowed s (es ++ tail) f

walks_on : {F A : Type 0} (s : Setting F A) (es tail : List Entry) (e : Entry) (w : Walk F) → IsExpected s es e →
    Walks s (es ++ e ∷ []) tail w → Walks s es (e ∷ tail) w
walks_on s es tail e (Stuck place) expected h = break_later (IsExpected s) es tail e (Some place) expected h
walks_on s es tail e (Reached f) expected h = subst (λ l. IsFollowed s l f) (append_assoc es (e ∷ []) tail) h

pub walks : {F A : Type 0} (s : Setting F A) (es tail : List Entry) (f : Follower F) (place : ℕ) →
    IsFollowed s es f → place ≡ length es + 1 → Walks s es tail (walk s place tail f)
walks s es [] f place h n = subst (λ l. IsFollowed s l f) (sym (append-nil es)) h
walks {F = F} s es (e ∷ tail) f place h n =
    go (accept s f e) (accepted s es f e h)
    (λ g k. walks s (es ++ e ∷ []) tail g (place + 1) k
    (let l : length (es ++ e ∷ []) ≡ length es + 1 = length_push es e in omega arith))
  where
    go : (o : Option (Follower F)) → Accepted s es e o →
        ((g : Follower F) → IsFollowed s (es ++ e ∷ []) g → Walks s (es ++ e ∷ []) tail (walk s (place + 1) tail g)) →
        Walks s es (e ∷ tail) (or_stuck place (walk s (place + 1) tail) o)
    go None k rest = break_here (IsExpected s) es tail e place n k
    go (Some g) k rest = walks_on s es tail e (walk s (place + 1) tail g) k.0 (rest g k.1)

-- what the pass answers by rules 4 and 5
pub outcome_tells : {F A : Type 0} (s : Setting F A) (j : List Entry) → Lapses s j (lapse s j)
outcome_tells {F = F} s j = go (walk s 1 j (first_epoch s)) (walks s [] j (first_epoch s) 1 (followed_first s) refl)
  where
    ended : (o : Option ℕ) → Grown (IsExpected s) [] j → Ends s j o → Lapses s j (unended o)
    ended None grown k = (grown, k)
    ended (Some n) grown k = (grown, k)

    go : (w : Walk F) → Walks s [] j w → Lapses s j (lapse_at s w)
    go (Stuck place) h = break_at (IsExpected s) j place h
    go (Reached f) h =
        ended (finish s (eras_from f.number s.eras) f) h.grown (finishes s j (eras_from f.number s.eras) f h refl)
