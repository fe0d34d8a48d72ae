-- Posts depend on the parts of earlier epochs alone.
use Rattle.std.proofs.Common.{◌≡◌, ℕ, ◌+◌, ◌<◌, ◌≤◌, List, [], ◌∷◌, ◌++◌, Some, length, map, slice_get, option_map, refl, ap, ◌∙◌, append-nil, arith}
use Rattle.std.proofs.lemmas.Option.{slice_get-map}
use Rattle.slnf_access.specs.declared.requests.Entry.{Entry}
use Rattle.slnf_run.specs.Setting.{Actor}
use Rattle.slnf_run.specs.Parts.{part_of, Post}
use Rattle.slnf_run.specs.Made.{Grown}
use Rattle.slnf_run.proofs.Growth.{Extends}
use Rattle.slnf_run.proofs.Parting.{part_of-append, part_of-other, post_of}
use Rattle.slnf_run.proofs.Lists.{slice_get-append_left, slice_get-append_right}

tail_of_later : (incarnation from : ℕ) (es tail : List Entry) → incarnation < from →
    Grown (λ es e. from ≤ e.incarnation) es tail → part_of incarnation tail ≡ []
tail_of_later incarnation from es [] l h = refl
tail_of_later incarnation from es (e ∷ tail) l h =
    part_of-other incarnation e tail (λ k. let b : from ≤ e.incarnation = h.0 in omega arith)
    ∙ tail_of_later incarnation from (es ++ e ∷ []) tail l h.1

-- entries of later incarnations leave a part as it was
pub part_of-later : (incarnation from : ℕ) (es m : List Entry) → incarnation < from →
    Extends (λ es e. from ≤ e.incarnation) es m → part_of incarnation m ≡ part_of incarnation es
part_of-later incarnation from es m l h =
    ap (part_of incarnation) h.whole
    ∙ (part_of-append incarnation es h.tail
    ∙ (ap (λ p. part_of incarnation es ++ p) (tail_of_later incarnation from es h.tail l h.grown)
    ∙ append-nil (part_of incarnation es)))

-- an actor's post stands at its incarnation
pub post_in : (earlier : List Post) (number : ℕ) (places : ℕ → ℕ) (actors : List Actor) (later : List Post) (k : ℕ)
    (actor : Actor) → slice_get actors k ≡ Some actor →
    slice_get (earlier ++ (map (post_of number places) actors ++ later)) (length earlier + k)
    ≡ Some (post_of number places actor)
post_in earlier number places actors later k actor h =
    slice_get-append_right earlier (map (post_of number places) actors ++ later) k
    ∙ slice_get-append_left (map (post_of number places) actors) later k (post_of number places actor)
    (slice_get-map (post_of number places) actors k ∙ ap (option_map (post_of number places)) h)
