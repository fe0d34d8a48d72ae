-- A list of accesses that keeps the rules of runs makes a run when it is put in order.
use Rattle.std.proofs.Common.{◌≡◌, ℕ, ◌^◌, ◌<◌, ◌≤◌, List, [], ◌∷◌, ◌++◌, Some, length, slice_get, sym, ap, ◌∙◌, subst}
use Rattle.slnf_access.specs.declared.requests.Entry.{Entry}
use Rattle.slnf_access.specs.Machines.{IsPath}
use Rattle.slnf_access.specs.Order.{InOrder, IsInShard}
use Rattle.slnf_run.specs.Setting.{Setting, era_of}
use Rattle.slnf_run.specs.Parts.{part_of, of_item, batch_of, Post, posts_of, offers_at}
use Rattle.slnf_run.specs.Run.{IsDone, IsOffered, EarlierEnded, IsRun}
use Rattle.slnf_run.specs.Scheduled.{in_order}
use Rattle.slnf_run.specs.Made.{Grown, Pairs, IsLaid}
use Rattle.slnf_run.proofs.Pairing.{pairs_at}
use Rattle.slnf_run.proofs.Sorting.{each-in_order, in_order-same}
use Rattle.slnf_run.proofs.OrderKeeps.{IsOrderOf, made_in_order, made_each_in_shard}
use Rattle.slnf_run.proofs.Parting.{posts_of-same, is_done-same, earlier_ended-same, IsSplit, split_of_part, part_at}
use Rattle.std.specs.List.{AllByRecursion}

-- The rules of runs that don't speak of an order over all incarnations: rules 2, 3, 5 and 6.
pub record IsLooseRun {F A : Type 0} (s : Setting F A) (m : List Entry) : Type 0 where
  pub of_actors : AllByRecursion (λ e. e.incarnation < length (posts_of s m)) m
  pub paths : (incarnation item : ℕ) → IsPath (s.scene.machine incarnation) (s.scene.begins incarnation item)
      (of_item item (part_of incarnation m))
  pub done : (incarnation : ℕ) (post : Post) → slice_get (posts_of s m) incarnation ≡ Some post →
      IsDone s m incarnation post
  pub offered : (incarnation : ℕ) (post : Post) → slice_get (posts_of s m) incarnation ≡ Some post →
      AllByRecursion (λ e. IsOffered e.item (offers_at s incarnation post)) (part_of incarnation m)
  pub by_batch : (before later : List Entry) (e : Entry) (post : Post) → m ≡ before ++ e ∷ later →
      slice_get (posts_of s m) e.incarnation ≡ Some post →
      EarlierEnded s e.incarnation before (batch_of e.item (offers_at s e.incarnation post))
      (offers_at s e.incarnation post)

-- an entry stands behind ended offers in each list with the same parts
by_batch-same : {F A : Type 0} (s : Setting F A) (m j : List Entry) → ((i : ℕ) → part_of i m ≡ part_of i j) →
    ((before later : List Entry) (e : Entry) (post : Post) → m ≡ before ++ e ∷ later →
    slice_get (posts_of s m) e.incarnation ≡ Some post →
    EarlierEnded s e.incarnation before (batch_of e.item (offers_at s e.incarnation post))
    (offers_at s e.incarnation post)) → (before later : List Entry) (e : Entry) (post : Post) → j ≡ before
    ++ e ∷ later → slice_get (posts_of s m) e.incarnation ≡ Some post →
    EarlierEnded s e.incarnation before (batch_of e.item (offers_at s e.incarnation post))
    (offers_at s e.incarnation post)
by_batch-same s m j same rule before later e post h at =
    let split : IsSplit e.incarnation m (part_of e.incarnation before) e =
    split_of_part e.incarnation m (part_of e.incarnation before) (part_of e.incarnation later) e (same e.incarnation
    ∙ part_at before later e j h) in
    earlier_ended-same s e.incarnation split.before before (batch_of e.item (offers_at s e.incarnation post))
    (offers_at s e.incarnation post) split.part
    (rule split.before split.later e post split.whole at)

-- these rules hold of each list with the same parts and no other entries
pub loose-same : {F A : Type 0} (s : Setting F A) (m j : List Entry) → ((i : ℕ) → part_of i m ≡ part_of i j) →
    ((P : Entry → Type 0) → AllByRecursion P m → AllByRecursion P j) → IsLooseRun s m → IsLooseRun s j
loose-same s m j same each h =
    let posts : posts_of s m ≡ posts_of s j = posts_of-same s m j same in
    record {
      of_actors = each (λ e. e.incarnation < length (posts_of s j))
          (subst (λ ps. AllByRecursion (λ e. e.incarnation < length ps) m) posts h.of_actors);
      paths = λ incarnation item.
          subst (λ part. IsPath (s.scene.machine incarnation) (s.scene.begins incarnation item) (of_item item part))
          (same incarnation) (h.paths incarnation item);
      done = λ incarnation post at.
          is_done-same s m j incarnation post (same incarnation)
          (h.done incarnation post (ap (λ ps. slice_get ps incarnation) posts ∙ at));
      offered = λ incarnation post at.
          subst (AllByRecursion (λ e. IsOffered e.item (offers_at s incarnation post))) (same incarnation)
          (h.offered incarnation post (ap (λ ps. slice_get ps incarnation) posts ∙ at));
      by_batch = λ before later e post w at.
          by_batch-same s m j same h.by_batch before later e post w (ap (λ ps. slice_get ps e.incarnation) posts
          ∙ at);
    }

-- the posts are those of the accesses
pub posts_of-in_order : {F A : Type 0} (s : Setting F A) (m : List Entry) →
    Grown (IsLaid (era_of s.eras) s.shards) [] m → posts_of s (in_order m) ≡ posts_of s m
posts_of-in_order s m made = posts_of-same s (in_order m) m (made_in_order (era_of s.eras) s.shards m made).parts

-- a list of accesses that keeps these rules is a run when it is put in order
pub run_in_order : {F A : Type 0} (s : Setting F A) (m : List Entry) → AllByRecursion (λ e. e.stamp < 2 ^ 62) m →
    Grown (IsLaid (era_of s.eras) s.shards) [] m → IsLooseRun s m → IsRun s (in_order m)
run_in_order s m l made h =
    let order : IsOrderOf (era_of s.eras) m (in_order m) = made_in_order (era_of s.eras) s.shards m made in
    let loose : IsLooseRun s (in_order m) = loose-same s m (in_order m) (λ i. sym (order.parts i))
    (λ P k. each-in_order P m k) h in
    record {
      in_order = order.ordered;
      in_shards = each-in_order (IsInShard s.shards) m (made_each_in_shard (era_of s.eras) s.shards [] m l made);
      legal = order.legal;
      of_actors = loose.of_actors;
      paths = loose.paths;
      done = loose.done;
      by_epoch = λ before middle later e f w.
          pairs_at (λ e f. era_of s.eras e.incarnation ≤ era_of s.eras f.incarnation) before middle later e f
          (subst (Pairs (λ e f. era_of s.eras e.incarnation ≤ era_of s.eras f.incarnation)) w order.by_epoch);
      offered = loose.offered;
      by_batch = loose.by_batch;
    }

-- a list in order is a run where it is one of accesses as they are made, and keeps these rules
pub run_of_made : {F A : Type 0} (s : Setting F A) (j : List Entry) → AllByRecursion (λ e. e.stamp < 2 ^ 62) j →
    InOrder j → Grown (IsLaid (era_of s.eras) s.shards) [] j → IsLooseRun s j → IsRun s j
run_of_made s j l ordered made h = subst (IsRun s) (in_order-same j ordered) (run_in_order s j l made h)
