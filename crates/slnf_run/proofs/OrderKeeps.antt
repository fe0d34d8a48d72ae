-- What the order of a list of accesses keeps of it.
use Rattle.std.proofs.Common.{◌≡◌, ℕ, ◌%◌, ◌^◌, ◌<◌, ◌≤◌, ◌==◌, List, [], ◌∷◌, ◌++◌, sym, arith}
use Rattle.slnf_access.specs.declared.requests.Entry.{Entry}
use Rattle.slnf_access.specs.Map.{key_of, empty, IsLegal}
use Rattle.slnf_access.specs.Order.{InOrder, IsInShard}
use Rattle.slnf_run.specs.Scene.{own_of, is_of}
use Rattle.slnf_run.specs.Parts.{part_of}
use Rattle.slnf_run.specs.Scheduled.{greatest, in_order}
use Rattle.slnf_run.specs.Made.{Grown, Pairs, is_before, IsLaid, IsAbove, of_shard, of_key}
use Rattle.slnf_run.proofs.Stamps.{stamps_above, epochs_rise, shard_stamps_rise, incarnation_stamps_rise, epoch_stamps_rise, made_legal_from}
use Rattle.slnf_run.proofs.Sorting.{in_order-ordered, apart_of_rises, filter-in_order, epochs_rise-in_order}
use Rattle.slnf_run.proofs.Rising.{rises_of_number, rises_of_item, key_stamps_rise}
use Rattle.slnf_run.proofs.Keys.{legal-same}
use Rattle.std.specs.List.{AllByRecursion}

-- What a list j in order has of the accesses m.
pub record IsOrderOf (epoch : ℕ → ℕ) (m j : List Entry) : Type 0 where
  pub ordered : InOrder j
  pub shards : (shard : ℕ) → of_shard shard j ≡ of_shard shard m
  pub keys : (key : ℕ) → of_key key j ≡ of_key key m
  pub parts : (incarnation : ℕ) → part_of incarnation j ≡ part_of incarnation m
  pub own : (incarnation item : ℕ) → own_of incarnation item j ≡ own_of incarnation item m
  pub legal : IsLegal j
  pub by_epoch : Pairs (λ e f. epoch e.incarnation ≤ epoch f.incarnation) j

pub made_own : (epoch : ℕ → ℕ) (shards : ℕ) (es tail : List Entry) → Grown (IsLaid epoch shards) es tail →
    AllByRecursion (λ e. e.shard ≡ key_of e.request % shards) tail
made_own epoch shards es [] h = tt
made_own epoch shards es (e ∷ tail) h = (h.0.shard, made_own epoch shards (es ++ e ∷ []) tail h.1)

-- the order of a list of accesses as they are made
pub made_in_order : (epoch : ℕ → ℕ) (shards : ℕ) (m : List Entry) → Grown (IsLaid epoch shards) [] m →
    IsOrderOf epoch m (in_order m)
made_in_order epoch shards m h =
    let above : Pairs (IsAbove epoch) m = stamps_above epoch shards m h in
    let shard : Pairs (λ e f. e.shard ≡ f.shard → e.stamp < f.stamp) m = shard_stamps_rise epoch m above in
    let own : Pairs (λ e f. e.incarnation ≡ f.incarnation → e.stamp < f.stamp) m =
    incarnation_stamps_rise epoch m above in
    let key : Pairs (λ e f. key_of e.request ≡ key_of f.request → e.stamp < f.stamp) m =
    key_stamps_rise shards m (made_own epoch shards [] m h) shard in
    let keys : (k : ℕ) → of_key k (in_order m) ≡ of_key k m =
    λ k. filter-in_order (λ e. key_of e.request == k) m (rises_of_number (λ e. key_of e.request) k m key) in
    record {
      ordered = in_order-ordered m (apart_of_rises m shard);
      shards = λ k. filter-in_order (λ e. e.shard == k) m (rises_of_number (λ e. e.shard) k m shard);
      keys = keys;
      parts = λ k. filter-in_order (λ e. e.incarnation == k) m (rises_of_number (λ e. e.incarnation) k m own);
      own = λ i k. filter-in_order (is_of i k) m (rises_of_item i k m own);
      legal = legal-same empty m (in_order m) (λ k. sym (keys k)) (made_legal_from epoch shards [] m h);
      by_epoch = epochs_rise-in_order epoch m (epochs_rise epoch shards m h) (epoch_stamps_rise epoch m above)
          (apart_of_rises m shard);
    }

-- accesses whose stamps are below 2^62 are in the shards of their keys
pub made_each_in_shard : (epoch : ℕ → ℕ) (shards : ℕ) (es tail : List Entry) →
    AllByRecursion (λ e. e.stamp < 2 ^ 62) tail → Grown (IsLaid epoch shards) es tail →
    AllByRecursion (IsInShard shards) tail
made_each_in_shard epoch shards es [] l h = tt
made_each_in_shard epoch shards es (e ∷ tail) l h =
    let above : greatest (is_before epoch e.incarnation e.shard) es < e.stamp = h.0.above in (
      record { from_one = omega arith; below_end = l.0; shard = h.0.shard },
      made_each_in_shard epoch shards (es ++ e ∷ []) tail l.1 h.1,
    )
