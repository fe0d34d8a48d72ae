-- The order of a list that is spread keeps all that runs ask of it.
use Rattle.std.proofs.Common.{◌≡◌, inl, inr, ℕ, ◌%◌, ◌<◌, ◌≤◌, ◌==◌, Bool, IsTrue, List, [], sym, ap, ◌∙◌, subst, eqb-true, arith}
use Rattle.std.proofs.lemmas.Bool.{cases_lt}
use Rattle.std.proofs.lemmas.Bool.Decides.{nat_tests}
use Rattle.slnf_access.specs.declared.requests.Entry.{Entry}
use Rattle.slnf_access.specs.Map.{key_of, empty}
use Rattle.slnf_access.specs.Order.{Precedes, IsInShard}
use Rattle.slnf_run.specs.Setting.{Setting, era_of}
use Rattle.slnf_run.specs.Scene.{is_of}
use Rattle.slnf_run.specs.Run.{IsRun}
use Rattle.slnf_run.specs.Scheduled.{in_order}
use Rattle.slnf_run.specs.Made.{Grown, Pairs, IsLaid, IsAbove, Rises, is_before}
use Rattle.slnf_run.proofs.Pairing.{pairs-weaker, pairs-both, pairs_of_each, pairs_at}
use Rattle.slnf_run.proofs.Stamps.{stamps_above, epochs_rise, made_legal_from}
use Rattle.slnf_run.proofs.Sorting.{in_order-ordered, in_order-pairs, apart_of_rises, filter-in_order, each-in_order, symmetric-in_order, precedes_both}
use Rattle.slnf_run.proofs.Keys.{legal-same}
use Rattle.slnf_run.proofs.OrderKeeps.{IsOrderOf, made_own}
use Rattle.slnf_run.proofs.RunOfGrown.{IsLooseRun, loose-same}
use Rattle.slnf_run.specs.Spread.{IsBehind, IsSpread}
use Rattle.std.specs.List.{AllByRecursion}

-- accesses that are laid are spread
pub spread_of_laid : (epoch : ℕ → ℕ) (shards : ℕ) (m : List Entry) → Grown (IsLaid epoch shards) [] m →
    IsSpread epoch shards m
spread_of_laid epoch shards m h = record {
  behind = pairs-weaker (IsAbove epoch) (IsBehind epoch) (λ e f k t. inl (k t)) m (stamps_above epoch shards m h);
  own = made_own epoch shards [] m h;
  legal = made_legal_from epoch shards [] m h;
  epochs = epochs_rise epoch shards m h;
}

module _ (epoch : ℕ → ℕ) where
  before_shard : (e f : Entry) → e.shard ≡ f.shard → IsTrue (is_before epoch f.incarnation f.shard e)
  before_shard e f h = grind (arith, nat_tests)

  before_incarnation : (e f : Entry) → e.incarnation ≡ f.incarnation →
      IsTrue (is_before epoch f.incarnation f.shard e)
  before_incarnation e f h = grind (arith, nat_tests)

  before_epoch : (e f : Entry) → epoch e.incarnation < epoch f.incarnation →
      IsTrue (is_before epoch f.incarnation f.shard e)
  before_epoch e f h = grind (arith, nat_tests)

  strict : (e f : Entry) → e.shard ≡ f.shard → Precedes e f → e.stamp < f.stamp
  strict e f q h = grind arith

  -- a test of entries that are each before the other, where they pass
  rises : (test : Entry → Bool) (m : List Entry) →
      ((e f : Entry) → IsTrue (test e) → IsTrue (test f) → IsTrue (is_before epoch f.incarnation f.shard e)) →
      Pairs (IsBehind epoch) m → Pairs (Rises test) m
  rises test m same h = pairs-weaker (IsBehind epoch) (Rises test) (λ e f k p q. k (same e f p q)) m h

  own_same : (i k : ℕ) (e f : Entry) → IsTrue (is_of i k e) → IsTrue (is_of i k f) → e.incarnation ≡ f.incarnation
  own_same i k e f p q = grind (arith, nat_tests)

  -- epochs never go down in order
  epochs_in_order : (m : List Entry) → Pairs (IsBehind epoch) m →
      Pairs (λ e f. epoch e.incarnation ≤ epoch f.incarnation) m → Pairs Precedes (in_order m) →
      Pairs (λ e f. epoch e.incarnation ≤ epoch f.incarnation) (in_order m)
  epochs_in_order m behind rise ordered =
      let Up : Entry → Entry → Type 0 = λ e f. epoch e.incarnation < epoch f.incarnation → Precedes e f in
      let Both : Entry → Entry → Type 0 = λ e f. Up e f × Up f e in
      pairs-both Both Precedes (λ e f. epoch e.incarnation ≤ epoch f.incarnation) fits (in_order m)
      (symmetric-in_order Both (λ e f h. (h.1, h.0)) m
      (pairs-both (λ e f. epoch e.incarnation ≤ epoch f.incarnation) (IsBehind epoch) Both
      (λ e f l b. (λ u. b (before_epoch e f u), λ u. absurd (clash e f l u))) m rise behind))
      ordered
    where
      clash : (e f : Entry) → epoch e.incarnation ≤ epoch f.incarnation → epoch f.incarnation < epoch e.incarnation →
          ⊥
      clash e f l m = omega arith

      fits : (e f : Entry) → (epoch e.incarnation < epoch f.incarnation → Precedes e f)
          × (epoch f.incarnation < epoch e.incarnation → Precedes f e) → Precedes e f →
          epoch e.incarnation ≤ epoch f.incarnation
      fits e f h p = elim (cases_lt (epoch f.incarnation) (epoch e.incarnation)) [
        | inl m ↦ absurd (precedes_both e f p (h.1 m))
        | inr m ↦ m
      ]

  pub order_of_spread : (shards : ℕ) (m : List Entry) → IsSpread epoch shards m → IsOrderOf epoch m (in_order m)
  order_of_spread shards m h =
      let shard : Pairs (λ e f. e.shard ≡ f.shard → e.stamp < f.stamp) m =
      pairs-weaker (IsBehind epoch) (λ e f. e.shard ≡ f.shard → e.stamp < f.stamp)
      (λ e f k q. strict e f q (k (before_shard e f q))) m h.behind in
      let keyed : Pairs (λ e f. key_of e.request ≡ key_of f.request → Precedes e f) m =
      pairs-both (λ e f. (e.shard ≡ key_of e.request % shards) × (f.shard ≡ key_of f.request % shards))
      (IsBehind epoch) (λ e f. key_of e.request ≡ key_of f.request → Precedes e f)
      (λ e f a k q. k (before_shard e f (a.0 ∙ (ap (λ n. n % shards) q ∙ sym a.1)))) m
      (pairs_of_each (λ e. e.shard ≡ key_of e.request % shards) m h.own) h.behind in
      let keys : (k : ℕ) → filter_of_key k (in_order m) ≡ filter_of_key k m =
      λ k. filter-in_order (λ e. key_of e.request == k) m
      (pairs-weaker (λ e f. key_of e.request ≡ key_of f.request → Precedes e f)
      (Rises (λ e. key_of e.request == k)) (λ e f r p q. r (eqb-true _ _ p ∙ sym (eqb-true _ _ q))) m keyed) in
      record {
        ordered = in_order-ordered m (apart_of_rises m shard);
        shards = λ k. filter-in_order (λ e. e.shard == k) m
            (rises (λ e. e.shard == k) m (λ e f p q.
            before_shard e f (eqb-true _ _ p ∙ sym (eqb-true _ _ q))) h.behind);
        keys = keys;
        parts = λ k. filter-in_order (λ e. e.incarnation == k) m
            (rises (λ e. e.incarnation == k) m (λ e f p q.
            before_incarnation e f (eqb-true _ _ p ∙ sym (eqb-true _ _ q))) h.behind);
        own = λ i k. filter-in_order (is_of i k) m
            (rises (is_of i k) m (λ e f p q. before_incarnation e f (own_same i k e f p q)) h.behind);
        legal = legal-same empty m (in_order m) (λ k. sym (keys k)) h.legal;
        by_epoch = epochs_in_order m h.behind h.epochs (in_order-pairs m (apart_of_rises m shard));
      }
    where
      filter_of_key : ℕ → List Entry → List Entry
      filter_of_key k es = Rattle.slnf_run.specs.Made.of_key k es

-- a list that is spread and keeps the rules of runs is a run when it is put in order
pub run_of_spread : {F A : Type 0} (s : Setting F A) (m : List Entry) → IsSpread (era_of s.eras) s.shards m →
    AllByRecursion (IsInShard s.shards) m → IsLooseRun s m → IsRun s (in_order m)
run_of_spread s m spread shards h =
    let order : IsOrderOf (era_of s.eras) m (in_order m) = order_of_spread (era_of s.eras) s.shards m spread in
    let loose : IsLooseRun s (in_order m) = loose-same s m (in_order m) (λ i. sym (order.parts i))
    (λ P k. each-in_order P m k) h in
    record {
      in_order = order.ordered;
      in_shards = each-in_order (IsInShard s.shards) m shards;
      legal = order.legal;
      of_actors = loose.of_actors;
      paths = loose.paths;
      done = loose.done;
      by_epoch = λ before middle later e f w.
          pairs_at (λ e f. era_of s.eras e.incarnation ≤ era_of s.eras f.incarnation) before middle later e f
          (subst (Pairs (λ e f. era_of s.eras e.incarnation ≤ era_of s.eras f.incarnation)) w order.by_epoch);
      offered = loose.offered;
      by_batch = loose.by_batch;
    }
