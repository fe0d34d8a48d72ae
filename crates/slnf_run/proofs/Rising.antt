-- The tests whose entries rise along a list.
use Rattle.std.proofs.Common.{◌≡◌, ℕ, ◌%◌, ◌<◌, ◌==◌, inl, IsTrue, List, sym, ap, ◌∙◌, eqb-true, arith}
use Rattle.std.proofs.lemmas.Bool.Decides.{nat_tests}
use Rattle.slnf_access.specs.declared.requests.Entry.{Entry}
use Rattle.slnf_access.specs.Map.{key_of}
use Rattle.slnf_run.specs.Scene.{is_of}
use Rattle.slnf_run.specs.Made.{Pairs, Rises}
use Rattle.slnf_run.proofs.Pairing.{pairs-weaker, pairs-both, pairs_of_each}
use Rattle.std.specs.List.{AllByRecursion}

-- entries of one number each, where the stamps of those with one number rise
pub rises_of_number : (number : Entry → ℕ) (n : ℕ) (es : List Entry) →
    Pairs (λ e f. number e ≡ number f → e.stamp < f.stamp) es → Pairs (Rises (λ e. number e == n)) es
rises_of_number number n es h =
    pairs-weaker (λ e f. number e ≡ number f → e.stamp < f.stamp) (Rises (λ e. number e == n)) rises es h
  where
    rises : (e f : Entry) → (number e ≡ number f → e.stamp < f.stamp) → Rises (λ e. number e == n) e f
    rises e f k p q = inl (k (eqb-true (number e) n p ∙ sym (eqb-true (number f) n q)))

-- entries of an incarnation's item
pub rises_of_item : (incarnation item : ℕ) (es : List Entry) →
    Pairs (λ e f. e.incarnation ≡ f.incarnation → e.stamp < f.stamp) es → Pairs (Rises (is_of incarnation item)) es
rises_of_item incarnation item es h =
    pairs-weaker (λ e f. e.incarnation ≡ f.incarnation → e.stamp < f.stamp)
    (Rises (is_of incarnation item)) rises es h
  where
    same : (e f : Entry) → IsTrue (is_of incarnation item e) → IsTrue (is_of incarnation item f) → e.incarnation
        ≡ f.incarnation
    same e f p q = grind (arith, nat_tests)

    rises : (e f : Entry) → (e.incarnation ≡ f.incarnation → e.stamp < f.stamp) → Rises (is_of incarnation item) e f
    rises e f k p q = inl (k (same e f p q))

-- keys are of one shard each
pub key_stamps_rise : (shards : ℕ) (es : List Entry) → AllByRecursion (λ e. e.shard ≡ key_of e.request % shards) es →
    Pairs (λ e f. e.shard ≡ f.shard → e.stamp < f.stamp) es →
    Pairs (λ e f. key_of e.request ≡ key_of f.request → e.stamp < f.stamp) es
key_stamps_rise shards es own rise =
    pairs-both (λ e f. (e.shard ≡ key_of e.request % shards) × (f.shard ≡ key_of f.request % shards)) (λ e f. e.shard
    ≡ f.shard → e.stamp < f.stamp)
    (λ e f. key_of e.request ≡ key_of f.request → e.stamp < f.stamp)
    (λ e f a k q. k (a.0 ∙ (ap (λ n. n % shards) q ∙ sym a.1))) es
    (pairs_of_each (λ e. e.shard ≡ key_of e.request % shards) es own) rise
