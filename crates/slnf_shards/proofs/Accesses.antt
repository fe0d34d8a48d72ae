-- What a bucket's access makes of the store, whether it was made or refused.
use Rattle.std.proofs.Common.{◌≡◌, ℕ, ◌+◌, ◌*◌, ◌<◌, ◌≤◌, ◌^◌, ◌%◌, max, List, Result, Ok, Err, OnOk, OnErr, IfOk, get_or, length, set, ap, ◌∙◌, subst, arith}
use Rattle.slnf_access.specs.declared.requests.Entry.{Entry}
use Rattle.slnf_access.specs.declared.requests.Reply.{Reply}
use Rattle.slnf_access.specs.declared.requests.Request.{Request}
use Rattle.slnf_access.specs.Map.{key_of}
use Rattle.slnf_bucket.specs.declared.errors.BucketError.{BucketError}
use Rattle.slnf_bucket.specs.Bucket.{Bucketed, next_entry, with_entry}
use Rattle.slnf_shards.specs.Shards.{histories_of, IsSharded, latest_on, entry_on, with_entry_on, spent}
use Rattle.slnf_shards.proofs.Buckets.{IsLent, latest_of_bucket, entry_of_bucket, unchanged_back, unchanged_histories, access_back}

-- the bucket at the place of the key
pub lend : (buckets : List Bucketed) (key count : ℕ) (request : Request) (bucket : Bucketed) → IsSharded buckets →
    key ≡ key_of request → count ≡ length buckets → bucket ≡ get_or buckets (key % count) bucket →
    IsLent buckets (key % count) request bucket
lend buckets key count request bucket sharded key_is count_is is = record {
  sharded = sharded;
  inside = omega (arith, sharded.some);
  at = ap (λ n. n % count) key_is ∙ ap (λ n. key_of request % n) count_is;
  is = is;
}

-- The bucket is put back, and the histories have one entry more, or are as they were.
pub record IsPutBack (buckets : List Bucketed) (k : ℕ) (histories : List (List Entry)) (e : Entry) (new : Bucketed)
    (r : Result (Reply × ℕ) BucketError) : Type 0 where
  pub sharded : IsSharded (set buckets k new)
  pub made : OnOk r (histories_of (set buckets k new) ≡ with_entry_on histories e)
  pub spends : OnOk r (spent histories < spent (histories_of (set buckets k new)))
  pub most : OnOk r (spent (histories_of (set buckets k new)) ≤ length (histories_of (set buckets k new)) * 2 ^ 62)
  pub unchanged : OnErr r (histories_of (set buckets k new) ≡ histories)
  pub count : length (histories_of (set buckets k new)) ≡ length histories

pub put_back : (buckets : List Bucketed) (k : ℕ) (histories : List (List Entry)) (clock incarnation item : ℕ)
    (request : Request) (old new : Bucketed) (r : Result (Reply × ℕ) BucketError) → IsLent buckets k request old →
    histories_of buckets ≡ histories →
    OnOk r (new.kept ≡ with_entry old.kept (next_entry old.kept incarnation item clock request)) →
    IfOk r (λ answer. answer.1 ≡ max old.kept.clock clock + 1) → IfOk r (λ answer. answer.1 < 2 ^ 62) →
    OnErr r (new.kept ≡ old.kept) →
    IsPutBack buckets k histories (entry_on histories clock incarnation item request) new r
put_back buckets k histories clock incarnation item request old new (Ok answer) lent view made stamp below unchanged =
    let low : max old.kept.clock clock + 1 < 2 ^ 62 = subst (λ n. n < 2 ^ 62) stamp below in
    let access = access_back buckets k request old lent clock incarnation item new made low in
    record {
      sharded = access.sharded;
      made = access.histories ∙ ap (λ hs. with_entry_on hs (entry_on hs clock incarnation item request)) view;
      spends = subst (λ hs. spent hs < spent (histories_of (set buckets k new))) view access.spends;
      most = access.most;
      unchanged = tt;
      count = access.count ∙ ap length view;
    }
put_back buckets k histories clock incarnation item request old new (Err e) lent view made stamp below unchanged =
    let same : histories_of (set buckets k new) ≡ histories =
    unchanged_histories buckets k request old lent new unchanged ∙ view in
    record {
      sharded = unchanged_back buckets k request old lent new unchanged;
      made = tt;
      spends = tt;
      most = tt;
      unchanged = same;
      count = ap length same;
    }

-- the bucket's entry and clocks are the histories'
pub same_entry : (buckets : List Bucketed) (k : ℕ) (histories : List (List Entry)) (clock incarnation item : ℕ)
    (request : Request) (old : Bucketed) → IsLent buckets k request old → histories_of buckets ≡ histories →
    next_entry old.kept incarnation item clock request ≡ entry_on histories clock incarnation item request
same_entry buckets k histories clock incarnation item request old lent view =
    entry_of_bucket buckets k request old lent clock incarnation item
    ∙ ap (λ hs. entry_on hs clock incarnation item request) view

pub same_latest : (buckets : List Bucketed) (k : ℕ) (histories : List (List Entry)) (clock : ℕ) (request : Request)
    (old : Bucketed) → IsLent buckets k request old → histories_of buckets ≡ histories →
    max old.kept.clock clock ≡ latest_on histories clock request
same_latest buckets k histories clock request old lent view =
    latest_of_bucket buckets k request old lent clock ∙ ap (λ hs. latest_on hs clock request) view
