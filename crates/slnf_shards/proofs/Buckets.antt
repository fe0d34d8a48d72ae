-- Buckets in the order of their shards: the one that is lent and put back, and its history.
use Rattle.std.proofs.Common.{◌≡◌, ℕ, zero, suc, ◌+◌, ◌*◌, ◌≤◌, ◌<◌, ◌^◌, ◌%◌, max, None, List, [], ◌∷◌, ◌++◌, length, get_or, set, drop, length-set, refl, sym, ap, ap₂, ◌∙◌, subst, arith}
use Rattle.std.proofs.lemmas.List.{length-map}
use Rattle.slnf_access.specs.declared.requests.Entry.{Entry}
use Rattle.slnf_access.specs.declared.requests.Request.{Request}
use Rattle.slnf_access.specs.Map.{key_of, reply_to, cell_of}
use Rattle.slnf_bucket.specs.Bucket.{Bucketed, Kept, next_entry, with_entry}
use Rattle.slnf_run.specs.Made.{last_stamp, greatest_last}
use Rattle.slnf_run.proofs.Clocks.{last_stamp-push}
use Rattle.slnf_shards.specs.Shards.{histories_of, IsOf, AreShards, IsSharded, AreEmpty, latest_on, entry_on, with_entry_on, spent}

-- the bucket at a place
are_shards-at : (low shards : ℕ) (buckets : List Bucketed) (k : ℕ) (d : Bucketed) → AreShards low shards buckets →
    k < length buckets → IsOf (low + k) shards (get_or buckets k d)
are_shards-at low shards [] k d h inside = absurd (omega arith)
are_shards-at low shards (b ∷ bs) zero d h inside =
    let e : low ≡ low + 0 = omega arith in subst (λ n. IsOf n shards b) e h.0
are_shards-at low shards (b ∷ bs) (suc k) d h inside =
    let e : low + 1 + k ≡ low + suc k = omega arith in
    subst (λ n. IsOf n shards (get_or bs k d)) e (are_shards-at (low + 1) shards bs k d h.1 (omega arith))

-- another bucket of its shard in its place
are_shards-set : (low shards : ℕ) (buckets : List Bucketed) (k : ℕ) (b : Bucketed) → AreShards low shards buckets →
    IsOf (low + k) shards b → AreShards low shards (set buckets k b)
are_shards-set low shards [] k b h new = h
are_shards-set low shards (c ∷ cs) zero b h new =
    let e : low + 0 ≡ low = omega arith in (subst (λ n. IsOf n shards b) e new, h.1)
are_shards-set low shards (c ∷ cs) (suc k) b h new =
    let e : low + suc k ≡ low + 1 + k = omega arith in
    (h.0, are_shards-set (low + 1) shards cs k b h.1 (subst (λ n. IsOf n shards b) e new))

-- one bucket more
pub are_shards-push : (low shards : ℕ) (buckets : List Bucketed) (b : Bucketed) → AreShards low shards buckets →
    IsOf (low + length buckets) shards b → AreShards low shards (buckets ++ b ∷ [])
are_shards-push low shards [] b h new =
    let e : low + length {A = Bucketed} [] ≡ low = omega arith in (subst (λ n. IsOf n shards b) e new, tt)
are_shards-push low shards (c ∷ cs) b h new =
    let e : low + length (c ∷ cs) ≡ low + 1 + length cs = omega arith in
    (h.0, are_shards-push (low + 1) shards cs b h.1 (subst (λ n. IsOf n shards b) e new))

-- a history and its bucket
histories-at : (buckets : List Bucketed) (k : ℕ) (d : Bucketed) → k < length buckets →
    get_or (histories_of buckets) k [] ≡ (get_or buckets k d).kept.entries
histories-at [] k d inside = absurd (omega arith)
histories-at (b ∷ bs) zero d inside = refl
histories-at (b ∷ bs) (suc k) d inside = histories-at bs k d (omega arith)

histories-set : (buckets : List Bucketed) (k : ℕ) (b : Bucketed) →
    histories_of (set buckets k b) ≡ set (histories_of buckets) k b.kept.entries
histories-set [] k b = refl
histories-set (c ∷ cs) zero b = refl
histories-set (c ∷ cs) (suc k) b = ap (λ hs. c.kept.entries ∷ hs) (histories-set cs k b)

histories-same : (buckets : List Bucketed) (k : ℕ) (d b : Bucketed) → k < length buckets →
    b.kept ≡ (get_or buckets k d).kept → histories_of (set buckets k b) ≡ histories_of buckets
histories-same [] k d b inside same = refl
histories-same (c ∷ cs) zero d b inside same = ap (λ (kept : Kept). kept.entries ∷ histories_of cs) same
histories-same (c ∷ cs) (suc k) d b inside same =
    ap (λ hs. c.kept.entries ∷ hs) (histories-same cs k d b (omega arith) same)

-- the stamps that are spent
spent_below : (low shards : ℕ) (buckets : List Bucketed) → AreShards low shards buckets →
    spent (histories_of buckets) ≤ length buckets * 2 ^ 62
spent_below low shards [] h = omega arith
spent_below low shards (b ∷ bs) h =
    let rest : spent (histories_of bs) ≤ length bs * 2 ^ 62 = spent_below (low + 1) shards bs h.1 in
    let first : last_stamp b.kept.entries < 2 ^ 62 = subst (λ n. n < 2 ^ 62) h.0.clock_is h.0.below in
    let more : length (b ∷ bs) * 2 ^ 62 ≡ 2 ^ 62 + length bs * 2 ^ 62 = omega arith in
    omega arith

spent_most : (buckets : List Bucketed) → IsSharded buckets →
    spent (histories_of buckets) ≤ length (histories_of buckets) * 2 ^ 62
spent_most buckets h =
    let e : length (histories_of buckets) ≡ length buckets = length-map buckets (λ b. b.kept.entries) in
    rw e (spent_below 0 (length buckets) buckets h.own)

spent-more : (histories : List (List Entry)) (k : ℕ) (es : List Entry) → k < length histories →
    last_stamp (get_or histories k []) < last_stamp es → spent histories < spent (set histories k es)
spent-more [] k es inside l = absurd (omega arith)
spent-more (h ∷ hs) zero es inside l = omega arith
spent-more (h ∷ hs) (suc k) es inside l =
    let m : spent hs < spent (set hs k es) = spent-more hs k es (omega arith) l in omega arith

-- The bucket that was lent from a place of the store, which is that of the request's key.
pub record IsLent (buckets : List Bucketed) (k : ℕ) (request : Request) (bucket : Bucketed) : Type 0 where
  pub sharded : IsSharded buckets
  pub inside : k < length buckets
  pub at : k ≡ key_of request % length buckets
  pub is : bucket ≡ get_or buckets k bucket

module _ (buckets : List Bucketed) (k : ℕ) (request : Request) (old : Bucketed)
    (lent : IsLent buckets k request old) where
  pub lent_of : IsOf k (length buckets) old
  lent_of =
      let e : 0 + k ≡ k = omega arith in
      subst (λ (b : Bucketed). IsOf k (length buckets) b) (sym lent.is)
      (subst (λ n. IsOf n (length buckets) (get_or buckets k old)) e
      (are_shards-at 0 (length buckets) buckets k old lent.sharded.own lent.inside))

  count : length (histories_of buckets) ≡ length buckets
  count = length-map buckets (λ b. b.kept.entries)

  place : k ≡ key_of request % length (histories_of buckets)
  place = lent.at ∙ ap (λ n. key_of request % n) (sym count)

  own : old.kept.entries ≡ get_or (histories_of buckets) k []
  own = ap (λ (b : Bucketed). b.kept.entries) lent.is ∙ sym (histories-at buckets k old lent.inside)

  -- the greater of the bucket's clock and the caller's
  pub latest_of_bucket : (clock : ℕ) → max old.kept.clock clock ≡ latest_on (histories_of buckets) clock request
  latest_of_bucket clock =
      ap (λ n. max n clock) (lent_of.clock_is ∙ ap last_stamp own)
      ∙ ap (λ n. max (last_stamp (get_or (histories_of buckets) n [])) clock) place

  -- the bucket's entry is the shard's
  pub entry_of_bucket : (clock incarnation item : ℕ) →
      next_entry old.kept incarnation item clock request
      ≡ entry_on (histories_of buckets) clock incarnation item request
  entry_of_bucket clock incarnation item =
      ap₂ (λ n m. entry_from n m old.kept.entries) lent_of.clock_is lent_of.shard_is
      ∙ (ap (λ es. entry_from (last_stamp es) k es) own
      ∙ ap (λ n. entry_from (last_stamp (get_or (histories_of buckets) n [])) n (get_or (histories_of buckets) n []))
      place)
    where
      entry_from : ℕ → ℕ → List Entry → Entry
      entry_from last shard es = record {
        stamp = max last clock + 1;
        shard = shard;
        incarnation = incarnation;
        item = item;
        request = request;
        reply = reply_to request (max last clock + 1) (cell_of (key_of request) None es);
      }

  sharded_back : (new : Bucketed) → IsOf k (length buckets) new → IsSharded (set buckets k new)
  sharded_back new of =
      let same : length (set buckets k new) ≡ length buckets = length-set buckets k new in
      let e : k ≡ 0 + k = omega arith in
      let back = are_shards-set 0 (length buckets) buckets k new lent.sharded.own
      (subst (λ n. IsOf n (length buckets) new) e of) in
      record { some = rw same lent.sharded.some; own = rw same back }

  -- a bucket that made no access, put back
  pub unchanged_back : (new : Bucketed) → new.kept ≡ old.kept → IsSharded (set buckets k new)
  unchanged_back new same =
      sharded_back new (record {
        shard_is = ap (λ (x : Kept). x.shard) same ∙ lent_of.shard_is;
        shards_are = ap (λ (x : Kept). x.shards) same ∙ lent_of.shards_are;
        clock_is = ap (λ (x : Kept). x.clock) same
            ∙ (lent_of.clock_is ∙ ap (λ (x : Kept). last_stamp x.entries) (sym same));
        below = subst (λ (x : Kept). x.clock < 2 ^ 62) (sym same) lent_of.below;
      })

  pub unchanged_histories : (new : Bucketed) → new.kept ≡ old.kept →
      histories_of (set buckets k new) ≡ histories_of buckets
  unchanged_histories new same =
      histories-same buckets k old new lent.inside (same ∙ ap (λ (b : Bucketed). b.kept) lent.is)

-- The access that a bucket made, which was lent from its place and is put back.
pub record IsAccess (buckets : List Bucketed) (k : ℕ) (e : Entry) (new : Bucketed) : Type 0 where
  pub sharded : IsSharded (set buckets k new)
  pub histories : histories_of (set buckets k new) ≡ with_entry_on (histories_of buckets) e
  pub spends : spent (histories_of buckets) < spent (histories_of (set buckets k new))
  pub most : spent (histories_of (set buckets k new)) ≤ length (histories_of (set buckets k new)) * 2 ^ 62
  pub count : length (histories_of (set buckets k new)) ≡ length (histories_of buckets)

module _ (buckets : List Bucketed) (k : ℕ) (request : Request) (old : Bucketed)
    (lent : IsLent buckets k request old) where
  -- one that made an access
  pub access_back : (clock incarnation item : ℕ) (new : Bucketed) →
      new.kept ≡ with_entry old.kept (next_entry old.kept incarnation item clock request) →
      max old.kept.clock clock + 1 < 2 ^ 62 →
      IsAccess buckets k (entry_on (histories_of buckets) clock incarnation item request) new
  access_back clock incarnation item new made low =
      let of : IsOf k (length buckets) old = lent_of buckets k request old lent in
      let histories : List (List Entry) = histories_of buckets in
      let e : Entry = next_entry old.kept incarnation item clock request in
      let f : Entry = entry_on histories clock incarnation item request in
      let same : e ≡ f = entry_of_bucket buckets k request old lent clock incarnation item in
      let there : new.kept.entries ≡ old.kept.entries ++ e ∷ [] = ap (λ (x : Kept). x.entries) made in
      let stamp : new.kept.clock ≡ max old.kept.clock clock + 1 = ap (λ (x : Kept). x.clock) made in
      let sharded : IsSharded (set buckets k new) = sharded_back buckets k request old lent new (record {
        shard_is = ap (λ (x : Kept). x.shard) made ∙ of.shard_is;
        shards_are = ap (λ (x : Kept). x.shards) made ∙ of.shards_are;
        clock_is = stamp ∙ (sym (last_stamp-push old.kept.entries e) ∙ ap last_stamp (sym there));
        below = subst (λ n. n < 2 ^ 62) (sym stamp) low;
      }) in
      let fixed : histories_of (set buckets k new) ≡ set histories k new.kept.entries =
      histories-set buckets k new in
      let size : length (set histories k new.kept.entries) ≡ length histories =
      length-set histories k new.kept.entries in
      let last : last_stamp new.kept.entries ≡ max old.kept.clock clock + 1 =
      ap last_stamp there ∙ last_stamp-push old.kept.entries e in
      let before : last_stamp (get_or histories k []) ≡ old.kept.clock =
      ap last_stamp (sym (own buckets k request old lent)) ∙ sym of.clock_is in
      let inside : k < length histories = rw (count buckets k request old lent) lent.inside in
      record {
        sharded = sharded;
        histories = fixed
            ∙ (ap (set histories k) (there ∙ ap₂ (λ es x. es ++ x ∷ []) (own buckets k request old lent) same)
            ∙ ap (λ n. set histories n (get_or histories n [] ++ f ∷ [])) (place buckets k request old lent));
        spends = subst (λ hs. spent histories < spent hs) (sym fixed)
            (spent-more histories k new.kept.entries inside (omega arith));
        most = spent_most (set buckets k new) sharded;
        count = ap length fixed ∙ size;
      }

-- one bucket more without an entry
empty-first : (histories : List (List Entry)) (es : List Entry) → es ≡ [] → AreEmpty histories → (k : ℕ) →
    get_or (es ∷ histories) k [] ≡ []
empty-first histories es empty h zero = empty
empty-first histories es empty h (suc k) = h k

pub empty-push : (buckets : List Bucketed) (b : Bucketed) → b.kept.entries ≡ [] → AreEmpty (histories_of buckets) →
    AreEmpty (histories_of (buckets ++ b ∷ []))
empty-push [] b empty h = empty-first [] b.kept.entries empty h
empty-push (c ∷ cs) b empty h =
    empty-first (histories_of (cs ++ b ∷ [])) c.kept.entries (h 0) (empty-push cs b empty (λ n. h (suc n)))

-- the greatest of these and of the histories that are left
pub latest_step : (low shards : ℕ) (buckets : List Bucketed) (k n next : ℕ) (bucket : Bucketed) →
    AreShards low shards buckets → k < length buckets → bucket ≡ get_or buckets k bucket →
    next ≡ max bucket.kept.clock n →
    max next (greatest_last (drop (k + 1) (histories_of buckets)))
    ≡ max n (greatest_last (drop k (histories_of buckets)))
latest_step low shards [] k n next bucket h inside is new = absurd (omega arith)
latest_step low shards (b ∷ bs) zero n next bucket h inside is new =
    let c : bucket.kept.clock ≡ last_stamp b.kept.entries = ap (λ (x : Bucketed). x.kept.clock) is ∙ h.0.clock_is in
    omega arith
latest_step low shards (b ∷ bs) (suc k) n next bucket h inside is new =
    let e : suc k + 1 ≡ suc (k + 1) = omega arith in
    rw e (latest_step (low + 1) shards bs k n next bucket h.1 (omega arith) is new)
