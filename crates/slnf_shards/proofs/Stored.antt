-- The shards' histories, one after another.
use Rattle.std.proofs.Common.{◌≡◌, ℕ, ◌+◌, List, [], ◌∷◌, ◌++◌, Vec, Global, length, map, sym, ap, ◌∙◌, subst, arith, append_assoc}
use Rattle.std.proofs.lemmas.List.{length_push, length-map, map-append}
use Rattle.slnf_access.specs.declared.requests.Entry.{Entry}
use Rattle.slnf_access.specs.Map.{IsLegal}
use Rattle.slnf_access.specs.Order.{IsHistory}
use Rattle.slnf_bucket.specs.Bucket.{Bucketed, Kept, AreOwn, IsKept}
use Rattle.slnf_bucket.proofs.Laws.{IsHistory-from_kept}
use Rattle.slnf_merge.specs.Merge.{AreHistories, InShards, EachLegal, all_of}
use Rattle.slnf_merge.proofs.Laws.{all_of-push}
use Rattle.slnf_shards.specs.Shards.{AreShards, AreStored, histories_of}

-- one history more
are_histories-push : (low : ℕ) (histories : List (List Entry)) (es : List Entry) → AreHistories low histories →
    IsHistory (low + length histories) es → AreHistories low (histories ++ es ∷ [])
are_histories-push low [] es h new =
    let first : low + length {A = List Entry} [] ≡ low = omega arith in
    (subst (λ (shard : ℕ). IsHistory shard es) first new, tt)
are_histories-push low (x ∷ xs) es h new =
    let next : low + length (x ∷ xs) ≡ low + 1 + length xs = omega arith in
    (h.0, are_histories-push (low + 1) xs es h.1 (subst (λ (shard : ℕ). IsHistory shard es) next new))

each_legal-push : (histories : List (List Entry)) (es : List Entry) → EachLegal histories → IsLegal es →
    EachLegal (histories ++ es ∷ [])
each_legal-push [] es h new = (new, tt)
each_legal-push (x ∷ xs) es h new = (h.0, each_legal-push xs es h.1 new)

in_shards_of_own : (shard shards : ℕ) (es : List Entry) → AreOwn shard shards es → InShards shards es
in_shards_of_own shard shards [] h = tt
in_shards_of_own shard shards (e ∷ es) h = (h.0 ∙ sym h.1, in_shards_of_own shard shards es h.2)

in_shards-append : (shards : ℕ) (xs ys : List Entry) → InShards shards xs → InShards shards ys →
    InShards shards (xs ++ ys)
in_shards-append shards [] ys h k = k
in_shards-append shards (x ∷ xs) ys h k = (h.0, in_shards-append shards xs ys h.1 k)

-- the next bucket's
stored-push : (shards : ℕ) (histories : List (List Entry)) (kept : Kept) → AreStored shards histories →
    IsKept kept → kept.shard ≡ length histories → kept.shards ≡ shards →
    AreStored shards (histories ++ kept.entries ∷ [])
stored-push shards histories kept h is shard shards_are =
    let place : kept.shard ≡ 0 + length histories = omega arith in
    let own : InShards shards kept.entries = subst (λ (n : ℕ). InShards n kept.entries) shards_are
    (in_shards_of_own kept.shard kept.shards kept.entries is.own) in
    let more : InShards shards (all_of histories ++ kept.entries) =
    in_shards-append shards (all_of histories) kept.entries h.own own in
    record {
      in_place = are_histories-push 0 histories kept.entries h.in_place
          (subst (λ (s : ℕ). IsHistory s kept.entries) place (IsHistory-from_kept kept is));
      own = rw all_of-push more;
      legal = each_legal-push histories kept.entries h.legal is.legal;
    }

-- Of so many buckets these are taken, with these histories, and the rest are left.
pub record IsTaking (taken : List (Vec Entry Global)) (rest : List Bucketed) (whole : List (List Entry)) :
    Type 0 where
  pub value : map (λ (h : Vec Entry Global). h.items) taken ++ histories_of rest ≡ whole
  pub stored : AreStored (length whole) (map (λ (h : Vec Entry Global). h.items) taken)
  pub own : AreShards (length taken) (length whole) rest

-- one bucket more is taken
pub taking-more : (taken next : List (Vec Entry Global)) (history : Vec Entry Global) (bucket : Bucketed)
    (before rest : List Bucketed) (whole : List (List Entry)) → next ≡ taken ++ history ∷ [] →
    before ≡ bucket ∷ rest → history.items ≡ bucket.kept.entries → IsKept bucket.kept →
    IsTaking taken before whole → IsTaking next rest whole
taking-more taken next history bucket before rest whole is front value kept h =
    let lists : List (Vec Entry Global) → List (List Entry) = map (λ h. h.items) in
    let one : AreShards (length taken) (length whole) (bucket ∷ rest) =
    subst (AreShards (length taken) (length whole)) front h.own in
    let mapped : lists next ≡ lists taken ++ bucket.kept.entries ∷ [] =
    ap lists is
    ∙ (map-append (λ (h : Vec Entry Global). h.items) taken (history ∷ [])
    ∙ ap (λ es. lists taken ++ es ∷ []) value) in
    let shard : bucket.kept.shard ≡ length (lists taken) =
    one.0.shard_is ∙ sym (length-map taken (λ (h : Vec Entry Global). h.items)) in
    let more : length next ≡ length taken + 1 = ap length is ∙ length_push taken history in
    record {
      value = ap (λ l. l ++ histories_of rest) mapped
          ∙ (append_assoc (lists taken) (bucket.kept.entries ∷ []) (histories_of rest)
          ∙ (ap (λ bs. lists taken ++ histories_of bs) (sym front) ∙ h.value));
      stored = subst (AreStored (length whole)) (sym mapped)
          (stored-push (length whole) (lists taken) bucket.kept h.stored kept shard one.0.shards_are);
      own = subst (λ k. AreShards k (length whole) rest) (sym more) one.1;
    }
