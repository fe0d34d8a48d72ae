-- Laws of the checksum, and of accesses that are of one shard.
-- the checksum of accesses and of one more
use Rattle.std.proofs.Common.{◌≡◌, ℕ, zero, suc, ◌<◌, List, [], ◌∷◌, ◌++◌, map, take, refl}
use Rattle.slnf_access.specs.declared.requests.Entry.{Entry}
use Rattle.slnf_access.specs.declared.requests.Ask.{Ask}
use Rattle.slnf_store.specs.Accesses.{first_shard}
use Rattle.slnf_store_threads.specs.Sums.{with_reply, with_replies, with_all}

pub one_more : (sum : ℕ) (es : List Entry) (e : Entry)
    → with_replies sum (es ++ e ∷ []) ≡ with_reply (with_replies sum es) e.reply
one_more sum [] e = refl
one_more sum (x ∷ es) e = one_more (with_reply sum x.reply) es e

-- the checksum of accesses and of more of them
pub more : (sum : ℕ) (es fs : List Entry)
    → with_replies sum (es ++ fs) ≡ with_all (with_replies sum es) (map (λ (e : Entry). e.reply) fs)
more sum [] [] = refl
more sum [] (f ∷ fs) = more (with_reply sum f.reply) [] fs
more sum (x ∷ es) fs = more (with_reply sum x.reply) es fs

-- the first of a list is the first of its front
pub first_of_front : (shards count : ℕ) (asks : List Ask) → 0 < count
    → first_shard shards (take count asks) ≡ first_shard shards asks
first_of_front shards zero asks some = elim some [ ]
first_of_front shards (suc count) [] some = refl
first_of_front shards (suc count) (a ∷ asks) some = refl
