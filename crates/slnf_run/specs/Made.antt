-- Lists of accesses as they are made, and the relations that hold along them.
use Rattle.std.specs.Prelude.{◌≡◌, ◌⊎◌, ℕ, ◌+◌, ◌%◌, ◌≤◌, ◌<◌, Bool, true, false, ◌||◌, ◌==◌, nat_lt, max, IsTrue, None, List, [], ◌∷◌, ◌++◌, length, filter}
use Rattle.slnf_access.specs.declared.requests.Entry.{Entry}
use Rattle.slnf_access.specs.Map.{key_of, reply_to, cell_of}
use Rattle.slnf_access.specs.Order.{Precedes}
use Rattle.slnf_run.specs.Parts.{part_of}
use Rattle.slnf_run.specs.Scheduled.{greatest, Wish, Way}
use Rattle.std.specs.List.{AllByRecursion}

-- each entry of the tail is allowed after the list and the entries of the tail that stand before it
abbrev pub Grown : (List Entry → Entry → Type 0) → List Entry → List Entry → Type 0
Grown Q es [] = Unit {0}
Grown Q es (e ∷ tail) = Q es e × Grown Q (es ++ e ∷ []) tail

-- each entry has this to each behind it
abbrev pub Pairs : (Entry → Entry → Type 0) → List Entry → Type 0
Pairs R [] = Unit {0}
Pairs R (e ∷ es) = AllByRecursion (R e) es × Pairs R es

-- an access of this incarnation to this shard comes after the entry: of the shard, its own, or of an earlier epoch
abbrev pub is_before : (ℕ → ℕ) → ℕ → ℕ → Entry → Bool
is_before epoch incarnation shard e =
    e.shard == shard || e.incarnation == incarnation || nat_lt (epoch e.incarnation) (epoch incarnation)

-- The entry is the access's that is made after these: its stamp, its shard, its reply, and no entry is of a later
-- epoch.
pub record IsMade (epoch : ℕ → ℕ) (shards : ℕ) (es : List Entry) (e : Entry) : Type 0 where
  pub stamp : e.stamp ≡ greatest (is_before epoch e.incarnation e.shard) es + 1
  pub shard : e.shard ≡ key_of e.request % shards
  pub reply : e.reply ≡ reply_to e.request e.stamp (cell_of (key_of e.request) None es)
  pub epochs : AllByRecursion (λ f. epoch f.incarnation ≤ epoch e.incarnation) es

-- The same where the stamp is any one above those that the access comes after.
pub record IsLaid (epoch : ℕ → ℕ) (shards : ℕ) (es : List Entry) (e : Entry) : Type 0 where
  pub above : greatest (is_before epoch e.incarnation e.shard) es < e.stamp
  pub shard : e.shard ≡ key_of e.request % shards
  pub reply : e.reply ≡ reply_to e.request e.stamp (cell_of (key_of e.request) None es)
  pub epochs : AllByRecursion (λ f. epoch f.incarnation ≤ epoch e.incarnation) es

-- the entry's stamp is the one that this rule gives
abbrev pub IsStamped : (List Entry → ℕ → ℕ → ℕ) → List Entry → Entry → Type 0
IsStamped stamp es e = e.stamp ≡ stamp es e.incarnation e.shard

-- A way of making accesses that keeps to batches, and whose stamps, where no earlier one is above the number of
-- entries, are above those that an access comes after, and at most one above that number.
pub record IsLawful (epoch : ℕ → ℕ) (way : Way) : Type 0 where
  pub before : (v w : Wish) → way.comes_before v w ≡ true → v.batch ≤ w.batch
  pub behind : (v w : Wish) → way.comes_before v w ≡ false → w.batch ≤ v.batch
  pub above : (es : List Entry) (incarnation shard : ℕ) → AllByRecursion (λ e. e.stamp ≤ length es) es →
      greatest (is_before epoch incarnation shard) es < way.stamp es incarnation shard
  pub within : (es : List Entry) (incarnation shard : ℕ) → AllByRecursion (λ e. e.stamp ≤ length es) es →
      way.stamp es incarnation shard ≤ length es + 1

-- the entries of a shard, in order
abbrev pub of_shard : ℕ → List Entry → List Entry
of_shard shard es = filter (λ e. e.shard == shard) es

-- the entries of a key, in order
abbrev pub of_key : ℕ → List Entry → List Entry
of_key key es = filter (λ e. key_of e.request == key) es

-- the entry, and what comes after it among those that pass the test
abbrev pub Rises : (Entry → Bool) → Entry → Entry → Type 0
Rises test e f = IsTrue (test e) → IsTrue (test f) → Precedes e f

-- the stamp is the greater, where the epoch, the shard or the incarnation asks for it
abbrev pub IsAbove : (ℕ → ℕ) → Entry → Entry → Type 0
IsAbove epoch e f = IsTrue (is_before epoch f.incarnation f.shard e) → e.stamp < f.stamp

-- the one entry comes before the other, or behind it
abbrev pub IsApart : Entry → Entry → Type 0
IsApart e f = Precedes e f ⊎ Precedes f e

-- the stamp of the last entry, or 0
abbrev pub last_stamp : List Entry → ℕ
last_stamp [] = 0
last_stamp (e ∷ []) = e.stamp
last_stamp (e ∷ f ∷ es) = last_stamp (f ∷ es)

-- the entry is of an earlier epoch than this incarnation
abbrev pub is_of_earlier : (ℕ → ℕ) → ℕ → Entry → Bool
is_of_earlier epoch incarnation e = nat_lt (epoch e.incarnation) (epoch incarnation)

-- the clock of an actor with this part: its last stamp, or before its first access the greatest stamp of all earlier
-- epochs
abbrev pub clock_of : (ℕ → ℕ) → List Entry → ℕ → List Entry → ℕ
clock_of epoch es incarnation [] = greatest (is_of_earlier epoch incarnation) es
clock_of epoch es incarnation (e ∷ part) = last_stamp (e ∷ part)

-- the actor's clock after these
abbrev pub clock : (ℕ → ℕ) → List Entry → ℕ → ℕ
clock epoch es incarnation = clock_of epoch es incarnation (part_of incarnation es)

-- one history a shard, from this one on: the shard's entries of the list
abbrev pub HaveParts : ℕ → List (List Entry) → List Entry → Type 0
HaveParts shard [] es = Unit {0}
HaveParts shard (history ∷ histories) es = (history ≡ of_shard shard es) × HaveParts (shard + 1) histories es

-- the greatest of the histories' last stamps
abbrev pub greatest_last : List (List Entry) → ℕ
greatest_last [] = 0
greatest_last (history ∷ histories) = max (last_stamp history) (greatest_last histories)
