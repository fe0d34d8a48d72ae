-- The laws of what a bucket keeps that crates above cite.
use Rattle.std.proofs.Common.{◌≡◌, ℕ, ◌%◌, ◌^◌, ◌<◌, ◌==◌, true, false, if◌then◌else◌, Option, None, List, [], ◌∷◌, ◌++◌, refl, sym, ap, ◌∙◌, inl, inr, arith, eq-eqb, ne_eqb}
use Rattle.std.proofs.lemmas.Bool.{cases_eq}
use Rattle.slnf_access.specs.declared.requests.Held.{Held}
use Rattle.slnf_access.specs.declared.requests.Entry.{Entry}
use Rattle.slnf_access.specs.Map.{key_of, reply_to, cell_after, cell_of, Cells, empty}
use Rattle.slnf_access.proofs.Laws.{cell_of-append, legal-append}
use Rattle.slnf_access.specs.Order.{IsHistory}
use Rattle.slnf_bucket.specs.Bucket.{Kept, with_entry, last_stamp, RisesFrom, AreOwn, IsKept, IsBucket}

-- stamps that rise, of entries of one shard, are a history
pub IsHistory-from_rises : (shard shards stamp : ℕ) (es : List Entry)
    → RisesFrom stamp es → AreOwn shard shards es → IsHistory shard es
IsHistory-from_rises shard shards stamp [] r o = tt
IsHistory-from_rises shard shards stamp (e ∷ []) r o = o.0
IsHistory-from_rises shard shards stamp (e ∷ f ∷ es) r o =
    (o.0, r.1.0, IsHistory-from_rises shard shards e.stamp (f ∷ es) r.1 o.2)

-- what is kept has a history
pub IsHistory-from_kept : (kept : Kept) → IsKept kept → IsHistory kept.shard kept.entries
IsHistory-from_kept kept h = IsHistory-from_rises kept.shard kept.shards 0 kept.entries h.rises h.own

-- one entry more
pub last_stamp-push : (stamp : ℕ) (es : List Entry) (e : Entry) → last_stamp stamp (es ++ e ∷ []) ≡ e.stamp
last_stamp-push stamp [] e = refl
last_stamp-push stamp (f ∷ es) e = last_stamp-push f.stamp es e

pub RisesFrom-push : (stamp : ℕ) (es : List Entry) (e : Entry)
    → RisesFrom stamp es → last_stamp stamp es < e.stamp → RisesFrom stamp (es ++ e ∷ [])
RisesFrom-push stamp [] e h above = (above, tt)
RisesFrom-push stamp (f ∷ es) e h above = (h.0, RisesFrom-push f.stamp es e h.1 above)

pub AreOwn-push : (shard shards : ℕ) (es : List Entry) (e : Entry)
    → AreOwn shard shards es → e.shard ≡ shard → key_of e.request % shards ≡ shard → AreOwn shard shards (es ++ e ∷ [])
AreOwn-push shard shards [] e h s k = (s, k, tt)
AreOwn-push shard shards (f ∷ es) e h s k = (h.0, h.1, AreOwn-push shard shards es e h.2 s k)

-- an access keeps it: its stamp is above the clock, and its reply is the map's
pub IsKept-more : (kept : Kept) (e : Entry) → IsKept kept → e.shard ≡ kept.shard → key_of e.request % kept.shards
    ≡ kept.shard → e.reply ≡ reply_to e.request e.stamp (cell_of (key_of e.request) None kept.entries)
    → kept.clock < e.stamp → e.stamp < 2 ^ 62 → IsKept (with_entry kept e)
IsKept-more kept e h shard key reply above below =
    let clock = h.clock_is in
    record {
      inside = h.inside;
      most = h.most;
      legal = legal-append empty kept.entries (e ∷ []) h.legal (reply, tt);
      own = AreOwn-push kept.shard kept.shards kept.entries e h.own shard key;
      rises = RisesFrom-push 0 kept.entries e h.rises (omega arith);
      clock_is = sym (last_stamp-push 0 kept.entries e);
      below = below;
    }

-- and its map: what the access leaves at its key, and the rest as it was
pub IsBucket-more : (cells new : Cells) (kept : Kept) (e : Entry) → IsBucket cells kept → e.shard ≡ kept.shard
    → key_of e.request % kept.shards ≡ kept.shard → e.reply ≡ reply_to e.request e.stamp (cells (key_of e.request))
    → kept.clock < e.stamp → e.stamp < 2 ^ 62 → ((key : ℕ) → new key
    ≡ (if key_of e.request == key then cell_after e.request e.stamp (cells (key_of e.request)) else cells key))
    → IsBucket new (with_entry kept e)
IsBucket-more cells new kept e h shard key reply above below left =
    record {
      replayed = λ q. elim (cases_eq (key_of e.request) q) [
        | inl same ↦
            let test : (key_of e.request == q) ≡ true = eq-eqb _ _ same in
            let here : cells (key_of e.request) ≡ cell_of q None kept.entries = ap cells same ∙ h.replayed q in
            let was = left q in
            rw (cell_of-append q None kept.entries (e ∷ []), test)
            (rw test at was ∙ ap (λ (c : Option Held). cell_after e.request e.stamp c) here)
        | inr other ↦
            let test : (key_of e.request == q) ≡ false = ne_eqb _ _ other in
            let was = left q in
            rw (cell_of-append q None kept.entries (e ∷ []), test) (rw test at was ∙ h.replayed q)
      ];
      is_kept = IsKept-more kept e h.is_kept shard key
          (reply ∙ ap (λ (c : Option Held). reply_to e.request e.stamp c) (h.replayed (key_of e.request))) above below;
    }
