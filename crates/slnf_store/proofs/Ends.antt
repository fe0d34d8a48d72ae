-- What the histories are at the end.
use Rattle.std.proofs.Common.{◌≡◌, ℕ, ◌+◌, ◌<◌, ◌≤◌, List, [], ◌∷◌, map, length, sym, ◌∙◌, subst, arith}
use Rattle.std.specs.List.{AllByRecursion}
use Rattle.std.proofs.lemmas.List.{length-map}
use Rattle.slnf_access.specs.declared.requests.Entry.{Entry}
use Rattle.slnf_bucket.specs.Bucket.{IsKept, RisesFrom}
use Rattle.slnf_merge.specs.Merge.{all_of}
use Rattle.slnf_merge.proofs.Laws.{merges_legally}
use Rattle.slnf_turns.specs.declared.views.View.{View}
use Rattle.slnf_turns.specs.Values.{AreKept, AreLast, IsLast}
use Rattle.slnf_store.specs.declared.shards.Shard.{Shard}
use Rattle.slnf_store.specs.Passes.{entries_of, greatest_listed, IsJoined}
use Rattle.slnf_store.specs.Closes.{history_at, IsListIn, SawPrefixes, IsLater, IsClosed}
use Rattle.slnf_store.proofs.Joins.{rises_stamped}
use Rattle.slnf_store.proofs.Histories.{entries_in, lines_in, place_of, places_of, AreHistoriesOf, from_last, histories_in, histories_own, histories_legal, histories_ranged}
use Rattle.slnf_store.proofs.Members.{all_map, all_both}
use Rattle.slnf_store.proofs.Parts.{seen_by, listed_at, part_merged}
use Rattle.slnf_store.proofs.Counts.{stands, stands_most}

rises_above : (c clock : ℕ) (es : List Entry) → c ≤ clock → RisesFrom clock es
    → AllByRecursion (λ (e : Entry). c < e.stamp) es
rises_above c clock [] l r = tt
rises_above c clock (e ∷ es) l r = let up = r.0 in (omega arith, rises_above c e.stamp es (omega arith) r.1)

pub closed_with : (shards : ℕ) (v : View) (hs : List (List Entry)) → length hs ≡ shards
    → AreHistoriesOf 0 shards v hs → AllByRecursion (IsJoined shards) v.joined → AreKept v → IsClosed shards v hs
closed_with shards v hs count h joined kept =
    let seen = seen_by shards v hs count h in
    let lists : AllByRecursion (IsListIn shards hs) v.joined =
    all_both (IsJoined shards) (SawPrefixes shards hs) (IsListIn shards hs) v.joined
    (λ x j b. listed_at shards hs x j b) joined seen in
    record {
      count = count;
      in_place = histories_in 0 shards v hs h;
      own = histories_own 0 shards v hs h;
      legal = histories_legal 0 shards v hs h;
      merges = λ merged same order. (
        merges_legally hs merged (histories_in 0 shards v hs h) order same shards (histories_own 0 shards v hs h)
            (histories_legal 0 shards v hs h),
        λ i. part_merged shards v hs count h joined i merged same order,
      );
      lists = lists;
      kept = kept;
      seen = seen;
      later = all_map (IsListIn shards hs) IsLater v.joined
          (λ x l. rises_above (greatest_listed x.told) (greatest_listed x.told) (entries_of x.listed.lines)
          (omega arith) (rises_stamped (history_at hs) (greatest_listed x.told)
          (entries_of x.listed.lines) l.stamped)) lists;
      ranged = histories_ranged 0 shards v hs h;
      most = stands_most (all_of hs) (stands shards v hs count h joined lists kept);
    }

pub closed : (shards : ℕ) (v : View) (bs : List Shard) → length bs ≡ shards
    → AreLast lines_in place_of places_of shards v bs → AllByRecursion (λ (b : Shard). IsKept b.bucket.value.kept) bs
    → AllByRecursion (IsJoined shards) v.joined → AreKept v
    → IsClosed shards v (map entries_in bs)
closed shards v bs count last kept joined told =
    closed_with shards v (map entries_in bs) (length-map bs entries_in ∙ count)
    (from_last 0 shards v bs (λ k b is. let at : 0 + k
    ≡ k = omega arith in subst (λ (j : ℕ). IsLast lines_in place_of places_of shards v j b) (sym at)
    (last k b is)) kept) joined told
