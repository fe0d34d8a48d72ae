-- The root after a join: its clock is the greatest_stamp stamp in the lists that it keeps.
use Rattle.std.proofs.Common.{◌≡◌, ◌≢◌, ℕ, ◌≤◌, max, List, [], ◌∷◌, ◌++◌, map, sym, ap, ◌∙◌, subst, arith}
use mathlib.Core.List.{map-append}
use Rattle.slnf_access.specs.declared.requests.Entry.{Entry}
use Rattle.slnf_bucket.specs.Bucket.{last_stamp, RisesFrom}
use Rattle.slnf_turns.specs.declared.views.Listed.{Listed}
use Rattle.slnf_turns.specs.declared.views.View.{View}
use Rattle.slnf_turns.specs.Views.{Begins, WasTold, listed, joined_of, after_join}
use Rattle.slnf_store.proofs.Members.{all_append}
use Rattle.slnf_store.specs.Passes.{entries_of, entries_seen, greatest_stamp, greatest_listed, AreStamped, IsJoined, IsPass}

-- stamps that are made so rise, so the last one is the greatest_stamp
pub rises_stamped : (h : ℕ → List Entry) (clock : ℕ) (es : List Entry) → AreStamped h clock es → RisesFrom clock es
rises_stamped h clock [] s = tt
rises_stamped h clock (e ∷ es) s = ((let is = s.0.3 in omega arith), rises_stamped h e.stamp es s.1)

pub last_greatest : (clock : ℕ) (es : List Entry) → RisesFrom clock es
    → last_stamp clock es ≡ max clock (greatest_stamp es)
last_greatest clock [] r = omega arith
last_greatest clock (e ∷ es) r = let rest = last_greatest e.stamp es r.1 in let above = r.0 in omega arith

pub latest_append : (xs ys : List Listed) → greatest_listed (xs ++ ys) ≡ max (greatest_listed xs) (greatest_listed ys)
latest_append [] ys = omega arith
latest_append (x ∷ xs) ys = let rest = latest_append xs ys in omega arith

pub latest_begins : (xs ys : List Listed) → Begins xs ys → greatest_listed xs ≤ greatest_listed ys
latest_begins xs ys b = let all : greatest_listed ys
    ≡ max (greatest_listed xs) (greatest_listed b.0) = ap greatest_listed b.1 ∙ latest_append xs b.0 in omega arith

clock_joined : (shards a b : ℕ) (v w : View) → v.number ≡ 0 → w.number ≢ 0 → IsPass shards a v → IsPass shards b w
    → WasTold (after_join v w).before (after_join v w).joined w.number w.told
    → max a b ≡ greatest_listed (map listed (v.joined ++ joined_of w ∷ []))
clock_joined shards a b v w root other p q told =
    let all : greatest_listed (map listed (v.joined ++ joined_of w ∷ []))
    ≡ max (greatest_listed (map listed v.joined)) (max (greatest_stamp (entries_of w.own)) 0) =
    ap greatest_listed (map-append listed v.joined (joined_of w ∷ []))
    ∙ latest_append (map listed v.joined) (map listed (joined_of w ∷ [])) in
    let was : a ≡ greatest_listed (map listed v.joined) = (p.root root).1 in
    let last : b ≡ max (greatest_listed w.told) (greatest_stamp (entries_of w.own)) = q.split other
    ∙ last_greatest (greatest_listed w.told) (entries_of w.own)
    (rises_stamped (entries_seen w.seen) (greatest_listed w.told) (entries_of w.own) q.list.stamped) in
    let within : greatest_listed w.told ≤ greatest_listed
    (map listed (v.joined ++ joined_of w ∷ [])) = latest_begins w.told
    (map listed (v.joined ++ joined_of w ∷ [])) told.1 in
    omega arith

joined_here : (shards a b : ℕ) (v w : View) → v.number ≡ 0 → w.number ≢ 0 → IsPass shards a v → IsPass shards b w
    → WasTold (after_join v w).before (after_join v w).joined w.number w.told → IsPass shards (max a b)
    (after_join v w)
joined_here shards a b v w root other p q told =
    record {
      free = p.free;
      list = p.list;
      root = λ zero. ((p.root zero).0, clock_joined shards a b v w root other p q told);
      split = λ not. absurd (not root);
      joined = all_append (IsJoined shards) v.joined (joined_of w ∷ []) p.joined (q.list, tt);
      below = let x = p.below in let y = q.below in omega arith;
    }

pub pass_joined : (shards a b : ℕ) (v w u : View) → u ≡ after_join v w → v.number ≡ 0 → w.number ≢ 0
    → IsPass shards a v → IsPass shards b w → WasTold u.before u.joined w.number w.told → IsPass shards (max a b) u
pass_joined shards a b v w u is root other p q told =
    subst (IsPass shards (max a b)) (sym is) (joined_here shards a b v w root other p q
    (subst (λ (z : View). WasTold z.before z.joined w.number w.told) is told))
