-- A pass's list grows by the entries of a turn, and keeps what holds of each pass.
use Rattle.std.proofs.Common.{◌≡◌, ◌≢◌, ℕ, ◌+◌, ◌-◌, ◌<◌, ◌^◌, ◌==◌, if◌then◌else◌, max, Bool, true, false, List, [], ◌∷◌, ◌++◌, map, length, refl, sym, ap, ◌∙◌, subst, append_assoc, arith, eqb-true, eq-eqb}
use mathlib.Core.List.{map-append}
use Rattle.std.specs.List.{AllByRecursion}
use Rattle.atomic_table.specs.Seated.{TableId}
use Rattle.slnf_access.specs.declared.requests.Entry.{Entry}
use Rattle.slnf_bucket.specs.Bucket.{last_stamp}
use Rattle.slnf_turns.specs.declared.views.Noted.{Noted}
use Rattle.slnf_turns.specs.declared.views.Listed.{Listed}
use Rattle.slnf_turns.specs.declared.views.Joined.{Joined}
use Rattle.slnf_turns.specs.declared.views.View.{View}
use Rattle.slnf_turns.specs.Views.{Begins, seen_of, noted}
use Rattle.slnf_turns.proofs.Laws.{begins_refl, begins_more}
use Rattle.slnf_store.specs.Lines.{line_of, noted_of, entry_of}
use Rattle.slnf_store.specs.Passes.{entries_of, entries_seen, greatest_listed, IsStamped, AreStamped, AreEntriesOf, IsOwnList, IsJoined, IsPass, PassState}
use Rattle.slnf_access.specs.declared.requests.Request.{Request}
use Rattle.slnf_access.specs.declared.requests.Reply.{Reply}
use Rattle.slnf_bucket.specs.declared.errors.BucketError.{BucketError}
use Rattle.slnf_store.specs.Accesses.{TakesTurn, MakesEntries, entry_after, MakesAccess, RefusesAccesses, IsRefusal}
use Rattle.slnf_store.proofs.Members.{all_append}
use Rattle.slnf_store.proofs.Written.{entries_back, begins_back, own_more, noted_same}

-- an entry stands where it stood when the histories grow
pub stamped_one : (clock : ℕ) (e : Entry) (history more : List Entry) → Begins history more
    → IsStamped clock e history → IsStamped clock e more
stamped_one clock e history more b s =
    (s.0, s.1 ++ b.0, b.1 ∙ ap (λ (l : List Entry). l ++ b.0) s.2 ∙ append_assoc s.0 (e ∷ s.1) b.0, s.3)

pub stamped_within : (shards number : ℕ) (f g : ℕ → List Entry) (clock : ℕ) (es : List Entry)
    → ((k : ℕ) → k < shards → Begins (f k) (g k)) → AreEntriesOf shards number es → AreStamped f clock es
    → AreStamped g clock es
stamped_within shards number f g clock [] b o s = tt
stamped_within shards number f g clock (e ∷ es) b o s =
    (stamped_one clock e (f e.shard) (g e.shard) (b e.shard o.0.1) s.0, stamped_within shards number f g e.stamp es b o.1 s.1)

pub stamped_append : (h : ℕ → List Entry) (clock : ℕ) (xs ys : List Entry) → AreStamped h clock xs
    → AreStamped h (last_stamp clock xs) ys → AreStamped h clock (xs ++ ys)
stamped_append h clock [] ys s t = t
stamped_append h clock (x ∷ xs) ys s t = (s.0, stamped_append h x.stamp xs ys s.1 t)

-- these entries of a number's pass were made one after another in a turn at a shard with this history
abbrev pub AreMade : (shard number : ℕ) → List Entry → ℕ → List Entry → Type 0
AreMade shard number earlier clock [] = Unit {0}
AreMade shard number earlier clock (e ∷ es) =
    (e.stamp ≡ max (last_stamp 0 earlier) clock + 1)
    × (e.shard ≡ shard)
    × (e.incarnation + 1 ≡ number)
    × AreMade shard number (earlier ++ e ∷ []) e.stamp es

-- the entries that a turn made are stamped in the history that they end
pub made_stamped : (h : ℕ → List Entry) (shard number : ℕ) (earlier : List Entry) (clock : ℕ) (es : List Entry)
    → h shard ≡ earlier ++ es → AreMade shard number earlier clock es → AreStamped h clock es
made_stamped h shard number earlier clock [] is m = tt
made_stamped h shard number earlier clock (e ∷ es) is m = (
  (earlier, es, ap h m.1 ∙ is, m.0),
  made_stamped h shard number (earlier ++ e ∷ []) e.stamp es (is ∙ sym (append_assoc earlier (e ∷ []) es)) m.3,
)

made_here : (shard number : ℕ) (earlier : List Entry) (clock : ℕ) (es : List Entry)
    → AreMade shard number earlier clock es → AllByRecursion (λ (e : Entry). e.shard ≡ shard) es
made_here shard number earlier clock [] m = tt
made_here shard number earlier clock (e ∷ es) m = (m.1, made_here shard number (earlier ++ e ∷ []) e.stamp es m.3)

made_of : (shards shard number : ℕ) (earlier : List Entry) (clock : ℕ) (es : List Entry) → shard < shards
    → AreMade shard number earlier clock es → AreEntriesOf shards number es
made_of shards shard number earlier clock [] inside m = tt
made_of shards shard number earlier clock (e ∷ es) inside m =
    ((m.2, let same = m.1 in omega arith), made_of shards shard number (earlier ++ e ∷ []) e.stamp es inside m.3)

pub last_append : (clock : ℕ) (xs ys : List Entry) → last_stamp clock (xs ++ ys) ≡ last_stamp (last_stamp clock xs) ys
last_append clock [] ys = refl
last_append clock (x ∷ xs) ys = last_append x.stamp xs ys

-- what the pass saw of each shard after a turn
pub seen_turned : (shard : ℕ) (earlier more : List Entry) (v w : View) → TakesTurn shard earlier more v w → (k : ℕ)
    → entries_seen w.seen k ≡ (if k == shard then earlier ++ more else entries_seen v.seen k)
seen_turned shard earlier more v w t k = ap (map entry_of) (t.seen k) ∙ by_test (k == shard)
  where
    by_test : (b : Bool)
        → map entry_of (if b then map line_of (earlier ++ more) else seen_of k v.seen)
        ≡ (if b then earlier ++ more else entries_seen v.seen k)
    by_test true = entries_back (earlier ++ more)
    by_test false = refl

grown_if : (shard k : ℕ) (new : List Entry) (v : View) (b : Bool) → (b ≡ true → k ≡ shard)
    → Begins (entries_seen v.seen shard) new → Begins (entries_seen v.seen k)
    (if b then new else entries_seen v.seen k)
grown_if shard k new v true same b = subst (λ (j : ℕ). Begins (entries_seen v.seen j) new) (sym (same refl)) b
grown_if shard k new v false same b = begins_refl (entries_seen v.seen k)

pub seen_grown : (shard : ℕ) (earlier more : List Entry) (v w : View) → TakesTurn shard earlier more v w → (k : ℕ)
    → Begins (entries_seen v.seen k) (entries_seen w.seen k)
seen_grown shard earlier more v w t k =
    subst (λ (l : List Entry). Begins (entries_seen v.seen k) l) (sym (seen_turned shard earlier more v w t k))
    (grown_if shard k (earlier ++ more) v (k == shard) (λ e. eqb-true k shard e)
    (begins_more (entries_seen v.seen shard) earlier more (begins_back (seen_of shard v.seen) earlier t.grown)))

seen_here : (shard : ℕ) (earlier more : List Entry) (v w : View) → TakesTurn shard earlier more v w
    → entries_seen w.seen shard ≡ earlier ++ more
seen_here shard earlier more v w t =
    let test : (shard == shard) ≡ true = eq-eqb shard shard refl in
    seen_turned shard earlier more v w t shard ∙ rw test refl

-- the list after a turn
list_turned : (shards shard : ℕ) (earlier more : List Entry) (v w : View) → shard < shards
    → TakesTurn shard earlier more v w
    → AreMade shard v.number earlier (last_stamp (greatest_listed v.told) (entries_of v.own)) more
    → IsOwnList shards v.number v.told v.own (entries_seen v.seen)
    → IsOwnList shards v.number v.told (v.own ++ noted shard (map line_of more)) (entries_seen w.seen)
list_turned shards shard earlier more v w inside t m l =
    let own : entries_of (v.own ++ noted shard (map line_of more))
    ≡ entries_of v.own ++ more = own_more v.own shard more in
    let here = made_here shard v.number earlier _ more m in
    record {
      written =
          ap (λ (xs : List Noted). xs ++ noted shard (map line_of more)) l.written
          ∙ ap (λ (ys : List Noted). map noted_of (entries_of v.own) ++ ys) (noted_same shard more here)
          ∙ sym (map-append noted_of (entries_of v.own) more) ∙ ap (map noted_of) (sym own);
      own = subst (λ (es : List Entry). AreEntriesOf shards v.number es) (sym own)
          (all_append (λ (e : Entry). (e.incarnation + 1 ≡ v.number) × (e.shard < shards))
          (entries_of v.own) more l.own (made_of shards shard v.number earlier _ more inside m));
      stamped = subst (λ (es : List Entry). AreStamped (entries_seen w.seen) (greatest_listed v.told) es) (sym own)
          (stamped_append (entries_seen w.seen) (greatest_listed v.told) (entries_of v.own) more
          (stamped_within shards v.number (entries_seen v.seen) (entries_seen w.seen) (greatest_listed v.told)
          (entries_of v.own) (λ k _. seen_grown shard earlier more v w t k) l.own l.stamped)
          (made_stamped (entries_seen w.seen) shard v.number earlier _ more (seen_here shard earlier more v w t) m));
    }

-- a pass after a turn
pass_turned : (shards shard clock : ℕ) (earlier more : List Entry) (v w : View) → v.number ≢ 0 → shard < shards
    → IsPass shards clock v → TakesTurn shard earlier more v w → AreMade shard v.number earlier clock more
    → last_stamp clock more < 2 ^ 62 → IsPass shards (last_stamp clock more) w
pass_turned shards shard clock earlier more v w other inside p t m below =
    let was : clock ≡ last_stamp (greatest_listed v.told) (entries_of v.own) = p.split other in
    let list = list_turned shards shard earlier more v w inside t
    (subst (λ (n : ℕ). AreMade shard v.number earlier n more) was m) p.list in
    let kin = t.kin in
    let grew : entries_of w.own ≡ entries_of v.own ++ more = ap entries_of t.own ∙ own_more v.own shard more in
    record {
      free = t.free;
      list = rw (kin.0, kin.1, t.own) list;
      root = λ zero. absurd (other (sym kin.0 ∙ zero));
      split = λ _. ap (λ (n : ℕ). last_stamp n more) was
          ∙ sym (last_append (greatest_listed v.told) (entries_of v.own) more)
          ∙ ap (λ (es : List Entry). last_stamp (greatest_listed v.told) es) (sym grew)
          ∙ ap (λ (l : List Listed). last_stamp (greatest_listed l) (entries_of w.own)) (sym kin.1);
      joined = subst (λ (js : List Joined). AllByRecursion (IsJoined shards) js) (sym kin.3) p.joined;
      below = below;
    }

-- what the store keeps of a pass, after a turn
pub kept_turned : (number splits clock shard : ℕ) (earlier more : List Entry) (was here store : TableId) (v w : View)
    → (number ≡ v.number) × (splits ≡ length v.before) × IsPass was.slots clock v
    → was ≡ store → here ≡ store → v.number ≢ 0 → shard < store.slots
    → TakesTurn shard earlier more v w
    → AreMade shard v.number earlier clock more → last_stamp clock more < 2 ^ 62
    → (number ≡ w.number) × (splits ≡ length w.before) × IsPass here.slots (last_stamp clock more) w
kept_turned number splits clock shard earlier more was here store v w i from to other inside t made below =
    let p = subst (λ (z : TableId). IsPass z.slots clock v) from i.2 in
    let q = pass_turned store.slots shard clock earlier more v w other inside p t made below in (
      i.0 ∙ sym t.kin.0,
      i.1 ∙ sym (ap length t.kin.2),
      subst (λ (z : TableId). IsPass z.slots (last_stamp clock more) w) (sym to) q,
    )

-- one access in one turn
pub one_made : (shard number : ℕ) (earlier : List Entry) (incarnation clock item : ℕ) (request : Request)
    → incarnation + 1 ≡ number
    → AreMade shard number earlier clock (entry_after earlier shard incarnation clock item request ∷ [])
one_made shard number earlier incarnation clock item request is = (refl, refl, is, tt)

-- what a turn did, as contracts see the pass
pub makes_entries : (shard : ℕ) (earlier more : List Entry) (old new : PassState)
    → TakesTurn shard earlier more old.known new.known
    → new.table_id ≡ old.table_id
    → new.clock ≡ last_stamp old.clock more
    → new.clock < 2 ^ 62
    → MakesEntries shard earlier more old new
makes_entries shard earlier more old new t table clock below =
    record {
      grown = begins_back (seen_of shard old.known.seen) earlier t.grown;
      seen = seen_turned shard earlier more old.known new.known t;
      own = ap entries_of t.own ∙ own_more old.known.own shard more;
      clock = clock;
      below = below;
      table = table;
      kin = t.kin;
    }

pub makes_access : (shard : ℕ) (earlier : List Entry) (old new : PassState) (number item : ℕ) (request : Request)
    (reply : Reply)
    → number ≡ old.known.number
    → TakesTurn shard earlier (entry_after earlier shard (number - 1) old.clock item request ∷ []) old.known new.known
    → new.table_id ≡ old.table_id
    → new.clock ≡ max (last_stamp 0 earlier) old.clock + 1
    → new.clock < 2 ^ 62
    → reply ≡ (entry_after earlier shard (number - 1) old.clock item request).reply
    → MakesAccess shard earlier old new item request reply
makes_access shard earlier old new number item request reply is t table clock below same =
    let e = entry_after earlier shard (old.known.number - 1) old.clock item request in
    let turn : TakesTurn shard earlier (e ∷ []) old.known new.known =
    subst (λ (n : ℕ). TakesTurn shard earlier (entry_after earlier shard
    (n - 1) old.clock item request ∷ []) old.known new.known) is t in
    (makes_entries shard earlier (e ∷ []) old new turn table clock below, same)

pub refuses_accesses : (count shard : ℕ) (earlier : List Entry) (old new : PassState) (refusal : BucketError)
    → TakesTurn shard earlier [] old.known new.known
    → new.table_id ≡ old.table_id
    → new.clock ≡ old.clock
    → new.clock < 2 ^ 62
    → IsRefusal count (max (last_stamp 0 earlier) old.clock) refusal
    → RefusesAccesses count shard earlier old new refusal
refuses_accesses count shard earlier old new refusal t table clock below why =
    (makes_entries shard earlier [] old new t table clock below, why)
