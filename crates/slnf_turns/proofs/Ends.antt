-- The rule at the start, and what it says at the end.
use Rattle.std.proofs.Common.{◌≡◌, ◌≢◌, ℕ, zero, suc, ◌+◌, ◌*◌, ◌<◌, List, [], ◌∷◌, map, length, get_or, set, sym, refl, ap, ◌∙◌, subst, ⊎_elim, inl, inr, ◌⊎◌, arith, Option, Some, slice_get}
use Rattle.std.specs.List.{AllByRecursion}
use mathlib.Core.Logic.{dite}
use mathlib.Core.Option.{some, some-injective, some-ne-none}
use native.Mathlib.Decide.{ℕ_discrete, dec_le}
use lib.ListN.{get_elem?, length-map}
use Rattle.atomic_table.specs.Table.{State, opening, Final, Seen}
use Rattle.atomic_table.proofs.Lists.{set_else, at_map}
use Rattle.slnf_turns.specs.declared.views.Line.{Line}
use Rattle.slnf_turns.specs.declared.views.Joined.{Joined}
use Rattle.slnf_turns.specs.declared.views.View.{View}
use Rattle.slnf_turns.specs.declared.views.Stage.{Stage}
use Rattle.slnf_turns.specs.declared.views.Stage.TheVariants.{Free, Waits, Turn, Open, Spent}
use Rattle.slnf_turns.specs.Views.{Begins, lines_of, part_of, seen_of, kept_of, WasTold, list_in, first_view, spent_view}
use Rattle.slnf_turns.specs.Values.{AreFresh, AreKept, IsLast}
use Rattle.slnf_turns.specs.Rule.{Account, living_at, living, IsOpenAt, Knows, IsKept, Rule}
use Rattle.slnf_turns.proofs.Lists.{one_at, within_at, all_map, total_set, total_at}
use Rattle.slnf_turns.proofs.Lines.{if_ne}
use Rattle.slnf_turns.proofs.Keeps.{at_root}

-- an element read in both ways
pub both_at : {A : Type 0} (l : List A) (k : ℕ) → k < length l → (a : A) × (get_elem? l k ≡ some a) × (slice_get l k ≡ Some a)
both_at [] k h = absurd (omega arith)
both_at (x ∷ xs) zero h = (x, refl, refl)
both_at (x ∷ xs) (suc k) h = both_at xs k (omega arith)

pub slice_at : {A : Type 0} (l : List A) (k : ℕ) (a : A) → slice_get l k ≡ Some a → get_elem? l k ≡ some a
slice_at [] k a e = absurd (grind arith)
slice_at (x ∷ xs) zero a e = ap (λ (o : Option _). unwrapped x o) e
  where
    unwrapped : {A : Type 0} → A → Option A → mathlib.Core.Option.Option A
    unwrapped d (Some x) = some x
    unwrapped d _ = some d
slice_at (x ∷ xs) (suc k) a e = slice_at xs k a e

-- the first view is the only one
only_first : (j : ℕ) (v : View) → get_elem? (first_view ∷ []) j ≡ some v → (j ≡ 0) × (first_view ≡ v)
only_first zero v e = (refl, some-injective first_view v e)
only_first (suc j) v e = absurd (some-ne-none v (sym e))

kept_none : (i : ℕ) (xs : List Joined) → AllByRecursion (λ (x : Joined). x.listed.number ≢ i) xs → kept_of i xs ≡ []
kept_none i [] a = refl
kept_none i (x ∷ xs) a = if_ne x.listed.number i x.listed.lines (kept_of i xs) a.0 ∙ kept_none i xs a.1

alive_or_not : (st : Stage) → (living_at st ≡ 0) ⊎ (living_at st ≡ 1)
alive_or_not Free = inr refl
alive_or_not (Waits k t) = inr refl
alive_or_not (Turn k t) = inr refl
alive_or_not (Open k t base more) = inr refl
alive_or_not Spent = inl refl

open_lives : (k : ℕ) (st : Stage) → IsOpenAt k st → living_at st ≡ 1
open_lives k Free h = refl
open_lives k (Waits j t) h = refl
open_lives k (Turn j t) h = refl
open_lives k (Open j t base more) h = refl
open_lives k Spent h = absurd h

module _ {B : Type 0} (lines : B → List Line) (place places : B → ℕ) where
  abbrev R : State (Option B) View → Type 0
  R = Rule lines place places

  pub starts : (words : List ℕ) (slots : List (Option B)) (bs : List B) → slots ≡ map Some bs
      → length words ≡ 32 * length bs → ((i : ℕ) → get_or words i 0 ≡ 0) → AreFresh lines place places (length bs) bs
      → R (opening words slots first_view)
  starts words slots bs is wide blank fresh = subst (λ (xs : List (Option B)). R (opening words xs first_view)) (sym is) (
      let n : length (map some (map Some bs)) ≡ length bs = length-map (map Some bs) some ∙ length-map bs Some in
      let a : Account = record {
        drawn = λ _. 0;
        served = λ _. 0;
        holder = λ _. 0;
        published = λ _. [];
        list_of = λ _. [];
        before = [];
        joined = [];
      } in
      record {
        account = a;
        queue = record {
          wide = wide ∙ ap (λ (m : ℕ). 32 * m) (sym n);
          tickets = λ k _. blank (32 * k);
          serving = λ k _. blank (32 * k + 1);
          queued = λ k _. refl;
          few = omega arith;
          owned = λ k t _ _ high. absurd (omega arith);
          stages = λ j v e. subst (λ (w : View). Knows a (length (map some (map Some bs))) j w.stage) (only_first j v e).1 tt;
          apart = λ i j k t v w ev ew _ _. (only_first i v ev).0 ∙ sym (only_first j w ew).0;
          home = λ k l _. let here = both_at bs k (omega arith) in let f = fresh k here.0 here.2 in
              (here.0, at_map some (map Some bs) k (Some here.0) (at_map Some bs k here.0 here.1), f.1, f.2 ∙ sym n, f.0);
          out = λ k j _ e. absurd (omega arith);
        };
        tale = record {
          parts = λ k i _. refl;
          fresh = λ i _. refl;
          numbers = λ j v e _. ap (λ (w : View). w.number) (sym (only_first j v e).1) ∙ sym (only_first j v e).0;
          own = λ j v e _. ap (λ (w : View). w.own) (sym (only_first j v e).1);
          seen = λ j k v e _ _. subst (λ (w : View). Begins (seen_of k w.seen) []) (only_first j v e).1 ([], refl);
        };
        kin = record {
          root = λ v e. subst (λ (w : View). (living w ≡ 1) × (w.before ≡ []) × (w.joined ≡ [])) (only_first 0 v e).1
              (refl, refl, refl);
          counted = refl;
          living_ones = refl;
          kept = tt;
          lists = λ j v e _. refl;
          told = λ j v e _ other. absurd (other (only_first j v e).0);
        };
      })

  module _ (s : State (Option B) View) (r : R s) (id : ℕ) (v : View) (at : get_elem? s.views id ≡ some v)
      (number : v.number ≡ 0) (free : v.stage ≡ Free) (all : length v.joined ≡ length v.before) where
    lives : living v ≡ 1
    lives = ap living_at free

    at0 : get_elem? s.views 0 ≡ some v
    at0 = subst (λ (i : ℕ). get_elem? s.views i ≡ some v) (at_root lines place places s r id v at number lives) at

    root : (living v ≡ 1) × (v.before ≡ r.account.before) × (v.joined ≡ r.account.joined)
    root = r.kin.root v at0

    -- each other pass was joined
    others_spent : (j : ℕ) (x : View) → get_elem? s.views j ≡ some x → j ≢ 0 → living x ≡ 0
    others_spent j x e other = ⊎_elim (λ z. z) (λ one.
        let c = r.kin.counted in
        let d = r.kin.living_ones in
        let g = total_set living s.views 0 v spent_view at0 in
        let o = lives in
        let b : length v.before ≡ length r.account.before = ap (λ (l : List (List ℕ)). length l) root.1 in
        let m : length v.joined ≡ length r.account.joined = ap (λ (l : List Joined). length l) root.2 in
        let h = total_at living (set s.views 0 spent_view) j x (set_else s.views 0 j spent_view other ∙ e) in
        let w = all in
        absurd (omega arith)) (alive_or_not x.stage)

    pub all_home : (k : ℕ) → k < length s.homes → r.account.holder k ≡ 0
    all_home k near = go (r.account.holder k) refl
      where
        go : (h : ℕ) → r.account.holder k ≡ h → r.account.holder k ≡ 0
        go zero e = e
        go (suc j) e = let o = r.queue.out k j near e in dite (ℕ_discrete j 0)
            (λ z. absurd (subst (IsOpenAt k) (ap (λ (w : View). w.stage)
            (one_at s.views 0 o.1 v (subst (λ (i : ℕ). get_elem? s.views i ≡ some o.1) z o.2) at0) ∙ free) o.3))
            (λ other. let z = others_spent j o.1 o.2 other in let one = open_lives k o.1.stage o.3 in absurd (omega arith))

    lists_are : (i : ℕ) → list_in i v ≡ r.account.list_of i
    lists_are zero = r.tale.own 0 v at0 lives
    lists_are (suc i) = ap (kept_of (suc i)) root.2 ∙ dite (dec_le (length s.views) (suc i))
        (λ past. kept_none (suc i) r.account.joined
        (all_map (IsKept r.account (length s.homes) s.views) (λ (x : Joined). x.listed.number ≢ suc i)
        r.account.joined (λ x h e. let w = h.within in omega arith) r.kin.kept) ∙ sym (r.tale.fresh (suc i) past))
        (λ inside. let x = within_at s.views (suc i) (omega arith) in
        r.kin.lists (suc i) x.0 x.1 (others_spent (suc i) x.0 x.1 (λ z. omega arith)))

    pub all_kept : AreKept v
    all_kept = subst (λ (z : List Joined). AllByRecursion (λ (x : Joined). (list_in x.listed.number v ≡ x.listed.lines)
        × WasTold v.before v.joined x.listed.number x.told) z) (sym root.2)
        (all_map (IsKept r.account (length s.homes) s.views) (λ (x : Joined). (list_in x.listed.number v
        ≡ x.listed.lines) × WasTold v.before v.joined x.listed.number x.told) r.account.joined
        (λ x h. (
          lists_are x.listed.number ∙ sym h.list,
          subst (λ (z : List (List ℕ) × List Joined).
              WasTold z.0 z.1 x.listed.number x.told) (λ i. (sym root.1 i, sym root.2 i)) h.told,
        )) r.kin.kept)

    pub last_one : (k : ℕ) → k < length s.homes
        → (b : B) × (get_elem? s.homes k ≡ some (some (Some b))) × IsLast lines place places (length s.homes) v k b
    last_one k near = let h = r.queue.home k near (all_home k near) in (
      h.0,
      h.1,
      record {
        place_is = h.2;
        places_are = h.3;
        parts = λ i. ap (lines_of i) h.4 ∙ (r.tale.parts k i near ∙ ap (part_of k) (sym (lists_are i)));
        seen = subst (Begins (seen_of k v.seen)) (sym h.4) (r.tale.seen 0 k v at0 lives near);
        joined = subst (AllByRecursion (λ (x : Joined). Begins (seen_of k x.seen) (lines h.0))) (sym root.2)
            (all_map (IsKept r.account (length s.homes) s.views) (λ (x : Joined). Begins (seen_of k x.seen) (lines h.0))
            r.account.joined (λ x g. subst (Begins (seen_of k x.seen)) (sym h.4) (g.seen k near)) r.kin.kept);
      },
    )

  -- what the slots have at the end
  pub ends : (id : ℕ) (v : View) (ws : List ℕ) (xs : List (Option B))
      → v.number ≡ 0 → v.stage ≡ Free → length v.joined ≡ length v.before → Final (Seen R id v) ws xs
      → (k : ℕ) → k < length xs → (b : B) × (get_elem? xs k ≡ some (Some b)) × IsLast lines place places (length xs) v k b
  ends id v ws xs number free all final k near = let s = final.0 in
      let o = last_one s final.1.0 id v final.1.1 number free all k (let l = final.3 in omega arith) in
      (o.0, final.4 k (Some o.0) o.1, subst (λ (m : ℕ). IsLast lines place places m v k o.0) final.3 o.2)

  pub ends_kept : (id : ℕ) (v : View) (ws : List ℕ) (xs : List (Option B))
      → v.number ≡ 0 → v.stage ≡ Free → length v.joined ≡ length v.before → Final (Seen R id v) ws xs → AreKept v
  ends_kept id v ws xs number free all final = all_kept final.0 final.1.0 id v final.1.1 number free all
