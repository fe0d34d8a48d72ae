-- What a pass was told at its split: the lists of earlier epochs.
use Rattle.std.proofs.Common.{◌≡◌, ℕ, suc, ◌+◌, ◌-◌, ◌<◌, ◌≤◌, ◌==◌, ◌⊎◌, List, [], ◌∷◌, ◌++◌, map, Some, slice_get, refl, sym, ap, ◌∙◌, subst, inl, inr, arith, eq-eqb, ne_eqb}
use Rattle.std.specs.List.{AllByRecursion}
use Rattle.std.proofs.lemmas.Bool.{cases_eq, cond-true, cond-false}
use Rattle.slnf_access.specs.declared.requests.Entry.{Entry}
use Rattle.slnf_bucket.specs.Bucket.{last_stamp}
use Rattle.slnf_merge.proofs.Laws.{IsIn}
use Rattle.slnf_turns.specs.declared.views.Noted.{Noted}
use Rattle.slnf_turns.specs.declared.views.Listed.{Listed}
use Rattle.slnf_turns.specs.declared.views.Joined.{Joined}
use Rattle.slnf_turns.specs.declared.views.View.{View}
use Rattle.slnf_turns.specs.Views.{kept_of, list_in, listed, number_of, WasTold}
use Rattle.slnf_store.specs.Passes.{entries_of, greatest_stamp, greatest_listed, IsStamped, AreStamped, AreEntriesOf}
use Rattle.slnf_store.specs.Closes.{list_of, IsClosed}
use Rattle.slnf_run.specs.Setting.{Era, era_of}
use Rattle.slnf_run.specs.Parts.{part_of}
use Rattle.slnf_threads.specs.Parts.{IsOneOf, AreOfEarlier}
use Rattle.slnf_threads.proofs.Members.{in_left, all_in, in_filtered, filtered_in}

-- The list that the root keeps of a number is that of a joined pass.
pub record IsKeptAs (number : ℕ) (js : List Joined) : Type 0 where
  pub pass : Joined
  pub there : IsIn pass js
  pub number_is : pass.listed.number ≡ number
  pub lines : kept_of number js ≡ pass.listed.lines

kept_is : (number : ℕ) (js : List Joined) → (kept_of number js ≡ []) ⊎ IsKeptAs number js
kept_is number [] = inl refl
kept_is number (x ∷ xs) = elim (cases_eq x.listed.number number) [
  | inl q ↦ inr (record {
    pass = x;
    there = inl refl;
    number_is = q;
    lines = cond-true (x.listed.number == number) x.listed.lines (kept_of number xs)
        (eq-eqb x.listed.number number q);
  })
  | inr n ↦
      let skip : kept_of number (x ∷ xs) ≡ kept_of number xs =
      cond-false (x.listed.number == number) x.listed.lines (kept_of number xs) (ne_eqb x.listed.number number n) in
      elim (kept_is number xs) [
        | inl e ↦ inl (skip ∙ e)
        | inr k ↦ inr (record {
          pass = k.pass;
          there = inr k.there;
          number_is = k.number_is;
          lines = skip ∙ k.lines;
        })
      ]
]

in_listed : (y : Listed) (js : List Joined) → IsIn y (map listed js) → (j : Joined) × IsIn j js × (j.listed ≡ y)
in_listed y [] i = absurd i
in_listed y (j ∷ js) (inl same) = (j, inl refl, same)
in_listed y (j ∷ js) (inr rest) = let r = in_listed y js rest in (r.0, inr (r.1), r.2)

one_of_map : (n : ℕ) (told : List Listed) → IsOneOf n (map number_of told) → (t : Listed) × IsIn t told
    × (t.number ≡ n)
one_of_map n [] i = absurd i
one_of_map n (t ∷ told) (inl q) = (t, inl refl, q)
one_of_map n (t ∷ told) (inr rest) = let r = one_of_map n told rest in (r.0, inr (r.1), r.2)

all_map : (P : ℕ → Type 0) (told : List Listed) (t : Listed) → AllByRecursion P (map number_of told) → IsIn t told →
    P t.number
all_map P [] t a i = absurd i
all_map P (x ∷ told) t a (inl same) = subst (λ (y : Listed). P y.number) same a.0
all_map P (x ∷ told) t a (inr rest) = all_map P told t a.1 rest

below_greatest : (e : Entry) (es : List Entry) → IsIn e es → e.stamp ≤ greatest_stamp es
below_greatest e [] i = absurd i
below_greatest e (f ∷ es) (inl same) =
    let q : f.stamp ≡ e.stamp = ap (λ (x : Entry). x.stamp) same in omega arith
below_greatest e (f ∷ es) (inr rest) =
    let l : e.stamp ≤ greatest_stamp es = below_greatest e es rest in omega arith

below_listed : (e : Entry) (t : Listed) (told : List Listed) → IsIn t told → IsIn e (entries_of t.lines) →
    e.stamp ≤ greatest_listed told
below_listed e t [] i j = absurd i
below_listed e t (x ∷ told) (inl same) j =
    let l : e.stamp ≤ greatest_stamp (entries_of x.lines) = below_greatest e (entries_of x.lines)
    (subst (λ (y : Listed). IsIn e (entries_of y.lines)) (sym same) j) in omega arith
below_listed e t (x ∷ told) (inr rest) j =
    let l : e.stamp ≤ greatest_listed told = below_listed e t told rest j in omega arith

greatest_within : (bound : ℕ) (es : List Entry) → ((e : Entry) → IsIn e es → e.stamp ≤ bound) →
    greatest_stamp es ≤ bound
greatest_within bound [] f = omega arith
greatest_within bound (e ∷ es) f =
    let l : e.stamp ≤ bound = f e (inl refl) in
    let m : greatest_stamp es ≤ bound = greatest_within bound es (λ x i. f x (inr i)) in
    omega arith

listed_within : (bound : ℕ) (told : List Listed) →
    ((t : Listed) (e : Entry) → IsIn t told → IsIn e (entries_of t.lines) → e.stamp ≤ bound) →
    greatest_listed told ≤ bound
listed_within bound [] f = omega arith
listed_within bound (t ∷ told) f =
    let l : greatest_stamp (entries_of t.lines) ≤ bound =
    greatest_within bound (entries_of t.lines) (λ e i. f t e (inl refl) i) in
    let m : greatest_listed told ≤ bound = listed_within bound told (λ u e i j. f u e (inr i) j) in
    omega arith

-- in a list with stamps, the entry's stamp stands on the last before it
pub stamped_at : (histories : ℕ → List Entry) (clock : ℕ) (xs ys : List Entry) (e : Entry) →
    AreStamped histories clock (xs ++ e ∷ ys) → IsStamped (last_stamp clock xs) e (histories e.shard)
stamped_at histories clock [] ys e s = s.0
stamped_at histories clock (x ∷ xs) ys e s = stamped_at histories x.stamp xs ys e s.1

module _ (shards : ℕ) (root : View) (hs : List (List Entry)) (merged : List Entry) (closed : IsClosed shards root hs)
    (parts : (i : ℕ) → part_of i merged ≡ list_of i root) where
  pub to_list : (z : Entry) → IsIn z merged → IsIn z (list_of z.incarnation root)
  to_list z i =
      subst (IsIn z) (parts z.incarnation)
      (in_filtered (λ (e : Entry). e.incarnation == z.incarnation) z merged
      (eq-eqb z.incarnation z.incarnation refl) i)

  pub from_list : (i : ℕ) (z : Entry) → IsIn z (list_of i root) → IsIn z merged
  from_list i z m =
      (filtered_in (λ (e : Entry). e.incarnation == i) z merged (subst (IsIn z) (sym (parts i)) m)).1

  -- the pass of an entry
  pub owner : (e : Entry) → IsIn e merged → IsKeptAs (suc e.incarnation) root.joined
  owner e i = elim (kept_is (suc e.incarnation) root.joined) [
    | inl none ↦ absurd (subst (λ (l : List Noted). IsIn e (entries_of l)) none (to_list e i))
    | inr k ↦ k
  ]

  module _ (eras : List Era)
      (split : (i : ℕ) (numbers : List ℕ) → slice_get root.before i ≡ Some numbers → AreOfEarlier eras i numbers)
      (e : Entry) (x : Joined) (there : IsIn x root.joined) (number : x.listed.number ≡ suc e.incarnation) where
    told_is : WasTold root.before root.joined x.listed.number x.told
    told_is = (all_in _ x root.joined closed.kept there).1

    split_is : AreOfEarlier eras e.incarnation (map number_of x.told)
    split_is =
        let at : x.listed.number - 1 ≡ e.incarnation = omega arith in
        split e.incarnation (map number_of x.told) (ap (slice_get root.before) (sym at) ∙ told_is.0)

    -- what was told is the list that the root keeps
    told_kept : (t : Listed) → IsIn t x.told → (list_in t.number root ≡ t.lines)
        × AreEntriesOf shards t.number (entries_of t.lines)
    told_kept t i =
        let b = told_is.1 in
        let y = in_listed t root.joined (subst (IsIn t) (sym b.1) (in_left t x.told b.0 i)) in
        let k = (all_in _ y.0 root.joined closed.kept y.1).0 in
        let own = (all_in _ y.0 root.joined closed.lists y.1).own in (
          subst (λ (z : Listed). list_in z.number root ≡ z.lines) y.2 k,
          subst (λ (z : Listed). AreEntriesOf shards z.number (entries_of z.lines)) y.2 own,
        )

    -- no entry of an earlier epoch has a greater stamp
    pub told_below : (f : Entry) → IsIn f merged → era_of eras f.incarnation < era_of eras e.incarnation →
        f.stamp ≤ greatest_listed x.told
    told_below f i l =
        let t = one_of_map (suc f.incarnation) x.told (split_is.all f.incarnation l) in
        let k = (told_kept t.0 t.1).0 in
        let lines : list_of f.incarnation root ≡ entries_of (t.0).lines =
        ap (λ n. entries_of (list_in n root)) (sym t.2) ∙ ap entries_of k in
        below_listed f t.0 x.told t.1 (subst (IsIn f) lines (to_list f i))

    -- and one has that stamp, if it isn't 0
    pub told_within : (bound : ℕ) → ((p : Entry) → IsIn p merged →
        era_of eras p.incarnation < era_of eras e.incarnation → p.stamp ≤ bound) → greatest_listed x.told ≤ bound
    told_within bound f = listed_within bound x.told (λ t p i j.
        let k = told_kept t i in
        let who : p.incarnation + 1 ≡ t.number = (all_in _ p (entries_of t.lines) k.1 j).0 in
        let minus : t.number - 1 ≡ p.incarnation = omega arith in
        let next : suc p.incarnation ≡ t.number = omega arith in
        let lines : list_of p.incarnation root ≡ entries_of t.lines =
        ap (λ n. entries_of (list_in n root)) next ∙ ap entries_of k.0 in
        let early : era_of eras p.incarnation < era_of eras e.incarnation =
        subst (λ n. era_of eras n < era_of eras e.incarnation) minus
        (all_map (λ n. era_of eras (n - 1) < era_of eras e.incarnation) x.told t split_is.earlier i) in
        f p (from_list p.incarnation p (subst (IsIn p) (sym lines) j)) early)
