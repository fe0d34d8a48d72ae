-- One epoch more has passed.
use Rattle.std.proofs.Common.{◌≡◌, ◌⊎◌, inl, inr, ℕ, zero, suc, ◌+◌, ◌-◌, ◌<◌, ◌≤◌, ◌==◌, List, [], ◌∷◌, ◌++◌, Some, length, map, drop, slice_get, replicate, option_map, refl, sym, ap, ap₂, ◌∙◌, subst, arith, append_assoc, append-nil, eq-eqb, ne_eqb, length-append}
use Rattle.std.specs.List.{AllByRecursion, range_with_len}
use Rattle.std.proofs.lemmas.Bool.{cases_lt, cond-true, cond-false}
use Rattle.std.proofs.lemmas.List.{length-map, map-append, replicate_more, length-replicate}
use Rattle.std.proofs.lemmas.List.FromFn.{length-range_with_len}
use Rattle.std.proofs.lemmas.Option.{slice_get-map, slice_get_within, same_Some}
use Rattle.slnf_access.specs.declared.requests.Entry.{Entry}
use Rattle.slnf_turns.specs.declared.views.Joined.{Joined}
use Rattle.slnf_turns.specs.declared.views.View.{View}
use Rattle.slnf_turns.specs.Views.{kept_of, joined_of, after_split}
use Rattle.slnf_store.specs.Passes.{entries_of}
use Rattle.slnf_store.specs.Closes.{list_of}
use Rattle.slnf_run.specs.Setting.{Actor, Era, Setting, base_of, era_of}
use Rattle.slnf_run.specs.Parts.{part_of, at_lane, Post, posts_from, places_after}
use Rattle.slnf_run.specs.Jobs.{job_of}
use Rattle.slnf_run.proofs.Epochs.{era_of-later}
use Rattle.slnf_run.proofs.LanePosts.{slice_get_either, slice_get_of_map}
use Rattle.slnf_run.proofs.Lists.{slice_get-append_left, slice_get-append_right}
use Rattle.slnf_run.proofs.Parting.{post_of}
use Rattle.slnf_run.proofs.Passing.{drop_from, base_of-next, era_of-before, era_of-here}
use Rattle.slnf_threads.specs.Parts.{IsOneOf, AreOfEarlier}
use Rattle.slnf_threads.specs.Passing.{root_with, joined_number, after_splits, after_joins, AgreesBefore, HaveWorked, HavePassed, AreAtWork}
use Rattle.slnf_threads.specs.Worked.{IsWorked, HasWorked}
use Rattle.slnf_threads.proofs.Rules.{some_at}

-- the root after splits and joins
pub splits_root : (n : ℕ) (before : List (List ℕ)) (joined : List Joined) → after_splits n (root_with before joined)
    ≡ root_with (before ++ replicate n (map joined_number joined)) joined
splits_root zero before joined = ap (λ b. root_with b joined) (sym (append-nil before))
splits_root (suc n) before joined =
    ap after_split (splits_root n before joined)
    ∙ ap (λ b. root_with b joined)
    (append_assoc before (replicate n (map joined_number joined)) (map joined_number joined ∷ [])
    ∙ ap (λ l. before ++ l) (replicate_more n (map joined_number joined)
    ∙ ap (λ k. replicate k (map joined_number joined)) (let e : n + 1 ≡ suc n = omega arith in e)))

pub joins_root : (vs : List View) (before : List (List ℕ)) (joined : List Joined) →
    after_joins vs (root_with before joined) ≡ root_with before (joined ++ map joined_of vs)
joins_root [] before joined = ap (root_with before) (sym (append-nil joined))
joins_root (v ∷ vs) before joined =
    joins_root vs before (joined ++ joined_of v ∷ [])
    ∙ ap (root_with before) (append_assoc joined (joined_of v ∷ []) (map joined_of vs))

-- numbers in a row
pub range-append : (from m n : ℕ) → range_with_len from m ++ range_with_len (from + m) n ≡ range_with_len from (m + n)
range-append from zero n =
    let a : from + 0 ≡ from = omega arith in
    let b : 0 + n ≡ n = omega arith in
    ap (λ k. range_with_len k n) a ∙ ap (range_with_len from) (sym b)
range-append from (suc m) n =
    let a : from + suc m ≡ from + 1 + m = omega arith in
    let b : suc m + n ≡ suc (m + n) = omega arith in
    ap (λ k. from ∷ (range_with_len (from + 1) m ++ range_with_len k n)) a
    ∙ (ap (λ l. from ∷ l) (range-append (from + 1) m n) ∙ ap (range_with_len from) (sym b))

cons_parts : {X : Type 0} (x y : X) (xs ys : List X) → x ∷ xs ≡ y ∷ ys → (x ≡ y) × (xs ≡ ys)
cons_parts x y xs ys h = (cc, cc)

-- the list that is kept of a number is that of the pass at its place
pub kept_at : (from n : ℕ) (js : List Joined) (k : ℕ) (x : Joined) → map joined_number js ≡ range_with_len from n →
    slice_get js k ≡ Some x → kept_of (from + k) js ≡ x.listed.lines
kept_at from n [] k x h at = absurd (cc)
kept_at from zero (j ∷ js) k x h at = absurd (cc)
kept_at from (suc n) (j ∷ js) zero x h at =
    let p = cons_parts (joined_number j) from (map joined_number js) (range_with_len (from + 1) n) h in
    let here : j.listed.number ≡ from + 0 = p.0 ∙ (let e : from ≡ from + 0 = omega arith in e) in
    cond-true (j.listed.number == (from + 0)) j.listed.lines (kept_of (from + 0) js)
    (eq-eqb j.listed.number (from + 0) here)
    ∙ ap (λ (y : Joined). y.listed.lines) (same_Some j x at)
kept_at from (suc n) (j ∷ js) (suc k) x h at =
    let p = cons_parts (joined_number j) from (map joined_number js) (range_with_len (from + 1) n) h in
    let first : j.listed.number ≡ from = p.0 in
    let next : from + suc k ≡ from + 1 + k = omega arith in
    cond-false (j.listed.number == (from + suc k)) j.listed.lines (kept_of (from + suc k) js)
    (ne_eqb j.listed.number (from + suc k) (λ q. omega arith))
    ∙ (ap (λ m. kept_of m js) next ∙ kept_at (from + 1) n js k x p.1 at)

-- of a number behind them there is none
pub kept_none : (from n : ℕ) (js : List Joined) (number : ℕ) → map joined_number js ≡ range_with_len from n →
    from + n ≤ number → kept_of number js ≡ []
kept_none from n [] number h l = refl
kept_none from zero (j ∷ js) number h l = absurd (cc)
kept_none from (suc n) (j ∷ js) number h l =
    let p = cons_parts (joined_number j) from (map joined_number js) (range_with_len (from + 1) n) h in
    let first : j.listed.number ≡ from = p.0 in
    cond-false (j.listed.number == number) j.listed.lines (kept_of number js)
    (ne_eqb j.listed.number number (λ q. omega arith))
    ∙ kept_none (from + 1) n js number p.1 (omega arith)

-- a later incarnation is of this epoch or a later one
pub era_of-from : (eras : List Era) (number k : ℕ) (era : Era) → slice_get eras number ≡ Some era →
    base_of eras number ≤ k → number ≤ era_of eras k
era_of-from [] number k era at l = absurd (cc)
era_of-from (e ∷ eras) zero k era at l = omega arith
era_of-from (e ∷ eras) (suc number) k era at l =
    let later : era_of (e ∷ eras) k ≡ era_of eras (k - length e.actors) + 1 = era_of-later e eras k (omega arith) in
    let rest : number ≤ era_of eras (k - length e.actors) =
    era_of-from eras number (k - length e.actors) era at (omega arith) in
    omega arith

one_of_range : (from n k : ℕ) → from ≤ k → k < from + n → IsOneOf k (range_with_len from n)
one_of_range from zero k l m = absurd (omega arith)
one_of_range from (suc n) k l m = elim (cases_lt from k) [
  | inl less ↦ inr (one_of_range (from + 1) n k (omega arith) (omega arith))
  | inr more ↦ inl (let e : from ≡ k = omega arith in e)
]

all_of_range : (P : ℕ → Type 0) (from n : ℕ) → ((k : ℕ) → from ≤ k → k < from + n → P k) →
    AllByRecursion P (range_with_len from n)
all_of_range P from zero h = tt
all_of_range P from (suc n) h =
    (h from (omega arith) (omega arith), all_of_range P (from + 1) n (λ k l m. h k (omega arith) (omega arith)))

-- at a split in this epoch the passes of all earlier ones were joined
pub are_earlier : (eras : List Era) (number k : ℕ) (era : Era) → slice_get eras number ≡ Some era →
    k < length era.actors → AreOfEarlier eras (base_of eras number + k) (range_with_len 1 (base_of eras number))
are_earlier eras number k era at l =
    let here : era_of eras (base_of eras number + k) ≡ number = era_of-here eras number k era at l in
    record {
      earlier = all_of_range (λ n. era_of eras (n - 1) < era_of eras (base_of eras number + k)) 1
          (base_of eras number) (λ n low high.
          let before : era_of eras (n - 1) < number = era_of-before eras number (n - 1) (omega arith) in
          omega arith);
      all = λ i less. elim (cases_lt i (base_of eras number)) [
        | inl before ↦ one_of_range 1 (base_of eras number) (suc i) (omega arith) (omega arith)
        | inr behind ↦ absurd (let m : number ≤ era_of eras i = era_of-from eras number i era at behind in omega arith)
      ];
    }

replicate_at : {X : Type 0} (n k : ℕ) (x y : X) → slice_get (replicate n x) k ≡ Some y → (y ≡ x) × (k < n)
replicate_at zero k x y h = absurd (cc)
replicate_at (suc n) zero x y h = (sym (same_Some x y h), omega arith)
replicate_at (suc n) (suc k) x y h = let r = replicate_at n k x y h in let l = r.1 in (r.0, omega arith)

module _ {F A : Type 0} (s : Setting F A) (number base : ℕ) (places : ℕ → ℕ) (root : View) (era : Era)
    (passed : HavePassed s number base places root) (at : slice_get s.eras number ≡ Some era) (vs : List View)
    (count : length vs ≡ length era.actors)
    (numbers : map (λ (v : View). v.number) vs ≡ range_with_len (base + 1) (length vs)) where
  -- the root after the epoch
  abbrev pub root_behind : View
  root_behind = root_with (root.before ++ replicate (length era.actors) (map joined_number root.joined))
      (root.joined ++ map joined_of vs)

  size : length root.joined ≡ base
  size = sym (length-map root.joined joined_number) ∙ (ap length passed.numbers ∙ length-range_with_len 1 base)

  numbers_of : (ws : List View) → map joined_number (map joined_of ws) ≡ map (λ (v : View). v.number) ws
  numbers_of [] = refl
  numbers_of (w ∷ ws) = ap (λ l. w.number ∷ l) (numbers_of ws)

  all_numbers : map joined_number (root.joined ++ map joined_of vs) ≡ range_with_len 1 (base + length vs)
  all_numbers =
      let next : base + 1 ≡ 1 + base = omega arith in
      map-append joined_number root.joined (map joined_of vs)
      ∙ (ap₂ (λ (xs ys : List ℕ). xs ++ ys) passed.numbers
      (numbers_of vs ∙ (numbers ∙ ap (λ n. range_with_len n (length vs)) next))
      ∙ range-append 1 base (length vs))

  list_old : (i : ℕ) → i < base → list_of i root_behind ≡ list_of i root
  list_old i l =
      let x : (j : Joined) × (slice_get root.joined i ≡ Some j) = some_at root.joined i (omega (arith, l, size)) in
      let q : 1 + i ≡ suc i = omega arith in
      let new : kept_of (1 + i) (root.joined ++ map joined_of vs) ≡ (x.0).listed.lines =
      kept_at 1 (base + length vs) (root.joined ++ map joined_of vs) i x.0 all_numbers
      (slice_get-append_left root.joined (map joined_of vs) i x.0 x.1) in
      let old : kept_of (1 + i) root.joined ≡ (x.0).listed.lines =
      kept_at 1 base root.joined i x.0 passed.numbers x.1 in
      ap entries_of (subst (λ n. kept_of n (root.joined ++ map joined_of vs) ≡ kept_of n root.joined) q
      (new ∙ sym old))

  pub list_new : (k : ℕ) (v : View) → slice_get vs k ≡ Some v → list_of (base + k) root_behind ≡ entries_of v.own
  list_new k v there =
      let q : 1 + (base + k) ≡ suc (base + k) = omega arith in
      let place : slice_get (root.joined ++ map joined_of vs) (base + k) ≡ Some (joined_of v) =
      ap (λ n. slice_get (root.joined ++ map joined_of vs) (n + k)) (sym size)
      ∙ (slice_get-append_right root.joined (map joined_of vs) k
      ∙ (slice_get-map joined_of vs k ∙ ap (option_map joined_of) there)) in
      ap entries_of (subst (λ n. kept_of n (root.joined ++ map joined_of vs) ≡ v.own) q
      (kept_at 1 (base + length vs) (root.joined ++ map joined_of vs) (base + k) (joined_of v) all_numbers place))

  -- the posts of the epoch's actors
  abbrev pub posts_here : List Post
  posts_here = map (post_of number places) era.actors

  eras_here : (es : List Entry) → posts_from s es number base places (drop number s.eras)
      ≡ posts_here
      ++ posts_from s es (number + 1) (base + length era.actors) (places_after s es base places era)
      (drop (number + 1) s.eras)
  eras_here es =
      let next : suc number ≡ number + 1 = omega arith in
      ap (posts_from s es number base places) (drop_from s.eras number era at
      ∙ ap (λ n. era ∷ drop n s.eras) next)

  pub agrees_old : (es : List Entry) → AgreesBefore (base + length era.actors) root_behind es → AgreesBefore base root es
  agrees_old es h i l = h i (omega (arith, l)) ∙ list_old i l

  -- the parts of a list that agrees are the lists of the passes
  pub parts_here : (es : List Entry) → AgreesBefore (base + length era.actors) root_behind es → (k : ℕ) (v : View) →
      slice_get vs k ≡ Some v → part_of (base + k) es ≡ entries_of v.own
  parts_here es h k v there =
      let l : k < length vs = slice_get_within vs k v there in
      h (base + k) (omega (arith, l, count)) ∙ list_new k v there

  module _ (places_behind : ℕ → ℕ)
      (worked : (k : ℕ) (actor : Actor) (v : View) → slice_get era.actors k ≡ Some actor → slice_get vs k ≡ Some v →
      HasWorked (job_of s (base + k) (at_lane places actor) actor) (entries_of v.own))
      (moved : (es : List Entry) → ((k : ℕ) (v : View) → slice_get vs k ≡ Some v →
      part_of (base + k) es ≡ entries_of v.own) → (lane : ℕ) → places_behind lane ≡ places_after s es base places era lane)
    where
      worked_behind : (es : List Entry) → AgreesBefore (base + length era.actors) root_behind es →
          HaveWorked s (number + 1) (base + length era.actors) places_behind root_behind es
      worked_behind es h =
          let old : HaveWorked s number base places root es = passed.worked es (agrees_old es h) in
          let move : places_after s es base places era ≡ places_behind =
          λ i lane. sym (moved es (parts_here es h) lane) i in
          record {
            posts = old.posts ++ posts_here;
            count = length-append old.posts posts_here
                ∙ ap₂ (λ m n. m + n) old.count (length-map era.actors (post_of number places));
            whole = old.whole
                ∙ (ap (λ l. old.posts ++ l) (eras_here es)
                ∙ (sym (append_assoc old.posts posts_here _)
                ∙ ap (λ p. (old.posts ++ posts_here)
                ++ posts_from s es (number + 1) (base + length era.actors) p (drop (number + 1) s.eras)) move));
            each = λ i post there. elim (slice_get_either old.posts posts_here i post there) [
              | inl here ↦
                  let l : i < length old.posts = slice_get_within old.posts i post here in
                  subst (HasWorked (job_of s i post.at post.actor))
                  (sym (list_old i (subst (λ n. i < n) old.count l))) (old.each i post here)
              | inr there ↦ new_post old.posts old.count i post there.0 there.1 there.2
            ];
          }
        where
          new_post : (posts : List Post) → length posts ≡ base → (i : ℕ) (post : Post) (k : ℕ) → i ≡ length posts + k →
              slice_get posts_here k ≡ Some post → HasWorked (job_of s i post.at post.actor) (list_of i root_behind)
          new_post posts n i post k q there =
              let a : (actor : Actor) × (slice_get era.actors k ≡ Some actor) × (post_of number places actor ≡ post) =
              slice_get_of_map (post_of number places) era.actors k post there in
              let l : k < length era.actors = slice_get_within era.actors k a.0 a.1 in
              let v : (w : View) × (slice_get vs k ≡ Some w) = some_at vs k (omega (arith, l, count)) in
              let same : base + k ≡ i = omega (arith, q, n) in
              subst (λ m. HasWorked (job_of s m post.at post.actor) (list_of m root_behind)) same
              (subst (λ (p : Post). HasWorked (job_of s (base + k) p.at p.actor) (list_of (base + k) root_behind)) a.2
              (subst (HasWorked (job_of s (base + k) (at_lane places a.0) a.0)) (sym (list_new k v.0 v.1))
              (worked k a.0 v.0 a.1 v.1)))

      split_behind : (i : ℕ) (ns : List ℕ) → slice_get root_behind.before i ≡ Some ns → AreOfEarlier s.eras i ns
      split_behind i ns there =
          elim (slice_get_either root.before (replicate (length era.actors) (map joined_number root.joined)) i ns there) [
            | inl here ↦ passed.split i ns here
            | inr there ↦ new_split there.0 there.1 (replicate_at (length era.actors) there.0 _ ns there.2)
          ]
        where
          new_split : (k : ℕ) → i ≡ length root.before + k →
              (ns ≡ map joined_number root.joined) × (k < length era.actors) → AreOfEarlier s.eras i ns
          new_split k q r =
              let same : base_of s.eras number + k ≡ i = omega (arith, q, passed.splits, passed.base_is) in
              let all : range_with_len 1 (base_of s.eras number) ≡ ns =
              ap (range_with_len 1) (sym passed.base_is) ∙ (sym passed.numbers ∙ sym r.0) in
              subst (λ n. AreOfEarlier s.eras n ns) same
              (subst (AreOfEarlier s.eras (base_of s.eras number + k)) all
              (are_earlier s.eras number k era at r.1))

      -- the epoch has passed
      pub passed_next : HavePassed s (number + 1) (base + length era.actors) places_behind root_behind
      passed_next = record {
        base_is =
            ap (λ n. n + length era.actors) passed.base_is
            ∙ (sym (base_of-next s.eras number era at)
            ∙ ap (base_of s.eras) (let e : suc number ≡ number + 1 = omega arith in e));
        root_is = refl;
        splits = length-append root.before (replicate (length era.actors) (map joined_number root.joined))
            ∙ ap₂ (λ m n. m + n) passed.splits (length-replicate (length era.actors) (map joined_number root.joined));
        numbers = all_numbers ∙ ap (λ n. range_with_len 1 (base + n)) count;
        split = split_behind;
        worked = worked_behind;
      }

  module _ (working : (k : ℕ) (actor : Actor) (v : View) → slice_get era.actors k ≡ Some actor →
      slice_get vs k ≡ Some v → IsWorked (job_of s (base + k) (at_lane places actor) actor) [] (entries_of v.own)) where
    -- the actors of the epoch are at work
    pub work_next : AreAtWork s (base + length era.actors) root_behind
    work_next = record {
      numbers = all_numbers ∙ ap (λ n. range_with_len 1 (base + n)) count;
      worked = λ es h.
          let old : HaveWorked s number base places root es = passed.worked es (agrees_old es h) in (
            old.posts ++ posts_here,
            posts_from s es (number + 1) (base + length era.actors) (places_after s es base places era)
                (drop (number + 1) s.eras),
            length-append old.posts posts_here
                ∙ ap₂ (λ m n. m + n) old.count (length-map era.actors (post_of number places)),
            old.whole
                ∙ (ap (λ l. old.posts ++ l) (eras_here es) ∙ sym (append_assoc old.posts posts_here _)),
            λ i post there. each_working old.posts old.count (λ j other at. (old.each j other at).0) i post
                (slice_get_either old.posts posts_here i post there),
          );
    }
      where
        each_working : (posts : List Post) → length posts ≡ base →
            ((i : ℕ) (post : Post) → slice_get posts i ≡ Some post →
            IsWorked (job_of s i post.at post.actor) [] (list_of i root)) → (i : ℕ) (post : Post) →
            (slice_get posts i ≡ Some post)
            ⊎ ((k : ℕ) × (i ≡ length posts + k) × (slice_get posts_here k ≡ Some post)) →
            IsWorked (job_of s i post.at post.actor) [] (list_of i root_behind)
        each_working posts n each i post (inl here) =
            let l : i < length posts = slice_get_within posts i post here in
            subst (IsWorked (job_of s i post.at post.actor) []) (sym (list_old i (subst (λ m. i < m) n l)))
            (each i post here)
        each_working posts n each i post (inr there) =
            let k : ℕ = there.0 in
            let a : (actor : Actor) × (slice_get era.actors k ≡ Some actor) × (post_of number places actor ≡ post) =
            slice_get_of_map (post_of number places) era.actors k post there.2 in
            let l : k < length era.actors = slice_get_within era.actors k a.0 a.1 in
            let v : (w : View) × (slice_get vs k ≡ Some w) = some_at vs k (omega (arith, l, count)) in
            let q : i ≡ length posts + k = there.1 in
            let same : base + k ≡ i = omega (arith, q, n) in
            subst (λ m. IsWorked (job_of s m post.at post.actor) [] (list_of m root_behind)) same
            (subst (λ (p : Post). IsWorked (job_of s (base + k) p.at p.actor) [] (list_of (base + k) root_behind)) a.2
            (subst (IsWorked (job_of s (base + k) (at_lane places a.0) a.0) []) (sym (list_new k v.0 v.1))
            (working k a.0 v.0 a.1 v.1)))
