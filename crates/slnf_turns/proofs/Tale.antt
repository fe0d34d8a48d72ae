-- What each step makes of the lists of lines.
use Rattle.std.proofs.Common.{◌≡◌, ◌≢◌, ℕ, ◌<◌, ◌≤◌, List, [], ◌∷◌, ◌++◌, length, set, sym, refl, ap, ap₂, ◌∙◌, subst, ⊎_elim, arith, length-set, length-append, append-nil}
use mathlib.Core.Logic.{dite}
use mathlib.Core.Option.{some}
use native.Mathlib.Decide.{ℕ_discrete}
use lib.ListN.{get_elem?}
use Rattle.slnf_turns.specs.declared.views.Line.{Line}
use Rattle.slnf_turns.specs.declared.views.View.{View}
use Rattle.slnf_turns.specs.Views.{Begins, lines_of, AllOf, part_of, noted, sight, seen_of}
use Rattle.slnf_turns.specs.Rule.{Account, living, AreListed}
use Rattle.slnf_turns.proofs.Lists.{put_here, put_else, at_end, begins_refl, begins_more, at_within}
use Rattle.slnf_turns.proofs.Lines.{if_eq, if_ne, lines_of_append, part_of_append, lines_of_all, lines_of_none, part_here, part_else}
use Rattle.slnf_turns.proofs.Queue.{views_stay, with_raise}

-- what a step keeps of the pass that makes it
abbrev pub IsSameTale : View → View → Type 0
IsSameTale v w = (living v ≡ 1) × (w.number ≡ v.number) × (w.own ≡ v.own)

-- a step that publishes nothing, after which me has seen what it had, or what is published
pub tale_same : (a a' : Account) (n : ℕ) (vs : List View) (t : AreListed a n vs) (me : ℕ) (v w : View)
    → get_elem? vs me ≡ some v → IsSameTale v w
    → ((k : ℕ) → a'.published k ≡ a.published k) → ((i : ℕ) → a'.list_of i ≡ a.list_of i)
    → ((k : ℕ) → k < n → Begins (seen_of k w.seen) (a.published k)) → AreListed a' n (set vs me w)
tale_same a a' n vs t me v w at same shown lists seen = record {
  parts = λ k i l. ap (lines_of i) (shown k) ∙ (t.parts k i l ∙ ap (part_of k) (sym (lists i)));
  fresh = λ i l. lists i ∙ t.fresh i (subst (λ (m : ℕ). m ≤ i) (length-set vs me w) l);
  numbers = views_stay (λ j x. living x ≡ 1 → x.number ≡ j) vs me w
      (λ _. same.1 ∙ t.numbers me v at same.0) (λ j x _ e. t.numbers j x e);
  own = views_stay (λ j x. living x ≡ 1 → x.own ≡ a'.list_of j) vs me w
      (λ _. same.2 ∙ (t.own me v at same.0 ∙ sym (lists me))) (λ j x _ e l. t.own j x e l ∙ sym (lists j));
  seen = λ j k x e l near. views_stay (λ i y. living y ≡ 1 → Begins (seen_of k y.seen) (a'.published k)) vs me w
      (λ _. subst (Begins (seen_of k w.seen)) (sym (shown k)) (seen k near))
      (λ i y _ p q. subst (Begins (seen_of k y.seen)) (sym (shown k)) (t.seen i k y p q near)) j x e l;
}

-- a pass saw one shard, and of the others what it had seen
pub sees_one : (a : Account) (n : ℕ) (vs : List View) (t : AreListed a n vs) (me j k : ℕ) (v : View) (ls : List Line)
    → get_elem? vs me ≡ some v → living v ≡ 1 → k < n → (k ≡ j → Begins ls (a.published k))
    → Begins (seen_of k (sight j ls ∷ v.seen)) (a.published k)
sees_one a n vs t me j k v ls at lives near here = dite (ℕ_discrete k j)
    (λ e. subst (λ (l : List Line). Begins l (a.published k)) (sym (if_eq k j ls (seen_of k v.seen) e)) (here e))
    (λ other. subst (λ (l : List Line). Begins l (a.published k))
    (sym (if_ne k j ls (seen_of k v.seen) other)) (t.seen me k v at lives near))

-- a new pass with no line
pub tale_admits : (a : Account) (n : ℕ) (vs : List View) (t : AreListed a n vs) (w : View)
    → w.number ≡ length vs → w.own ≡ [] → w.seen ≡ [] → AreListed a n (vs ++ w ∷ [])
tale_admits a n vs t w number own seen = record {
  parts = t.parts;
  fresh = λ i l. t.fresh i (let h = length-append vs (w ∷ []) in omega arith);
  numbers = λ j x e l. fresh_one (λ i y. y.number ≡ i) number (λ i y p q. t.numbers i y p q) j x e l;
  own = λ j x e l. fresh_one (λ i y. y.own ≡ a.list_of i)
      (own ∙ sym (t.fresh (length vs) (omega arith))) (λ i y p q. t.own i y p q) j x e l;
  seen = λ j k x e l near. fresh_one (λ i y. Begins (seen_of k y.seen) (a.published k))
      (subst (λ s. Begins (seen_of k s) (a.published k)) (sym seen) (a.published k, refl))
      (λ i y p q. t.seen i k y p q near) j x e l;
}
  where
    fresh_one : (K : ℕ → View → Type 0) → K (length vs) w
        → ((i : ℕ) (y : View) → get_elem? vs i ≡ some y → living y ≡ 1 → K i y)
        → (j : ℕ) (x : View) → get_elem? (vs ++ w ∷ []) j ≡ some x → living x ≡ 1 → K j x
    fresh_one K here others j x e l = ⊎_elim (λ (h : get_elem? vs j ≡ some x). others j x h l)
        (λ (h : (j ≡ length vs) × (w ≡ x)). subst (λ (z : ℕ × View). K z.0 z.1) (λ i. (sym h.0 i, h.1 i)) here)
        (at_end vs w j x e)

-- a pass that is joined, and has no view after that
pub tale_spends : (a : Account) (n : ℕ) (vs : List View) (t : AreListed a n vs) (me : ℕ) (w : View)
    → living w ≡ 0 → AreListed a n (set vs me w)
tale_spends a n vs t me w gone = record {
  parts = t.parts;
  fresh = λ i l. t.fresh i (subst (λ (m : ℕ). m ≤ i) (length-set vs me w) l);
  numbers = views_stay (λ j x. living x ≡ 1 → x.number ≡ j) vs me w (λ l. absurd (omega arith)) (λ j x _ e. t.numbers j x e);
  own = views_stay (λ j x. living x ≡ 1 → x.own ≡ a.list_of j) vs me w (λ l. absurd (omega arith)) (λ j x _ e. t.own j x e);
  seen = λ j k x e l near. views_stay (λ i y. living y ≡ 1 → Begins (seen_of k y.seen) (a.published k)) vs me w
      (λ z. absurd (omega arith)) (λ i y _ p q. t.seen i k y p q near) j x e l;
}

module _ (a : Account) (n : ℕ) (vs : List View) (t : AreListed a n vs)
    (me k : ℕ) (base more : List Line) (near : k < n) (is_base : base ≡ a.published k) (mine : AllOf me more) where
  abbrev a' : Account
  a' = with_raise a k me base more

  published_grows : (j : ℕ) → (rest : List Line) × (a'.published j ≡ a.published j ++ rest)
  published_grows j = dite (ℕ_discrete j k)
      (λ e. (more, put_here a.published k (base ++ more) j e ∙ ap (λ l. l ++ more) (is_base ∙ ap a.published (sym e))))
      (λ other. ([], put_else a.published k (base ++ more) j other ∙ sym (append-nil (a.published j))))

  pub still_begins : (j : ℕ) (ls : List Line) → Begins ls (a.published j) → Begins ls (a'.published j)
  still_begins j ls b = let g = published_grows j in subst (Begins ls) (sym g.1) (begins_more ls (a.published j) g.0 b)

  list_here : (i : ℕ) → i ≡ me → a'.list_of i ≡ a.list_of me ++ noted k more
  list_here i e = put_here a.list_of me (a.list_of me ++ noted k more) i e

  pub list_else : (i : ℕ) → i ≢ me → a'.list_of i ≡ a.list_of i
  list_else i other = put_else a.list_of me (a.list_of me ++ noted k more) i other

  shown_here : (j : ℕ) → j ≡ k → a'.published j ≡ base ++ more
  shown_here j e = put_here a.published k (base ++ more) j e

  shown_else : (j : ℕ) → j ≢ k → a'.published j ≡ a.published j
  shown_else j other = put_else a.published k (base ++ more) j other

  -- the new lines of the number i in the shard j
  raise_parts : (j i : ℕ) → j < n → lines_of i (a'.published j) ≡ part_of j (a'.list_of i)
  raise_parts j i l = dite (ℕ_discrete j k)
      (λ e. let left : lines_of i (a'.published j) ≡ lines_of i (a.published j) ++ lines_of i more =
      ap (lines_of i) (shown_here j e) ∙ (lines_of_append i base more
      ∙ ap (λ z. lines_of i z ++ lines_of i more) (is_base ∙ ap a.published (sym e))) in
      dite (ℕ_discrete i me)
      (λ e'. left ∙ (ap₂ (λ x y. x ++ y) (t.parts j i l ∙ ap (λ z. part_of j (a.list_of z)) e') (lines_of_all i more
      (subst (λ z. AllOf z more) (sym e') mine) ∙ sym (ap (λ z. part_of z (noted k more)) e ∙ part_here k more))
      ∙ sym (ap (part_of j) (list_here i e') ∙ part_of_append j (a.list_of me) (noted k more))))
      (λ other. left ∙ (ap (λ z. lines_of i (a.published j) ++ z) (lines_of_none me i more (λ z. other (sym z)) mine)
      ∙ (append-nil (lines_of i (a.published j)) ∙ (t.parts j i l ∙ ap (part_of j) (sym (list_else i other)))))))
      (λ apart. ap (lines_of i) (shown_else j apart) ∙ (t.parts j i l ∙ dite (ℕ_discrete i me)
      (λ e'. sym (ap (part_of j) (list_here i e') ∙ (part_of_append j (a.list_of me) (noted k more)
      ∙ (ap (λ z. part_of j (a.list_of me) ++ z) (part_else k j more (λ z. apart (sym z)))
      ∙ (append-nil (part_of j (a.list_of me)) ∙ ap (λ z. part_of j (a.list_of z)) (sym e'))))))
      (λ other. ap (part_of j) (sym (list_else i other)))))

  pub tale_raises : (v w : View) → get_elem? vs me ≡ some v → living v ≡ 1 → w.number ≡ v.number
      → w.own ≡ v.own ++ noted k more → w.seen ≡ sight k (base ++ more) ∷ v.seen → AreListed a' n (set vs me w)
  tale_raises v w at lives number own saw = record {
    parts = raise_parts;
    fresh = λ i l. let inside = at_within vs me v at in
        let len = length-set vs me w in
        list_else i (λ e. omega arith) ∙ t.fresh i (omega arith);
    numbers = views_stay (λ j x. living x ≡ 1 → x.number ≡ j) vs me w
        (λ _. number ∙ t.numbers me v at lives) (λ j x _ e. t.numbers j x e);
    own = views_stay (λ j x. living x ≡ 1 → x.own ≡ a'.list_of j) vs me w
        (λ _. own ∙ (ap (λ z. z ++ noted k more) (t.own me v at lives) ∙ sym (list_here me refl)))
        (λ j x other e l. t.own j x e l ∙ sym (list_else j other));
    seen = λ j i x e l near_i. views_stay (λ z y. living y ≡ 1 → Begins (seen_of i y.seen) (a'.published i)) vs me w
        (λ _. subst (λ s. Begins (seen_of i s) (a'.published i)) (sym saw) (dite (ℕ_discrete i k)
        (λ e'. subst (λ (z : List Line). Begins z (a'.published i))
        (sym (if_eq i k (base ++ more) (seen_of i v.seen) e'))
        (subst (Begins (base ++ more)) (sym (shown_here i e')) (begins_refl (base ++ more))))
        (λ other. subst (λ (z : List Line). Begins z (a'.published i)) (sym (if_ne i k (base ++ more)
        (seen_of i v.seen) other)) (still_begins i (seen_of i v.seen) (t.seen me i v at lives near_i)))))
        (λ z y _ p q. still_begins i (seen_of i y.seen) (t.seen z i y p q near_i)) j x e l;
  }
