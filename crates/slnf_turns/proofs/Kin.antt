-- What each step makes of the splits and the joins.
use Rattle.std.proofs.Common.{◌≡◌, ◌≢◌, ℕ, ◌-◌, ◌<◌, List, [], ◌∷◌, ◌++◌, map, length, set, sym, refl, ap, ap₂, ◌∙◌, subst, ⊎_elim, arith, length-set, length-append, Some}
use mathlib.Core.Logic.{dite}
use mathlib.Core.Option.{some}
use mathlib.Core.List.{map-append}
use native.Mathlib.Decide.{ℕ_discrete}
use lib.ListN.{get_elem?}
use Rattle.atomic_table.proofs.Lists.{set_here, set_else}
use Rattle.slnf_turns.specs.declared.views.Line.{Line}
use Rattle.slnf_turns.specs.declared.views.Noted.{Noted}
use Rattle.slnf_turns.specs.declared.views.Listed.{Listed}
use Rattle.slnf_turns.specs.declared.views.Joined.{Joined}
use Rattle.slnf_turns.specs.declared.views.View.{View}
use Rattle.slnf_turns.specs.Views.{Begins, seen_of, kept_of, listed, number_of, WasTold, after_split, split_off, joined_of, after_join, spent_view}
use Rattle.slnf_turns.specs.Rule.{Account, living, AreListed, IsKept, AreKin}
use Rattle.slnf_turns.proofs.Lists.{at_end, at_within, one_at, get_more, get_last, begins_refl, begins_more, all_map, all_snoc, map_twice, total_set, total_snoc}
use Rattle.slnf_turns.proofs.Lines.{kept_else, kept_last}
use Rattle.slnf_turns.proofs.Queue.{views_stay}

-- what a step keeps of the pass that makes it
abbrev pub IsSameKin : View → View → Type 0
IsSameKin v w = (living v ≡ 1) × (living w ≡ 1) × (w.told ≡ v.told) × (w.before ≡ v.before) × (w.joined ≡ v.joined)

-- the account with other tickets and lists, and the same splits and joins
abbrev pub other_account : Account → (ℕ → ℕ) → (ℕ → ℕ) → (ℕ → ℕ) → (ℕ → List Line) → (ℕ → List Noted) → Account
other_account a drawn served holder published list_of = record {
  drawn = drawn;
  served = served;
  holder = holder;
  published = published;
  list_of = list_of;
  before = a.before;
  joined = a.joined;
}

pub kin_moves : (a : Account) (drawn served holder : ℕ → ℕ) (published : ℕ → List Line) (list_of : ℕ → List Noted)
    (n : ℕ) (vs : List View) (k : AreKin a n vs) (me : ℕ) (v w : View) → get_elem? vs me ≡ some v
    → IsSameKin v w → ((i : ℕ) (ls : List Line) → Begins ls (a.published i) → Begins ls (published i))
    → ((i : ℕ) → i ≢ me → list_of i ≡ a.list_of i)
    → AreKin (other_account a drawn served holder published list_of) n (set vs me w)
kin_moves a drawn served holder published list_of n vs k me v w at same grows lists =
    let a' = other_account a drawn served holder published list_of in
    record {
      root = λ x e. views_stay (λ j y. j ≡ 0 → (living y ≡ 1) × (y.before ≡ a.before) × (y.joined ≡ a.joined)) vs me w
          (λ z. let r = k.root v (subst (λ (i : ℕ). get_elem? vs i ≡ some v) z at) in (same.1, same.3 ∙ r.1, same.4 ∙ r.2))
          (λ j y _ there z. k.root y (subst (λ (i : ℕ). get_elem? vs i ≡ some y) z there)) 0 x e refl;
      counted = length-set vs me w ∙ k.counted;
      living_ones = let h = total_set living vs me v w at in
          let c = k.living_ones in
          let l = length-set vs me w in
          let o = same.0 in
          let p = same.1 in
          omega arith;
      kept = all_map (IsKept a n vs) (IsKept a' n (set vs me w)) a.joined
          (λ x h. let apart : x.listed.number ≢ me = λ e. let z = h.spent v
          (subst (λ (i : ℕ). get_elem? vs i ≡ some v) (sym e) at) in let o = same.0 in omega arith in record {
            spent = λ y e. views_stay (λ j z. j ≡ x.listed.number → living z ≡ 0) vs me w (λ z. absurd (apart (sym z)))
                (λ j z _ there i. h.spent z (subst (λ (c : ℕ). get_elem? vs c ≡ some z) i there)) x.listed.number y e refl;
            within = subst (λ (m : ℕ). x.listed.number < m) (sym (length-set vs me w)) h.within;
            list = h.list ∙ sym (lists x.listed.number apart);
            seen = λ i l. grows i (seen_of i x.seen) (h.seen i l);
            told = h.told;
          }) k.kept;
      lists = λ j x e gone. views_stay (λ i y. living y ≡ 0 → kept_of i a.joined ≡ list_of i) vs me w
          (λ z. let o = same.1 in absurd (omega arith))
          (λ i y other there z. k.lists i y there z ∙ sym (lists i other)) j x e gone;
      told = λ j x e lives other. views_stay (λ i y. living y ≡ 1 → i ≢ 0 → WasTold a.before a.joined i y.told) vs me w
          (λ _ z. subst (WasTold a.before a.joined me) (sym same.2) (k.told me v at same.0 z))
          (λ i y _ there l z. k.told i y there l z) j x e lives other;
    }

abbrev pub with_split : Account → Account
with_split a = record {
  drawn = a.drawn;
  served = a.served;
  holder = a.holder;
  published = a.published;
  list_of = a.list_of;
  before = a.before ++ map (λ (x : Joined). x.listed.number) a.joined ∷ [];
  joined = a.joined;
}

told_more : (a : Account) (m : List ℕ) (i : ℕ) (told : List Listed)
    → WasTold a.before a.joined i told → WasTold (a.before ++ m ∷ []) a.joined i told
told_more a m i told h = (get_more a.before (m ∷ []) (i - 1) (map number_of told) h.0, h.1)

pub kin_splits : (a : Account) (n : ℕ) (vs : List View) (k : AreKin a n vs) (v : View)
    → get_elem? vs 0 ≡ some v → AreKin (with_split a) n (set vs 0 (after_split v) ++ split_off v ∷ [])
kin_splits a n vs k v at = let left : View = after_split v in let right : View = split_off v in
    let now : List ℕ = map (λ (x : Joined). x.listed.number) a.joined in
    let r = k.root v at in
    let within : 0 < length vs = at_within vs 0 v at in
    let as_long : length (set vs 0 left) ≡ length vs = length-set vs 0 left in
    record {
      root = λ x e. ⊎_elim (λ (p : get_elem? (set vs 0 left) 0 ≡ some x).
          let same : left ≡ x = one_at (set vs 0 left) 0 left x (set_here vs 0 left within) p in
          subst (λ (y : View). (living y ≡ 1) × (y.before ≡ a.before ++ now ∷ []) × (y.joined ≡ a.joined)) same (
            r.0,
            ap₂ (λ (b : List (List ℕ)) (j : List Joined). b ++ map (λ (z : Joined). z.listed.number) j ∷ [])
                r.1 r.2,
            r.2,
          ))
          (λ p. absurd (let z = p.0 in omega arith)) (at_end (set vs 0 left) right 0 x e);
      counted = let c = k.counted in let h = length-append (set vs 0 left) (right ∷ []) in
          let i = length-append a.before (now ∷ []) in
          omega arith;
      living_ones = let h = total_set living vs 0 v left at in
          let c = k.living_ones in
          let i = total_snoc living (set vs 0 left) right in
          let l = length-append (set vs 0 left) (right ∷ []) in
          omega arith;
      kept = all_map (IsKept a n vs) (IsKept (with_split a) n (set vs 0 left ++ right ∷ [])) a.joined (λ x h. record {
        spent = λ y e. ⊎_elim (λ (p : get_elem? (set vs 0 left) x.listed.number ≡ some y).
            views_stay (λ j z. j ≡ x.listed.number → living z ≡ 0) vs 0 left
            (λ z. absurd (let o = h.spent v (subst (λ (i : ℕ). get_elem? vs i ≡ some v) z at) in let p = r.0 in omega arith))
            (λ j z _ there i. h.spent z (subst (λ (c : ℕ). get_elem? vs c ≡ some z) i there)) x.listed.number y p refl)
            (λ p. absurd (let z = p.0 in let w = h.within in omega arith)) (at_end (set vs 0 left) right x.listed.number y e);
        within = let w = h.within in let l = length-append (set vs 0 left) (right ∷ []) in omega arith;
        list = h.list;
        seen = h.seen;
        told = told_more a now x.listed.number x.told h.told;
      }) k.kept;
      lists = λ j x e gone. ⊎_elim (λ (p : get_elem? (set vs 0 left) j ≡ some x).
          views_stay (λ i y. living y ≡ 0 → kept_of i a.joined ≡ a.list_of i) vs 0 left
          (λ z. absurd (let p = r.0 in omega arith)) (λ i y _ there z. k.lists i y there z) j x p gone)
          (λ (p : (j ≡ length (set vs 0 left)) × (right ≡ x)).
          absurd (let z : 1 ≡ 0 = ap living p.1 ∙ gone in omega arith)) (at_end (set vs 0 left) right j x e);
      told = λ j x e lives other. ⊎_elim (λ (p : get_elem? (set vs 0 left) j ≡ some x).
          views_stay (λ i y. living y ≡ 1 → i ≢ 0 → WasTold (a.before ++ now ∷ []) a.joined i y.told) vs 0 left
          (λ _ z. absurd (z refl)) (λ i y _ there l z. told_more a now i y.told (k.told i y there l z)) j x p lives other)
          (λ (p : (j ≡ length (set vs 0 left)) × (right ≡ x)). let c = k.counted in
          subst (λ (y : View). WasTold (a.before ++ now ∷ []) a.joined j y.told) p.1 (
            get_last a.before now (j - 1) (let z = p.0 in omega arith)
                ∙ ap Some (sym (map_twice listed number_of v.joined ∙ ap (map (λ (z : Joined). z.listed.number)) r.2)),
            subst (λ (z : List Joined). Begins (map listed v.joined) (map listed z)) r.2 (begins_refl (map listed v.joined)),
          )) (at_end (set vs 0 left) right j x e);
    }

abbrev pub with_join : Account → View → Account
with_join a u = record {
  drawn = a.drawn;
  served = a.served;
  holder = a.holder;
  published = a.published;
  list_of = a.list_of;
  before = a.before;
  joined = a.joined ++ joined_of u ∷ [];
}

told_on : (a : Account) (x : Joined) (i : ℕ) (told : List Listed)
    → WasTold a.before a.joined i told → WasTold a.before (a.joined ++ x ∷ []) i told
told_on a x i told h = (
  h.0,
  subst (Begins told)
      (sym (map-append listed a.joined (x ∷ []))) (begins_more told (map listed a.joined) (map listed (x ∷ [])) h.1),
)

pub kin_joins : (a : Account) (n : ℕ) (vs : List View) (t : AreListed a n vs) (k : AreKin a n vs) (v u : View) (j : ℕ)
    → get_elem? vs 0 ≡ some v → get_elem? vs j ≡ some u → j ≢ 0 → living u ≡ 1
    → AreKin (with_join a u) n (set (set vs 0 (after_join v u)) j spent_view)
kin_joins a n vs t k v u j at there apart lives = let both : View = after_join v u in let x : Joined = joined_of u in
    let ws : List View = set vs 0 both in
    let us : List View = set ws j spent_view in
    let r = k.root v at in
    let within : j < length vs = at_within vs j u there in
    let first : 0 < length vs = at_within vs 0 v at in
    let l₀ : length ws ≡ length vs = length-set vs 0 both in
    let l₁ : length us ≡ length ws = length-set ws j spent_view in
    let is : u.number ≡ j = t.numbers j u there lives in
    let there' : get_elem? ws j ≡ some u = set_else vs 0 j both apart ∙ there in
    let nobody : (y : Joined) → IsKept a n vs y → y.listed.number ≢ j =
    λ y h e. let z = h.spent u (subst (λ (i : ℕ). get_elem? vs i ≡ some u) (sym e) there) in omega arith in
    record {
      root = λ y e. subst (λ (z : View). (living z ≡ 1) × (z.before ≡ a.before) × (z.joined ≡ a.joined ++ x ∷ []))
          (one_at us 0 both y (set_else ws j 0 spent_view (λ z. apart (sym z)) ∙ set_here vs 0 both first) e)
          (r.0, r.1, ap (λ (z : List Joined). z ++ x ∷ []) r.2);
      counted = let c = k.counted in omega arith;
      living_ones = let h = total_set living vs 0 v both at in let g = total_set living ws j u spent_view there' in
          let c = k.living_ones in
          let m = length-append a.joined (x ∷ []) in
          omega arith;
      kept = all_snoc (IsKept (with_join a u) n us) a.joined x
          (all_map (IsKept a n vs) (IsKept (with_join a u) n us) a.joined (λ y h. record {
            spent = λ z e. views_stay (λ i w. i ≡ y.listed.number → living w ≡ 0) ws j spent_view (λ _. refl)
                (λ i w _ p. views_stay (λ i w. i ≡ y.listed.number → living w ≡ 0) vs 0 both (λ q. absurd
                (let o = h.spent v (subst (λ (c : ℕ). get_elem? vs c ≡ some v) q at) in let p = r.0 in omega arith))
                (λ i w _ p q. h.spent w (subst (λ (c : ℕ). get_elem? vs c ≡ some w) q p)) i w p) y.listed.number z e refl;
            within = let w = h.within in omega arith;
            list = h.list;
            seen = h.seen;
            told = told_on a x y.listed.number y.told h.told;
          }) k.kept) (record {
            spent = λ z e. ap living (sym (one_at us j spent_view z
                (set_here ws j spent_view (omega arith)) (subst (λ (i : ℕ). get_elem? us i ≡ some z) is e)));
            within = omega arith;
            list = t.own j u there lives ∙ ap a.list_of (sym is);
            seen = λ i near. t.seen j i u there lives near;
            told = told_on a x u.number u.told
                (subst (λ (i : ℕ). WasTold a.before a.joined i u.told) (sym is) (k.told j u there lives apart));
          });
      lists = λ i y e gone. dite (ℕ_discrete i j)
          (λ c. subst (λ (z : ℕ). kept_of z (a.joined ++ x ∷ []) ≡ a.list_of z) (sym c) (kept_last j a.joined x
          (all_map (IsKept a n vs) (λ (y : Joined). y.listed.number ≢ j) a.joined nobody k.kept) is
          ∙ t.own j u there lives))
          (λ other. kept_else i a.joined x (λ z. other (sym z ∙ is)) ∙ views_stay (λ c z. living z ≡ 0 → kept_of
          c a.joined ≡ a.list_of c) vs 0 both (λ z. absurd (let p = r.0 in omega arith)) (λ c z _ p. k.lists c z p)
          i y (sym (set_else ws j i spent_view other) ∙ e) gone);
      told = λ i y e l other. told_on a x i y.told (views_stay (λ c z. living z ≡ 1
          → c ≢ 0 → WasTold a.before a.joined c z.told) ws j spent_view (λ z. absurd (omega arith))
          (λ c z _ p. views_stay (λ c z. living z ≡ 1 → c ≢ 0 → WasTold a.before a.joined c z.told) vs 0 both
          (λ _ z. absurd (z refl)) (λ c z _ p. k.told c z p) c z p) i y e l other);
    }
