-- No stamp is greater than the number of all entries: each stamp above 1 stands on one that is one less.
use Rattle.std.proofs.Common.{◌≡◌, ℕ, zero, suc, ◌+◌, ◌<◌, ◌≤◌, ◌==◌, if◌then◌else◌, max, Bool, true, false, ◌⊎◌, List, [], ◌∷◌, ◌++◌, map, length, refl, sym, ap, ◌∙◌, subst, inl, inr, ⊎_elim, arith}
use Rattle.std.specs.List.{AllByRecursion}
use Rattle.std.proofs.lemmas.Bool.{cases_eq}
use Rattle.slnf_access.specs.declared.requests.Entry.{Entry}
use Rattle.slnf_bucket.specs.Bucket.{last_stamp}
use Rattle.slnf_merge.specs.Merge.{all_of}
use Rattle.slnf_turns.specs.declared.views.Noted.{Noted}
use Rattle.slnf_turns.specs.declared.views.Listed.{Listed}
use Rattle.slnf_turns.specs.declared.views.Joined.{Joined}
use Rattle.slnf_turns.specs.declared.views.View.{View}
use Rattle.slnf_turns.specs.Views.{WasTold, listed, list_in, kept_of}
use Rattle.slnf_turns.specs.Values.{AreKept}
use Rattle.slnf_store.specs.Passes.{entries_of, greatest_stamp, greatest_listed, IsStamped, AreStamped, IsJoined}
use Rattle.slnf_store.specs.Closes.{history_at, IsListIn}
use Rattle.slnf_merge.proofs.Laws.{IsIn}
use Rattle.slnf_store.proofs.Members.{all_in, all_from, in_left, in_right, in_either}
use Rattle.slnf_store.proofs.Histories.{AreHistoriesOf, in_all}
use Rattle.slnf_store.proofs.Parts.{to_list, from_list}

-- an entry of a list, with the clock that it was made with
abbrev pub Clocked : (ℕ → List Entry) → ℕ → List Entry → Entry → Type 0
Clocked f clock es z = (c : ℕ) × IsStamped c z (f z.shard) × ((c ≡ clock) ⊎ ((p : Entry) × IsIn p es × (p.stamp ≡ c)))

stamped_at : (f : ℕ → List Entry) (clock : ℕ) (es : List Entry) (z : Entry) → AreStamped f clock es → IsIn z es
    → Clocked f clock es z
stamped_at f clock [] z s i = absurd i
stamped_at f clock (e ∷ es) z s (inl same) = (
  clock,
  subst
      (λ (x : Entry). IsStamped clock x (f x.shard)) same s.0,
  inl refl,
)
stamped_at f clock (e ∷ es) z s (inr rest) =
    let r = stamped_at f e.stamp es z s.1 rest in (
      r.0,
      r.1,
      ⊎_elim (λ (is : r.0 ≡ e.stamp). inr (e, inl refl, sym is))
          (λ (p : (p : Entry) × IsIn p es × (p.stamp ≡ r.0)). inr (p.0, inr (p.1), p.2)) r.2,
    )

last_in : (es : List Entry) (clock : ℕ)
    → (last_stamp clock es ≡ clock) ⊎ ((p : Entry) × IsIn p es × (p.stamp ≡ last_stamp clock es))
last_in [] clock = inl refl
last_in (e ∷ es) clock =
    ⊎_elim (λ (is : last_stamp e.stamp es ≡ e.stamp). inr (e, inl refl, sym is))
    (λ (p : (p : Entry) × IsIn p es × (p.stamp ≡ last_stamp e.stamp es)). inr (p.0, inr (p.1), p.2))
    (last_in es e.stamp)

max_either : (a b : ℕ) → (max a b ≡ a) ⊎ (max a b ≡ b)
max_either a b =
    elim (cases_eq (max a b) a) [
      | inl same ↦ inl same
      | inr other ↦ inr (omega arith)
    ]

greatest_in : (es : List Entry) → (greatest_stamp es ≡ 0) ⊎ ((p : Entry) × IsIn p es × (p.stamp ≡ greatest_stamp es))
greatest_in [] = inl refl
greatest_in (e ∷ es) =
    ⊎_elim (λ (is : max e.stamp (greatest_stamp es) ≡ e.stamp). inr (e, inl refl, sym is))
    (λ (is : max e.stamp (greatest_stamp es) ≡ greatest_stamp es).
    ⊎_elim (λ (none : greatest_stamp es ≡ 0). inl (is ∙ none))
    (λ (p : (p : Entry) × IsIn p es × (p.stamp ≡ greatest_stamp es)). inr (p.0, inr (p.1), p.2 ∙ sym is))
    (greatest_in es))
    (max_either e.stamp (greatest_stamp es))

latest_in : (ls : List Listed)
    → (greatest_listed ls ≡ 0) ⊎ ((x : Listed) × (p : Entry) × IsIn x ls × IsIn p (entries_of x.lines)
    × (p.stamp ≡ greatest_listed ls))
latest_in [] = inl refl
latest_in (x ∷ xs) =
    let g = greatest_stamp (entries_of x.lines) in
    ⊎_elim
    (λ (is : max g (greatest_listed xs) ≡ g).
    ⊎_elim (λ (none : g ≡ 0). inl (is ∙ none)) (λ (p : (p : Entry) × IsIn p (entries_of x.lines) × (p.stamp ≡ g)). inr
    (x, p.0, inl refl, p.1, p.2 ∙ sym is)) (greatest_in (entries_of x.lines)))
    (λ (is : max g (greatest_listed xs) ≡ greatest_listed xs).
    ⊎_elim (λ (none : greatest_listed xs ≡ 0). inl (is ∙ none))
    (λ (p : (y : Listed) × (p : Entry) × IsIn y xs × IsIn p (entries_of y.lines)
    × (p.stamp ≡ greatest_listed xs)). inr (p.0, p.1, inr (p.2), p.3, p.4 ∙ sym is)) (latest_in xs))
    (max_either g (greatest_listed xs))

in_listed : (y : Listed) (js : List Joined) → IsIn y (map listed js) → (j : Joined) × IsIn j js × (j.listed ≡ y)
in_listed y [] i = absurd i
in_listed y (j ∷ js) (inl same) = (j, inl refl, same)
in_listed y (j ∷ js) (inr rest) = let r = in_listed y js rest in (r.0, inr (r.1), r.2)

pick_in : (z : Entry) (x : Joined) (xs : List Joined) (rest : List Noted) (b : Bool)
    → (IsIn z (entries_of rest) → (y : Joined) × IsIn y xs × IsIn z (entries_of y.listed.lines))
    → IsIn z (entries_of (if b then x.listed.lines else rest))
    → (y : Joined) × IsIn y (x ∷ xs) × IsIn z (entries_of y.listed.lines)
pick_in z x xs rest true f i = (x, inl refl, i)
pick_in z x xs rest false f i = let r = f i in (r.0, inr (r.1), r.2)

kept_in : (number : ℕ) (z : Entry) (js : List Joined) → IsIn z (entries_of (kept_of number js))
    → (x : Joined) × IsIn x js × IsIn z (entries_of x.listed.lines)
kept_in number z [] i = absurd i
kept_in number z (x ∷ xs) i = pick_in z x xs (kept_of number xs) (x.listed.number == number)
    (λ j. kept_in number z xs j) i

-- a list with stamps 1 to s has s entries
take_out : (p : Entry) (es : List Entry) → IsIn p es → (front back : List Entry) × (es ≡ front ++ p ∷ back)
take_out p [] i = absurd i
take_out p (e ∷ es) (inl same) = ([], es, ap (λ (x : Entry). x ∷ es) same)
take_out p (e ∷ es) (inr rest) = let r = take_out p es rest in (e ∷ r.0, r.1, ap (λ (l : List Entry). e ∷ l) r.2)

still_in : (p q : Entry) (front back : List Entry) → (p ≡ q → ⊥) → IsIn q (front ++ p ∷ back) → IsIn q (front ++ back)
still_in p q front back other i =
    ⊎_elim (λ (h : IsIn q front). in_left q front back h)
    (λ (h : IsIn q (p ∷ back)). ⊎_elim (λ (same : p ≡ q). absurd (other same))
    (λ (r : IsIn q back). in_right q front back r) h) (in_either q front (p ∷ back) i)

abbrev pub HasAll : ℕ → List Entry → Type 0
HasAll s es = (t : ℕ) → 0 < t → t ≤ s → (p : Entry) × IsIn p es × (p.stamp ≡ t)

longer : (p : Entry) (front back : List Entry) → length (front ++ p ∷ back) ≡ length (front ++ back) + 1
longer p [] back = omega arith
longer p (x ∷ xs) back = let rest = longer p xs back in omega arith

all_still : (s : ℕ) (p : Entry) (front back : List Entry) → p.stamp ≡ suc s → HasAll (suc s) (front ++ p ∷ back)
    → HasAll s (front ++ back)
all_still s p front back at f = λ t some most.
    let q = f t some (omega arith) in (
      q.0,
      still_in p q.0 front back (λ same. let apart : p.stamp ≡ q.0.stamp = ap (λ (x : Entry). x.stamp) same in
          let b = q.2 in omega arith) q.1,
      q.2,
    )

has_all_long : (s : ℕ) (es : List Entry) → HasAll s es → s ≤ length es
has_all_long zero es f = omega arith
has_all_long (suc s) es f =
    let p = f (suc s) (omega arith) (omega arith) in
    let r = take_out p.0 es p.1 in
    let less = has_all_long s (r.0 ++ r.1) (all_still s p.0 r.0 r.1 p.2 (subst (HasAll (suc s)) r.2 f)) in
    let one : length es ≡ length (r.0 ++ r.1) + 1 = ap (λ (l : List Entry). length l) r.2 ∙ longer p.0 r.0 r.1 in
    omega arith

-- each entry's stamp is 1, or one more than that of another entry
abbrev pub Stands : List Entry → Type 0
Stands es = (z : Entry) → IsIn z es → (z.stamp ≡ 1) ⊎ ((p : Entry) × IsIn p es × (z.stamp ≡ p.stamp + 1))

stands_all : (s : ℕ) (es : List Entry) (z : Entry) → Stands es → IsIn z es → z.stamp ≡ s → HasAll s es
stands_all zero es z f i is = λ t some most. absurd (omega arith)
stands_all (suc s) es z f i is = λ t some most.
    elim (cases_eq t (suc s)) [
      | inl same ↦ (z, i, is ∙ sym same)
      | inr other ↦
          ⊎_elim (λ (one : z.stamp ≡ 1). absurd (omega arith))
          (λ (p : (p : Entry) × IsIn p es × (z.stamp ≡ p.stamp + 1)). let more = p.2 in stands_all s es p.0 f p.1
          (omega arith) t some (omega arith)) (f z i)
    ]

pub stands_most : (es : List Entry) → Stands es → AllByRecursion (λ (e : Entry). e.stamp ≤ length es) es
stands_most es f = all_from (λ (e : Entry). e.stamp ≤ length es) es
    (λ e i. has_all_long e.stamp es (stands_all e.stamp es e f i refl))

module _ (shards : ℕ) (v : View) (hs : List (List Entry)) (count : length hs ≡ shards)
    (h : AreHistoriesOf 0 shards v hs) (joined : AllByRecursion (IsJoined shards) v.joined)
    (lists : AllByRecursion (IsListIn shards hs) v.joined) (kept : AreKept v) where
  own_in : (j : Joined) (p : Entry) → IsIn j v.joined → IsIn p (entries_of j.listed.lines) → IsIn p (all_of hs)
  own_in j p i m =
      let l = all_in (IsListIn shards hs) j v.joined lists i in
      let k = all_in (λ (x : Joined). (list_in x.listed.number v ≡ x.listed.lines)
      × WasTold v.before v.joined x.listed.number x.told) j v.joined kept i in
      let of = all_in (λ (e : Entry). (e.incarnation + 1 ≡ j.listed.number) × (e.shard < shards)) p
      (entries_of j.listed.lines) l.own m in
      let number : j.listed.number ≡ suc p.incarnation = (let a = of.0 in omega arith) in
      let here : list_in (suc p.incarnation) v ≡ j.listed.lines = ap (λ (n : ℕ). list_in n v) (sym number) ∙ k.0 in
      (from_list shards v hs count h joined p.incarnation p
      (subst (λ (ls : List Noted). IsIn p (entries_of ls)) (sym here) m)).1

  abbrev pub Before : Entry → Type 0
  Before z = (z.stamp ≡ 1) ⊎ ((p : Entry) × IsIn p (all_of hs) × (z.stamp ≡ p.stamp + 1))

  by_history : (z : Entry) (earlier later : List Entry) → history_at hs z.shard ≡ earlier ++ z ∷ later
      → z.stamp ≡ last_stamp 0 earlier + 1 → Before z
  by_history z earlier later at is =
      ⊎_elim (λ (none : last_stamp 0 earlier ≡ 0). inl (omega arith))
      (λ (p : (p : Entry) × IsIn p earlier × (p.stamp ≡ last_stamp 0 earlier)).
      let same = p.2 in
      inr (
        p.0,
        in_all hs z.shard p.0 (subst (λ (l : List Entry). IsIn p.0 l) (sym at)
            (in_left p.0 earlier (z ∷ later) p.1)),
        omega arith,
      )) (last_in earlier 0)

  by_told : (x : Joined) (z : Entry) → IsIn x v.joined → z.stamp ≡ greatest_listed x.told + 1 → Before z
  by_told x z i is =
      let k = all_in (λ (y : Joined). (list_in y.listed.number v ≡ y.listed.lines)
      × WasTold v.before v.joined y.listed.number y.told) x v.joined kept i in
      let prefix = k.1.1 in
      ⊎_elim (λ (none : greatest_listed x.told ≡ 0). inl (omega arith))
      (λ (p : (y : Listed) × (p : Entry) × IsIn y x.told × IsIn p (entries_of y.lines)
      × (p.stamp ≡ greatest_listed x.told)).
      let same = p.4 in
      let j = in_listed p.0 v.joined (subst (λ (l : List Listed). IsIn p.0 l) (sym prefix.1)
      (in_left p.0 x.told prefix.0 p.2)) in
      inr (
        p.1,
        own_in j.0 p.1 j.1 (subst (λ (l : Listed). IsIn p.1 (entries_of l.lines))
            (sym j.2) p.3),
        omega arith,
      )) (latest_in x.told)

  by_own : (x : Joined) (z : Entry) (c : ℕ) → IsIn x v.joined → z.stamp ≡ c + 1
      → (c ≡ greatest_listed x.told) ⊎ ((p : Entry) × IsIn p (entries_of x.listed.lines) × (p.stamp ≡ c)) → Before z
  by_own x z c i is which =
      ⊎_elim (λ (first : c ≡ greatest_listed x.told). by_told x z i (omega arith))
      (λ (p : (p : Entry) × IsIn p (entries_of x.listed.lines) × (p.stamp ≡ c)). let same = p.2 in inr
      (p.0, own_in x p.0 i p.1, omega arith)) which

  pub stands : Stands (all_of hs)
  stands z i =
      let x = kept_in (suc z.incarnation) z v.joined (to_list shards v hs count h joined z i) in
      let l = all_in (IsListIn shards hs) x.0 v.joined lists x.1 in
      let at = stamped_at (history_at hs) (greatest_listed x.0.told) (entries_of x.0.listed.lines) z l.stamped x.2 in
      let s = at.1 in
      ⊎_elim (λ (is : max (last_stamp 0 s.0) at.0 ≡ last_stamp 0 s.0). by_history z s.0 s.1 s.2
      (s.3 ∙ ap (λ (n : ℕ). n + 1) is))
      (λ (is : max (last_stamp 0 s.0) at.0 ≡ at.0). by_own x.0 z at.0 x.1 (s.3 ∙ ap (λ (n : ℕ). n + 1) is) at.2)
      (max_either (last_stamp 0 s.0) at.0)
