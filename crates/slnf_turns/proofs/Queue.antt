-- What each step makes of the words, the tickets and the slots.
use Rattle.std.proofs.Common.{◌≡◌, ◌≢◌, ℕ, zero, suc, ◌+◌, ◌*◌, ◌%◌, ◌^◌, ◌<◌, ◌≤◌, eqb, cond, List, [], ◌∷◌, ◌++◌, length, get_or, set, sym, refl, ap, ◌∙◌, subst, ⊎_elim, arith, Option, Some, unwrap_or, length-set, length-append, get_or-set_other, get_or-set_same}
use mathlib.Core.Logic.{dite}
use mathlib.Core.Option.{none, some, some-injective}
use mathlib.Core.Option as maybe
use native.Mathlib.Decide.{ℕ_discrete}
use lib.ListN.{get_elem?}
use Rattle.atomic_table.specs.Table.{State}
use Rattle.atomic_table.proofs.Lists.{at_set, set_here, set_else, at_snoc, at_longer}
use Rattle.slnf_turns.specs.declared.views.Line.{Line}
use Rattle.slnf_turns.specs.declared.views.Joined.{Joined}
use Rattle.slnf_turns.specs.declared.views.View.{View}
use Rattle.slnf_turns.specs.declared.views.Stage.{Stage}
use Rattle.slnf_turns.specs.declared.views.Stage.TheVariants.{Free, Waits, Turn, Open, Spent}
use Rattle.slnf_turns.specs.Views.{noted, staged, after_open, after_raise}
use Rattle.slnf_turns.specs.Rule.{Account, queues_at, queues, total, HasTicket, IsOwned, IsOpenAt, IsQueued, Knows, AreQueued}
use Rattle.slnf_turns.proofs.Lists.{put, put_here, put_else, one_at, at_within, total_set, total_snoc, total_most}
use Rattle.slnf_turns.proofs.Lines.{if_eq, if_ne}

pub views_stay : (K : ℕ → View → Type 0) (vs : List View) (me : ℕ) (w : View)
    → K me w → ((j : ℕ) (x : View) → j ≢ me → get_elem? vs j ≡ some x → K j x)
    → (j : ℕ) (x : View) → get_elem? (set vs me w) j ≡ some x → K j x
views_stay K vs me w mine others j x e =
    ⊎_elim (λ (t : (j ≡ me) × (w ≡ x)). subst (λ (z : ℕ × View). K z.0 z.1) (λ i. (sym t.0 i, t.1 i)) mine)
    (λ (t : (j ≢ me) × (get_elem? vs j ≡ some x)). others j x t.0 t.1) (at_set vs me j w x e)

-- who has a ticket has one that is out
pub ticket_queued : (a : Account) (n j k t : ℕ) (st : Stage) → Knows a n j st → HasTicket k t st → IsQueued a n k t
ticket_queued a n j k t Free known has = absurd has
ticket_queued a n j k t (Waits i u) known has = subst (λ (z : ℕ × ℕ). IsQueued a n z.0 z.1) (λ c. (has.0 c, has.1 c)) known
ticket_queued a n j k t (Turn i u) known has = subst (λ (z : ℕ × ℕ). IsQueued a n z.0 z.1) (λ c. (has.0 c, has.1 c)) known.0
ticket_queued a n j k t (Open i u base more) known has =
    subst (λ (z : ℕ × ℕ). IsQueued a n z.0 z.1) (λ c. (has.0 c, has.1 c)) known.0
ticket_queued a n j k t Spent known has = absurd has

-- who has a shard open has the ticket that is served
pub open_ticket : (a : Account) (n j k : ℕ) (st : Stage) → Knows a n j st → IsOpenAt k st → HasTicket k (a.served k) st
open_ticket a n j k Free known is = absurd is
open_ticket a n j k (Waits i u) known is = absurd is
open_ticket a n j k (Turn i u) known is = absurd is
open_ticket a n j k (Open i u base more) known is = (is, known.1 ∙ ap a.served is)
open_ticket a n j k Spent known is = absurd is

pub one_queue : (k : ℕ) (v : View) → queues k v ≤ 1
one_queue k v = go v.stage
  where
    small : (b : ℕ) (c : ℕ) → cond (eqb b c) 1 0 ≤ 1
    small b c = dite (ℕ_discrete b c) (λ e. let h = if_eq {A = ℕ} b c 1 0 e in omega arith)
        (λ n. let h = if_ne {A = ℕ} b c 1 0 n in omega arith)

    go : (st : Stage) → queues_at k st ≤ 1
    go Free = omega arith
    go (Waits j t) = small j k
    go (Turn j t) = small j k
    go (Open j t base more) = small j k
    go Spent = omega arith

-- the ticket of the shard k
abbrev pub with_draw : Account → ℕ → Account
with_draw a k = record {
  drawn = put a.drawn k (a.drawn k + 1);
  served = a.served;
  holder = a.holder;
  published = a.published;
  list_of = a.list_of;
  before = a.before;
  joined = a.joined;
}

abbrev pub with_open : Account → ℕ → ℕ → Account
with_open a k me = record {
  drawn = a.drawn;
  served = a.served;
  holder = put a.holder k (suc me);
  published = a.published;
  list_of = a.list_of;
  before = a.before;
  joined = a.joined;
}

abbrev pub with_raise : Account → ℕ → ℕ → List Line → List Line → Account
with_raise a k me base more = record {
  drawn = a.drawn;
  served = put a.served k (a.served k + 1);
  holder = put a.holder k 0;
  published = put a.published k (base ++ more);
  list_of = put a.list_of me (a.list_of me ++ noted k more);
  before = a.before;
  joined = a.joined;
}

same_known : (a : Account) (before : List (List ℕ)) (joined : List Joined) (n j : ℕ) (st : Stage) → Knows a n j st
    → Knows (record {
      drawn = a.drawn;
      served = a.served;
      holder = a.holder;
      published = a.published;
      list_of = a.list_of;
      before = before;
      joined = joined;
    }) n j st
same_known a before joined n j Free h = h
same_known a before joined n j (Waits k t) h = h
same_known a before joined n j (Turn k t) h = h
same_known a before joined n j (Open k t base more) h = h
same_known a before joined n j Spent h = h

some_value : {A : Type 0} {x y : A} → some (Some x) ≡ some (Some y) → x ≡ y
some_value {A} {x} {y} e = ap (λ (o : Option A). unwrap_or o x) (some-injective _ _ e)

module _ {B : Type 0} (lines : B → List Line) (place places : B → ℕ) where
  abbrev St : Type 0
  St = State (Option B) View

  abbrev Homes : Type 0
  Homes = List (maybe.Option (Option B))

  abbrev Q : Account → St → Type 0
  Q = AreQueued lines place places

  abbrev IsHome : Account → Homes → ℕ → Type 0
  IsHome a homes k = (b : B) × (get_elem? homes k ≡ some (some (Some b)))
      × (place b ≡ k) × (places b ≡ length homes) × (lines b ≡ a.published k)

  abbrev IsOut : Homes → List View → ℕ → ℕ → Type 0
  IsOut homes views k j = (get_elem? homes k ≡ some none) × (v : View) × (get_elem? views j ≡ some v) × IsOpenAt k v.stage

  own_stays : (vs : List View) (me k t : ℕ) (v w : View) → get_elem? vs me ≡ some v
      → (HasTicket k t v.stage → HasTicket k t w.stage) → IsOwned vs k t → IsOwned (set vs me w) k t
  own_stays vs me k t v w at stays o = dite (ℕ_discrete o.0 me)
      (λ e. (
        me,
        w,
        set_here vs me w (at_within vs me v at),
        stays (subst (λ (z : View). HasTicket k t z.stage)
            (one_at vs me o.1 v (subst (λ (i : ℕ). get_elem? vs i ≡ some o.1) e o.2) at) o.3),
      ))
      (λ other. (o.0, o.1, set_else vs me o.0 w other ∙ o.2, o.3))

  -- a step of the view me, from v to w
  moved : (a a' : Account) (s : St) (q : Q a s) (words' : List ℕ) (homes' : Homes) (me : ℕ) (v w : View)
      → get_elem? s.views me ≡ some v
      → length words' ≡ length s.words → length homes' ≡ length s.homes
      → ((k : ℕ) → k < length s.homes → get_or words' (32 * k) 0 ≡ a'.drawn k % 2 ^ 64)
      → ((k : ℕ) → k < length s.homes → get_or words' (32 * k + 1) 0 ≡ a'.served k % 2 ^ 64)
      → ((k : ℕ) → k < length s.homes → a'.drawn k + queues k v ≡ a'.served k + (total (queues k) s.views + queues k w))
      → Knows a' (length s.homes) me w.stage
      → ((j : ℕ) (x : View) → j ≢ me → get_elem? s.views j ≡ some x
      → Knows a (length s.homes) j x.stage → Knows a' (length s.homes) j x.stage)
      → ((k t j : ℕ) (x : View) → j ≢ me → get_elem? s.views j ≡ some x → HasTicket k t w.stage → HasTicket k t x.stage → ⊥)
      → ((k t : ℕ) → k < length s.homes → a'.served k ≤ t → t < a'.drawn k → IsOwned (set s.views me w) k t)
      → ((k : ℕ) → k < length s.homes → a'.holder k ≡ 0 → IsHome a' homes' k)
      → ((k j : ℕ) → k < length s.homes → a'.holder k ≡ suc j → IsOut homes' (set s.views me w) k j)
      → Q a' record { words = words'; homes = homes'; views = set s.views me w }
  moved a a' s q words' homes' me v w at as_wide as_long tick serv count mine others lone owns home out = record {
    wide = as_wide ∙ (q.wide ∙ ap (λ (m : ℕ). 32 * m) (sym as_long));
    tickets = λ k l. tick k (omega arith);
    serving = λ k l. serv k (omega arith);
    queued = λ k l. let h = total_set (queues k) s.views me v w at in let c = count k (omega arith) in omega arith;
    few = subst (λ (m : ℕ). m < 2 ^ 32) (sym (length-set s.views me w)) q.few;
    stages = λ j x e. subst (λ (m : ℕ). Knows a' m j x.stage) (sym as_long)
        (views_stay (λ i y. Knows a' (length s.homes) i y.stage) s.views me w mine
        (λ i y other there. others i y other there (q.stages i y there)) j x e);
    apart = λ i j k t x y ex ey hx hy. ⊎_elim (λ (p : (i ≡ me) × (w ≡ x)). ⊎_elim (λ (r : (j ≡ me) × (w ≡ y)). p.0 ∙ sym r.0)
        (λ (r : (j ≢ me) × (get_elem? s.views j ≡ some y)). absurd (lone k t j y r.0 r.1
        (subst (λ (z : View). HasTicket k t z.stage) (sym p.1) hx) hy)) (at_set s.views me j w y ey))
        (λ (p : (i ≢ me) × (get_elem? s.views i ≡ some x)). ⊎_elim (λ (r : (j ≡ me) × (w ≡ y)).
        absurd (lone k t i x p.0 p.1 (subst (λ (z : View). HasTicket k t z.stage) (sym r.1) hy) hx))
        (λ (r : (j ≢ me) × (get_elem? s.views j ≡ some y)). q.apart i j k t x y p.1 r.1 hx hy)
        (at_set s.views me j w y ey)) (at_set s.views me i w x ex);
    owned = λ k t l low high. owns k t (omega arith) low high;
    home = λ k l h. home k (omega arith) h;
    out = λ k j l h. out k j (omega arith) h;
  }

  -- a shard stays open over a step of another view, or of its own that keeps it open
  out_stays : (homes' : Homes) (vs : List View) (me k j : ℕ) (v w x : View)
      → get_elem? homes' k ≡ some none → get_elem? vs me ≡ some v → get_elem? vs j ≡ some x → IsOpenAt k x.stage
      → (IsOpenAt k v.stage → IsOpenAt k w.stage) → IsOut homes' (set vs me w) k j
  out_stays homes' vs me k j v w x gone at there is stays = dite (ℕ_discrete j me)
      (λ e. (
        gone,
        w,
        subst (λ (i : ℕ). get_elem? (set vs me w) i ≡ some w) (sym e) (set_here vs me w (at_within vs me v at)),
        stays (subst (λ (z : View). IsOpenAt k z.stage)
            (one_at vs me x v (subst (λ (i : ℕ). get_elem? vs i ≡ some x) e there) at) is),
      ))
      (λ other. (gone, x, set_else vs me j w other ∙ there, is))

  -- a step that changes no word and no slot, and keeps the ticket
  pub queue_same : (a : Account) (s : St) (q : Q a s) (me : ℕ) (v w : View)
      → get_elem? s.views me ≡ some v → ((k : ℕ) → queues k w ≡ queues k v) → Knows a (length s.homes) me w.stage
      → ((k t : ℕ) → HasTicket k t w.stage → HasTicket k t v.stage)
      → ((k t : ℕ) → HasTicket k t v.stage → HasTicket k t w.stage)
      → ((k : ℕ) → IsOpenAt k v.stage → IsOpenAt k w.stage)
      → Q a record { words = s.words; homes = s.homes; views = set s.views me w }
  queue_same a s q me v w at same known tickets back opens = moved a a s q s.words s.homes me v w at refl refl q.tickets q.serving
      (λ k l. let h = q.queued k l in let e = same k in omega arith) known (λ j x _ _ z. z)
      (λ k t j x other there hw hx. other (q.apart j me k t x v there at hx (tickets k t hw)))
      (λ k t l low high. own_stays s.views me k t v w at (back k t) (q.owned k t l low high)) q.home
      (λ k j l h. let o = q.out k j l h in out_stays s.homes s.views me k j v w o.1 o.0 at o.2 o.3 (opens k))

  drawn_more : (a : Account) (k n j t : ℕ) → IsQueued a n j t → IsQueued (with_draw a k) n j t
  drawn_more a k n j t h = (
    h.0,
    h.1,
    dite (ℕ_discrete j k)
        (λ e. let p = put_here a.drawn k (a.drawn k + 1) j e in let c = ap a.drawn e in let u = h.2 in omega arith)
        (λ other. let p = put_else a.drawn k (a.drawn k + 1) j other in let u = h.2 in omega arith),
  )

  drawn_known : (a : Account) (k n j : ℕ) (st : Stage) → Knows a n j st → Knows (with_draw a k) n j st
  drawn_known a k n j Free h = tt
  drawn_known a k n j (Waits i t) h = drawn_more a k n i t h
  drawn_known a k n j (Turn i t) h = (drawn_more a k n i t h.0, h.1)
  drawn_known a k n j (Open i t base more) h = (drawn_more a k n i t h.0, h.1, h.2, h.3, h.4)
  drawn_known a k n j Spent h = tt

  pub queue_draws : (a : Account) (s : St) (q : Q a s) (me k : ℕ) (v : View)
      → get_elem? s.views me ≡ some v → v.stage ≡ Free → k < length s.homes
      → Q (with_draw a k) record {
        words = set s.words (32 * k) ((get_or s.words (32 * k) 0 + 1) % 2 ^ 64);
        homes = s.homes;
        views = set s.views me (staged v (Waits k (a.drawn k)));
      }
  queue_draws a s q me k v at free near =
      let x : ℕ = get_or s.words (32 * k) 0 in
      let y : ℕ = (x + 1) % 18446744073709551616 in
      let wide = q.wide in
      let found : x ≡ a.drawn k % 18446744073709551616 = q.tickets k near in
      let sum = q.queued k near in
      moved a (with_draw a k) s q (set s.words (32 * k) y) s.homes me v
      (staged v (Waits k (a.drawn k))) at (length-set s.words (32 * k) y) refl
      (λ j l. dite (ℕ_discrete j k)
      (λ e. let p = put_here a.drawn k (a.drawn k + 1) j e in subst (λ (i : ℕ).
      get_or (set s.words (32 * k) y) (32 * i) 0 ≡ put a.drawn k (a.drawn k + 1) j % 18446744073709551616) (sym e)
      (get_or-set_same s.words (32 * k) y 0 (omega arith) ∙ (let g : y ≡ (a.drawn k + 1) % 18446744073709551616 =
      omega arith in g) ∙ ap (λ (z : ℕ). z % 18446744073709551616) (sym p)))
      (λ other. get_or-set_other s.words (32 * k) (32 * j) y 0 (λ e. other (omega arith)) ∙ (q.tickets j l
      ∙ ap (λ (z : ℕ). z % 18446744073709551616) (sym (put_else a.drawn k (a.drawn k + 1) j other)))))
      (λ j l. get_or-set_other s.words (32 * k) (32 * j + 1) y 0 (λ e. omega arith) ∙ q.serving j l)
      (λ j l. let h = q.queued j l in let none_yet : queues j v ≡ 0 = ap (queues_at j) free in dite (ℕ_discrete j k)
      (λ e. let p = put_here a.drawn k (a.drawn k + 1) j e in
      let c = ap a.drawn e in
      let one = if_eq {A = ℕ} k j 1 0 (sym e) in
      omega arith)
      (λ other. let p = put_else a.drawn k (a.drawn k + 1) j other in
      let no_one = if_ne {A = ℕ} k j 1 0 (λ e. other (sym e)) in
      omega arith))
      (near, omega arith, let p = put_here a.drawn k (a.drawn k + 1) k refl in omega arith)
      (λ j u _ _ h. drawn_known a k (length s.homes) j u.stage h)
      (λ j t i u _ there mine his. let h = ticket_queued a (length s.homes) i j t u.stage (q.stages i u there) his in
      let b = h.2 in
      let c = ap a.drawn mine.0 in
      let d = mine.1 in
      omega arith)
      (λ j u l low high. dite (ℕ_discrete j k)
      (λ e. dite (ℕ_discrete u (a.drawn k))
      (λ e'. (
        me,
        staged v (Waits k (a.drawn k)),
        set_here s.views me (staged v (Waits k (a.drawn k))) (at_within s.views me v at),
        (sym e, sym e'),
      ))
      (λ other. let p = put_here a.drawn k (a.drawn k + 1) j e in
      let c = ap a.drawn e in
      own_stays s.views me j u v (staged v (Waits k (a.drawn k))) at
      (λ has. absurd (subst (HasTicket j u) free has)) (q.owned j u l low (omega arith))))
      (λ other. let p = put_else a.drawn k (a.drawn k + 1) j other in own_stays s.views me j u v (staged v (Waits k
      (a.drawn k))) at (λ has. absurd (subst (HasTicket j u) free has)) (q.owned j u l low (omega arith))))
      q.home
      (λ j i l h. let o = q.out j i l h in out_stays s.homes s.views me j i v
      (staged v (Waits k (a.drawn k))) o.1 o.0 at o.2 o.3 (λ is. absurd (subst (IsOpenAt j) free is)))

  -- a view that has its turn, and nothing open, finds the slot at home
  pub at_home : (a : Account) (s : St) (q : Q a s) (me k t : ℕ) (v : View)
      → get_elem? s.views me ≡ some v → v.stage ≡ Turn k t → a.holder k ≡ 0
  at_home a s q me k t v at turn = go (a.holder k) refl
    where
      known : IsQueued a (length s.homes) k t × (t ≡ a.served k)
      known = subst (Knows a (length s.homes) me) turn (q.stages me v at)

      go : (h : ℕ) → a.holder k ≡ h → a.holder k ≡ 0
      go zero is = is
      go (suc j) is =
          let o = q.out k j known.0.0 is in
          let same : me ≡ j = q.apart me j k (a.served k) v o.1 at o.2 (subst (HasTicket k (a.served k))
          (sym turn) (refl, known.1)) (open_ticket a (length s.homes) j k o.1.stage (q.stages j o.1 o.2) o.3) in
          let this : o.1 ≡ v = one_at s.views j o.1 v o.2 (subst (λ (i : ℕ). get_elem? s.views i ≡ some v) same at) in
          absurd (subst (IsOpenAt k) (ap (λ (z : View). z.stage) this ∙ turn) o.3)

  open_known : (a : Account) (k me n j : ℕ) (st : Stage) → a.holder k ≡ 0 → Knows a n j st → Knows (with_open a k me) n j st
  open_known a k me n j Free none_yet h = tt
  open_known a k me n j (Waits i t) none_yet h = h
  open_known a k me n j (Turn i t) none_yet h = h
  open_known a k me n j (Open i t base more) none_yet h = (
    h.0,
    h.1,
    put_else a.holder k (suc me) i (λ e. let b = ap a.holder e in let c = h.2 in omega arith) ∙ h.2,
    h.3,
    h.4,
  )
  open_known a k me n j Spent none_yet h = tt

  pub queue_opens : (a : Account) (s : St) (q : Q a s) (me k t : ℕ) (v : View) (b : B)
      → get_elem? s.views me ≡ some v → v.stage ≡ Turn k t → get_elem? s.homes k ≡ some (some (Some b))
      → Q (with_open a k me) record {
        words = s.words;
        homes = set s.homes k none;
        views = set s.views me (after_open v k t (lines b));
      }
  queue_opens a s q me k t v b at turn there =
      let known : IsQueued a (length s.homes) k t × (t ≡ a.served k) =
      subst (Knows a (length s.homes) me) turn (q.stages me v at) in
      let near = known.0.0 in let idle = at_home a s q me k t v at turn in let lies = q.home k near idle in
      let this : lies.0 ≡ b = some_value (one_at s.homes k (some (Some lies.0)) (some (Some b)) lies.1 there) in
      let now : lines b ≡ a.published k = ap lines (sym this) ∙ lies.4 in
      let w : View = after_open v k t (lines b) in let homes' : Homes = set s.homes k none in let a' = with_open a k me in
      let here = put_here a.holder k (suc me) k refl in
      moved a a' s q s.words homes' me v w at refl (length-set s.homes k none) q.tickets q.serving
      (λ j l. let h = q.queued j l in let e : queues j v ≡ cond (eqb k j) 1 0 = ap (queues_at j) turn in omega arith)
      (known.0, known.1, here, now, tt)
      (λ j x other there' h. open_known a k me (length s.homes) j x.stage idle h)
      (λ i u j x other there' hw hx. other (q.apart j me i u x v there' at hx (subst (HasTicket i u) (sym turn) hw)))
      (λ i u l low high. own_stays s.views me i u v w at (λ has. subst (HasTicket i u) turn has) (q.owned i u l low high))
      (λ i l h. let apart : i ≢ k = λ e. let z = put_here a.holder k (suc me) i e in omega arith in
      let o = q.home i l (sym (put_else a.holder k (suc me) i apart) ∙ h) in
      (o.0, set_else s.homes k i none apart ∙ o.1, o.2, o.3 ∙ sym (length-set s.homes k none), o.4))
      (λ i j l h. dite (ℕ_discrete i k)
      (λ e. let z = put_here a.holder k (suc me) i e in let mine : j ≡ me = omega arith in (
        subst (λ (c : ℕ). get_elem? homes' c ≡ some none) (sym e) (set_here s.homes k none near),
        w,
        subst (λ (c : ℕ). get_elem? (set s.views me w) c ≡ some w)
            (sym mine) (set_here s.views me w (at_within s.views me v at)),
        sym e,
      ))
      (λ apart. let o = q.out i j l (sym (put_else a.holder k (suc me) i apart) ∙ h) in
      out_stays homes' s.views me i j v w o.1 (set_else s.homes k i none apart ∙ o.0) at o.2 o.3
      (λ is. absurd (subst (IsOpenAt i) turn is))))

  -- a ticket that isn't the one that was served
  raise_queued : (a : Account) (k me : ℕ) (base more : List Line) (n i t : ℕ)
      → (i ≡ k → t ≢ a.served k) → IsQueued a n i t → IsQueued (with_raise a k me base more) n i t
  raise_queued a k me base more n i t other h = (
    h.0,
    dite (ℕ_discrete i k)
        (λ e. let p = put_here a.served k (a.served k + 1) i e in
        let c = ap a.served e in
        let u = h.1 in
        let d = other e in
        omega arith)
        (λ apart. let p = put_else a.served k (a.served k + 1) i apart in let u = h.1 in omega arith),
    h.2,
  )

  raise_known : (a : Account) (k me : ℕ) (base more : List Line) (n j : ℕ) (st : Stage)
      → (HasTicket k (a.served k) st → ⊥) → Knows a n j st → Knows (with_raise a k me base more) n j st
  raise_known a k me base more n j Free other h = tt
  raise_known a k me base more n j (Waits i t) other h = raise_queued a k me base more n i t (λ e u. other (e, u)) h
  raise_known a k me base more n j (Turn i t) other h =
      let apart : i ≢ k = λ e. other (e, h.1 ∙ ap a.served e) in
      (raise_queued a k me base more n i t (λ e u. other (e, u)) h.0, h.1 ∙ sym (put_else a.served k (a.served k + 1) i apart))
  raise_known a k me base more n j (Open i t old new) other h =
      let apart : i ≢ k = λ e. other (e, h.1 ∙ ap a.served e) in (
        raise_queued a k me base more n i t (λ e u. other (e, u)) h.0,
        h.1 ∙ sym (put_else a.served k (a.served k + 1) i apart),
        put_else a.holder k 0 i apart ∙ h.2,
        h.3 ∙ sym (put_else a.published k (base ++ more) i apart),
        h.4,
      )
  raise_known a k me base more n j Spent other h = tt

  pub queue_raises : (a : Account) (s : St) (q : Q a s) (me k t : ℕ) (base more : List Line) (v : View) (b : B)
      → get_elem? s.views me ≡ some v → v.stage ≡ Open k t base more
      → place b ≡ k → places b ≡ length s.homes → lines b ≡ base ++ more
      → Q (with_raise a k me base more)
      record {
        words = set s.words (32 * k + 1) ((get_or s.words (32 * k + 1) 0 + 1) % 2 ^ 64);
        homes = set s.homes k (some (Some b));
        views = set s.views me (after_raise v k base more);
      }
  queue_raises a s q me k t base more v b at opened is_place is_places is_lines =
      let known : Knows a (length s.homes) me (Open k t base more) =
      subst (Knows a (length s.homes) me) opened (q.stages me v at) in
      let near = known.0.0 in
      let w : View = after_raise v k base more in
      let homes' : Homes = set s.homes k (some (Some b)) in
      let a' = with_raise a k me base more in
      let c : ℕ = 32 * k + 1 in
      let x : ℕ = get_or s.words c 0 in
      let y : ℕ = (x + 1) % 18446744073709551616 in
      let wide = q.wide in
      let found : x ≡ a.served k % 18446744073709551616 = q.serving k near in
      let mine : HasTicket k (a.served k) v.stage = subst (HasTicket k (a.served k)) (sym opened) (refl, known.1) in
      moved a a' s q (set s.words c y) homes' me v w at (length-set s.words c y) (length-set s.homes k (some (Some b)))
      (λ j l. get_or-set_other s.words c (32 * j) y 0 (λ e. omega arith) ∙ q.tickets j l)
      (λ j l. dite (ℕ_discrete j k)
      (λ e. let p = put_here a.served k (a.served k + 1) j e in subst (λ (i : ℕ).
      get_or (set s.words c y) (32 * i + 1) 0 ≡ put a.served k (a.served k + 1) j % 18446744073709551616) (sym e)
      (get_or-set_same s.words c y 0 (omega arith) ∙ (let g : y ≡ (a.served k + 1) % 18446744073709551616 =
      omega arith in g) ∙ ap (λ (z : ℕ). z % 18446744073709551616) (sym p)))
      (λ other. get_or-set_other s.words c (32 * j + 1) y 0 (λ e. other (omega arith)) ∙ (q.serving j l
      ∙ ap (λ (z : ℕ). z % 18446744073709551616) (sym (put_else a.served k (a.served k + 1) j other)))))
      (λ j l. let h = q.queued j l in let e : queues j v ≡ cond (eqb k j) 1 0 = ap (queues_at j) opened in dite (ℕ_discrete j k)
      (λ e'. let p = put_here a.served k (a.served k + 1) j e' in
      let d = ap a.served e' in
      let one = if_eq {A = ℕ} k j 1 0 (sym e') in
      omega arith)
      (λ other. let p = put_else a.served k (a.served k + 1) j other in
      let no_one = if_ne {A = ℕ} k j 1 0 (λ z. other (sym z)) in
      omega arith))
      tt
      (λ j u other there h. raise_known a k me base more
      (length s.homes) j u.stage (λ his. other (q.apart j me k (a.served k) u v there at his mine)) h)
      (λ j u i z other there hw hz. absurd hw)
      (λ i u l low high.
      let later : (i ≡ k → u ≢ a.served k) × (a.served i ≤ u) = dite (ℕ_discrete i k)
      (λ e. let p = put_here a.served k (a.served k + 1) i e in let d = ap a.served e in ((λ _ z. omega arith), omega arith))
      (λ other. let p = put_else a.served k (a.served k + 1) i other in ((λ e. absurd (other e)), omega arith)) in
      own_stays s.views me i u v w at (λ has. let h : HasTicket i u (Open k t base more) = subst
      (HasTicket i u) opened has in absurd (later.0 (sym h.0) (sym h.1 ∙ known.1))) (q.owned i u l later.1 high))
      (λ i l h. dite (ℕ_discrete i k)
      (λ e. (
        b,
        subst (λ (z : ℕ). get_elem? homes' z ≡ some (some (Some b))) (sym e) (set_here s.homes k (some (Some b)) near),
        is_place ∙ sym e,
        is_places ∙ sym (length-set s.homes k (some (Some b))),
        is_lines ∙ sym (put_here a.published k (base ++ more) i e),
      ))
      (λ apart. let o = q.home i l (sym (put_else a.holder k 0 i apart) ∙ h) in (
        o.0,
        set_else s.homes k i (some (Some b)) apart ∙ o.1,
        o.2,
        o.3 ∙ sym (length-set s.homes k (some (Some b))),
        o.4 ∙ sym (put_else a.published k (base ++ more) i apart),
      )))
      (λ i j l h. let apart : i ≢ k = λ e. let z = put_here a.holder k 0 i e in omega arith in
      let o = q.out i j l (sym (put_else a.holder k 0 i apart) ∙ h) in
      out_stays homes' s.views me i j v w o.1 (set_else s.homes k i (some (Some b)) apart ∙ o.0) at o.2 o.3
      (λ is. absurd (apart (sym (subst (IsOpenAt i) opened is)))))

  pub queue_admits : (a : Account) (s : St) (q : Q a s) (w : View) → w.stage ≡ Free
      → length s.views + 1 < 2 ^ 32 → Q a record { words = s.words; homes = s.homes; views = s.views ++ w ∷ [] }
  queue_admits a s q w free few = record {
    wide = q.wide;
    tickets = q.tickets;
    serving = q.serving;
    queued = λ k l. let h = q.queued k l in let none_yet : queues k w ≡ 0 = ap (queues_at k) free in
        let sum = total_snoc (queues k) s.views w in
        omega arith;
    few = let h = length-append s.views (w ∷ []) in omega arith;
    stages = λ j x e. ⊎_elim (q.stages j x) (λ (t : w ≡ x).
        subst (Knows a (length s.homes) j) (sym free ∙ ap (λ (z : View). z.stage) t) tt) (at_snoc s.views w x j e);
    apart = λ i j k t x y ex ey hx hy. ⊎_elim (λ (p : get_elem? s.views i ≡ some x).
        ⊎_elim (λ (r : get_elem? s.views j ≡ some y). q.apart i j k t x y p r hx hy)
        (λ (r : w ≡ y). absurd (subst (HasTicket k t) (sym (ap (λ (z : View). z.stage) r) ∙ free) hy)) (at_snoc s.views w y j ey))
        (λ (p : w ≡ x). absurd (subst (HasTicket k t) (sym (ap (λ (z : View). z.stage) p) ∙ free) hx)) (at_snoc s.views w x i ex);
    owned = λ k t l low high. let o = q.owned k t l low high in (o.0, o.1, at_longer s.views (w ∷ []) o.0 o.1 o.2, o.3);
    home = q.home;
    out = λ k j l h. let o = q.out k j l h in (o.0, o.1, at_longer s.views (w ∷ []) j o.1 o.2, o.3);
  }

  -- fewer tickets are out than the words have values
  pub near_tickets : (a : Account) (s : St) (q : Q a s) (j k t : ℕ) (v : View)
      → get_elem? s.views j ≡ some v → HasTicket k t v.stage → (a.served k ≤ t) × (t < a.served k + 2 ^ 32)
  near_tickets a s q j k t v at has =
      let h = ticket_queued a (length s.homes) j k t v.stage (q.stages j v at) has in
      let sum = q.queued k h.0 in
      let most = total_most (queues k) s.views (one_queue k) in
      let few = q.few in
      let b = h.1 in let c = h.2 in (h.1, omega arith)

  -- the words, tickets and slots know nothing of splits and joins
  pub requeued : (a : Account) (before : List (List ℕ)) (joined : List Joined) (s : St)
      → Q a s → Q (record {
        drawn = a.drawn;
        served = a.served;
        holder = a.holder;
        published = a.published;
        list_of = a.list_of;
        before = before;
        joined = joined;
      }) s
  requeued a before joined s q = record {
    wide = q.wide;
    tickets = q.tickets;
    serving = q.serving;
    queued = q.queued;
    few = q.few;
    stages = λ j v e. same_known a before joined (length s.homes) j v.stage (q.stages j v e);
    owned = q.owned;
    apart = q.apart;
    home = q.home;
    out = q.out;
  }
