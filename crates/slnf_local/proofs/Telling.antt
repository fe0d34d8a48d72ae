-- The rules entry by entry are the rules of the whole, a run breaks none, and each list has one answer.
use Rattle.std.proofs.Common.{◌≡◌, inl, inr, arith, ℕ, List, [], ◌∷◌, ◌++◌, Option, Some, None, refl, sym, ap, subst}
use Rattle.std.specs.List.{AllByRecursion}
use Rattle.std.proofs.lemmas.Bool.{cases_lt}
use Rattle.slnf_access.specs.declared.requests.Entry.{Entry}
use Rattle.slnf_access.specs.Map.{key_of, Cells, empty, map_after, IsLegalFrom, IsLegal, CanReply}
use Rattle.slnf_access.specs.Order.{InOrder, IsInShard}
use Rattle.slnf_access.proofs.Laws.{can_reply_to}
use Rattle.slnf_run.specs.Setting.{Setting}
use Rattle.slnf_run.specs.Jobs.{last_of}
use Rattle.slnf_run.specs.Run.{IsRun}
use Rattle.slnf_run.specs.Made.{Grown}
use Rattle.slnf_run.proofs.NextAccess.{map_after-push}
use Rattle.slnf_local.specs.declared.broken.Broken.{Broken}
use Rattle.slnf_local.specs.declared.broken.Broken.TheVariants.{Order, Reply, Unexpected, Unended}
use Rattle.slnf_local.specs.Local.{IsExpected}
use Rattle.slnf_local.specs.Rules.{ComesAfter, IsOrderly, IsTrueReply, IsOrdered, BreaksAt}
use Rattle.slnf_local.specs.Tells.{IsFirstOpen, Lapses, Tells}
use Rattle.slnf_local.proofs.First.{broken_grown, breaks_at_one}
use Rattle.slnf_local.proofs.Local.{run_of_local, local_of_run}
use Rattle.slnf_local.proofs.Moves.{last_of-push}

ordered : (shards : ℕ) (es tail : List Entry) → Grown (IsOrderly shards) es tail → InOrder tail
ordered shards es [] g = tt
ordered shards es (e ∷ []) g = tt
ordered shards es (e ∷ f ∷ tail) g = (
  subst (λ l. ComesAfter l f) (last_of-push es e) g.1.0.in_order,
  ordered shards (es ++ e ∷ []) (f ∷ tail) g.1,
)

sharded : (shards : ℕ) (es tail : List Entry) → Grown (IsOrderly shards) es tail →
    AllByRecursion (IsInShard shards) tail
sharded shards es [] g = tt
sharded shards es (e ∷ tail) g = (g.0.in_shard, sharded shards (es ++ e ∷ []) tail g.1)

-- a list is in order and in its shards exactly where each entry is, after those before it
pub ordered_of_grown : (shards : ℕ) (j : List Entry) → Grown (IsOrderly shards) [] j → IsOrdered shards j
ordered_of_grown shards j g = record { in_order = ordered shards [] j g; in_shards = sharded shards [] j g }

-- the first of these comes after the others
abbrev FirstFollows : List Entry → List Entry → Type 0
FirstFollows es [] = Unit {0}
FirstFollows es (e ∷ tail) = ComesAfter (last_of es) e

grown_ordered : (shards : ℕ) (es tail : List Entry) → InOrder tail → AllByRecursion (IsInShard shards) tail →
    FirstFollows es tail → Grown (IsOrderly shards) es tail
grown_ordered shards es [] o s f = tt
grown_ordered shards es (e ∷ []) o s f = (record { in_shard = s.0; in_order = f }, tt)
grown_ordered shards es (e ∷ g ∷ tail) o s f = (
  record { in_shard = s.0; in_order = f },
  grown_ordered shards (es ++ e ∷ []) (g ∷ tail) o.1 s.1 (subst (λ l. ComesAfter l g) (sym (last_of-push es e)) o.0),
)

first_follows : (j : List Entry) → FirstFollows [] j
first_follows [] = tt
first_follows (e ∷ j) = tt

pub grown_of_ordered : (shards : ℕ) (j : List Entry) → IsOrdered shards j → Grown (IsOrderly shards) [] j
grown_of_ordered shards j h = grown_ordered shards [] j h.in_order h.in_shards (first_follows j)

legal_grown : (es tail : List Entry) → Grown IsTrueReply es tail → IsLegalFrom (map_after empty es) tail
legal_grown es [] g = tt
legal_grown es (e ∷ tail) g =
    (g.0, subst (λ cells. IsLegalFrom cells tail) (map_after-push es e) (legal_grown (es ++ e ∷ []) tail g.1))

-- a list is legal exactly where each reply is that of the map of the entries before it
pub legal_of_grown : (j : List Entry) → Grown IsTrueReply [] j → IsLegal j
legal_of_grown j g = legal_grown [] j g

grown_legal : (es tail : List Entry) → IsLegalFrom (map_after empty es) tail → Grown IsTrueReply es tail
grown_legal es [] h = tt
grown_legal es (e ∷ tail) h = (
  h.0,
  grown_legal (es ++ e ∷ []) tail (subst (λ cells. IsLegalFrom cells tail) (sym (map_after-push es e)) h.1),
)

pub grown_of_legal : (j : List Entry) → IsLegal j → Grown IsTrueReply [] j
grown_of_legal j h = grown_legal [] j h

-- the replies of a legal list can be
pub replies_can : (cells : Cells) (j : List Entry) → IsLegalFrom cells j →
    AllByRecursion (λ e. CanReply e.request e.reply) j
replies_can cells [] h = tt
replies_can cells (e ∷ j) h = (
  subst (CanReply e.request) (sym h.0) (can_reply_to e.request e.stamp (cells (key_of e.request))),
  replies_can (map_after cells (e ∷ [])) j h.1,
)

-- what rules 4 and 5 tell of a list of which 2 and 3 hold
pub lapse_tells : {F A : Type 0} (s : Setting F A) (j : List Entry) (b : Option Broken) → IsOrdered s.shards j →
    IsLegal j → Lapses s j b → Tells s j b
lapse_tells s j None o l h = run_of_local s j (record {
  in_order = o.in_order;
  in_shards = o.in_shards;
  legal = l;
  expected = h.0;
  over = h.1;
})
lapse_tells s j (Some (Order k)) o l h = absurd h
lapse_tells s j (Some (Reply k)) o l h = absurd h
lapse_tells s j (Some (Unexpected k)) o l h = (o, l, h)
lapse_tells s j (Some (Unended i)) o l h = (o, l, h.0, h.1)

-- where each entry is allowed none is the first that isn't
at_grown : (Q : List Entry → Entry → Type 0) (j : List Entry) (place : ℕ) → Grown Q [] j → BreaksAt Q j place → ⊥
at_grown Q j place grown h = broken_grown Q [] j h.0 grown h.2

-- an ordered list breaks no order, and a legal one no reply
order_broken : (shards : ℕ) (j : List Entry) (place : ℕ) → IsOrdered shards j → BreaksAt (IsOrderly shards) j place →
    ⊥
order_broken shards j place o h = at_grown (IsOrderly shards) j place (grown_of_ordered shards j o) h

reply_broken : (j : List Entry) (place : ℕ) → IsLegal j → BreaksAt IsTrueReply j place → ⊥
reply_broken j place l h = at_grown IsTrueReply j place (grown_of_legal j l) h

-- a run breaks no rule
pub run_tells : {F A : Type 0} (s : Setting F A) (j : List Entry) (b : Option Broken) → Tells s j b → IsRun s j →
    b ≡ None
run_tells s j None t run = refl
run_tells s j (Some (Order k)) t run =
    absurd (order_broken s.shards j k (record { in_order = run.in_order; in_shards = run.in_shards }) t)
run_tells s j (Some (Reply k)) t run = absurd (reply_broken j k run.legal t.1)
run_tells s j (Some (Unexpected k)) t run = absurd (at_grown (IsExpected s) j k (local_of_run s j run).expected t.2)
run_tells s j (Some (Unended i)) t run = absurd (t.3.opening ((local_of_run s j run).over i t.3.post t.3.posted))

open_one : {F A : Type 0} (s : Setting F A) (j : List Entry) (k l : ℕ) → IsFirstOpen s j k → IsFirstOpen s j l →
    k ≡ l
open_one s j k l a b = elim (cases_lt k l) [
  | inl m ↦ absurd (a.opening (b.before k a.post m a.posted))
  | inr m ↦ elim (cases_lt l k) [
    | inl n ↦ absurd (b.opening (a.before l b.post n b.posted))
    | inr n ↦ omega arith
  ]
]

-- a list has one answer
pub tells_one : {F A : Type 0} (s : Setting F A) (j : List Entry) (a b : Option Broken) → Tells s j a →
    Tells s j b → a ≡ b
tells_one s j None b t u = sym (run_tells s j b u t)
tells_one s j (Some (Order k)) None t u = run_tells s j (Some (Order k)) t u
tells_one s j (Some (Order k)) (Some (Order l)) t u =
    ap (λ n. Some (Order n)) (breaks_at_one (IsOrderly s.shards) j k l t u)
tells_one s j (Some (Order k)) (Some (Reply l)) t u = absurd (order_broken s.shards j k u.0 t)
tells_one s j (Some (Order k)) (Some (Unexpected l)) t u = absurd (order_broken s.shards j k u.0 t)
tells_one s j (Some (Order k)) (Some (Unended l)) t u = absurd (order_broken s.shards j k u.0 t)
tells_one s j (Some (Reply k)) None t u = run_tells s j (Some (Reply k)) t u
tells_one s j (Some (Reply k)) (Some (Order l)) t u = absurd (order_broken s.shards j l t.0 u)
tells_one s j (Some (Reply k)) (Some (Reply l)) t u =
    ap (λ n. Some (Reply n)) (breaks_at_one IsTrueReply j k l t.1 u.1)
tells_one s j (Some (Reply k)) (Some (Unexpected l)) t u = absurd (reply_broken j k u.1 t.1)
tells_one s j (Some (Reply k)) (Some (Unended l)) t u = absurd (reply_broken j k u.1 t.1)
tells_one s j (Some (Unexpected k)) None t u = run_tells s j (Some (Unexpected k)) t u
tells_one s j (Some (Unexpected k)) (Some (Order l)) t u = absurd (order_broken s.shards j l t.0 u)
tells_one s j (Some (Unexpected k)) (Some (Reply l)) t u = absurd (reply_broken j l t.1 u.1)
tells_one s j (Some (Unexpected k)) (Some (Unexpected l)) t u =
    ap (λ n. Some (Unexpected n)) (breaks_at_one (IsExpected s) j k l t.2 u.2)
tells_one s j (Some (Unexpected k)) (Some (Unended l)) t u = absurd (at_grown (IsExpected s) j k u.2 t.2)
tells_one s j (Some (Unended k)) None t u = run_tells s j (Some (Unended k)) t u
tells_one s j (Some (Unended k)) (Some (Order l)) t u = absurd (order_broken s.shards j l t.0 u)
tells_one s j (Some (Unended k)) (Some (Reply l)) t u = absurd (reply_broken j l t.1 u.1)
tells_one s j (Some (Unended k)) (Some (Unexpected l)) t u = absurd (at_grown (IsExpected s) j l t.2 u.2)
tells_one s j (Some (Unended k)) (Some (Unended l)) t u = ap (λ n. Some (Unended n)) (open_one s j k l t.3 u.3)

-- an answer that tells so is the only one
pub tells_exactly : {F A : Type 0} (s : Setting F A) (j : List Entry) (a : Option Broken) → Tells s j a →
    (b : Option Broken) → (a ≡ b → Tells s j b) × (Tells s j b → a ≡ b)
tells_exactly s j a t b = (λ q. subst (Tells s j) q t, λ u. tells_one s j a b t u)
