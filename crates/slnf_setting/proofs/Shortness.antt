-- A machine of which each step makes a flight smaller makes few accesses.
use Rattle.slnf_base.specs.declared.packets.Verdict.{Verdict}
use Rattle.std.proofs.Common.{◌≡◌, ℕ, suc, ◌≤◌, true, Option, List, [], ◌∷◌, length, filter, refl, ap, subst, arith}
use Rattle.slnf_access.specs.declared.requests.Entry.{Entry}
use Rattle.slnf_access.specs.declared.requests.Reply.{Reply}
use Rattle.slnf_access.specs.Machines.{Machine, Stand, Flies, Ends, IsPath}
use Rattle.slnf_run.specs.Scene.{own_of}
use Rattle.slnf_run.specs.Items.{Item, is_of_items, sum_over, Covers}
use Rattle.slnf_access.proofs.Elements.{each-weaker}
use Rattle.slnf_run.proofs.Counting.{count_sum}
use Rattle.slnf_setting.specs.Bound.{AreOf}

-- the size of where an item stands
abbrev pub size_at : {F : Type 0} → (F → ℕ) → Stand F → ℕ
size_at size (Flies flight) = size flight
size_at size (Ends end) = 0

pub path_short : {F : Type 0} (m : Machine F) (size : F → ℕ)
    → ((flight : F) (reply : Reply) → suc (size_at size (m.goes flight reply)) ≤ size flight) → (st : Stand F)
    (own : List Entry) → IsPath m st own → length own ≤ size_at size st
path_short m size falls st [] h = omega arith
path_short m size falls (Flies flight) (e ∷ own) h =
    let fall : suc (size_at size (m.goes flight e.reply)) ≤ size flight = falls flight e.reply in
    let rest : length own ≤ size_at size (m.goes flight e.reply) = path_short m size falls
    (m.goes flight e.reply) own h.1 in
    omega arith
path_short m size falls (Ends end) (e ∷ own) h = absurd h.0

-- an item that has ended makes none
pub ended_short : {F : Type 0} (m : Machine F) (end : Option Verdict) (own : List Entry) → IsPath m (Ends end) own
    → length own ≤ 0
ended_short m end [] h = omega arith
ended_short m end (e ∷ own) h = absurd h.0

pub le_trans : (a b c : ℕ) → a ≤ b → b ≤ c → a ≤ c
le_trans a b c h k = omega arith

all_pass : (es : List Entry) → filter (λ e. true) es ≡ es
all_pass [] = refl
all_pass (e ∷ es) = ap (λ l. e ∷ l) (all_pass es)

-- a list of items is at most the sum of what each of these makes
pub total_by : (most : ℕ → ℕ → ℕ) (items : List Item) (es : List Entry) → AreOf items es
    → ((i k : ℕ) → length (own_of i k es) ≤ most i k) → length es ≤ sum_over most items
total_by most items es among each =
    let covers : Covers (λ e. true) items es = each-weaker (λ e. is_of_items items e ≡ true)
    (λ e. true ≡ true → is_of_items items e ≡ true) (λ e h t. h) es among in
    subst (λ n. n ≤ sum_over most items) (ap length (all_pass es))
    (count_sum most items (λ e. true) es covers (λ item. each item.incarnation item.number))
