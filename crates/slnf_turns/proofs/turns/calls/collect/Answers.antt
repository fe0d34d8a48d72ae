use Rattle.std.proofs.Common.{rules, ◌≡◌, ℕ, ◌+◌, false, Some, sym, ap, ◌∙◌, subst, arith, get_or, set, get_or-set_other}
use mathlib.Core.Option.{some}
use mathlib.Core.Logic.{dite}
use native.Mathlib.Decide.{ℕ_discrete}
use lib.ListN.{get_elem?}
use Rattle.std.specs.Slots.{slots_items, slots_filled}
use Rattle.slnf_turns.proofs.Lists.{one_at}
use Rattle.slnf_turns.proofs.Items.{emptied, more_back}
use Rattle.slnf_turns.proofs.turns.calls.collect.Goals as goal

pub unwrap-requires : goal.unwrap-requires
unwrap-requires g c = let k = c.loop-k.k in
    let v = c.requires.values k (let l = c.loop-k.invariant.2 in let n = c.slot_count-count.ensures in search rules) in
    let is : c.take.result ≡ Some v.0 =
    one_at _ k _ _ c.take.ensures.value (ap (λ l. get_elem? l k) c.loop-k.invariant.1 ∙ v.1) in
    search rules

pub loop-k-preserved : goal.loop-k-preserved
loop-k-preserved g c = let k = c.loop-k.k in let i = c.loop-k.invariant in
    let t = c.take.ensures in
    let p = c.push_reserved.ensures in
    let fs = slots_filled c.loop-k.closed.slots in
    let at : get_elem? (slots_items c.args.closed.now.slots) k ≡ some (Some c.unwrap.result) =
    sym (ap (λ l. get_elem? l k) i.1) ∙ (t.value ∙ ap some c.unwrap.ensures) in (
      more_back _ _ _ k c.unwrap.result i.0 at p.items,
      t.others.0 ∙ i.1,
      t.others.2 ∙ i.2,
      p.len ∙ ap (λ (n : ℕ). n + 1) i.3,
      p.capacity ∙ i.4,
      λ j low high. ap (λ l. get_or l j false) t.others.1
          ∙ (get_or-set_other fs k j false false (λ e. omega arith) ∙ i.5 j (omega arith) high),
      λ j low. ap (λ l. get_or l j false) t.others.1
          ∙ dite (ℕ_discrete j k) (λ e. subst (λ (n : ℕ). get_or (set fs k false) n false ≡ false) (sym e) (emptied fs k))
          (λ other. get_or-set_other fs k j false false other ∙ i.6 j (omega arith)),
    )
