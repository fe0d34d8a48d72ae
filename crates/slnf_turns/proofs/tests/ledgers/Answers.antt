use Rattle.std.proofs.Common.{◌≡◌, ℕ, vec_len, map, length, refl, sym, ap, ◌∙◌, subst, rules, arith, length-append, List, [], ◌∷◌, ◌++◌}
use Rattle.slnf_turns.specs.declared.tests.Ledger.{Ledger}
use Rattle.slnf_turns.specs.Views.{number_line}
use Rattle.slnf_turns.specs.Values.{AreFresh}
use Rattle.slnf_turns.proofs.Laws.{fresh_more}
use Rattle.slnf_turns.proofs.tests.ledgers.Goals as goal

pub loop-place-preserved : goal.loop-place-preserved
loop-place-preserved c =
    let old = c.loop-place.values.items in
    let i = c.loop-place.invariant in
    let b : Ledger = record { place = c.loop-place.place; lines = c.new.result } in
    let grown : c.push.new.self.items ≡ old ++ b ∷ [] = c.in_ok-push.ensures.items in (
      ap (λ l. length l) grown ∙ (let h = length-append old (b ∷ []) in let k = i.0 in omega arith),
      subst (AreFresh (λ (ledger : Ledger). map (λ line. number_line line.0 line.1) ledger.lines.items)
          (λ ledger. ledger.place) (λ _. 3) 3) (sym grown)
          (fresh_more (λ (ledger : Ledger). map (λ line. number_line line.0 line.1) ledger.lines.items)
          (λ ledger. ledger.place) (λ _. 3) 3 old b i.1
          (ap (λ (l : List (ℕ × ℕ)). map (λ line. number_line line.0 line.1) l) c.new.ensures.items) (sym i.0) refl),
    )

pub returns-clause-fresh : goal.returns-clause-fresh
returns-clause-fresh c = λ k b e. let h = c.loop-place.invariant.1 k b e in
    let three : vec_len c.loop-place.values ≡ 3 = search rules in
    (h.0, h.1, sym three)
