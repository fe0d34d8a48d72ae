-- for the tests: four asks of the items 4, 2, 3 and 1
use Rattle.std.proofs.Common.{◌≡◌, [], ◌∷◌, arith}
use Rattle.std.proofs.lemmas.List.Elements.{All-cons, All-nil}
use Rattle.slnf_access.specs.declared.requests.Ask.{Ask}
use Rattle.slnf_batch.specs.Order.{ItemsDiffer}
use Rattle.slnf_batch.proofs.Laws.{ItemsDiffer-cons, ItemsDiffer-nil}

abbrev Other : Ask → Ask → Type 0
Other ask other = ¬ (ask.item ≡ other.item)

pub four_differ : (a b c d : Ask) → a.item ≡ 4 → b.item ≡ 2 → c.item ≡ 3 → d.item ≡ 1 →
    ItemsDiffer (a ∷ b ∷ c ∷ d ∷ [])
four_differ a b c d ea eb ec ed =
    let bd : Other b d = λ e. omega arith in
    let bc : Other b c = λ e. omega arith in
    let cd : Other c d = λ e. omega arith in
    let ab : Other a b = λ e. omega arith in
    let ac : Other a c = λ e. omega arith in
    let ad : Other a d = λ e. omega arith in
    ItemsDiffer-cons a (b ∷ c ∷ d ∷ [])
    (All-cons (Other a) b (c ∷ d ∷ []) ab
    (All-cons (Other a) c (d ∷ []) ac (All-cons (Other a) d [] ad (All-nil (Other a)))))
    (ItemsDiffer-cons b (c ∷ d ∷ [])
    (All-cons (Other b) c (d ∷ []) bc (All-cons (Other b) d [] bd (All-nil (Other b))))
    (ItemsDiffer-cons c (d ∷ []) (All-cons (Other c) d [] cd (All-nil (Other c)))
    (ItemsDiffer-cons d [] (All-nil (Other d)) ItemsDiffer-nil)))
