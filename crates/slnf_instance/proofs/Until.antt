-- The offers up to a batch: those of earlier batches and its own.
use Rattle.std.proofs.Common.{◌≡◌, ℕ, suc, ◌+◌, ◌<◌, ◌≤◌, true, false, nat_le, List, [], ◌∷◌, ◌++◌, length, filter, sym, ap, refl, ◌∙◌, arith}
use Rattle.std.specs.List.{AllByRecursion}
use Rattle.std.proofs.lemmas.Bool.{cond-true, cond-false}
use Rattle.std.proofs.lemmas.Bool.Decides.{nat_tests}
use Rattle.slnf_run.specs.Jobs.{Offer, one_batch}

-- the offers up to this batch
abbrev pub up_to : ℕ → List Offer → List Offer
up_to number offers = filter (λ offer. nat_le offer.batch number) offers

up_go : (number : ℕ) (later : List Offer) → AllByRecursion (λ offer. number + 1 ≤ offer.batch) later →
    up_to number later ≡ []
up_go number [] h = refl
up_go number (x ∷ later) h =
    let l : number + 1 ≤ x.batch = h.0 in
    let no : nat_le x.batch number ≡ false = grind (arith, nat_tests) in
    cond-false (nat_le x.batch number) (x ∷ up_to number later) (up_to number later) no ∙ up_go number later h.1

up_batch : (number : ℕ) (items : List ℕ) (later : List Offer) →
    AllByRecursion (λ offer. number + 1 ≤ offer.batch) later →
    length (up_to number (one_batch number items ++ later)) ≡ length items
up_batch number [] later h = ap length (up_go number later h)
up_batch number (item ∷ items) later h =
    let yes : nat_le number number ≡ true = grind (arith, nat_tests) in
    ap length (cond-true (nat_le number number)
    (record { item = item; batch = number } ∷ up_to number (one_batch number items ++ later))
    (up_to number (one_batch number items ++ later)) yes)
    ∙ ap suc (up_batch number items later h)

-- how many offers there are up to a batch
pub up_to-batch : (number : ℕ) (earlier : List Offer) (items : List ℕ) (later : List Offer) →
    AllByRecursion (λ offer. offer.batch < number) earlier →
    AllByRecursion (λ offer. number + 1 ≤ offer.batch) later →
    length (up_to number (earlier ++ (one_batch number items ++ later))) ≡ length earlier + length items
up_to-batch number [] items later k h =
    let q : 0 + length items ≡ length items = omega arith in up_batch number items later h ∙ sym q
up_to-batch number (x ∷ earlier) items later k h =
    let l : x.batch < number = k.0 in
    let yes : nat_le x.batch number ≡ true = grind (arith, nat_tests) in
    let r : length (up_to number (earlier ++ (one_batch number items ++ later))) ≡ length earlier + length items =
    up_to-batch number earlier items later k.1 h in
    let q : suc (length earlier + length items) ≡ suc (length earlier) + length items = omega arith in
    ap length (cond-true (nat_le x.batch number) (x ∷ up_to number (earlier ++ (one_batch number items ++ later)))
    (up_to number (earlier ++ (one_batch number items ++ later))) yes)
    ∙ (ap suc r ∙ q)
