-- The active backends of an epoch, one place after another.
use Rattle.std.proofs.Common.{◌≡◌, ℕ, suc, ◌+◌, ◌<◌, true, ◌&&◌, IsTrue, Some, List, [], ◌∷◌, ◌++◌, drop, length, get_or, slice_get, sym, ap, ◌∙◌, append_assoc, arith}
use Rattle.std.proofs.Math.Seq.{drop-cons}
use Rattle.std.specs.List.{cons_option}
use Rattle.std.specs.List.{list_all}
use Rattle.std.proofs.lemmas.List.Folds.{list_all-append}
use Rattle.slnf_base.specs.declared.addresses.Pair.{Pair}
use Rattle.slnf_base.specs.declared.plans.Service.{Service}
use Rattle.slnf_base.specs.Ranges.{is_pair}
use Rattle.slnf_flight.specs.LbPlan.{backends_at}

-- one more place
pub active_more : (service : Service) (places : List ℕ) (i : ℕ) (items more : List Pair) (x : Pair) →
    i < length places → slice_get service.backends (get_or places i 0) ≡ Some x → more ≡ items ++ x ∷ [] →
    items ++ backends_at service (drop i places) ≡ backends_at service places →
    more ++ backends_at service (drop (i + 1) places) ≡ backends_at service places
active_more service places i items more x l there is h =
    let front : drop i places ≡ get_or places i 0 ∷ drop (suc i) places = drop-cons places i 0 l in
    let next : suc i ≡ i + 1 = omega arith in
    let split : get_or places i 0 ∷ drop (i + 1) places ≡ drop i places =
    ap (λ k. get_or places i 0 ∷ drop k places) (sym next) ∙ sym front in
    ap (λ m. m ++ backends_at service (drop (i + 1) places)) is
    ∙ (append_assoc items (x ∷ []) (backends_at service (drop (i + 1) places))
    ∙ (ap (λ o. items ++ cons_option o (backends_at service (drop (i + 1) places))) (sym there)
    ∙ (ap (λ l. items ++ backends_at service l) split
    ∙ h)))

-- and its backend is in range
pub pairs_more : (items more : List Pair) (x : Pair) → IsTrue (is_pair x) → more ≡ items ++ x ∷ [] →
    IsTrue (list_all is_pair items) → IsTrue (list_all is_pair more)
pairs_more items more x fits is h =
    ap (list_all is_pair) is
    ∙ (list_all-append is_pair items (x ∷ []) ∙ (ap (λ b. b && (is_pair x && true)) h ∙ ap (λ b. b && true) fits))
