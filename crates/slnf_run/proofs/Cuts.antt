-- A list split at one of its entries, by its number.
use Rattle.std.proofs.Common.{◌≡◌, ℕ, suc, Some, List, ◌∷◌, ◌++◌, length, take, drop, slice_get, ap, sym, ◌∙◌}
use Rattle.std.proofs.lemmas.Option.{slice_get_within, same_Some}
use Rattle.slnf_access.specs.declared.requests.Entry.{Entry}
use Rattle.slnf_run.proofs.Splits.{IsSplit, split_at}

-- a list split at one of its entries, by its number
pub whole_at : (es : List Entry) (t : ℕ) (e : Entry) → slice_get es t ≡ Some e →
    (es ≡ take t es ++ e ∷ drop (suc t) es) × (length (take t es) ≡ t)
whole_at es t e h =
    let r : (f : Entry) × IsSplit es t f = split_at es t (slice_get_within es t e h) in
    let same : r.0 ≡ e = same_Some r.0 e (sym r.1.at ∙ h) in
    (r.1.whole ∙ ap (λ f. take t es ++ f ∷ drop (suc t) es) same, r.1.size)
