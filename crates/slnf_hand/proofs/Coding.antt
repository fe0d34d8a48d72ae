-- What the code's steps do to its lists.
use Rattle.std.proofs.Common.{◌≡◌, ℕ, List, Option, Some, get_or, slice_get, sym, ◌∙◌}
use Rattle.std.proofs.lemmas.Option.{slice_get-get_or, slice_get_within, same_Some}

pub same_slot : {F : Type 0} (items : List (Option F)) (place : ℕ) (flight : F) (now slot : Option F) (u : F) →
    slice_get items place ≡ Some (Some flight) → now ≡ get_or items place now → slot ≡ now → slot ≡ Some u →
    u ≡ flight
same_slot items place flight now slot u there at is some =
    let l = slice_get_within items place (Some flight) there in
    let e : get_or items place now ≡ Some flight = same_Some _ _ (sym (slice_get-get_or items place now l) ∙ there) in
    same_Some u flight (sym some ∙ (is ∙ (at ∙ e)))
