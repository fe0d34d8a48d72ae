-- The laws of tables that are read of a store's map.
use Rattle.std.proofs.Common.{◌≡◌, ℕ, Bool, true, false, cond, Option, Some, None, refl, ap, sym, ◌∙◌, subst}
use Rattle.std.specs.Option.{option_and_then}
use Rattle.slnf_access.specs.declared.requests.Held.{Held}
use Rattle.slnf_access.specs.Map.{Cells, empty}
use Rattle.slnf_run.specs.Tables.{number_in, IsRead, with_value}
use Rattle.slnf_run.proofs.Tables.{IsKeyed}

module _ {K V : Type 0} (number : K → ℕ) (Fits : K → Type 0) (of : ℕ → Option V) where
  pub read_empty : IsRead number Fits of (λ key. None) empty
  read_empty = record { agrees = λ key fits. refl; whole = λ key fits none. refl }

  -- a map that has the same everywhere has the table
  pub read_stays : (table : K → Option V) (cells next : Cells) → ((k : ℕ) → next k ≡ cells k) →
      IsRead number Fits of table cells → IsRead number Fits of table next
  read_stays table cells next equal has = record {
    agrees = λ key fits. has.agrees key fits ∙ ap (λ cell. option_and_then of (number_in cell))
        (sym (equal (number key)));
    whole = λ key fits none. equal (number key) ∙ has.whole key fits none;
  }

  -- what a key hasn't in the map it hasn't in the table
  pub read_none : (table : K → Option V) (cells : Cells) (key : K) → Fits key → IsRead number Fits of table cells →
      cells (number key) ≡ None → table key ≡ None
  read_none table cells key fits has none = has.agrees key fits
      ∙ ap (λ cell. option_and_then of (number_in cell)) none

  -- and what it has there is read of its number
  pub read_has : (table : K → Option V) (cells : Cells) (key : K) (held : Held) → Fits key →
      IsRead number Fits of table cells → cells (number key) ≡ Some held → (v : V) × (table key ≡ Some v)
      × (of held.value.0 ≡ Some v)
  read_has table cells key held fits has there = go (table key) refl (of held.value.0) refl
    where
      at : table key ≡ of held.value.0
      at = has.agrees key fits ∙ ap (λ cell. option_and_then of (number_in cell)) there

      go : (o : Option V) → table key ≡ o → (r : Option V) → of held.value.0 ≡ r → (v : V) × (table key ≡ Some v)
          × (of held.value.0 ≡ Some v)
      go None w r u = let none : cells (number key) ≡ None = has.whole key fits w in
          absurd (let no : None ≡ Some held = sym none ∙ there in cc)
      go (Some v) w r u = (v, w, sym at ∙ w)

  -- a map that has a new value under one key alone, which is read, has the table with it
  pub read_written : (is_same : K → K → Bool) → IsKeyed number Fits is_same →
      (table : K → Option V) (cells next : Cells) (key : K) (v : V) → Fits key →
      ((k : ℕ) → (number key ≡ k → ⊥) → next k ≡ cells k) → option_and_then of (number_in (next (number key)))
      ≡ Some v → IsRead number Fits of table cells → IsRead number Fits of (with_value is_same table key v) next
  read_written is_same keyed table cells next key v fits stays now has = record {
    agrees = λ other other_fits. agrees other other_fits (is_same other key) refl;
    whole = λ other other_fits none. whole other other_fits (is_same other key) refl none;
  }
    where
      stay : (other : K) → Fits other → is_same other key ≡ false → next (number other) ≡ cells (number other)
      stay other other_fits w =
          stays (number other) (λ h.
          let one : other ≡ key = sym (keyed.apart key other fits other_fits h) in
          let yes : is_same other key ≡ true = subst (λ k. is_same other k ≡ true) one (keyed.itself other) in
          cc)

      agrees : (other : K) → Fits other → (b : Bool) → is_same other key ≡ b → cond b (Some v) (table other)
          ≡ option_and_then of (number_in (next (number other)))
      agrees other other_fits true w = sym now ∙ ap (λ k. option_and_then of (number_in (next (number k))))
          (sym (keyed.same other key w))
      agrees other other_fits false w = has.agrees other other_fits
          ∙ ap (λ cell. option_and_then of (number_in cell)) (sym (stay other other_fits w))

      whole : (other : K) → Fits other → (b : Bool) → is_same other key ≡ b → cond b (Some v) (table other) ≡ None →
          next (number other) ≡ None
      whole other other_fits true w none = absurd (cc)
      whole other other_fits false w none = stay other other_fits w ∙ has.whole other other_fits none
