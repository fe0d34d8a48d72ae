-- The laws of tables that a store's map has.
use Rattle.std.proofs.Common.{◌≡◌, ℕ, Bool, true, false, cond, Option, Some, None, refl, ap, sym, ◌∙◌, subst}
use Rattle.std.specs.Option.{option_map}
use Rattle.std.proofs.lemmas.Option.{same_Some}
use Rattle.slnf_access.specs.declared.requests.Held.{Held}
use Rattle.slnf_access.specs.Map.{Cells, empty}
use Rattle.slnf_run.specs.Tables.{number_in, IsTable, with_value}

-- A test that tells keys apart, and numbers that do so in range.
pub record IsKeyed {K : Type 0} (number : K → ℕ) (Fits : K → Type 0) (is_same : K → K → Bool) : Type 0 where
  pub same : (a b : K) → is_same a b ≡ true → a ≡ b
  pub itself : (a : K) → is_same a a ≡ true
  pub apart : (a b : K) → Fits a → Fits b → number a ≡ number b → a ≡ b

module _ {K V : Type 0} (number : K → ℕ) (Fits : K → Type 0) (value : V → ℕ) where
  pub table_empty : IsTable number Fits value (λ key. None) empty
  table_empty = record { at_key = λ key fits. refl }

  -- a map that has the same everywhere has the table
  pub table_stays : (table : K → Option V) (cells next : Cells) → ((k : ℕ) → next k ≡ cells k) →
      IsTable number Fits value table cells → IsTable number Fits value table next
  table_stays table cells next equal has = record {
    at_key = λ key fits. has.at_key key fits
        ∙ ap number_in (sym (equal (number key)));
  }

  -- what a key hasn't in the map it hasn't in the table
  pub table_none : (table : K → Option V) (cells : Cells) (key : K) → Fits key →
      IsTable number Fits value table cells → cells (number key) ≡ None → table key ≡ None
  table_none table cells key fits has none = go (table key) refl (has.at_key key fits ∙ ap number_in none)
    where
      go : (o : Option V) → table key ≡ o → option_map value o ≡ None → o ≡ None
      go None w h = refl
      go (Some v) w h = absurd (cc)

  -- and what it has there it has in the table
  pub table_some : (of : ℕ → Option V) → ((v : V) → of (value v) ≡ Some v) →
      (table : K → Option V) (cells : Cells) (key : K) (held : Held) → Fits key →
      IsTable number Fits value table cells → cells (number key) ≡ Some held → table key ≡ of held.value.0
  table_some of reads table cells key held fits has there = go (table key) (has.at_key key fits ∙ ap number_in there)
    where
      go : (o : Option V) → option_map value o ≡ Some held.value.0 → o ≡ of held.value.0
      go None h = absurd (cc)
      go (Some v) h = sym (reads v) ∙ ap of (same_Some (value v) held.value.0 h)

  -- what is read of the map is in the table
  pub table_has : (of : ℕ → Option V) → ((v : V) → of (value v) ≡ Some v) →
      (table : K → Option V) (cells : Cells) (key : K) (held : Held) → Fits key →
      IsTable number Fits value table cells → cells (number key) ≡ Some held → (v : V) × (table key ≡ Some v)
      × (of held.value.0 ≡ Some v)
  table_has of reads table cells key held fits has there =
      go (table key) refl (has.at_key key fits ∙ ap number_in there)
    where
      go : (o : Option V) → table key ≡ o → option_map value o ≡ Some held.value.0 → (v : V) × (table key ≡ Some v)
          × (of held.value.0 ≡ Some v)
      go None w h = absurd (cc)
      go (Some v) w h = (v, w, ap of (sym (same_Some (value v) held.value.0 h)) ∙ reads v)

  -- a map that has a new value under one key alone has the table with it
  pub table_written : (is_same : K → K → Bool) → IsKeyed number Fits is_same →
      (table : K → Option V) (cells next : Cells) (key : K) (v : V) → Fits key →
      ((k : ℕ) → (number key ≡ k → ⊥) → next k ≡ cells k) → number_in (next (number key)) ≡ Some (value v) →
      IsTable number Fits value table cells → IsTable number Fits value (with_value is_same table key v) next
  table_written is_same keyed table cells next key v fits stays now has =
      record { at_key = λ other other_fits. at other other_fits (is_same other key) refl }
    where
      at : (other : K) → Fits other → (b : Bool) → is_same other key ≡ b →
          option_map value (cond b (Some v) (table other)) ≡ number_in (next (number other))
      at other other_fits true w = sym now ∙ ap (λ k. number_in (next (number k))) (sym (keyed.same other key w))
      at other other_fits false w =
          has.at_key other other_fits ∙ ap number_in
          (sym (stays (number other) (λ h. let one : other ≡ key =
          sym (keyed.apart key other fits other_fits h) in let yes : is_same other key ≡ true =
          subst (λ k. is_same other k ≡ true) one (keyed.itself other) in cc)))
