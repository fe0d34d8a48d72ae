-- Where items stand when entries are added.
use Rattle.std.proofs.Common.{◌≡◌, inl, inr, ℕ, ◌<◌, ◌≤◌, ◌==◌, List, [], ◌∷◌, ◌++◌, sym, refl, ap, ◌∙◌, eq-eqb, ne_eqb}
use Rattle.std.proofs.lemmas.Bool.{cases_eq, cases_lt, cond-true, cond-false}
use Rattle.std.proofs.lemmas.List.Elements.{filter-append}
use Rattle.slnf_access.specs.declared.requests.Entry.{Entry}
use Rattle.slnf_access.specs.Machines.{stand_step, stand_after}
use Rattle.slnf_access.proofs.Laws.{stand_after-append}
use Rattle.slnf_run.specs.Setting.{Setting}
use Rattle.slnf_run.specs.Scene.{is_of, own_of, stand_of}
use Rattle.slnf_run.specs.Parts.{part_of, of_item}
use Rattle.slnf_run.proofs.Parting.{part_of-own, part_of-other, own_of_part}
use Rattle.std.specs.List.{AllByRecursion}

-- the same for an item's entries
pub of_item-own : (item : ℕ) (e : Entry) (es : List Entry) → e.item ≡ item → of_item item (e ∷ es)
    ≡ e ∷ of_item item es
of_item-own item e es h = cond-true (e.item == item) (e ∷ of_item item es) (of_item item es) (eq-eqb e.item item h)

pub of_item-other : (item : ℕ) (e : Entry) (es : List Entry) → (e.item ≡ item → ⊥) → of_item item (e ∷ es)
    ≡ of_item item es
of_item-other item e es h = cond-false (e.item == item) (e ∷ of_item item es) (of_item item es) (ne_eqb e.item item h)

-- where an item stands after two lists, one after the other
pub stand_of-append : {F A : Type 0} (s : Setting F A) (incarnation item : ℕ) (xs ys : List Entry) →
    stand_of s.scene incarnation item (xs ++ ys)
    ≡ stand_after (s.scene.machine incarnation) (stand_of s.scene incarnation item xs)
    (of_item item (part_of incarnation ys))
stand_of-append s incarnation item xs ys =
    ap (stand_after (s.scene.machine incarnation) (s.scene.begins incarnation item))
    (filter-append (is_of incarnation item) xs ys)
    ∙ (stand_after-append (s.scene.machine incarnation) (s.scene.begins incarnation item) (own_of incarnation item xs)
    (own_of incarnation item ys)
    ∙ ap (stand_after (s.scene.machine incarnation) (stand_of s.scene incarnation item xs))
    (own_of_part incarnation item ys))

-- the entries of an item's own in a list of one
pub own_of_one : (incarnation item : ℕ) (e : Entry) → e.incarnation ≡ incarnation → e.item ≡ item →
    of_item item (part_of incarnation (e ∷ [])) ≡ e ∷ []
own_of_one incarnation item e h k = ap (of_item item) (part_of-own incarnation e [] h) ∙ of_item-own item e [] k

-- an own entry takes an item one step on
pub stand_of-own : {F A : Type 0} (s : Setting F A) (incarnation item : ℕ) (es : List Entry) (e : Entry) →
    e.incarnation ≡ incarnation → e.item ≡ item → stand_of s.scene incarnation item (es ++ e ∷ [])
    ≡ stand_step (s.scene.machine incarnation) (stand_of s.scene incarnation item es) e
stand_of-own s incarnation item es e h k =
    stand_of-append s incarnation item es (e ∷ [])
    ∙ ap (stand_after (s.scene.machine incarnation) (stand_of s.scene incarnation item es))
    (own_of_one incarnation item e h k)

-- an entry of another incarnation leaves an item where it stood
pub stand_of-other : {F A : Type 0} (s : Setting F A) (incarnation item : ℕ) (es : List Entry) (e : Entry) →
    (e.incarnation ≡ incarnation → ⊥) → stand_of s.scene incarnation item (es ++ e ∷ [])
    ≡ stand_of s.scene incarnation item es
stand_of-other s incarnation item es e h =
    stand_of-append s incarnation item es (e ∷ [])
    ∙ ap (λ l. stand_after (s.scene.machine incarnation) (stand_of s.scene incarnation item es) (of_item item l))
    (part_of-other incarnation e [] h)

-- and so does an entry of another item
pub stand_of-other_item : {F A : Type 0} (s : Setting F A) (incarnation item : ℕ) (es : List Entry) (e : Entry) →
    e.incarnation ≡ incarnation → (e.item ≡ item → ⊥) → stand_of s.scene incarnation item (es ++ e ∷ [])
    ≡ stand_of s.scene incarnation item es
stand_of-other_item s incarnation item es e h k =
    stand_of-append s incarnation item es (e ∷ [])
    ∙ ap (stand_after (s.scene.machine incarnation) (stand_of s.scene incarnation item es))
    (ap (of_item item) (part_of-own incarnation e [] h) ∙ of_item-other item e [] k)

-- where no entry is of an incarnation from this one on, each is of one before
pub each_before : (from : ℕ) (es : List Entry) → ((i : ℕ) → from ≤ i → part_of i es ≡ []) →
    AllByRecursion (λ e. e.incarnation < from) es
each_before from [] h = tt
each_before from (e ∷ es) h = (
  elim (cases_lt e.incarnation from) [
    | inl l ↦ l
    | inr l ↦ let q : e ∷ part_of e.incarnation es ≡ [] = sym (part_of-own e.incarnation e es refl)
        ∙ h e.incarnation l in absurd (cc)
  ],
  each_before from es (λ i l. elim (cases_eq e.incarnation i) [
    | inr n ↦ sym (part_of-other i e es n) ∙ h i l
    | inl mine ↦ let q : e ∷ part_of i es ≡ [] = sym (part_of-own i e es mine) ∙ h i l in absurd (cc)
  ]),
)
