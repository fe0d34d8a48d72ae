-- Items, and how many have entries of a kind.
use Rattle.std.specs.Prelude.{◌≡◌, ℕ, ◌+◌, Bool, true, not, ◌&&◌, ◌==◌, if◌then◌else◌, List, [], ◌∷◌}
use Rattle.std.specs.List.{list_any, AllByRecursion}
use Rattle.slnf_access.specs.declared.requests.Entry.{Entry}
use Rattle.slnf_access.specs.Map.{key_of}
use Rattle.slnf_run.specs.Scene.{is_of}

-- An incarnation's item.
pub record Item : Type 0 where
  pub incarnation : ℕ
  pub number : ℕ

-- the entry is of this item
abbrev pub is_item : Item → Entry → Bool
is_item item e = is_of item.incarnation item.number e

-- the entry is of one of these items
abbrev pub is_of_items : List Item → Entry → Bool
is_of_items items e = list_any (λ item. is_item item e) items

-- the entries that pass the test are of these items
abbrev pub Covers : (Entry → Bool) → List Item → List Entry → Type 0
Covers test items es = AllByRecursion (λ e. test e ≡ true → is_of_items items e ≡ true) es

-- the entry is on the key, and not of this item
abbrev pub is_other_on : ℕ → ℕ → ℕ → Entry → Bool
is_other_on key incarnation item e = (key_of e.request == key) && not (is_of incarnation item e)

-- these items and the entry's
abbrev pub with_item_of : Entry → List Item → List Item
with_item_of e items = if is_of_items items e then items else record {
  incarnation = e.incarnation;
  number =
      e.item;
} ∷ items

-- the items of the entries that pass the test, each once
abbrev pub items_of : (Entry → Bool) → List Entry → List Item
items_of test [] = []
items_of test (e ∷ es) = if test e then with_item_of e (items_of test es) else items_of test es

-- the sum over these items
abbrev pub sum_over : (ℕ → ℕ → ℕ) → List Item → ℕ
sum_over most [] = 0
sum_over most (item ∷ items) = most item.incarnation item.number + sum_over most items

-- each of these items has this
abbrev pub EachItem : (ℕ → ℕ → Type 0) → List Item → Type 0
EachItem P [] = Unit {0}
EachItem P (item ∷ items) = P item.incarnation item.number × EachItem P items
