-- What a key may have as its value, and the one rule by which any table is checked: first the keys that
-- aren't listed for it, and then its own keys, in order.
use Rattle.std.specs.Prelude.{ℕ, ◌+◌, zero, suc, ℤ, pos, negsuc, Bool, false, not, ◌&&◌, nat_lt, nat_le, List, [], ◌∷◌, ◌++◌, length, find, Option, Some, None, Result, Ok, decimal, if◌then◌else◌}
use Rattle.std.specs.List.{list_any}
use Rattle.std.specs.Str.{bytes_eq}
use Rattle.toml.specs.Data.{Data, Items, no_items, item, Members, no_members, member, get_member, as_str, as_integer, as_bool, as_array, as_table}
use Rattle.slnf_plan.specs.declared.refusal.Cause.{Cause}
use Rattle.slnf_plan.specs.declared.refusal.Cause.TheVariants.{MissingKey, UnknownKey, WrongType, OutOfRange}
use Rattle.slnf_plan.specs.declared.refusal.Refusal.{Refusal}
use Rattle.slnf_plan.specs.declared.count.Count.{Count}
use Rattle.slnf_plan.specs.Refusals.{◌>>=◌, refuse, under}

-- ---- values

-- a value of this kind, and then its rule
abbrev pub of_kind : {X A : Type 0} → Option X → (X → Result A Refusal) → Result A Refusal
of_kind None rule = refuse WrongType
of_kind (Some x) rule = rule x

-- what a text stands for
abbrev pub taken : {A : Type 0} → Cause → Option A → Result A Refusal
taken cause None = refuse cause
taken cause (Some x) = Ok x

abbrev pub text : {A : Type 0} → Cause → (List ℕ → Option A) → Data → Result A Refusal
text cause meaning d = of_kind (as_str d) (λ s. taken cause (meaning s))

-- the value that stands beside the word
abbrev pub meaning_in : {A : Type 0} → List (List ℕ × A) → List ℕ → Option A
meaning_in [] word = None
meaning_in (w ∷ ws) word = if bytes_eq w.0 word then Some w.1 else meaning_in ws word

-- one of these words
abbrev pub one_of : {A : Type 0} → List (List ℕ × A) → Data → Result A Refusal
one_of words = text OutOfRange (meaning_in words)

-- a whole number from low on and below the end
abbrev pub ranged : ℕ → ℕ → ℤ → Option ℕ
ranged low end (pos n) = if nat_le low n && nat_lt n end then Some n else None
ranged low end (negsuc n) = None

abbrev pub number : Cause → ℕ → ℕ → Data → Result ℕ Refusal
number cause low end d = of_kind (as_integer d) (λ z. taken cause (ranged low end z))

-- a whole number from low to high
abbrev pub from_to : ℕ → ℕ → Data → Result ℕ Refusal
from_to low high = number OutOfRange low (high + 1)

abbrev pub truth : Data → Result Bool Refusal
truth d = of_kind (as_bool d) (λ b. Ok b)

-- ---- lists

abbrev pub item_count : Items → ℕ
item_count no_items = 0
item_count (item d ds) = suc (item_count ds)

-- The elements in order, each by what it and those before it are.
abbrev pub elements : {A : Type 0} → (List A → Data → Result A Refusal) → List A → Items → Result (List A) Refusal
elements element earlier no_items = Ok earlier
elements element earlier (item d ds) =
    under (decimal (length earlier)) (element earlier d) >>= λ x. elements element (earlier ++ x ∷ []) ds

abbrev pub is_over : Option ℕ → ℕ → Bool
is_over None count = false
is_over (Some most) count = nat_lt most count

abbrev pub if_empty : Option Cause → Result Unit Refusal
if_empty None = Ok tt
if_empty (Some cause) = refuse cause

-- any count, at most so many, and from one to so many
abbrev pub any_count : Count
any_count = record { empty = None; most = None }

abbrev pub at_most : ℕ → Count
at_most most = record { empty = None; most = Some most }

abbrev pub one_to : Cause → ℕ → Count
one_to cause most = record { empty = Some cause; most = Some most }

-- a list may have to have an element, and may have at most so many
abbrev pub counted : Count → ℕ → Result Unit Refusal
counted count zero = if_empty count.empty
counted count (suc n) = if is_over count.most (suc n) then refuse OutOfRange else Ok tt

abbrev pub counted_items : Count → Data → Result Items Refusal
counted_items count d = of_kind (as_array d) (λ ds. counted count (item_count ds) >>= λ _. Ok ds)

abbrev pub list_after : {A : Type 0} → Count → (List A → Data → Result A Refusal) → Data → Result (List A) Refusal
list_after count element d = counted_items count d >>= elements element []

abbrev pub list_of : {A : Type 0} → Count → (Data → Result A Refusal) → Data → Result (List A) Refusal
list_of count element = list_after count (λ _. element)

-- ---- tables

-- the keys of a table, which stand in byte order
abbrev pub names : Members → List (List ℕ)
names no_members = []
names (member k d ms) = k ∷ names ms

abbrev pub is_unlisted : List (List ℕ) → List ℕ → Bool
is_unlisted listed k = not (list_any (λ l. bytes_eq l k) listed)

abbrev pub none_found : Option (List ℕ) → Result Unit Refusal
none_found None = Ok tt
none_found (Some k) = under k (refuse UnknownKey)

-- the first key that isn't listed is refused
abbrev pub known : List (List ℕ) → Members → Result Unit Refusal
known listed ms = none_found (find (is_unlisted listed) (names ms))

-- any table: its keys, and then what they are
abbrev pub checked : {A : Type 0} → List (List ℕ) → (Members → Result A Refusal) → Members → Result A Refusal
checked listed rows ms = known listed ms >>= λ _. rows ms

abbrev pub as_members : Data → Result Members Refusal
as_members d = of_kind (as_table d) Ok

abbrev pub table : {A : Type 0} → List (List ℕ) → (Members → Result A Refusal) → Data → Result A Refusal
table listed rows d = as_members d >>= checked listed rows

-- a key that has to be there
abbrev pub there : {A : Type 0} → Cause → (Data → Result A Refusal) → Option Data → Result A Refusal
there absent kind None = refuse absent
there absent kind (Some d) = kind d

abbrev pub demanded : {A : Type 0} → Cause → List ℕ → (Data → Result A Refusal) → Members → Result A Refusal
demanded absent key kind ms = under key (there absent kind (get_member key ms))

abbrev pub required : {A : Type 0} → List ℕ → (Data → Result A Refusal) → Members → Result A Refusal
required = demanded MissingKey

-- a key that may be missing
abbrev pub if_there : {A : Type 0} → (Data → Result A Refusal) → Option Data → Result (Option A) Refusal
if_there kind None = Ok None
if_there kind (Some d) = kind d >>= λ x. Ok (Some x)

abbrev pub optional : {A : Type 0} → List ℕ → (Data → Result A Refusal) → Members → Result (Option A) Refusal
optional key kind ms = under key (if_there kind (get_member key ms))

-- a key that may be missing, and what stands for it then
abbrev pub or_else : {A : Type 0} → A → (Data → Result A Refusal) → Option Data → Result A Refusal
or_else default kind None = Ok default
or_else default kind (Some d) = kind d

abbrev pub defaulted : {A : Type 0} → A → List ℕ → (Data → Result A Refusal) → Members → Result A Refusal
defaulted default key kind ms = under key (or_else default kind (get_member key ms))
