-- Words on what a pass knows.
use Rattle.std.specs.Prelude.{◌≡◌, ℕ, zero, suc, ◌+◌, ◌-◌, ◌==◌, if◌then◌else◌, List, [], ◌∷◌, ◌++◌, map, length, slice_get, Some}
use Rattle.std.specs.List.{AllByRecursion}
use Rattle.slnf_turns.specs.declared.views.Line.{Line}
use Rattle.slnf_turns.specs.declared.views.Noted.{Noted}
use Rattle.slnf_turns.specs.declared.views.Sight.{Sight}
use Rattle.slnf_turns.specs.declared.views.Listed.{Listed}
use Rattle.slnf_turns.specs.declared.views.Joined.{Joined}
use Rattle.slnf_turns.specs.declared.views.View.{View}
use Rattle.slnf_turns.specs.declared.views.Stage.{Stage}
use Rattle.slnf_turns.specs.declared.views.Stage.TheVariants.{Free, Open, Spent}

-- xs is a prefix of ys
abbrev pub Begins : {A : Type 0} → List A → List A → Type 0
Begins {A} xs ys = (rest : List A) × (ys ≡ xs ++ rest)

-- a line that says one number
abbrev pub number_line : ℕ → ℕ → Line
number_line i word = record { number = i; words = word ∷ [] }

-- the lines of one number, in order
abbrev pub lines_of : ℕ → List Line → List Line
lines_of i [] = []
lines_of i (l ∷ ls) = if l.number == i then l ∷ lines_of i ls else lines_of i ls

-- each line is of this number
abbrev pub AllOf : ℕ → List Line → Type 0
AllOf i ls = AllByRecursion (λ l. l.number ≡ i) ls

-- the lines of a list that stand in one shard, in order
abbrev pub part_of : ℕ → List Noted → List Line
part_of k [] = []
part_of k (x ∷ xs) = if x.shard == k then x.line ∷ part_of k xs else part_of k xs

-- the lines, each with its shard
abbrev pub noted : ℕ → List Line → List Noted
noted k ls = map (λ l. record { shard = k; line = l }) ls

abbrev pub sight : ℕ → List Line → Sight
sight k ls = record { shard = k; lines = ls }

-- what was last seen of a shard: no line where it was never looked at
abbrev pub seen_of : ℕ → List Sight → List Line
seen_of k [] = []
seen_of k (x ∷ xs) = if k == x.shard then x.lines else seen_of k xs

-- the list that the root keeps of a number that was joined
abbrev pub kept_of : ℕ → List Joined → List Noted
kept_of i [] = []
kept_of i (x ∷ xs) = if x.listed.number == i then x.listed.lines else kept_of i xs

abbrev pub listed : Joined → Listed
listed x = x.listed

abbrev pub number_of : Listed → ℕ
number_of x = x.number

-- A pass whose number is i kept these numbers with these lists from its split: they are those that the root keeps as
-- joined before that split.
abbrev pub WasTold : List (List ℕ) → List Joined → ℕ → List Listed → Type 0
WasTold before joined i told = (slice_get before (i - 1) ≡ Some (map number_of told)) × Begins told (map listed joined)

-- the view with another stage
abbrev pub staged : View → Stage → View
staged v st = record {
  number = v.number;
  stage = st;
  own = v.own;
  seen = v.seen;
  told = v.told;
  before = v.before;
  joined = v.joined;
}

-- the view after the shard was opened with the ticket t, where its value had these lines
abbrev pub after_open : View → ℕ → ℕ → List Line → View
after_open v k t ls = record {
  number = v.number;
  stage = Open k t ls [];
  own = v.own;
  seen = sight k ls ∷ v.seen;
  told = v.told;
  before = v.before;
  joined = v.joined;
}

-- the view after a value that had the lines base was given back with more
abbrev pub after_raise : View → ℕ → List Line → List Line → View
after_raise v k base more = record {
  number = v.number;
  stage = Free;
  own = v.own ++ noted k more;
  seen = sight k (base ++ more) ∷ v.seen;
  told = v.told;
  before = v.before;
  joined = v.joined;
}

abbrev pub newcomer : ℕ → List Listed → View
newcomer i told = record { number = i; stage = Free; own = []; seen = []; told = told; before = []; joined = [] }

-- the root, before any split
abbrev pub first_view : View
first_view = newcomer 0 []

-- the root after a split, and the pass that it split off
abbrev pub after_split : View → View
after_split v = record {
  number = v.number;
  stage = v.stage;
  own = v.own;
  seen = v.seen;
  told = v.told;
  before = v.before ++ map (λ (x : Joined). x.listed.number) v.joined ∷ [];
  joined = v.joined;
}

abbrev pub split_off : View → View
split_off v = newcomer (length v.before + 1) (map listed v.joined)

-- what the root keeps of a pass that it joins
abbrev pub joined_of : View → Joined
joined_of w = record { listed = record { number = w.number; lines = w.own }; seen = w.seen; told = w.told }

abbrev pub after_join : View → View → View
after_join v w = record {
  number = v.number;
  stage = v.stage;
  own = v.own;
  seen = v.seen;
  told = v.told;
  before = v.before;
  joined = v.joined ++ joined_of w ∷ [];
}

abbrev pub spent_view : View
spent_view = record { number = 0; stage = Spent; own = []; seen = []; told = []; before = []; joined = [] }

-- the list of each number, as the root knows it when all passes were joined
abbrev pub list_in : ℕ → View → List Noted
list_in zero v = v.own
list_in (suc i) v = kept_of (suc i) v.joined
