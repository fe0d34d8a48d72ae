-- The words of the commands.
use Rattle.std.specs.Prelude.{ℕ, ◌^◌, Bool, false, not, ◌&&◌, ◌==◌, nat_le, if◌then◌else◌, Option, Some, None, option_map, option_and_then, List, [], ◌∷◌, length, map, codes, string_bytes}
use Rattle.std.specs.List.{list_all}
use Rattle.std.specs.Str.{bytes_eq}
use Rattle.slnf_journal.specs.Fields.{number_of}
use Rattle.slnf_top.specs.declared.forms.PlanWords.{PlanWords as NamedFiles}
use Rattle.slnf_top.specs.declared.forms.LoadWords.{LoadWords as NumberWords}
use Rattle.slnf_top.specs.declared.forms.CommandWords.{CommandWords}
use Rattle.slnf_top.specs.declared.forms.CommandWords.TheVariants as read

-- a word that may name a file isn't empty, and doesn't begin with `-`
abbrev pub is_proper : List ℕ → Bool
is_proper [] = false
is_proper (first ∷ rest) = not (first == 45)

-- 1 to 32 words that may name files
abbrev pub are_captures : List (List ℕ) → Bool
are_captures words = nat_le 1 (length words) && nat_le (length words) 32 && list_all is_proper words

-- what the words PLAN OUT IN.. name
pub record PlanWords : Type 0 where
  pub plan : List ℕ
  pub out : List ℕ
  pub captures : List (List ℕ)

-- what the words NUMBER LANES PACKETS name
pub record LoadWords : Type 0 where
  pub number : ℕ
  pub lanes : ℕ
  pub packets : ℕ

-- A command, with what its words name.
pub data Command : Type 0 where
  Run : PlanWords → Command
  Step : PlanWords → Command
  Check : PlanWords → Command
  Box : PlanWords → Command
  Load : LoadWords → Command

-- what these words name, where they are PLAN OUT IN..: the plan, the front of the names of a run's files, and 1 to 32
-- captures, each a word that may name a file
abbrev pub plan_words_of : List (List ℕ) → Option PlanWords
plan_words_of [] = None
plan_words_of (plan ∷ []) = None
plan_words_of (plan ∷ out ∷ captures) =
    if is_proper plan && is_proper out && are_captures captures
    then Some (record { plan = plan; out = out; captures = captures })
    else None

infixl 10 ◌>>=◌
abbrev ◌>>=◌ : {A B : Type 0} → Option A → (A → Option B) → Option B
o >>= f = option_and_then f o

-- `load` of these words, where they are NUMBER LANES PACKETS: decimals without leading zeros, of a number below 2^64,
-- of 1 to 32 lanes, and of 1 to 32,768 packets
abbrev pub load_of : List (List ℕ) → Option Command
load_of [] = None
load_of (number ∷ []) = None
load_of (number ∷ lanes ∷ []) = None
load_of (number ∷ lanes ∷ packets ∷ []) = do
  n ← number_of 0 (2 ^ 64) number
  l ← number_of 1 33 lanes
  p ← number_of 1 32769 packets
  Some (Load (record { number = n; lanes = l; packets = p }))
load_of (number ∷ lanes ∷ packets ∷ more ∷ words) = None

-- the command that has this name, but `run`, where the words behind it are of its form
abbrev pub plain_command_named : List ℕ → List (List ℕ) → Option Command
plain_command_named name words =
    if bytes_eq name (codes "step") then option_map Step (plan_words_of words)
    else if bytes_eq name (codes "check") then option_map Check (plan_words_of words)
    else if bytes_eq name (codes "box") then option_map Box (plan_words_of words)
    else if bytes_eq name (codes "load") then load_of words
    else None

-- the command that has this name, where the words behind it are of its form
abbrev pub command_named : List ℕ → List (List ℕ) → Option Command
command_named name words =
    if bytes_eq name (codes "run") then option_map Run (plan_words_of words) else plain_command_named name words

-- The command of the words, where they are of a form.
abbrev pub command_of : List (List ℕ) → Option Command
command_of [] = None
command_of (name ∷ words) = command_named name words

-- The same where `run` is no command.
abbrev pub plain_command_of : List (List ℕ) → Option Command
plain_command_of [] = None
plain_command_of (name ∷ words) = plain_command_named name words

-- what the words that were read name
abbrev pub plan_named : NamedFiles → PlanWords
plan_named words =
    record { plan = words.plan.now; out = words.out.now; captures = map string_bytes words.captures.now }

abbrev pub load_named : NumberWords → LoadWords
load_named words = record { number = words.number; lanes = words.lanes; packets = words.packets }

abbrev pub spelled : CommandWords → Command
spelled (read.Step words) = Step (plan_named words)
spelled (read.Check words) = Check (plan_named words)
spelled (read.Box words) = Box (plan_named words)
spelled (read.Load words) = Load (load_named words)
