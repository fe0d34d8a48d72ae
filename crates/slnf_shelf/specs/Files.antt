-- A list of files with their names.
use Rattle.std.specs.Prelude.{◌≡◌, ◌≢◌, ℕ, List, [], ◌∷◌, Option, Some, None, unwrap_or, if◌then◌else◌}
use Rattle.std.specs.Str.{bytes_eq}
use Rattle.slnf_shelf.specs.declared.files.Stored.{Stored}

-- the bytes of the file of this name, if there is one
abbrev pub find_file : List ℕ → List Stored → Option (List ℕ)
find_file name [] = None
find_file name (file ∷ files) = if bytes_eq file.name name then Some file.bytes else find_file name files

-- what stands under a name: a file that isn't there holds nothing
abbrev pub held_in : List Stored → List ℕ → Option (List ℕ)
held_in files name = Some (unwrap_or (find_file name files) [])

-- the files of all other names are as before
abbrev pub KeepsOthers : List ℕ → List Stored → List Stored → Type 0
KeepsOthers name before now = (other : List ℕ) → other ≢ name → find_file other now ≡ find_file other before
