-- Where the file of a name stands in a list of files, and what a change of it leaves.
use Rattle.std.proofs.Common.{◌≡◌, ◌≢◌, ◌<◌, ◌+◌, ℕ, suc, List, [], ◌∷◌, ◌++◌, Some, None, Bool, true, false, cond, length, get_or, refl, sym, ◌∙◌, ap, arith}
use Rattle.std.proofs.Math.ListN.{set}
use Rattle.std.proofs.lemmas.Option.{none-some, same_Some}
use Rattle.std.proofs.lemmas.Slice.Eq.{bytes_eq-Decides}
use Rattle.std.proofs.lemmas.Iterator.Adapters.{position_from-zero}
use Rattle.std.specs.Str.{bytes_eq}
use Rattle.std.specs.List.{position, position_from}
use Rattle.slnf_shelf.specs.declared.files.Stored.{Stored}
use Rattle.slnf_shelf.specs.Files.{find_file, KeepsOthers}
use Rattle.slnf_shelf.proofs.FaultLists.{is_false}

-- the files where the one of this name has these bytes
abbrev pub with_file : List ℕ → List ℕ → List Stored → List Stored
with_file name bytes [] = record { name = name; bytes = bytes } ∷ []
with_file name bytes (file ∷ files) =
    cond (bytes_eq file.name name) (record { name = file.name; bytes = bytes } ∷ files) (file ∷ with_file name bytes files)

-- the file of this name stands at the place
pub record Placed (name bytes : List ℕ) (files : List Stored) (place : ℕ) : Type 0 where
  pub inside : place < length files
  pub found : (d : Stored) → find_file name files ≡ Some (get_or files place d).bytes
  pub put : (d : Stored) →
      with_file name bytes files ≡ set files place (record { name = (get_or files place d).name; bytes = bytes })

named : List ℕ → Stored → Bool
named name file = bytes_eq file.name name

place-from : (name bytes : List ℕ) (files : List Stored) (i place : ℕ) →
    position_from (λ file. bytes_eq file.name name) i files ≡ Some place →
    (k : ℕ) × (place ≡ i + k) × (k < length files) × ((d : Stored) → find_file name files ≡ Some (get_or files k d).bytes)
    × ((d : Stored) → with_file name bytes files ≡ set files k (record { name = (get_or files k d).name; bytes = bytes }))
place-from name bytes [] i place e = absurd (none-some place e)
place-from name bytes (file ∷ files) i place e =
    (elim (bytes_eq file.name name) as
    (λ v. cond v (Some i) (position_from (λ file. bytes_eq file.name name) (i + 1) files) ≡ Some place →
    (k : ℕ) × (place ≡ i + k) × (k < length (file ∷ files))
    × ((d : Stored) → cond v (Some file.bytes) (find_file name files) ≡ Some (get_or (file ∷ files) k d).bytes)
    × ((d : Stored) → cond v (record { name = file.name; bytes = bytes } ∷ files) (file ∷ with_file name bytes files)
    ≡ set (file ∷ files) k (record { name = (get_or (file ∷ files) k d).name; bytes = bytes }))) [
      | true ↦ λ h. let p = same_Some i place h in (0, omega arith, omega arith, λ d. refl, λ d. refl)
      | false ↦ λ h. let r = place-from name bytes files (i + 1) place h in
          (suc r.0, omega arith, omega arith, r.3, λ d. ap (λ rest. file ∷ rest) (r.4 d))
    ]) e

pub Placed-at : (name bytes : List ℕ) (files : List Stored) (place : ℕ) →
    position (λ file. bytes_eq file.name name) files ≡ Some place → Placed name bytes files place
Placed-at name bytes files place e =
    let r = place-from name bytes files 0 place (sym (position_from-zero (λ file. bytes_eq file.name name) files) ∙ e) in
    let same : place ≡ r.0 = omega arith in
    rw same (record { inside = r.2; found = r.3; put = r.4 })

none-from : (name bytes : List ℕ) (files : List Stored) (i : ℕ) → position_from (λ file. bytes_eq file.name name) i files ≡ None →
    (find_file name files ≡ None) × (with_file name bytes files ≡ files ++ record { name = name; bytes = bytes } ∷ [])
none-from name bytes [] i e = (refl, refl)
none-from name bytes (file ∷ files) i e =
    (elim (bytes_eq file.name name) as
    (λ v. cond v (Some i) (position_from (λ file. bytes_eq file.name name) (i + 1) files) ≡ None →
    (cond v (Some file.bytes) (find_file name files) ≡ None)
    × (cond v (record { name = file.name; bytes = bytes } ∷ files) (file ∷ with_file name bytes files)
    ≡ file ∷ (files ++ record { name = name; bytes = bytes } ∷ []))) [
      | true ↦ λ h. absurd (none-some i (sym h))
      | false ↦ λ h. let r = none-from name bytes files (i + 1) h in (r.0, ap (λ rest. file ∷ rest) r.1)
    ]) e

pub find_file-none : (name bytes : List ℕ) (files : List Stored) →
    position (λ file. bytes_eq file.name name) files ≡ None → find_file name files ≡ None
find_file-none name bytes files e = (none-from name bytes files 0 (sym (position_from-zero _ files) ∙ e)).0

pub with_file-none : (name bytes : List ℕ) (files : List Stored) → position (λ file. bytes_eq file.name name) files
    ≡ None → with_file name bytes files ≡ files ++ record { name = name; bytes = bytes } ∷ []
with_file-none name bytes files e = (none-from name bytes files 0 (sym (position_from-zero _ files) ∙ e)).1

-- the file that was put is found
pub find_file-with_file : (name bytes : List ℕ) (files : List Stored) → find_file name (with_file name bytes files) ≡ Some bytes
find_file-with_file name bytes [] = rw ((bytes_eq-Decides name name).1 refl) refl
find_file-with_file name bytes (file ∷ files) =
    elim (bytes_eq file.name name) as (λ v. bytes_eq file.name name ≡ v → find_file name
    (cond v (record { name = file.name; bytes = bytes } ∷ files) (file ∷ with_file name bytes files)) ≡ Some bytes)
    [ true ↦ λ q. rw q refl | false ↦ λ q. rw q (find_file-with_file name bytes files) ] refl

-- the others stay
pub find_file-others : (name other bytes : List ℕ) (files : List Stored) →
    other ≢ name → find_file other (with_file name bytes files) ≡ find_file other files
find_file-others name other bytes [] apart =
    rw (is_false (bytes_eq name other) (λ e. apart (sym ((bytes_eq-Decides name other).0 e)))) refl
find_file-others name other bytes (file ∷ files) apart =
    elim (bytes_eq file.name name) as (λ v. bytes_eq file.name name ≡ v →
    find_file other (cond v (record { name = file.name; bytes = bytes } ∷ files) (file ∷ with_file name bytes files))
    ≡ cond (bytes_eq file.name other) (Some file.bytes) (find_file other files)) [
      | true ↦ λ q. let apart' : bytes_eq file.name other ≡ false = is_false (bytes_eq file.name other)
          (λ e. apart (sym ((bytes_eq-Decides file.name other).0 e) ∙ (bytes_eq-Decides file.name name).0 q)) in
          rw apart' refl
      | false ↦ λ q. ap (λ rest. cond (bytes_eq file.name other) (Some file.bytes) rest)
          (find_file-others name other bytes files apart)
    ] refl

-- the file at the place, as it was read there
pub find_file-at : (name : List ℕ) (files : List Stored) (place : ℕ) (file : Stored) →
    position (λ file. bytes_eq file.name name) files ≡ Some place →
    file ≡ get_or files place file → find_file name files ≡ Some file.bytes
find_file-at name files place file e read =
    (Placed-at name [] files place e).found file ∙ ap (λ (f : Stored). Some f.bytes) (sym read)

-- a write of its bytes
pub with_file-at : (name bytes : List ℕ) (files : List Stored) (place : ℕ) (file : Stored) →
    position (λ file. bytes_eq file.name name) files ≡ Some place → file ≡ get_or files place file →
    set files place (record { name = file.name; bytes = bytes }) ≡ with_file name bytes files
with_file-at name bytes files place file e read =
    let write : Stored → List Stored = λ f. set files place (record { name = f.name; bytes = bytes }) in
    ap write read ∙ sym ((Placed-at name bytes files place e).put file)

-- the same of files that are so
pub find_file-put : (name bytes : List ℕ) (files now : List Stored) →
    now ≡ with_file name bytes files → find_file name now ≡ Some bytes
find_file-put name bytes files now e = ap (λ fs. find_file name fs) e ∙ find_file-with_file name bytes files

pub KeepsOthers-put : (name bytes : List ℕ) (files now : List Stored) →
    now ≡ with_file name bytes files → KeepsOthers name files now
KeepsOthers-put name bytes files now e other apart =
    ap (λ fs. find_file other fs) e ∙ find_file-others name other bytes files apart
