-- The keys of a table, and what is refused one step higher.
use Rattle.std.proofs.Common.{◌≡◌, ℕ, Bool, true, false, not, ◌||◌, List, [], ◌∷◌, map, Option, Some, Result, string_bytes, Bor, String, Global, refl, sym, ap, ◌∙◌}
use Rattle.std.specs.Prelude.{find}
use Rattle.std.specs.List.{list_any}
use Rattle.std.specs.Map.{keys_of}
use Rattle.std.specs.Str.{bytes_eq}
use Rattle.toml.specs.View.{members_view}
use Rattle.toml.proofs.Views.{Entry}
use Rattle.slnf_plan.specs.declared.refusal.Fault.{Fault}
use Rattle.slnf_plan.specs.declared.refusal.Fault.TheVariants as faults
use Rattle.slnf_plan.specs.declared.refusal.Refusal.{Refusal}
use Rattle.slnf_plan.specs.Refusals.{under, Fails, IsUnder}
use Rattle.slnf_plan.specs.Tables.{names, is_unlisted}

pub names-members_view : (es : List Entry) → names (members_view es) ≡ map string_bytes (keys_of es)
names-members_view [] = refl
names-members_view (e ∷ es) = ap (λ ks. string_bytes e.0 ∷ ks) (names-members_view es)

pub is_unlisted-map : (listed : List (Bor (List ℕ))) (key : List ℕ)
    → list_any (λ l. bytes_eq l key) (map (λ l. l.now) listed) ≡ list_any (λ l. bytes_eq l.now key) listed
is_unlisted-map [] key = refl
is_unlisted-map (l ∷ ls) key = ap (λ b. bytes_eq l.now key || b) (is_unlisted-map ls key)

-- the first key that isn't listed is at the front, or after it
pub find-here : {A : Type 0} (p : A → Bool) (x : A) (xs : List A) → p x ≡ true → find p (x ∷ xs) ≡ Some x
find-here p x xs h = rw h refl

pub find-later : {A : Type 0} (p : A → Bool) (x : A) (xs : List A) → p x ≡ false → find p (x ∷ xs) ≡ find p xs
find-later p x xs h = rw h refl

pub fails_under : {A : Type 0} (step : List ℕ) (fault told : Fault) (read : Result A Refusal)
    → IsUnder step fault told → Fails fault read → Fails told (under step read)
fails_under step faults.Memory told read goes fails = rw goes tt
fails_under step (faults.Refused r) faults.Memory read goes fails = tt
fails_under step (faults.Refused r) (faults.Refused s) read goes fails = rw (fails, goes) refl

abbrev Ref : Type 0
Ref = Bor (List ℕ)

abbrev texts : List Ref → List (List ℕ)
texts listed = map (λ l. l.now) listed

unlisted_is : (listed : List Ref) (key : List ℕ) (b : Bool)
    → list_any (λ l. bytes_eq l.now key) listed ≡ b → is_unlisted (texts listed) key ≡ not b
unlisted_is listed key b h = ap not (is_unlisted-map listed key ∙ h)

-- a key that is listed is passed over
pub known_goes_on : (listed : List Ref) (key : String Global) (ks rest : List (String Global)) (found : Option (List ℕ))
    → ks ≡ key ∷ rest → list_any (λ l. bytes_eq l.now (string_bytes key)) listed ≡ true
    → find (is_unlisted (texts listed)) (map string_bytes ks) ≡ found
    → find (is_unlisted (texts listed)) (map string_bytes rest) ≡ found
known_goes_on listed key ks rest found e here so_far =
    let here' = unlisted_is listed (string_bytes key) true here in
    let one = rw e at so_far in
    sym (find-later (is_unlisted (texts listed)) (string_bytes key) (map string_bytes rest) here') ∙ one

-- a key that isn't listed is the first one
pub known_stops : (listed : List Ref) (key : String Global) (ks rest : List (String Global)) (found : Option (List ℕ))
    → ks ≡ key ∷ rest → list_any (λ l. bytes_eq l.now (string_bytes key)) listed ≡ false
    → find (is_unlisted (texts listed)) (map string_bytes ks) ≡ found → found ≡ Some (string_bytes key)
known_stops listed key ks rest found e here so_far =
    let here' = unlisted_is listed (string_bytes key) false here in
    let one = rw e at so_far in
    sym one ∙ find-here (is_unlisted (texts listed)) (string_bytes key) (map string_bytes rest) here'
