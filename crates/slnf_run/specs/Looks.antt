-- Places that look back: a packet's place is its deciding entry, or for some verdicts its first entry.
use Rattle.std.specs.Prelude.{◌≡◌, ◌⊎◌, ℕ, zero, suc, Bool, true, false, if◌then◌else◌, Option, Some, None, List, [], ◌∷◌, slice_get}
use Rattle.slnf_base.specs.declared.packets.Verdict.{Verdict}
use Rattle.slnf_access.specs.declared.requests.Entry.{Entry}
use Rattle.slnf_run.specs.Scene.{is_of}

-- the number of an item's first entry
abbrev pub first_of : ℕ → ℕ → List Entry → ℕ
first_of incarnation item [] = zero
first_of incarnation item (e ∷ es) = if is_of incarnation item e then zero else suc (first_of incarnation item es)

-- the number of the first entry of this entry's item
abbrev pub first_of_own : List Entry → ℕ → Option Entry → ℕ
first_of_own es number None = number
first_of_own es number (Some e) = first_of e.incarnation e.item es

-- the place of a packet that begins so and is decided so at the entry with this number
abbrev pub looking_back : {F : Type 0} → (F → Verdict → Bool) → List Entry → ℕ → F → Verdict → ℕ
looking_back looks_back es number first verdict =
    if looks_back first verdict then first_of_own es number (slice_get es number) else number

-- How a packet of the entry's item comes at it, or doesn't, where its item has made the entries `own` before it, and
-- this is newly decided there.
abbrev pub ComesLookingBack : {F : Type 0} → (F → Verdict → Bool) → List Entry → Option Verdict → F → Option Verdict → Type 0
ComesLookingBack looks_back own now first None = (now ≡ None)
    ⊎ ((verdict : Verdict) × (now ≡ Some verdict) × (looks_back first verdict ≡ true))
ComesLookingBack looks_back own now first (Some verdict) = ((now ≡ Some verdict) × (looks_back first verdict ≡ false))
    ⊎ ((own ≡ []) × (looks_back first verdict ≡ true))
