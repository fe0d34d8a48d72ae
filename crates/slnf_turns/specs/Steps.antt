-- What each step tells the pass that makes it.
use Rattle.std.specs.Prelude.{◌≡◌, ◌≢◌, ℕ, ◌*◌, ◌%◌, ◌^◌, List, [], ◌∷◌, ◌++◌, Option, Some}
use Rattle.std.specs.List.{AllByRecursion}
use Rattle.atomic_table.specs.Table.{Me, Step, rest}
use Rattle.slnf_turns.specs.declared.views.Line.{Line}
use Rattle.slnf_turns.specs.declared.views.Joined.{Joined}
use Rattle.slnf_turns.specs.declared.views.View.{View}
use Rattle.slnf_turns.specs.declared.views.Stage.TheVariants.{Waits, Turn, Open}
use Rattle.slnf_turns.specs.Rule.{living}
use Rattle.slnf_turns.specs.Views.{Begins, seen_of, WasTold, staged, after_open, after_raise}

abbrev At : Type 0 → Type 0
At B = Step (Option B)

abbrev Sat : Type 0 → Type 0
Sat B = Me (Option B) View

module _ {B : Type 0} where
  -- a ticket of the shard, modulo 2 ^ 64 the number found
  abbrev pub drew : At B → Sat B → ℕ → Sat B → Type 0
  drew st m r m' = (m'.1 ≡ m.1) × ((k : ℕ) → st.word ≡ 32 * k → (t : ℕ) × (m'.0 ≡ staged m.0 (Waits k t)) × (r ≡ t % 2 ^ 64))

  -- the turn, where the number found is the ticket
  abbrev pub looked : At B → Sat B → ℕ → Sat B → Type 0
  looked st m r m' = (m'.1 ≡ m.1) × ((k t : ℕ) → m.0.stage ≡ Waits k t
      → (r ≡ t % 2 ^ 64 → m'.0 ≡ staged m.0 (Turn k t)) × (r ≢ t % 2 ^ 64 → m'.0 ≡ m.0))

  module _ (lines : B → List Line) (place places : B → ℕ) where
    -- the shard's slot, with its value
    abbrev pub opened : At B → Sat B → ℕ → Sat B → Type 0
    opened st m r m' = (k t : ℕ) → m.0.stage ≡ Turn k t
        → (b : B) × (m'.1 ≡ (k, Some b) ∷ m.1) × (m'.0 ≡ after_open m.0 k t (lines b))
        × (place b ≡ k) × (places b ≡ st.slots) × Begins (seen_of k m.0.seen) (lines b)

  -- the lines that the value in the slot grew by are pending
  abbrev pub wrote : (B → List Line) → At B → Sat B → ℕ → Sat B → Type 0
  wrote lines st m r m' = (m'.1 ≡ m.1) × ((k t : ℕ) (base more : List Line) (b : B) → m.0.stage ≡ Open k t base []
      → m.1 ≡ (k, Some b) ∷ [] → lines b ≡ base ++ more → m'.0 ≡ staged m.0 (Open k t base more))

  -- the slot is given back, and the pending lines are published
  abbrev pub raised : At B → Sat B → ℕ → Sat B → Type 0
  raised st m r m' = (m'.1 ≡ rest m.1)
      × ((k t : ℕ) (base more : List Line) → m.0.stage ≡ Open k t base more → m'.0 ≡ after_raise m.0 k base more)

  -- what the root keeps of each pass from its split
  abbrev pub learned : At B → Sat B → ℕ → Sat B → Type 0
  learned st m r m' = (m' ≡ m) × (m.0.number ≡ 0 → living m.0 ≡ 1
      → AllByRecursion (λ (x : Joined). WasTold m.0.before m.0.joined x.listed.number x.told) m.0.joined)
