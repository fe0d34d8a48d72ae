-- The words of the generator SplitMix64, one after the other.
use Rattle.std.specs.Prelude.{ℕ, zero, suc}
use Rattle.rand_xoshiro.specs.SplitMix64.{mix_u64, next_state}

-- the state after so many words
unfoldable pub state_after : ℕ → ℕ → ℕ
state_after zero state = state
state_after (suc count) state = next_state (state_after count state)

-- the word that comes after so many others
unfoldable pub word_after : ℕ → ℕ → ℕ
word_after count state = (mix_u64 (state_after count state)).0
