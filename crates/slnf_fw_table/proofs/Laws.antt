-- The laws of states' numbers, for the crates above.
use Rattle.std.proofs.Common.{◌≡◌, Some, refl}
use Rattle.slnf_fw_table.specs.declared.connections.State.{State}
use Rattle.slnf_fw_table.specs.declared.connections.State.TheVariants.{SynSent, SynAcked, Opened, FinByOpener, FinByOther, BothFin, Closed, Live}
use Rattle.slnf_fw_table.specs.States.{state_number, state_with}

-- a state is read from its number
pub state_with-state_number : (state : State) → state_with (state_number state) ≡ Some state
state_with-state_number SynSent = refl
state_with-state_number SynAcked = refl
state_with-state_number Opened = refl
state_with-state_number FinByOpener = refl
state_with-state_number FinByOther = refl
state_with-state_number BothFin = refl
state_with-state_number Closed = refl
state_with-state_number Live = refl
