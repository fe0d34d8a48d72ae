-- The numbers of a connection's states.
use Rattle.std.specs.Prelude.{◌≤◌, ℕ, ◌==◌, if◌then◌else◌, Option, Some, None, refl}
use borrow.Author.Tests.{leb-true}
use Rattle.slnf_fw_table.specs.declared.connections.State.{State}
use Rattle.slnf_fw_table.specs.declared.connections.State.TheVariants.{SynSent, SynAcked, Opened, FinByOpener, FinByOther, BothFin, Closed, Live}

-- the number of a state
abbrev pub state_number : State → ℕ
state_number SynSent = 1
state_number SynAcked = 2
state_number Opened = 3
state_number FinByOpener = 4
state_number FinByOther = 5
state_number BothFin = 6
state_number Closed = 7
state_number Live = 8

-- the state with this number, where it is one
abbrev pub state_with : ℕ → Option State
state_with number =
    if number == 1 then Some SynSent
    else if number == 2 then Some SynAcked
    else if number == 3 then Some Opened
    else if number == 4 then Some FinByOpener
    else if number == 5 then Some FinByOther
    else if number == 6 then Some BothFin
    else if number == 7 then Some Closed
    else if number == 8 then Some Live
    else None

-- the numbers are 1 to 8
pub state_from_one : (state : State) → 1 ≤ state_number state
state_from_one SynSent = leb-true _ _ refl
state_from_one SynAcked = leb-true _ _ refl
state_from_one Opened = leb-true _ _ refl
state_from_one FinByOpener = leb-true _ _ refl
state_from_one FinByOther = leb-true _ _ refl
state_from_one BothFin = leb-true _ _ refl
state_from_one Closed = leb-true _ _ refl
state_from_one Live = leb-true _ _ refl

pub state_to_eight : (state : State) → state_number state ≤ 8
state_to_eight SynSent = leb-true _ _ refl
state_to_eight SynAcked = leb-true _ _ refl
state_to_eight Opened = leb-true _ _ refl
state_to_eight FinByOpener = leb-true _ _ refl
state_to_eight FinByOther = leb-true _ _ refl
state_to_eight BothFin = leb-true _ _ refl
state_to_eight Closed = leb-true _ _ refl
state_to_eight Live = leb-true _ _ refl
