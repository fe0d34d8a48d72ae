-- The bound's measure. A flight that is about to write has a credit of 1 while its key has what it read there. So each
-- access of its own makes room for one more, and an access of another packet takes room only where it writes.
use Rattle.std.proofs.Common.{◌≡◌, ℕ, ◌+◌, ◌≤◌, Bool, true, false, cond, ◌==◌, Option, Some, None, refl, sym, subst, arith, eq-eqb}
use Rattle.slnf_base.specs.declared.packets.Packet.{Packet}
use Rattle.slnf_access.specs.declared.requests.Held.{Held}
use Rattle.slnf_access.specs.declared.requests.Reply.TheVariants.{Done, Found, Absent}
use Rattle.slnf_access.specs.Map.{reply_to, cell_after, is_done}
use Rattle.slnf_access.specs.Machines.{Stand, Flies, Ends, stand_of_step}
use Rattle.slnf_box.specs.Choices.{choice_of}
use Rattle.slnf_box.specs.declared.choices.Choice.{Choice}
use Rattle.slnf_box.specs.declared.choices.Choice.TheVariants.{Refuses, Passes, Writes}
use Rattle.slnf_box.specs.declared.choices.Tracked.{Tracked}
use Rattle.slnf_box.specs.declared.policies.Policy.{Policy}
use Rattle.slnf_fw.specs.declared.flights.FwState.{FwState}
use Rattle.slnf_fw.specs.declared.flights.FwState.TheVariants.{Look, Add, Alter}
use Rattle.slnf_fw.specs.Conns.{tracked_of, tracked_number}
use Rattle.slnf_fw.specs.Flight.{Flying}
use Rattle.slnf_fw.specs.Machine.{asks_in, step_of_choice, decide_found, decide, after_write, goes_in}

-- 1 where the next access of this state writes over what the key has
abbrev pub credit : FwState → Option Held → ℕ
credit Look cell = 0
credit (Add tracked) None = 1
credit (Add tracked) (Some held) = 0
credit (Alter version tracked) None = 0
credit (Alter version tracked) (Some held) = cond (held.version == version) 1 0

-- how many accesses an item may have made beyond the others' writes
abbrev pub room : Stand Flying → Option Held → ℕ
room (Flies flight) cell = credit flight.state cell
room (Ends verdict) cell = 2

bit_below : (b : Bool) → cond b 1 0 ≤ 1
bit_below true = omega arith
bit_below false = omega arith

credit_below : (state : FwState) (cell : Option Held) → credit state cell ≤ 1
credit_below Look cell = omega arith
credit_below (Add tracked) None = omega arith
credit_below (Add tracked) (Some held) = omega arith
credit_below (Alter version tracked) None = omega arith
credit_below (Alter version tracked) (Some held) = bit_below (held.version == version)

pub room_below : (stand : Stand Flying) (cell : Option Held) → room stand cell ≤ 2
room_below (Flies flight) cell = let h : credit flight.state cell ≤ 1 = credit_below flight.state cell in omega arith
room_below (Ends verdict) cell = omega arith

-- whatever the key has, the room differs by 1 at most
pub room_near : (stand : Stand Flying) (x y : Option Held) → room stand x ≤ room stand y + 1
room_near (Flies flight) x y = let h : credit flight.state x ≤ 1 = credit_below flight.state x in omega arith
room_near (Ends verdict) x y = omega arith

-- where a flight stands after its next access with this stamp, where its key has this
abbrev pub stand_then : Policy → FwState → Packet → ℕ → Option Held → Stand Flying
stand_then policy state packet stamp cell =
    stand_of_step (goes_in policy state packet (reply_to (asks_in policy state packet) stamp cell))

-- what its key has then
abbrev pub cell_then : Policy → FwState → Packet → ℕ → Option Held → Option Held
cell_then policy state packet stamp cell = cell_after (asks_in policy state packet) stamp cell

-- after a reply that tells of the connection there is room for one write
choice_room : (packet : Packet) (write : Tracked → FwState) (choice : Choice) (cell : Option Held) →
    ((tracked : Tracked) → 1 ≤ credit (write tracked) cell) →
    1 ≤ room (stand_of_step (step_of_choice packet write choice)) cell
choice_room packet write (Refuses reason) cell h = omega arith
choice_room packet write Passes cell h = omega arith
choice_room packet write (Writes tracked) cell h = h tracked

absent_room : (policy : Policy) (packet : Packet) → 1 ≤ room (stand_of_step (decide policy packet Absent)) None
absent_room policy packet = choice_room packet Add (choice_of policy packet None) None one
  where
    one : (tracked : Tracked) → 1 ≤ credit (Add tracked) None
    one tracked = omega arith

found_room : (policy : Policy) (packet : Packet) (held : Held) →
    1 ≤ room (stand_of_step (decide policy packet (Found held.value held.version))) (Some held)
found_room policy packet held = go (tracked_of held.value.0)
  where
    one : (tracked : Tracked) → 1 ≤ credit (Alter held.version tracked) (Some held)
    one tracked = subst (λ b. 1 ≤ cond b 1 0) (sym (eq-eqb held.version held.version refl)) (omega arith)

    go : (there : Option Tracked) →
        1 ≤ room (stand_of_step (decide_found policy packet held.version there)) (Some held)
    go None = omega arith
    go (Some tracked) =
        choice_room packet (Alter held.version) (choice_of policy packet (Some tracked)) (Some held) one

-- An item's own access takes its credit, and leaves room for one more.
pub own_room : (policy : Policy) (packet : Packet) (state : FwState) (cell : Option Held) (stamp : ℕ) →
    credit state cell + 1
    ≤ room (stand_then policy state packet stamp cell) (cell_then policy state packet stamp cell)
own_room policy packet Look None stamp = absent_room policy packet
own_room policy packet Look (Some held) stamp = found_room policy packet held
own_room policy packet (Add tracked) None stamp = omega arith
own_room policy packet (Add tracked) (Some held) stamp = found_room policy packet held
own_room policy packet (Alter version tracked) None stamp = absent_room policy packet
own_room policy packet (Alter version tracked) (Some held) stamp = go (held.version == version)
  where
    go : (b : Bool) → cond b 1 0 + 1
        ≤ room (stand_of_step (after_write policy packet (cond b (Done stamp) (Found held.value held.version))))
        (Some (cond b (record { value = record { 0 = tracked_number tracked }; version = stamp }) held))
    go true = omega arith
    go false = found_room policy packet held

-- An access with a credit is done.
pub credit_done : (policy : Policy) (packet : Packet) (state : FwState) (cell : Option Held) (stamp : ℕ) →
    1 ≤ credit state cell → is_done (reply_to (asks_in policy state packet) stamp cell) ≡ true
credit_done policy packet Look cell stamp h = absurd (omega arith)
credit_done policy packet (Add tracked) None stamp h = refl
credit_done policy packet (Add tracked) (Some held) stamp h = absurd (omega arith)
credit_done policy packet (Alter version tracked) None stamp h = absurd (omega arith)
credit_done policy packet (Alter version tracked) (Some held) stamp h = go (held.version == version) h
  where
    go : (b : Bool) → 1 ≤ cond b 1 0 → is_done (cond b (Done stamp) (Found held.value held.version)) ≡ true
    go true h = refl
    go false h = absurd (omega arith)
