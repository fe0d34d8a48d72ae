-- What a flight's state tells of what its item found.
use Rattle.std.proofs.Common.{◌≡◌, ℕ, Option, Some, None, List, [], ◌∷◌, ◌++◌, refl, ap, sym, ◌∙◌, subst}
use Rattle.slnf_base.specs.declared.packets.Packet.{Packet}
use Rattle.slnf_access.specs.declared.requests.Value.{Value}
use Rattle.slnf_access.specs.declared.requests.Entry.{Entry}
use Rattle.slnf_access.specs.declared.requests.Reply.{Reply}
use Rattle.slnf_access.specs.declared.requests.Reply.TheVariants.{Done, Found, Absent}
use Rattle.slnf_access.specs.Map.{key_of}
use Rattle.slnf_access.specs.Machines.{Flies, stand_of_step, stand_after, IsPath}
use Rattle.slnf_run.proofs.NextAccess.{same_flight, flight_induction}
use Rattle.slnf_box.specs.Choices.{choice_of}
use Rattle.slnf_box.specs.declared.choices.Choice.{Choice}
use Rattle.slnf_box.specs.declared.choices.Choice.TheVariants.{Refuses, Passes, Writes}
use Rattle.slnf_box.specs.declared.choices.Tracked.{Tracked}
use Rattle.slnf_box.specs.declared.policies.Policy.{Policy}
use Rattle.slnf_fw.specs.declared.flights.FwState.{FwState}
use Rattle.slnf_fw.specs.declared.flights.FwState.TheVariants.{Look, Add, Alter}
use Rattle.slnf_fw.specs.Conns.{tracked_of}
use Rattle.slnf_fw.specs.Flight.{Flying}
use Rattle.slnf_fw.specs.Machine.{packet_key, asks_in, fw_asks, step_of_choice, decide_found, decide, after_write, goes_in, fw_machine}

-- The item's last entry found the version, with a connection by which this is to be written.
pub record IsSeen (policy : Policy) (packet : Packet) (own : List Entry) (version : ℕ)
    (tracked : Tracked) : Type 0 where
  pub front : List Entry
  pub e : Entry
  pub split : own ≡ front ++ e ∷ []
  pub on_key : key_of e.request ≡ packet_key policy packet
  pub value : Value
  pub reply : e.reply ≡ Found value version
  pub there : Tracked
  pub is : tracked_of value.0 ≡ Some there
  pub choice : choice_of policy packet (Some there) ≡ Writes tracked

-- what a state tells
abbrev pub Seen : Policy → Packet → List Entry → FwState → Type 0
Seen policy packet own Look = Unit {0}
Seen policy packet own (Add tracked) = choice_of policy packet None ≡ Writes tracked
Seen policy packet own (Alter version tracked) = IsSeen policy packet own version tracked

-- and what a flight does: it has this packet
abbrev pub IsInFlight : Policy → Packet → List Entry → Flying → Type 0
IsInFlight policy packet own flight = (flight.packet ≡ packet) × Seen policy packet own flight.state

-- every access is to the packet's key
pub asks_key : (policy : Policy) (state : FwState) (packet : Packet) →
    key_of (asks_in policy state packet) ≡ packet_key policy packet
asks_key policy Look packet = refl
asks_key policy (Add tracked) packet = refl
asks_key policy (Alter version tracked) packet = refl

-- a choice after which a packet flies is to write
written_flies : (packet : Packet) (write : Tracked → FwState) (choice : Choice) (flight : Flying) →
    stand_of_step (step_of_choice packet write choice) ≡ Flies flight →
    (tracked : Tracked) × (choice ≡ Writes tracked) × (flight ≡ record { state = write tracked; packet = packet })
written_flies packet write (Refuses reason) flight h = cc
written_flies packet write Passes flight h = cc
written_flies packet write (Writes tracked) flight h =
    (tracked, refl, sym (same_flight (record { state = write tracked; packet = packet }) flight h))

module _ (policy : Policy) (packet : Packet) (own : List Entry) (e : Entry)
    (on_key : key_of e.request ≡ packet_key policy packet) where
  -- a flight in this state
  in_state : (state : FwState) (flight : Flying) → flight ≡ record { state = state; packet = packet } →
      Seen policy packet (own ++ e ∷ []) state → IsInFlight policy packet (own ++ e ∷ []) flight
  in_state state flight is seen = (
    ap (λ (f : Flying). f.packet) is,
    subst (λ (f : Flying). Seen policy packet (own ++ e ∷ []) f.state) (sym is) seen,
  )

  -- what a flight knows after a reply that tells of its connection
  decide_seen : (reply : Reply) (flight : Flying) → e.reply ≡ reply →
      stand_of_step (decide policy packet reply) ≡ Flies flight → IsInFlight policy packet (own ++ e ∷ []) flight
  decide_seen (Done version) flight w h = absurd (cc)
  decide_seen Absent flight w h =
      let r = written_flies packet Add (choice_of policy packet None) flight h in
      in_state (Add r.0) flight r.2 r.1
  decide_seen (Found value version) flight w h = go (tracked_of value.0) refl h
    where
      go : (known : Option Tracked) → tracked_of value.0 ≡ known →
          stand_of_step (decide_found policy packet version known) ≡ Flies flight →
          IsInFlight policy packet (own ++ e ∷ []) flight
      go None is h = absurd (cc)
      go (Some there) is h =
          let r = written_flies packet (Alter version) (choice_of policy packet (Some there)) flight h in
          in_state (Alter version r.0) flight r.2 (record {
            front = own;
            e = e;
            split = refl;
            on_key = on_key;
            value = value;
            reply = w;
            there = there;
            is = is;
            choice = r.1;
          })

  write_seen : (reply : Reply) (flight : Flying) → e.reply ≡ reply →
      stand_of_step (after_write policy packet reply) ≡ Flies flight → IsInFlight policy packet (own ++ e ∷ []) flight
  write_seen (Done version) flight w h = absurd (cc)
  write_seen Absent flight w h = decide_seen Absent flight w h
  write_seen (Found value version) flight w h = decide_seen (Found value version) flight w h

  goes_seen : (state : FwState) (flight : Flying) →
      stand_of_step (goes_in policy state packet e.reply) ≡ Flies flight →
      IsInFlight policy packet (own ++ e ∷ []) flight
  goes_seen Look flight h = decide_seen e.reply flight refl h
  goes_seen (Add tracked) flight h = write_seen e.reply flight refl h
  goes_seen (Alter version tracked) flight h = write_seen e.reply flight refl h

-- A flight has its first packet, and its state tells of what its item found.
pub flight_seen : (policy : Policy) (first flight : Flying) (own : List Entry) → first.state ≡ Look →
    IsPath (fw_machine policy) (Flies first) own → stand_after (fw_machine policy) (Flies first) own ≡ Flies flight →
    IsInFlight policy first.packet own flight
flight_seen policy first flight own looks path stands =
    flight_induction (fw_machine policy) (IsInFlight policy first.packet) first
    (refl, subst (Seen policy first.packet []) (sym looks) tt) step own flight path stands
  where
    step : (own : List Entry) (f : Flying) (e : Entry) (g : Flying) → IsInFlight policy first.packet own f →
        e.request ≡ fw_asks policy f → stand_of_step (goes_in policy f.state f.packet e.reply) ≡ Flies g →
        IsInFlight policy first.packet (own ++ e ∷ []) g
    step own f e g seen asked h =
        let key : key_of e.request ≡ packet_key policy first.packet =
        ap key_of asked ∙ asks_key policy f.state f.packet ∙ ap (packet_key policy) seen.0 in
        goes_seen policy first.packet own e key f.state g
        (subst (λ packet. stand_of_step (goes_in policy f.state packet e.reply) ≡ Flies g) seen.0 h)
