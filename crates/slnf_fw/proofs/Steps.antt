-- The box keeps up with each access of the machine.
use Rattle.std.proofs.Common.{◌≡◌, ℕ, Bool, true, false, cond, ◌==◌, Option, Some, None, List, [], ◌∷◌, refl, ap, sym, ◌∙◌, subst, eqb-true}
use Rattle.std.specs.List.{AllByRecursion}
use Rattle.slnf_base.specs.declared.packets.Packet.{Packet}
use Rattle.slnf_base.specs.declared.packets.Reason.TheVariants.{Neither}
use Rattle.slnf_access.specs.declared.requests.Held.{Held}
use Rattle.slnf_access.specs.declared.requests.Value.{Value}
use Rattle.slnf_access.specs.declared.requests.Entry.{Entry}
use Rattle.slnf_access.specs.declared.requests.Reply.{Reply}
use Rattle.slnf_access.specs.declared.requests.Reply.TheVariants.{Done, Found, Absent}
use Rattle.slnf_access.specs.declared.functions.Step.{Step}
use Rattle.slnf_access.specs.Map.{key_of, reply_to, Cells, map_after, is_done}
use Rattle.slnf_access.specs.Machines.{stand_of_step, decided_at}
use Rattle.slnf_access.proofs.Cells.{not_done_same, other_leaves, reply_is, cell_is}
use Rattle.slnf_access.proofs.Elements.{each-at}
use Rattle.slnf_keys.specs.Keys.{conn_key_number, IsConnKey}
use Rattle.slnf_run.specs.Keeps.{IsKept, IsRecalled, Recalled}
use Rattle.slnf_run.specs.Tables.{number_in}
use Rattle.slnf_run.proofs.Tables.{table_stays, table_none, table_has, table_written}
use Rattle.slnf_box.specs.Choices.{choice_of}
use Rattle.slnf_box.specs.FwBox.{Conns, is_same_conn, choice_verdict, choice_conns, fw_choice, fw_box}
use Rattle.slnf_box.specs.Packets.{crosses, conn_of_packet}
use Rattle.slnf_box.specs.declared.choices.Choice.{Choice}
use Rattle.slnf_box.specs.declared.choices.Choice.TheVariants.{Refuses, Passes, Writes}
use Rattle.slnf_box.specs.declared.choices.Tracked.{Tracked}
use Rattle.slnf_box.specs.declared.policies.Policy.{Policy}
use Rattle.slnf_fw.specs.declared.flights.FwState.{FwState}
use Rattle.slnf_fw.specs.declared.flights.FwState.TheVariants.{Look, Add, Alter}
use Rattle.slnf_fw.specs.Conns.{tracked_number, tracked_of, IsSameConns}
use Rattle.slnf_fw.specs.Flight.{Flying}
use Rattle.slnf_fw.specs.Machine.{packet_key, fw_value, asks_in, step_of_choice, decide_found, decide, after_write, goes_in, fw_machine}
use Rattle.slnf_fw.proofs.Keys.{conn_keyed, tracked_read}
use Rattle.slnf_fw.proofs.States.{IsSeen, Seen}

-- the box does what it owes where a packet goes on so after the access e, on the map that e leaves
abbrev pub IsRight : Policy → Conns → Packet → Cells → Entry → Step Flying → Type 0
IsRight policy conns packet cells e step =
    IsKept (fw_box policy) (λ now. IsSameConns now (map_after cells (e ∷ []))) conns packet
    (decided_at (fw_machine policy) (stand_of_step step))

-- what a list of connections and a map tell of one connection
abbrev HasBoth : Policy → Conns → Packet → Held → Tracked → Type 0
HasBoth policy conns packet held tracked =
    (conns (conn_of_packet policy packet) ≡ Some tracked) × (tracked_of held.value.0 ≡ Some tracked)

-- what is known of a connection makes this to be written
abbrev IsToWrite : Policy → Conns → Packet → Tracked → Option Tracked → Type 0
IsToWrite policy conns packet tracked known =
    (conns (conn_of_packet policy packet) ≡ known) × (choice_of policy packet known ≡ Writes tracked)

-- of a packet that crosses, whose connection is in range, where the box has the connections of the map
module _ (policy : Policy) (conns : Conns) (packet : Packet) (cells : Cells) (e : Entry)
    (across : crosses policy packet ≡ true) (fits : IsConnKey (conn_of_packet policy packet))
    (replied : e.reply ≡ reply_to e.request e.stamp (cells (key_of e.request))) (same : IsSameConns conns cells) where
  -- the box's choice, where it has this of the connection
  choice_at : (known : Option Tracked) → conns (conn_of_packet policy packet) ≡ known →
      fw_choice policy conns packet ≡ choice_of policy packet known
  choice_at known is =
      ap (λ b. cond b (choice_of policy packet (conns (conn_of_packet policy packet))) (Refuses Neither)) across
      ∙ ap (choice_of policy packet) is

  -- it goes by the machine's choice; what is to be written is still to come
  choice_right : (write : Tracked → FwState) (choice : Choice) → fw_choice policy conns packet ≡ choice →
      IsSameConns conns (map_after cells (e ∷ [])) →
      IsRight policy conns packet cells e (step_of_choice packet write choice)
  choice_right write (Refuses reason) is now = (
    ap choice_verdict is,
    subst (λ c. IsSameConns (choice_conns conns (conn_of_packet policy packet) c) (map_after cells (e ∷ []))) (sym is)
        now,
  )
  choice_right write Passes is now = (
    ap choice_verdict is,
    subst (λ c. IsSameConns (choice_conns conns (conn_of_packet policy packet) c) (map_after cells (e ∷ []))) (sym is)
        now,
  )
  choice_right write (Writes tracked) is now = now

  -- an access that wasn't done leaves what the box has
  stays : is_done e.reply ≡ false → IsSameConns conns (map_after cells (e ∷ []))
  stays h =
      table_stays conn_key_number IsConnKey tracked_number conns cells (map_after cells (e ∷ []))
      (not_done_same cells e replied h) same

  none_at : cells (packet_key policy packet) ≡ None → conns (conn_of_packet policy packet) ≡ None
  none_at is =
      table_none conn_key_number IsConnKey tracked_number conns cells (conn_of_packet policy packet) fits same is

  some_at : (held : Held) → cells (packet_key policy packet) ≡ Some held →
      (tracked : Tracked) × HasBoth policy conns packet held tracked
  some_at held is =
      let r = table_has conn_key_number IsConnKey tracked_number tracked_of tracked_read conns cells
      (conn_of_packet policy packet) held fits same is in
      (r.0, (r.1, r.2))

  -- a reply that tells of the connection: there is none
  absent_right : cells (packet_key policy packet) ≡ None → e.reply ≡ Absent →
      IsRight policy conns packet cells e (decide policy packet Absent)
  absent_right none is =
      choice_right Add (choice_of policy packet None) (choice_at None (none_at none)) (stays (ap is_done is))

  -- there is one
  found_right : (held : Held) → cells (packet_key policy packet) ≡ Some held →
      e.reply ≡ Found held.value held.version →
      IsRight policy conns packet cells e (decide policy packet (Found held.value held.version))
  found_right held there is =
      let r : (tracked : Tracked) × HasBoth policy conns packet held tracked = some_at held there in
      subst (λ known. IsRight policy conns packet cells e (decide_found policy packet held.version known)) (sym r.1.1)
      (choice_right (Alter held.version) (choice_of policy packet (Some r.0)) (choice_at (Some r.0) r.1.0)
      (stays (ap is_done is)))

  -- a write that was done
  done_right : (known : Option Tracked) (tracked : Tracked) → IsToWrite policy conns packet tracked known →
      key_of e.request ≡ packet_key policy packet →
      number_in (map_after cells (e ∷ []) (packet_key policy packet)) ≡ Some (tracked_number tracked) →
      (version : ℕ) → IsRight policy conns packet cells e (after_write policy packet (Done version))
  done_right known tracked write key now version =
      let is : fw_choice policy conns packet ≡ Writes tracked = choice_at known write.0 ∙ write.1 in (
        ap choice_verdict is,
        subst (λ c. IsSameConns (choice_conns conns (conn_of_packet policy packet) c) (map_after cells (e ∷ [])))
            (sym is)
            (table_written conn_key_number IsConnKey tracked_number is_same_conn conn_keyed conns cells
            (map_after cells (e ∷ [])) (conn_of_packet policy packet) tracked fits
            (λ k apart. other_leaves k (cells k) e (λ h. apart (sym key ∙ h))) now same),
      )

  -- in each state, by what the key has
  look_right : (cell : Option Held) → cells (packet_key policy packet) ≡ cell →
      e.request ≡ asks_in policy Look packet → IsRight policy conns packet cells e (decide policy packet e.reply)
  look_right None is asked =
      let reply : e.reply ≡ Absent = reply_is cells e (asks_in policy Look packet) None asked replied is in
      subst (λ r. IsRight policy conns packet cells e (decide policy packet r)) (sym reply) (absent_right is reply)
  look_right (Some held) is asked =
      let reply : e.reply ≡ Found held.value held.version =
      reply_is cells e (asks_in policy Look packet) (Some held) asked replied is in
      subst (λ r. IsRight policy conns packet cells e (decide policy packet r)) (sym reply) (found_right held is reply)

  -- a write goes on by its reply
  by_reply : (reply : Reply) → e.reply ≡ reply →
      IsRight policy conns packet cells e (after_write policy packet reply) →
      IsRight policy conns packet cells e (after_write policy packet e.reply)
  by_reply reply is right =
      subst (λ r. IsRight policy conns packet cells e (after_write policy packet r)) (sym is) right

  add_right : (tracked : Tracked) → choice_of policy packet None ≡ Writes tracked →
      (cell : Option Held) → cells (packet_key policy packet) ≡ cell →
      e.request ≡ asks_in policy (Add tracked) packet →
      IsRight policy conns packet cells e (after_write policy packet e.reply)
  add_right tracked choice None is asked =
      let reply : e.reply ≡ Done e.stamp =
      reply_is cells e (asks_in policy (Add tracked) packet) None asked replied is in
      let now : number_in (map_after cells (e ∷ []) (packet_key policy packet)) ≡ Some (tracked_number tracked) =
      ap number_in (cell_is cells e (asks_in policy (Add tracked) packet) None asked is) in
      by_reply (Done e.stamp) reply
      (done_right None tracked (none_at is, choice) (ap key_of asked) now e.stamp)
  add_right tracked choice (Some held) is asked =
      let reply : e.reply ≡ Found held.value held.version =
      reply_is cells e (asks_in policy (Add tracked) packet) (Some held) asked replied is in
      by_reply (Found held.value held.version) reply (found_right held is reply)

  -- what the flight found with this version is what stands there with it
  recalled_right : (own : List Entry) (version : ℕ) (tracked : Tracked) (held : Held) →
      IsSeen policy packet own version tracked → Recalled cells own e → cells (packet_key policy packet) ≡ Some held →
      held.version ≡ version → (known : Option Tracked) × IsToWrite policy conns packet tracked known
  recalled_right own version tracked held seen known is same_version =
      let known_at : IsRecalled cells seen.e =
      each-at (IsRecalled cells) seen.front [] seen.e
      (subst (AllByRecursion (IsRecalled cells)) seen.split known) in
      let value : held.value ≡ seen.value =
      known_at seen.value version held seen.reply (ap cells seen.on_key ∙ is) same_version in
      let r : (there : Tracked) × HasBoth policy conns packet held there = some_at held is in
      let one : Some r.0 ≡ Some seen.there = sym r.1.1 ∙ ap (λ (x : Value). tracked_of x.0) value ∙ seen.is in
      (Some seen.there, (r.1.0 ∙ one, seen.choice))

  alter_right : (own : List Entry) (version : ℕ) (tracked : Tracked) → IsSeen policy packet own version tracked →
      Recalled cells own e → (cell : Option Held) → cells (packet_key policy packet) ≡ cell →
      e.request ≡ asks_in policy (Alter version tracked) packet →
      IsRight policy conns packet cells e (after_write policy packet e.reply)
  alter_right own version tracked seen known None is asked =
      let reply : e.reply ≡ Absent =
      reply_is cells e (asks_in policy (Alter version tracked) packet) None asked replied is in
      by_reply Absent reply (absent_right is reply)
  alter_right own version tracked seen known (Some held) is asked = go (held.version == version) refl
    where
      answer : e.reply ≡ cond (held.version == version) (Done e.stamp) (Found held.value held.version)
      answer = reply_is cells e (asks_in policy (Alter version tracked) packet) (Some held) asked replied is

      go : (b : Bool) → (held.version == version) ≡ b →
          IsRight policy conns packet cells e (after_write policy packet e.reply)
      go false w =
          let reply : e.reply ≡ Found held.value held.version =
          answer ∙ ap (λ b. cond b (Done e.stamp) (Found held.value held.version)) w in
          by_reply (Found held.value held.version) reply (found_right held is reply)
      go true w =
          let reply : e.reply ≡ Done e.stamp =
          answer ∙ ap (λ b. cond b (Done e.stamp) (Found held.value held.version)) w in
          let written : Held = record { value = fw_value tracked; version = e.stamp } in
          let now : number_in (map_after cells (e ∷ []) (packet_key policy packet)) ≡ Some (tracked_number tracked) =
          ap number_in
          (cell_is cells e (asks_in policy (Alter version tracked) packet) (Some held) asked is
          ∙ ap (λ b. Some (cond b written held)) w) in
          let r : (there : Option Tracked) × IsToWrite policy conns packet tracked there =
          recalled_right own version tracked held seen known is (eqb-true held.version version w) in
          by_reply (Done e.stamp) reply (done_right r.0 tracked r.1 (ap key_of asked) now e.stamp)

  -- The box keeps up.
  pub goes_right : (own : List Entry) (state : FwState) → Seen policy packet own state → Recalled cells own e →
      e.request ≡ asks_in policy state packet →
      IsRight policy conns packet cells e (goes_in policy state packet e.reply)
  goes_right own Look seen known asked = look_right (cells (packet_key policy packet)) refl asked
  goes_right own (Add tracked) seen known asked =
      add_right tracked seen (cells (packet_key policy packet)) refl asked
  goes_right own (Alter version tracked) seen known asked =
      alter_right own version tracked seen known (cells (packet_key policy packet)) refl asked
