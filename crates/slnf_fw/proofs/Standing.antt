-- A flight at an entry of a legal list of the firewall's paths, with what its key has before and after it.
use Rattle.std.proofs.Common.{◌≡◌, ℕ, Option, None, List, [], ◌∷◌, ◌++◌, ap, sym, ◌∙◌}
use Rattle.slnf_access.specs.declared.requests.Entry.{Entry}
use Rattle.slnf_access.specs.declared.requests.Request.{Request}
use Rattle.slnf_access.specs.declared.requests.Held.{Held}
use Rattle.slnf_access.specs.Map.{key_of, reply_to, Cells, empty, map_after, IsLegal}
use Rattle.slnf_access.specs.Machines.{Machine, Stand, Flies, stand_of_step, stand_step, stand_after}
use Rattle.slnf_access.proofs.Cells.{reply_is, cell_is}
use Rattle.slnf_access.proofs.Laws.{cell_of-append}
use Rattle.slnf_run.specs.Scene.{own_of, stand_of}
use Rattle.slnf_run.specs.Keeps.{HasPaths, IsNext}
use Rattle.slnf_run.proofs.DecidedOnce.{stand_of-own}
use Rattle.slnf_run.proofs.NextAccess.{same_flight, is_next}
use Rattle.slnf_box.specs.declared.policies.Policy.{Policy}
use Rattle.slnf_fw.specs.Flight.{Flying}
use Rattle.slnf_fw.specs.Machine.{packet_key, asks_in, goes_in, fw_machine}
use Rattle.slnf_fw.specs.Scene.{fw_scene, IsFirst, BeginsFlights}
use Rattle.slnf_fw.proofs.Credits.{stand_then, cell_then}
use Rattle.slnf_fw.proofs.States.{Seen, asks_key, flight_seen}

-- where an item stands after these entries, and what the key of a packet's connection has
abbrev pub stand_at : Policy → (ℕ → ℕ → Stand Flying) → (incarnation item : ℕ) → List Entry → Stand Flying
stand_at policy begins incarnation item es = stand_of (fw_scene policy begins) incarnation item es

abbrev pub cell_at : Policy → Flying → List Entry → Option Held
cell_at policy first es = map_after empty es (packet_key policy first.packet)

-- The entry e comes after these, and its item began with the flight `first`.
pub record IsAt (policy : Policy) (begins : ℕ → ℕ → Stand Flying) (before : List Entry) (e : Entry)
    (first : Flying) : Type 0 where
  pub flight : Flying
  pub stands : stand_at policy begins e.incarnation e.item before ≡ Flies flight
  pub on_key : key_of e.request ≡ packet_key policy first.packet
  pub reply : e.reply ≡ reply_to (asks_in policy flight.state first.packet) e.stamp (cell_at policy first before)
  pub goes : stand_at policy begins e.incarnation e.item (before ++ e ∷ [])
      ≡ stand_then policy flight.state first.packet e.stamp (cell_at policy first before)
  pub leaves : cell_at policy first (before ++ e ∷ [])
      ≡ cell_then policy flight.state first.packet e.stamp (cell_at policy first before)

module _ (policy : Policy) (begins : ℕ → ℕ → Stand Flying) (es : List Entry) (flights : BeginsFlights policy begins)
    (legal : IsLegal es) (paths : HasPaths (fw_scene policy begins) es) where
  pub flight_at : (before later : List Entry) (e : Entry) (first : Flying) → es ≡ before ++ e ∷ later →
      begins e.incarnation e.item ≡ Flies first → IsAt policy begins before e first
  flight_at before later e first split begun =
      let r : (f : Flying) × (g : Flying) × IsNext (fw_scene policy begins) (map_after empty before)
      (own_of e.incarnation e.item before) e f g =
      is_next (fw_scene policy begins) es legal paths before later e split in
      go r.0 r.1 r.2
    where
      go : (f flight : Flying) →
          IsNext (fw_scene policy begins) (map_after empty before) (own_of e.incarnation e.item before) e f flight →
          IsAt policy begins before e first
      go f flight next =
          let machine : Machine Flying = fw_machine policy in
          let cells : Cells = map_after empty before in
          let own : List Entry = own_of e.incarnation e.item before in
          let key : ℕ = packet_key policy first.packet in
          let same : f ≡ first = same_flight f first (sym next.begins ∙ begun) in
          let first_so : IsFirst policy f = flights e.incarnation e.item f next.begins in
          let seen : (flight.packet ≡ f.packet) × Seen policy f.packet own flight.state =
          flight_seen policy f flight own first_so.state next.path next.stands in
          let packet : flight.packet ≡ first.packet = seen.0 ∙ ap (λ (g : Flying). g.packet) same in
          let request : Request = asks_in policy flight.state first.packet in
          let asked : e.request ≡ request = next.asked ∙ ap (asks_in policy flight.state) packet in
          let on_key : key_of request ≡ key = asks_key policy flight.state first.packet in
          let there : cells (key_of request) ≡ cells key = ap cells on_key in
          let reply : e.reply ≡ reply_to request e.stamp (cells key) =
          reply_is cells e request (cells key) asked next.replied there in
          let stands : stand_at policy begins e.incarnation e.item before ≡ Flies flight =
          ap (λ stand. stand_after machine stand own) next.begins ∙ next.stands in
          record {
            flight = flight;
            stands = stands;
            on_key = ap key_of asked ∙ on_key;
            reply = reply;
            goes = stand_of-own (fw_scene policy begins) before e ∙ ap (λ stand. stand_step machine stand e) stands
                ∙ ap (λ p. stand_of_step (goes_in policy flight.state p e.reply)) packet
                ∙ ap (λ r. stand_of_step (goes_in policy flight.state first.packet r)) reply;
            leaves = cell_of-append key None before (e ∷ []) ∙ ap (map_after cells (e ∷ [])) (sym on_key)
                ∙ cell_is cells e request (cells key) asked there;
          }
