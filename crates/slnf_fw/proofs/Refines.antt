-- One ordinary firewall explains each legal list of paths in which stamps rise on each key.
use Rattle.std.proofs.Common.{◌≡◌, ℕ, List, refl, ap, sym, ◌∙◌, subst}
use Rattle.slnf_access.specs.declared.requests.Entry.{Entry}
use Rattle.slnf_access.specs.Map.{Cells, IsLegal}
use Rattle.slnf_access.specs.Machines.{Stand}
use Rattle.slnf_access.specs.Order.{RisesOnKeys}
use Rattle.slnf_keys.specs.Keys.{conn_key_number, IsConnKey}
use Rattle.slnf_run.specs.Boxes.{IsExplained}
use Rattle.slnf_run.specs.Keeps.{HasPaths, IsNext, Keeps, Recalled}
use Rattle.slnf_run.proofs.KeepingBoxes.{recalled_explained}
use Rattle.slnf_run.proofs.Tables.{table_empty}
use Rattle.slnf_box.specs.FwBox.{Conns, fw_box}
use Rattle.slnf_box.specs.Packets.{conn_of_packet}
use Rattle.slnf_box.specs.declared.policies.Policy.{Policy}
use Rattle.slnf_fw.specs.Conns.{tracked_number, IsSameConns}
use Rattle.slnf_fw.specs.Flight.{Flying}
use Rattle.slnf_fw.specs.Machine.{asks_in, goes_in}
use Rattle.slnf_fw.specs.Scene.{fw_scene, IsFirst, BeginsFlights}
use Rattle.slnf_fw.proofs.Keys.{conn_fits}
use Rattle.slnf_fw.proofs.States.{IsInFlight, flight_seen}
use Rattle.slnf_fw.proofs.Steps.{IsRight, goes_right}

module _ (policy : Policy) (begins : ℕ → ℕ → Stand Flying) (flights : BeginsFlights policy begins) where
  at_entry : (cells : Cells) (own : List Entry) (e : Entry) (first flight : Flying) (conns : Conns) →
      IsNext (fw_scene policy begins) cells own e first flight → Recalled cells own e → IsSameConns conns cells →
      IsRight policy conns first.packet cells e (goes_in policy flight.state flight.packet e.reply)
  at_entry cells own e first flight conns next known same =
      let begun : IsFirst policy first = flights e.incarnation e.item first next.begins in
      let seen : IsInFlight policy first.packet own flight =
      flight_seen policy first flight own begun.state next.path next.stands in
      let asked : e.request ≡ asks_in policy flight.state first.packet =
      next.asked ∙ ap (asks_in policy flight.state) seen.0 in
      let fits : IsConnKey (conn_of_packet policy first.packet) =
      conn_fits policy first.packet begun.source begun.dest in
      subst (λ packet. IsRight policy conns first.packet cells e (goes_in policy flight.state packet e.reply))
      (sym seen.0)
      (goes_right policy conns first.packet cells e begun.crosses fits next.replied same own flight.state seen.1 known
      asked)

  -- The box keeps up with each access.
  pub fw_keeps : Keeps (fw_scene policy begins) (fw_box policy) IsSameConns Recalled
  fw_keeps = record {
    steady = λ incarnation flight reply verdict h. absurd (cc);
    at_decider = λ es number first verdict. refl;
    at_first = table_empty conn_key_number IsConnKey tracked_number;
    at_entry = at_entry;
  }

-- One ordinary firewall explains the list.
pub fw_explained : (policy : Policy) (begins : ℕ → ℕ → Stand Flying) (es : List Entry) →
    BeginsFlights policy begins → RisesOnKeys es → IsLegal es → HasPaths (fw_scene policy begins) es →
    IsExplained (fw_scene policy begins) (fw_box policy) IsSameConns es
fw_explained policy begins es flights rises legal paths =
    recalled_explained (fw_scene policy begins) (fw_box policy) IsSameConns es (fw_keeps policy begins flights) rises
    legal paths
