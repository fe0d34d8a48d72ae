-- One ordinary firewall explains each run of a firewall's plan, with all that is written.
use Rattle.std.proofs.Common.{◌≡◌, ◌⊎◌, inl, inr, ℕ, true, Option, Some, None, List, refl}
use Rattle.std.specs.List.{list_all}
use Rattle.slnf_base.specs.declared.packets.Packet.{Packet}
use Rattle.slnf_access.specs.declared.requests.Entry.{Entry}
use Rattle.slnf_access.specs.declared.requests.Reply.{Reply}
use Rattle.slnf_access.specs.declared.requests.Reply.TheVariants.{Done, Found, Absent}
use Rattle.slnf_access.specs.Machines.{Flies, stand_of_step}
use Rattle.slnf_base.specs.Ranges.{IsPair}
use Rattle.slnf_plan.specs.declared.plan.Epoch.{Epoch}
use Rattle.slnf_plan.specs.Ranges.{has_lanes_apart}
use Rattle.slnf_run.specs.Run.{IsRun}
use Rattle.slnf_run.specs.Setting.{Setting}
use Rattle.slnf_access.proofs.Orders.{rises_in_order}
use Rattle.slnf_run.specs.OneBox.{EndsWell, IsSound, IsOneBoxWhole}
use Rattle.slnf_box.specs.Choices.{choice_of}
use Rattle.slnf_box.specs.FwBox.{fw_box}
use Rattle.slnf_box.specs.declared.choices.Choice.{Choice}
use Rattle.slnf_box.specs.declared.choices.Choice.TheVariants.{Refuses, Passes, Writes}
use Rattle.slnf_box.specs.declared.choices.Tracked.{Tracked}
use Rattle.slnf_box.specs.declared.policies.Policy.{Policy}
use Rattle.slnf_fw.specs.Conns.{tracked_of, IsSameConns}
use Rattle.slnf_fw.specs.declared.flights.FwState.{FwState}
use Rattle.slnf_fw.specs.declared.flights.FwState.TheVariants.{Look, Add, Alter}
use Rattle.slnf_fw.specs.Flight.{Flying}
use Rattle.slnf_fw.specs.Machine.{step_of_choice, decide_found, decide, after_write, fw_goes, fw_machine}
use Rattle.slnf_fw.specs.Scene.{IsFirst, BeginsFlights}
use Rattle.slnf_fw.proofs.Laws.{fw_explained, fw_first}
use Rattle.slnf_flight.specs.declared.lanes.Lane.{Lane}
use Rattle.slnf_flight.specs.Actors.{eras_of}
use Rattle.slnf_flight.specs.Begins.{begins_of, no_sweeps}
use Rattle.slnf_run.specs.FunctionLaws.{IsFunction}
use Rattle.slnf_setting.proofs.Fitting.{lanes_fit}
use Rattle.slnf_flight.specs.FwPlan.{fw_starts}
use Rattle.slnf_flight.specs.PlanSetting.{fw_own, fw_case, setting_with}
use Rattle.slnf_setting.specs.OneBoxOfPlan.{any_fw_box}
use Rattle.slnf_setting.proofs.Begun.{IsStarted, begun}
use Rattle.slnf_setting.proofs.StandsKeep.{stands_keep, nothing_swept}
use Rattle.slnf_setting.proofs.LanesApart.{lanes_once}
use Rattle.slnf_setting.proofs.Sounding.{function_sound}
use Rattle.slnf_run.proofs.WholeCases.{case_paths, case_places, case_whole}
use Rattle.slnf_run.specs.Cases.{case_setting}

chosen_well : (packet : Packet) (write : Tracked → FwState) (choice : Choice)
    → EndsWell (stand_of_step (step_of_choice packet write choice))
chosen_well packet write (Refuses reason) = tt
chosen_well packet write Passes = tt
chosen_well packet write (Writes tracked) = tt

decided_well : (policy : Policy) (packet : Packet) (reply : Reply)
    → EndsWell (stand_of_step (decide policy packet reply))
decided_well policy packet (Done version) = tt
decided_well policy packet (Found value version) = go (tracked_of value.0)
  where
    go : (found : Option Tracked) → EndsWell (stand_of_step (decide_found policy packet version found))
    go None = tt
    go (Some tracked) = chosen_well packet (Alter version) (choice_of policy packet (Some tracked))
decided_well policy packet Absent = chosen_well packet Add (choice_of policy packet None)

wrote_well : (policy : Policy) (packet : Packet) (reply : Reply)
    → EndsWell (stand_of_step (after_write policy packet reply))
wrote_well policy packet (Done version) = tt
wrote_well policy packet (Found value version) = decided_well policy packet (Found value version)
wrote_well policy packet Absent = decided_well policy packet Absent

goes_well : (policy : Policy) (flight : Flying) (reply : Reply)
    → EndsWell (stand_of_step (fw_goes policy flight reply))
goes_well policy flight reply = go flight.state
  where
    go : (state : FwState)
        → EndsWell (stand_of_step (fw_goes policy (record { state = state; packet = flight.packet }) reply))
    go Look = decided_well policy flight.packet reply
    go (Add tracked) = wrote_well policy flight.packet reply
    go (Alter version tracked) = wrote_well policy flight.packet reply

pub fw_function : (policy : Policy) → IsFunction (fw_machine policy) (fw_starts policy) no_sweeps
fw_function policy = record {
  steady = λ flight reply verdict h. absurd (cc);
  undecided = λ i k packet first h. refl;
  ends_well = λ i k packet first own h.
      stands_keep (fw_machine policy) EndsWell (λ flight reply w. goes_well policy flight reply) (Flies first) own tt;
  swept = nothing_swept (fw_machine policy);
}

module _ (policy : Policy) (shards batch : ℕ) (epochs : List Epoch) (lanes : List Lane) where
  abbrev own : Setting Flying Packet
  own = setting_with shards batch epochs lanes 0 (fw_own policy epochs lanes)

  pub fw_sound : list_all has_lanes_apart epochs ≡ true → IsSound own
  fw_sound apart = function_sound (fw_machine policy) (fw_starts policy) no_sweeps (fw_function policy) shards batch 0
      (eras_of epochs) lanes _ _ _ (lanes_once epochs apart)

  pub fw_flights : BeginsFlights policy (begins_of (eras_of epochs) lanes (fw_starts policy) no_sweeps)
  fw_flights i k first h = go (begun (eras_of epochs) lanes (fw_starts policy) no_sweeps i k first h).how
    where
      go : IsStarted lanes (fw_starts policy) i k first ⊎ (no_sweeps i k ≡ Flies first) → IsFirst policy first
      go (inl started) =
          let pairs : IsPair started.packet.source × IsPair started.packet.dest =
          lanes_fit lanes started.lane k started.packet started.captured in
          fw_first policy started.packet first pairs.0 pairs.1 started.start
      go (inr swept) = absurd (cc)

  pub fw_whole : (es : List Entry) → list_all has_lanes_apart epochs ≡ true
      → IsRun (case_setting fw_case own) es
      → IsOneBoxWhole (case_setting fw_case own) (any_fw_box policy) IsSameConns es
  fw_whole es apart run =
      case_whole fw_case own es (fw_box policy) IsSameConns (fw_sound apart)
      (case_places fw_case own es (λ es number first verdict. refl)) run
      (fw_explained policy (begins_of (eras_of epochs) lanes (fw_starts policy) no_sweeps) es fw_flights
      (rises_in_order shards es run.in_order run.in_shards) run.legal (case_paths fw_case own es run))
