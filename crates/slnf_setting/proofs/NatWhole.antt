-- One ordinary NAT explains each run of a NAT's plan, with all that is written, and nothing leaks in it.
use Rattle.std.proofs.Common.{◌≡◌, ℕ, ◌*◌, true, List}
use Rattle.std.specs.List.{list_all}
use Rattle.slnf_base.specs.declared.plans.Pool.{Pool}
use Rattle.slnf_access.specs.declared.requests.Entry.{Entry}
use Rattle.slnf_access.specs.Machines.{Stand}
use Rattle.slnf_plan.specs.declared.plan.Epoch.{Epoch}
use Rattle.slnf_plan.specs.Ranges.{has_lanes_apart}
use Rattle.slnf_run.specs.Run.{IsRun}
use Rattle.slnf_run.specs.Setting.{Setting, own_base}
use Rattle.slnf_run.specs.Images.{IsSceneImage}
use Rattle.slnf_run.specs.OneBox.{IsSound, IsOneBoxWhole}
use Rattle.slnf_run.proofs.LanePosts.{actor_at}
use Rattle.slnf_box.specs.NatBox.{NatArrival, nat_box}
use Rattle.slnf_box.specs.Pools.{port_count, nat_of}
use Rattle.slnf_nat.specs.Flights.{NatFlight}
use Rattle.slnf_nat.specs.Machine.{nat_machine}
use Rattle.slnf_nat.specs.StoredFlows.{IsSameFlows}
use Rattle.slnf_nat.specs.NatScene.{nat_scene}
use Rattle.slnf_nat.specs.Given.{IsNatList}
use Rattle.slnf_nat.specs.LeaksNothing.{IsNatSetting, LeaksNothing}
use Rattle.slnf_nat.proofs.Explained.{nat_explained}
use Rattle.slnf_nat.proofs.LeaksOfRun.{nat_list_of_image}
use Rattle.slnf_nat.proofs.NothingLeaks.{nothing_leaks}
use Rattle.slnf_flight.specs.declared.lanes.Lane.{Lane}
use Rattle.slnf_flight.specs.Actors.{eras_of}
use Rattle.slnf_flight.specs.declared.flights.AnyFlight.{AnyFlight}
use Rattle.slnf_flight.specs.declared.flights.AnyFlight.TheVariants.{Nat as NatFlies}
use Rattle.slnf_run.specs.Cases.{case_setting}
use Rattle.slnf_flight.specs.Begins.{begins_of}
use Rattle.slnf_plan.specs.declared.plan.FunctionPlan.TheVariants.{Nat}
use Rattle.slnf_setting.proofs.PlanFits.{PlanFits, plan_is_nat}
use Rattle.slnf_nat.specs.Starts.{nat_starts}
use Rattle.slnf_flight.specs.NatPlan.{nat_sweeps}
use Rattle.slnf_flight.specs.PlanSetting.{nat_own, nat_case, nat_arrival_of, setting_with}
use Rattle.slnf_setting.specs.OneBoxOfPlan.{any_nat_box}
use Rattle.slnf_setting.proofs.Viewed.{viewed_setting, run_viewed, leaks_viewed}
use Rattle.slnf_run.proofs.Cases.{scene_image}
use Rattle.slnf_setting.proofs.LanesApart.{lanes_once}
use Rattle.slnf_setting.proofs.Sounding.{function_sound}
use Rattle.slnf_run.proofs.WholeCases.{case_whole}
use Rattle.slnf_nat.proofs.PacketEnds.{nat_function}
use Rattle.slnf_setting.proofs.NatRanges.{nat_firsts, nat_ranges}
use Rattle.slnf_setting.proofs.NatSweeps.{sweep_covers, sweep_alone}
use Rattle.slnf_setting.proofs.NatPlaces.{nat_places}

module _ (pool : Pool) (shards batch : ℕ) (epochs : List Epoch) (lanes : List Lane) where
  abbrev pub begins : ℕ → ℕ → Stand NatFlight
  begins = begins_of (eras_of epochs) lanes (nat_starts pool) (nat_sweeps pool (eras_of epochs))

  abbrev pub own : Setting NatFlight NatArrival
  own = setting_with shards batch epochs lanes (2 * port_count pool) (nat_own pool epochs lanes)

  -- the setting, as a NAT's box sees it
  abbrev seen : Setting AnyFlight NatArrival
  seen = viewed_setting nat_arrival_of (case_setting nat_case own)

  pub nat_sound : list_all has_lanes_apart epochs ≡ true → IsSound own
  nat_sound apart = function_sound (nat_machine (nat_of pool)) (nat_starts pool) (nat_sweeps pool (eras_of epochs))
      (nat_function pool (own_base (eras_of epochs))) shards batch (2 * port_count pool) (eras_of epochs) lanes _ _ _
      (lanes_once epochs apart)

  pub nat_image : IsSceneImage NatFlies (nat_scene (nat_of pool) begins) seen.scene
  nat_image = scene_image nat_case (nat_own pool epochs lanes)

  pub nat_list : PlanFits (Nat pool) epochs → (es : List Entry) → IsRun (case_setting nat_case own) es
      → IsNatList (nat_of pool) (own_base (eras_of epochs)) begins es
  nat_list fits es run =
      nat_list_of_image seen NatFlies (nat_of pool) begins es nat_image (nat_firsts pool epochs lanes)
      (nat_ranges pool epochs lanes fits)
      (run_viewed nat_arrival_of (case_setting nat_case own) es run)

  pub nat_whole : PlanFits (Nat pool) epochs → (es : List Entry) → IsRun (case_setting nat_case own) es
      → IsOneBoxWhole (case_setting nat_case own) (any_nat_box (nat_of pool)) IsSameFlows es
  nat_whole fits es run =
      case_whole nat_case own es (nat_box (nat_of pool)) IsSameFlows (nat_sound fits.apart)
      (nat_places (nat_of pool) begins es) run
      (nat_explained (nat_of pool) (plan_is_nat pool epochs fits) (own_base (eras_of epochs)) begins es
      (nat_list fits es run))

  -- the setting is one of which nothing leaks
  pub nat_setting_is : PlanFits (Nat pool) epochs → (es : List Entry)
      → IsNatSetting seen NatFlies (nat_of pool) begins es
  nat_setting_is fits es = record {
    image = nat_image;
    firsts = nat_firsts pool epochs lanes;
    ranges = nat_ranges pool epochs lanes fits;
    covers = λ i sweep. sweep_covers pool (eras_of epochs) lanes i sweep.post.actor
        (actor_at seen es i sweep.post sweep.posted) sweep.no_lane;
    sweeps = λ i k sweep. sweep_alone pool (eras_of epochs) lanes i sweep.post.actor
        (actor_at seen es i sweep.post sweep.posted) sweep.no_lane k;
  }

  pub nat_leaks_nothing : PlanFits (Nat pool) epochs → (es : List Entry) → IsRun (case_setting nat_case own) es
      → LeaksNothing (nat_of pool) (λ cells. cells) (case_setting nat_case own) es
  nat_leaks_nothing fits es run =
      leaks_viewed nat_arrival_of (case_setting nat_case own) (nat_of pool) es
      (nothing_leaks seen NatFlies (nat_of pool) (plan_is_nat pool epochs fits) begins es (nat_setting_is fits es)
      (run_viewed nat_arrival_of (case_setting nat_case own) es run))
