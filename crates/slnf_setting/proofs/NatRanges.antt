-- The items of a NAT's plan begin as first flights, in their ranges.
use Rattle.std.proofs.Common.{◌≡◌, ◌⊎◌, inl, inr, ℕ, ◌-◌, ◌*◌, ◌<◌, ◌≤◌, Bool, true, false, cond, nat_lt, None, List, refl, subst, arith}
use Rattle.std.proofs.lemmas.Bool.{ltb-true, ltb-false}
use Rattle.slnf_base.specs.declared.packets.Proto.TheVariants.{Tcp, Udp}
use Rattle.slnf_base.specs.declared.plans.Pool.{Pool}
use Rattle.slnf_access.specs.Machines.{Stand, Flies, Ends}
use Rattle.slnf_base.specs.Ranges.{IsPair}
use Rattle.slnf_plan.specs.declared.plan.Epoch.{Epoch}
use Rattle.slnf_run.proofs.NextAccess.{same_flight}
use Rattle.slnf_box.specs.Pools.{IsPool, port_count, nat_of}
use Rattle.slnf_nat.specs.Flights.{SweepPort, NatFlight, Sweep, first_of}
use Rattle.slnf_nat.specs.Given.{IsRanged}
use Rattle.slnf_flight.specs.declared.lanes.Lane.{Lane}
use Rattle.slnf_flight.specs.Actors.{eras_of}
use Rattle.slnf_flight.specs.Begins.{begins_of}
use Rattle.slnf_plan.specs.declared.plan.FunctionPlan.TheVariants.{Nat}
use Rattle.slnf_setting.proofs.Fitting.{lanes_fit}
use Rattle.slnf_setting.proofs.PlanFits.{PlanFits, pool_fits}
use Rattle.slnf_nat.specs.Starts.{nat_starts, pool_port, sweep_item}
use Rattle.slnf_flight.specs.NatPlan.{nat_sweeps}
use Rattle.slnf_nat.proofs.PoolPairs.{port_fits}
use Rattle.slnf_nat.proofs.PacketEnds.{starts_as}
use Rattle.slnf_setting.proofs.FewActors.{incarnation_fits}
use Rattle.slnf_setting.proofs.Begun.{IsStarted, IsBegun, begun}
use Rattle.slnf_run.specs.Setting.{own_base}

-- what a sweep's item flies as
pub item_flies : (P : NatFlight → Type 0) (pool : Pool) (base item : ℕ) (first : NatFlight)
    → sweep_item pool base item ≡ Flies first
    → (item < port_count pool → P (Sweep SweepPort Tcp (pool_port pool item) base))
    → (item - port_count pool < port_count pool → P
    (Sweep SweepPort Udp (pool_port pool (item - port_count pool)) base))
    → P first
item_flies P pool base item first h tcp udp = go (nat_lt item (port_count pool))
    (nat_lt item (2 * port_count pool)) refl refl h
  where
    go : (b d : Bool) → nat_lt item (port_count pool) ≡ b → nat_lt item (2 * port_count pool) ≡ d
        → cond b (Flies (Sweep SweepPort Tcp (pool_port pool item) base))
        (cond d (Flies (Sweep SweepPort Udp (pool_port pool (item - port_count pool)) base)) (Ends None))
        ≡ Flies first
        → P first
    go true d w v h = subst P (same_flight _ first h) (tcp (ltb-true item (port_count pool) w))
    go false true w v h =
        let low : port_count pool ≤ item = ltb-false item (port_count pool) w in
        let high : item < 2 * port_count pool = ltb-true item (2 * port_count pool) v in
        subst P (same_flight _ first h) (udp (omega (arith, low, high)))
    go false false w v h = absurd (cc)

module _ (pool : Pool) (epochs : List Epoch) (lanes : List Lane) where
  abbrev begins : ℕ → ℕ → Stand NatFlight
  begins = begins_of (eras_of epochs) lanes (nat_starts pool) (nat_sweeps pool (eras_of epochs))

  pub nat_firsts : (i k : ℕ) (first : NatFlight) → begins i k ≡ Flies first → first_of first ≡ first
  nat_firsts i k first h = go (begun (eras_of epochs) lanes (nat_starts pool)
      (nat_sweeps pool (eras_of epochs)) i k first h).how
    where
      go : IsStarted lanes (nat_starts pool) i k first ⊎ (nat_sweeps pool (eras_of epochs) i k ≡ Flies first)
          → first_of first ≡ first
      go (inl started) = starts_as (λ f. first_of f ≡ f) pool i k started.packet first started.start (λ w. refl)
          (λ w v. refl)
      go (inr swept) = item_flies (λ f. first_of f ≡ f) pool (own_base (eras_of epochs) i) k first swept (λ w. refl)
          (λ w. refl)

  pub nat_ranges : PlanFits (Nat pool) epochs → (i k : ℕ) (first : NatFlight) → begins i k ≡ Flies first
      → IsRanged (nat_of pool) (own_base (eras_of epochs)) i first
  nat_ranges fits i k first h = go r.how
    where
      types : IsPool pool
      types = pool_fits pool epochs fits

      r : IsBegun (eras_of epochs) lanes (nat_starts pool) (nat_sweeps pool (eras_of epochs)) i k first
      r = begun (eras_of epochs) lanes (nat_starts pool) (nat_sweeps pool (eras_of epochs)) i k first h

      go : IsStarted lanes (nat_starts pool) i k first ⊎ (nat_sweeps pool (eras_of epochs) i k ≡ Flies first)
          → IsRanged (nat_of pool) (own_base (eras_of epochs)) i first
      go (inl started) =
          let pairs : IsPair started.packet.source × IsPair started.packet.dest =
          lanes_fit lanes started.lane k started.packet started.captured in
          starts_as (IsRanged (nat_of pool) (own_base (eras_of epochs)) i) pool i k started.packet first started.start
          (λ w. (refl, incarnation_fits epochs i r.actor fits.instances fits.few r.at, pairs.0, w))
          (λ w v. (pairs.1, w, v))
      go (inr swept) =
          item_flies (IsRanged (nat_of pool) (own_base (eras_of epochs)) i) pool
          (own_base (eras_of epochs) i) k first swept
          (λ w. (port_fits pool types.outside_fits types.high_fits k w, refl))
          (λ w. (port_fits pool types.outside_fits types.high_fits (k - port_count pool) w, refl))
