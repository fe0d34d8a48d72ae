-- An epoch's function follows packets as the plan's machine does.
use Rattle.std.proofs.Common.{◌≡◌, ℕ, Option, Some, None, List, [], ◌∷◌, refl, sym, ap, ◌∙◌, subst}
use Rattle.slnf_base.specs.declared.packets.Packet.{Packet}
use Rattle.slnf_access.specs.declared.functions.Start.{Start}
use Rattle.slnf_access.specs.declared.functions.Start.TheVariants.{Go as StartGo, Over as StartOver}
use Rattle.slnf_access.specs.declared.functions.Step.{Step}
use Rattle.slnf_access.specs.declared.functions.Step.TheVariants.{Go as StepGo, Over as StepOver}
use Rattle.slnf_access.specs.declared.requests.Entry.{Entry}
use Rattle.slnf_access.specs.Map.{key_of}
use Rattle.slnf_access.specs.Machines.{Machine, machine_of, Stand, Flies, Ends, stand_of_start, stand_of_step, stand_after, IsPath}
use Rattle.slnf_plan.specs.declared.plan.Epoch.{Epoch}
use Rattle.slnf_plan.specs.declared.plan.FunctionPlan.{FunctionPlan}
use Rattle.slnf_run.specs.Jobs.{first_key_of}
use Rattle.slnf_flight.specs.declared.flights.AnyFlight.{AnyFlight}
use Rattle.slnf_flight.specs.declared.functions.AnyFunction.{AnyFunction}
use Rattle.slnf_flight.specs.declared.lanes.Taken.{Taken}
use Rattle.slnf_flight.specs.declared.lanes.Taken.TheVariants.{Seen, Bad}
use Rattle.slnf_flight.specs.AnyFunction.{any_machine}
use Rattle.slnf_flight.specs.Begins.{begins_with}
use Rattle.slnf_flight.specs.Flights.{IsPacketFlight}
use Rattle.slnf_flight.specs.Functions.{any_behaviour, IsFunctionOf}
use Rattle.slnf_flight.proofs.Laws.{asks_are_plans, goes_are_plans, first_is_packets, goes_on_packets}

-- the packet has ended, or its flight is a packet's
abbrev pub IsPacketStand : Stand AnyFlight → Type 0
IsPacketStand (Flies flight) = IsPacketFlight flight
IsPacketStand (Ends verdict) = Unit {0}

module _ (plan_function : FunctionPlan) (epoch : Option Epoch) (function : AnyFunction)
    (of : IsFunctionOf plan_function epoch function) where
  -- the machine of the epoch's function
  abbrev pub own_machine : Machine AnyFlight
  own_machine = machine_of (any_behaviour function)

  started_packet : (incarnation number : ℕ) (packet : Packet) (start : Start AnyFlight) →
      (any_behaviour function).begins incarnation number packet ≡ start → IsPacketStand (stand_of_start start)
  started_packet incarnation number packet (StartGo flight) is =
      first_is_packets function incarnation number packet flight is
  started_packet incarnation number packet (StartOver reason) is = tt

  -- a captured packet begins as a packet's flight
  pub begun_packet : (incarnation number : ℕ) (taken : Option Taken) →
      IsPacketStand (begins_with ((any_behaviour function).begins incarnation number) taken)
  begun_packet incarnation number None = tt
  begun_packet incarnation number (Some (Bad reason)) = tt
  begun_packet incarnation number (Some (Seen packet)) =
      started_packet incarnation number packet ((any_behaviour function).begins incarnation number packet) refl

  gone_packet : (flight : AnyFlight) (e : Entry) (step : Step AnyFlight) →
      (any_behaviour function).goes flight e.reply ≡ step → IsPacketStand (stand_of_step step)
  gone_packet flight e (StepGo next) is = goes_on_packets function flight next e.reply is
  gone_packet flight e (StepOver verdict) is = tt

  -- a packet stands where the plan's machine says
  pub after_same : (stand : Stand AnyFlight) (es : List Entry) → IsPacketStand stand →
      stand_after own_machine stand es ≡ stand_after (any_machine plan_function) stand es
  after_same stand [] packet = refl
  after_same (Ends verdict) (e ∷ es) packet = after_same (Ends verdict) es tt
  after_same (Flies flight) (e ∷ es) packet =
      after_same (stand_of_step ((any_behaviour function).goes flight e.reply)) es
      (gone_packet flight e ((any_behaviour function).goes flight e.reply) refl)
      ∙ ap (λ s. stand_after (any_machine plan_function) s es)
      (goes_are_plans plan_function epoch function of flight e.reply packet)

  -- a path of the plan's machine is one of the function's
  pub path_same : (stand : Stand AnyFlight) (es : List Entry) → IsPacketStand stand →
      IsPath (any_machine plan_function) stand es → IsPath own_machine stand es
  path_same stand [] packet path = tt
  path_same (Ends verdict) (e ∷ es) packet path = absurd path.0
  path_same (Flies flight) (e ∷ es) packet path = (
    path.0 ∙ sym (asks_are_plans plan_function epoch function of flight),
    path_same (stand_of_step ((any_behaviour function).goes flight e.reply)) es
        (gone_packet flight e ((any_behaviour function).goes flight e.reply) refl)
        (subst (λ s. IsPath (any_machine plan_function) s es)
        (sym (goes_are_plans plan_function epoch function of flight e.reply packet)) path.1),
  )

  -- a packet's first key is the one that the plan's machine asks for
  pub first_same : (stand : Stand AnyFlight) → first_key_of own_machine stand
      ≡ first_key_of (any_machine plan_function) stand
  first_same (Flies flight) = ap (λ r. Some (key_of r)) (asks_are_plans plan_function epoch function of flight)
  first_same (Ends verdict) = refl
