-- The seats of a plan's incarnations, as the code keeps them.
use Rattle.std.specs.Prelude.{ℕ, ◌+◌, Option, Some, None, List, [], ◌∷◌, ◌++◌, map, slice_get}
use Rattle.std.specs.Option.{option_and_then}
use Rattle.slnf_plan.specs.declared.plan.Epoch.{Epoch}
use Rattle.slnf_plan.specs.declared.plan.InstancePlan.{InstancePlan}
use Rattle.slnf_plan.specs.declared.plan.SweepPlan.{SweepPlan}
use Rattle.slnf_plan.specs.declared.plan.SweepPlan.TheVariants.{No, Yes}
use Rattle.slnf_replay.specs.declared.seats.Seat.{Seat}

-- the seat of an instance of the epoch with this number
abbrev pub instance_seat : ℕ → InstancePlan → Option Seat
instance_seat number instance = Some (record { epoch = number; lane = instance.lane })

-- a sweep has no seat
abbrev pub sweep_seats : SweepPlan → List (Option Seat)
sweep_seats No = []
sweep_seats (Yes stop) = None ∷ []

-- the seats of the actors of the epoch with this number
abbrev pub epoch_seats : ℕ → Epoch → List (Option Seat)
epoch_seats number epoch = map (instance_seat number) epoch.instances ++ sweep_seats epoch.sweep

-- the seats of the actors of these epochs, the first of which has this number
abbrev pub seats_from : ℕ → List Epoch → List (Option Seat)
seats_from number [] = []
seats_from number (epoch ∷ epochs) = epoch_seats number epoch ++ seats_from (number + 1) epochs

-- the seat of an incarnation
abbrev pub seat_in : List (Option Seat) → ℕ → Option Seat
seat_in seats incarnation = option_and_then (λ seat. seat) (slice_get seats incarnation)
