-- The ranges of a plan's numbers, counts, lanes, places of backends and schedules, as tests that compute.
use Rattle.std.specs.Prelude.{ℕ, ◌+◌, ◌^◌, Bool, true, not, ◌&&◌, ◌||◌, ◌==◌, nat_lt, nat_le, List, [], ◌∷◌, length, map, Option, Some, None}
use Rattle.std.specs.List.{list_all, list_any}
use Rattle.slnf_base.specs.declared.addresses.Pair.{Pair}
use Rattle.slnf_fw_table.specs.declared.rules.Rule.{Rule}
use Rattle.slnf_plan.specs.declared.plan.FunctionPlan.{FunctionPlan}
use Rattle.slnf_plan.specs.declared.plan.FunctionPlan.TheVariants.{Nat, Firewall, Balancer}
use Rattle.slnf_plan.specs.declared.plan.InstancePlan.{InstancePlan}
use Rattle.slnf_plan.specs.declared.plan.SweepPlan.{SweepPlan}
use Rattle.slnf_plan.specs.declared.plan.SweepPlan.TheVariants.{No, Yes}
use Rattle.slnf_plan.specs.declared.plan.Epoch.{Epoch}

-- an optional number is at most this
abbrev pub is_at_most : ℕ → Option ℕ → Bool
is_at_most most None = true
is_at_most most (Some n) = nat_le n most

-- a port that a plan may name
abbrev pub has_port : Pair → Bool
has_port pair = nat_le 1 pair.port

-- a rule is for TCP (6), UDP (17) or both (0), and its ports are in order
abbrev pub is_rule : Rule → Bool
is_rule rule = (rule.proto == 0 || rule.proto == 6 || rule.proto == 17) && nat_le rule.low rule.high

-- at most 256 rules; a port at the front, and 1 to 64 backends with a port each
abbrev pub fits_function : FunctionPlan → Bool
fits_function (Nat pool) = true
fits_function (Firewall inside rules) = nat_le (length rules) 256 && list_all is_rule rules
fits_function (Balancer service) =
    has_port service.front && nat_le 1 (length service.backends) && nat_le (length service.backends) 64
    && list_all has_port service.backends

-- lane, quota and stop
abbrev pub is_instance : InstancePlan → Bool
is_instance i = nat_le i.lane 31 && is_at_most 1048576 i.quota && is_at_most (2 ^ 40) i.stop

-- at most 32 instances
abbrev pub has_instances : Epoch → Bool
has_instances epoch = nat_le (length epoch.instances) 32 && list_all is_instance epoch.instances

-- no number stands twice
abbrev pub are_distinct : List ℕ → Bool
are_distinct [] = true
are_distinct (n ∷ ns) = not (list_any (λ m. m == n) ns) && are_distinct ns

-- no lane stands twice
abbrev pub has_lanes_apart : Epoch → Bool
has_lanes_apart epoch = are_distinct (map (λ i. i.lane) epoch.instances)

-- the active backends of a balancer are 1 to 64 places of its list, and other functions have none
abbrev pub has_places : FunctionPlan → Epoch → Bool
has_places (Nat pool) epoch = length epoch.active == 0
has_places (Firewall inside rules) epoch = length epoch.active == 0
has_places (Balancer service) epoch =
    nat_le 1 (length epoch.active) && nat_le (length epoch.active) 64
    && list_all (λ n. nat_lt n (length service.backends)) epoch.active

-- a sweep's stop
abbrev pub is_sweep : SweepPlan → Bool
is_sweep No = true
is_sweep (Yes stop) = is_at_most (2 ^ 40) stop

-- how many actors a sweep is
abbrev pub sweep_count : SweepPlan → ℕ
sweep_count No = 0
sweep_count (Yes stop) = 1

-- a NAT may have a sweep, and other functions have none
abbrev pub has_sweep : FunctionPlan → Epoch → Bool
has_sweep (Nat pool) epoch = is_sweep epoch.sweep
has_sweep (Firewall inside rules) epoch = sweep_count epoch.sweep == 0
has_sweep (Balancer service) epoch = sweep_count epoch.sweep == 0

-- how many actors an epoch has: its instances, and its sweep after them
abbrev pub actor_count : Epoch → ℕ
actor_count epoch = length epoch.instances + sweep_count epoch.sweep

-- each number of the schedule is that of an actor
abbrev pub has_actors : Epoch → Bool
has_actors epoch = list_all (λ n. nat_lt n (actor_count epoch)) epoch.schedule
