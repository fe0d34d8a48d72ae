-- The ranges that the types of a plan give, as a test.
use Rattle.std.specs.Prelude.{◌^◌, Bool, true, ◌&&◌, nat_lt}
use Rattle.std.specs.List.{list_all}
use Rattle.slnf_plan.specs.declared.plan.FunctionPlan.{FunctionPlan}
use Rattle.slnf_plan.specs.declared.plan.FunctionPlan.TheVariants.{Nat, Firewall, Balancer}
use Rattle.slnf_base.specs.Ranges.{is_pair}

-- a NAT's outside address has 32 bits and its ports 16, and so have the addresses and the ports of a balancer's
-- backends
abbrev pub has_types : FunctionPlan → Bool
has_types (Nat pool) = nat_lt pool.outside (2 ^ 32) && nat_lt pool.high (2 ^ 16)
has_types (Firewall inside rules) = true
has_types (Balancer service) = list_all is_pair service.backends
