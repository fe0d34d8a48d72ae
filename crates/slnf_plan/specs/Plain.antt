-- Plans without the proofs of their ranges, as a text spells them.
use Rattle.std.specs.Prelude.{ℕ, Bool, List, map}
use Rattle.slnf_base.specs.declared.addresses.Prefix.{Prefix}
use Rattle.slnf_base.specs.declared.plans.Pool.{Pool}
use Rattle.slnf_base.specs.declared.plans.Service.{Service}
use Rattle.slnf_fw_table.specs.declared.rules.Rule.{Rule}
use Rattle.slnf_plan.specs.declared.plan.FunctionPlan.{FunctionPlan}
use Rattle.slnf_plan.specs.declared.plan.FunctionPlan.TheVariants.{Nat, Firewall, Balancer}
use Rattle.slnf_plan.specs.declared.plan.Epoch.{Epoch}
use Rattle.slnf_plan.specs.declared.plan.Plan.{Plan}

pub record PlainPrefix : Type 0 where
  pub addr : ℕ
  pub bits : ℕ

pub record PlainPool : Type 0 where
  pub inside : PlainPrefix
  pub outside : ℕ
  pub low : ℕ
  pub high : ℕ

pub record PlainRule : Type 0 where
  pub permit : Bool
  pub outbound : Bool
  pub proto : ℕ
  pub source : PlainPrefix
  pub dest : PlainPrefix
  pub low : ℕ
  pub high : ℕ

pub data PlainFunction : Type 0 where
  nat : PlainPool → PlainFunction
  firewall : PlainPrefix → List PlainRule → PlainFunction
  balancer : Service → PlainFunction

pub record PlainPlan : Type 0 where
  pub function : PlainFunction
  pub shards : ℕ
  pub batch : ℕ
  pub epochs : List Epoch

abbrev pub plain_prefix : Prefix → PlainPrefix
plain_prefix p = record { addr = p.addr; bits = p.bits }

abbrev pub plain_pool : Pool → PlainPool
plain_pool p = record { inside = plain_prefix p.inside; outside = p.outside; low = p.low; high = p.high }

abbrev pub plain_rule : Rule → PlainRule
plain_rule r = record {
  permit = r.permit;
  outbound = r.outbound;
  proto = r.proto;
  source = record { addr = r.source; bits = r.source_bits };
  dest = record { addr = r.dest; bits = r.dest_bits };
  low = r.low;
  high = r.high;
}

abbrev pub plain_function : FunctionPlan → PlainFunction
plain_function (Nat pool) = nat (plain_pool pool)
plain_function (Firewall inside rules) = firewall (plain_prefix inside) (map plain_rule rules)
plain_function (Balancer service) = balancer service

abbrev pub plain : Plan → PlainPlan
plain p = record { function = plain_function p.function; shards = p.shards; batch = p.batch; epochs = p.epochs }
