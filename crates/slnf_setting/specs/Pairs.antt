-- What a run of a plan keeps of the pairs that it gives out.
use Rattle.std.specs.Prelude.{◌≡◌, ℕ, ◌≤◌, Some, List, take}
use Rattle.slnf_base.specs.declared.addresses.Pair.{Pair}
use Rattle.slnf_base.specs.declared.packets.Proto.{Proto}
use Rattle.slnf_access.specs.declared.requests.Entry.{Entry}
use Rattle.slnf_access.specs.Map.{empty, map_after}
use Rattle.slnf_base.specs.Ranges.{IsPair}
use Rattle.slnf_plan.specs.declared.plan.FunctionPlan.{FunctionPlan}
use Rattle.slnf_plan.specs.declared.plan.FunctionPlan.TheVariants.{Nat, Firewall, Balancer}
use Rattle.slnf_nat.specs.StoredFlows.{flow_at}
use Rattle.slnf_nat.specs.Laws.{FlowsApart}
use Rattle.slnf_lb.specs.Pins.{PinsStay}

pub record FlowsKeep (es : List Entry) : Type 0 where
  -- No two live flows of a protocol have one outside pair,
  pub apart : FlowsApart es
  -- and a flow that has an outside pair after a prefix has it after each longer one.
  pub stay : (t u : ℕ) (proto : Proto) (inside port : Pair) → t ≤ u → IsPair inside →
      flow_at (map_after empty (take t es)) proto inside ≡ Some port →
      flow_at (map_after empty (take u es)) proto inside ≡ Some port

-- what a function keeps; a firewall gives out no pairs
abbrev pub KeepsPairs : FunctionPlan → List Entry → Type 0
KeepsPairs (Nat pool) es = FlowsKeep es
KeepsPairs (Firewall inside rules) es = Unit {0}
KeepsPairs (Balancer service) es = PinsStay es
