-- No reply is ill: what is found at a key of a function is a value of the key's kind.
use Rattle.std.specs.Prelude.{◌≡◌, ℕ, None, List, ◌∷◌, ◌++◌}
use Rattle.slnf_base.specs.declared.addresses.Pair.{Pair}
use Rattle.slnf_base.specs.declared.packets.Proto.{Proto}
use Rattle.slnf_access.specs.declared.requests.Entry.{Entry}
use Rattle.slnf_access.specs.declared.requests.Value.{Value}
use Rattle.slnf_access.specs.declared.requests.Reply.TheVariants.{Found}
use Rattle.slnf_access.specs.Map.{key_of}
use Rattle.slnf_keys.specs.declared.keys.ConnKey.{ConnKey}
use Rattle.slnf_base.specs.Ranges.{IsPair}
use Rattle.slnf_keys.specs.Keys.{conn_key_number, IsConnKey, pin_key_number}
use Rattle.slnf_keys.specs.Values.{flow_to_of, claim_of, pin_of}
use Rattle.slnf_plan.specs.declared.plan.FunctionPlan.{FunctionPlan}
use Rattle.slnf_plan.specs.declared.plan.FunctionPlan.TheVariants.{Nat, Firewall, Balancer}
use Rattle.slnf_nat.specs.Machine.{flow_key, port_key}
use Rattle.slnf_fw.specs.Conns.{tracked_of}

-- a value that was found at the number of a key isn't ill
abbrev pub IsWell : FunctionPlan → ℕ → ℕ → Type 0
IsWell (Nat pool) key value =
    ((proto : Proto) (inside : Pair) → IsPair inside → key ≡ flow_key proto inside → flow_to_of value ≡ None → ⊥)
    × ((proto : Proto) (port : Pair) → IsPair port → key ≡ port_key proto port → claim_of value ≡ None → ⊥)
IsWell (Firewall inside rules) key value =
    (conn : ConnKey) → IsConnKey conn → key ≡ conn_key_number conn → tracked_of value ≡ None → ⊥
IsWell (Balancer service) key value =
    (proto : Proto) (client : Pair) → IsPair client →
    key ≡ pin_key_number (record { proto = proto; client = client }) → pin_of value ≡ None → ⊥

-- no reply in the list is
abbrev pub NoneIll : FunctionPlan → List Entry → Type 0
NoneIll function es =
    (before later : List Entry) (e : Entry) (value : Value) (version : ℕ) → es ≡ before ++ e ∷ later →
    e.reply ≡ Found value version → IsWell function (key_of e.request) value.0
