-- The plan of a load, as a text and as what it is read as.
use Rattle.std.specs.Prelude.{ℕ, ◌+◌, ◌*◌, ◌-◌, ◌^◌, List, [], ◌∷◌, ◌++◌, map, None, codes, decimal}
use Rattle.std.specs.List.{flat_map, range_with_len}
use Rattle.slnf_plan.specs.declared.plan.SweepPlan.TheVariants.{No}
use Rattle.slnf_plan.specs.Plain.{PlainPlan, nat}

-- the instance of a lane
abbrev pub instance_text : ℕ → List ℕ
instance_text lane = codes "{ lane = " ++ decimal lane ++ codes " }"

-- The text before the instances: a NAT behind one address with all ports from 1024 on, and one epoch.
unfoldable pub plan_head : List ℕ
plan_head =
    codes "function = \"nat\"\n"
    ++ codes "shards = 8\n"
    ++ codes "[nat]\n"
    ++ codes "inside = \"10.0.0.0/8\"\n"
    ++ codes "outside = \"203.0.113.1\"\n"
    ++ codes "ports = [1024, 65535]\n"
    ++ codes "[[epoch]]\n"
    ++ codes "instances = ["

-- an instance that isn't the first
abbrev pub next_text : ℕ → List ℕ
next_text lane = codes ", " ++ instance_text lane

-- the text: an instance for each lane in order, parted by a comma and a space
unfoldable pub plan_text : ℕ → List ℕ
plan_text lanes =
    plan_head ++ instance_text 0 ++ flat_map next_text (range_with_len 1 (lanes - 1)) ++ codes "]\n"

-- the plan that it is read as
abbrev pub plan_told : ℕ → PlainPlan
plan_told lanes = record {
  function = nat (record {
    inside = record { addr = 10 * 2 ^ 24; bits = 8 };
    outside = 203 * 2 ^ 24 + 113 * 2 ^ 8 + 1;
    low = 1024;
    high = 65535;
  });
  shards = 8;
  batch = 1;
  epochs = record {
    instances = map (λ lane. record { lane = lane; quota = None; stop = None }) (range_with_len 0 lanes);
    active = [];
    sweep = No;
    schedule = [];
  } ∷ [];
}
