-- The tables of a plan: each line of a table is a key with its kind and its rule, in the order in which they
-- are checked.
use Rattle.std.specs.Prelude.{ℕ, ◌+◌, ◌^◌, zero, suc, Bool, true, false, ◌==◌, List, [], ◌∷◌, ◌++◌, length, Option, Result, Ok, codes, if◌then◌else◌}
use Rattle.std.specs.List.{list_any}
use Rattle.toml.specs.Data.{Data, Members}
use Rattle.slnf_base.specs.declared.packets.Proto.TheVariants.{Tcp, Udp}
use Rattle.slnf_base.specs.declared.plans.Service.{Service}
use Rattle.slnf_plan.specs.declared.plan.InstancePlan.{InstancePlan}
use Rattle.slnf_plan.specs.declared.plan.SweepPlan.{SweepPlan}
use Rattle.slnf_plan.specs.declared.plan.SweepPlan.TheVariants.{No, Yes}
use Rattle.slnf_plan.specs.declared.plan.Epoch.{Epoch}
use Rattle.slnf_plan.specs.declared.refusal.Cause.TheVariants.{BadAddress, BadPrefix, OutOfRange, LaneTwice, NoBackend, NoEpoch, ScheduleActor}
use Rattle.slnf_plan.specs.declared.refusal.Refusal.{Refusal}
use Rattle.slnf_plan.specs.declared.function_kind.FunctionKind.{FunctionKind}
use Rattle.slnf_plan.specs.declared.function_kind.FunctionKind.TheVariants as kinds
use Rattle.slnf_plan.specs.Plain.{PlainPrefix, PlainPool, PlainRule, PlainFunction, nat, firewall, balancer, PlainPlan}
use Rattle.slnf_plan.specs.Ranges.{sweep_count}
use Rattle.slnf_plan.specs.Refusals.{◌>>=◌, refuse, under}
use Rattle.slnf_plan.specs.Tables.{text, one_of, number, from_to, truth, any_count, at_most, one_to, list_after, list_of, checked, table, demanded, required, optional, defaulted}
use Rattle.slnf_plan.specs.Texts.{address_of, pair_of, prefix_of}
use Rattle.slnf_plan.specs.Values.{apart_from, ports}

-- ---- the NAT

abbrev pub nat_keys : List (List ℕ)
nat_keys = codes "inside" ∷ codes "outside" ∷ codes "ports" ∷ []

unfoldable pub nat_rows : Members → Result PlainPool Refusal
nat_rows ms = do
  inside ← required (codes "inside") (text BadPrefix prefix_of) ms
  outside ← required (codes "outside") (text BadAddress (λ s. apart_from inside (address_of s))) ms
  range ← required (codes "ports") (ports 1024) ms
  Ok (record { inside = inside; outside = outside; low = range.0; high = range.1 })

unfoldable pub nat_table : Data → Result PlainPool Refusal
nat_table = table nat_keys nat_rows

-- ---- the firewall

abbrev pub rule_keys : List (List ℕ)
rule_keys = codes "action" ∷ codes "direction" ∷ codes "proto" ∷ codes "source" ∷ codes "dest" ∷ codes "ports" ∷ []

-- every address
abbrev pub anywhere : PlainPrefix
anywhere = record { addr = 0; bits = 0 }

unfoldable pub rule_rows : Members → Result PlainRule Refusal
rule_rows ms = do
  permit ← required (codes "action") (one_of ((codes "permit", true) ∷ (codes "deny", false) ∷ [])) ms
  outbound ← required (codes "direction") (one_of ((codes "out", true) ∷ (codes "in", false) ∷ [])) ms
  proto ← defaulted 0 (codes "proto") (one_of ((codes "tcp", 6) ∷ (codes "udp", 17) ∷ (codes "any", 0) ∷ [])) ms
  source ← defaulted anywhere (codes "source") (text BadPrefix prefix_of) ms
  dest ← defaulted anywhere (codes "dest") (text BadPrefix prefix_of) ms
  range ← defaulted (0, 65535) (codes "ports") (ports 0) ms
  Ok (record {
    permit = permit;
    outbound = outbound;
    proto = proto;
    source = source;
    dest = dest;
    low = range.0;
    high = range.1;
  })

unfoldable pub rule_table : Data → Result PlainRule Refusal
rule_table = table rule_keys rule_rows

abbrev pub firewall_keys : List (List ℕ)
firewall_keys = codes "inside" ∷ codes "rules" ∷ []

unfoldable pub firewall_rows : Members → Result PlainFunction Refusal
firewall_rows ms = do
  inside ← required (codes "inside") (text BadPrefix prefix_of) ms
  rules ← required (codes "rules") (list_of (at_most 256) rule_table) ms
  Ok (firewall inside rules)

unfoldable pub firewall_table : Data → Result PlainFunction Refusal
firewall_table = table firewall_keys firewall_rows

-- ---- the balancer

abbrev pub balancer_keys : List (List ℕ)
balancer_keys = codes "proto" ∷ codes "service" ∷ codes "backends" ∷ []

unfoldable pub balancer_rows : Members → Result Service Refusal
balancer_rows ms = do
  proto ← required (codes "proto") (one_of ((codes "tcp", Tcp) ∷ (codes "udp", Udp) ∷ [])) ms
  front ← required (codes "service") (text BadAddress pair_of) ms
  backends ← required (codes "backends") (list_of (one_to NoBackend 64) (text BadAddress pair_of)) ms
  Ok (record { proto = proto; front = front; backends = backends })

unfoldable pub balancer_table : Data → Result Service Refusal
balancer_table = table balancer_keys balancer_rows

-- ---- an epoch

abbrev pub instance_keys : List (List ℕ)
instance_keys = codes "lane" ∷ codes "quota" ∷ codes "stop" ∷ []

unfoldable pub instance_rows : Members → Result InstancePlan Refusal
instance_rows ms = do
  lane ← required (codes "lane") (from_to 0 31) ms
  quota ← optional (codes "quota") (from_to 0 1048576) ms
  stop ← optional (codes "stop") (from_to 0 (2 ^ 40)) ms
  Ok (record { lane = lane; quota = quota; stop = stop })

-- a lane that no earlier instance has
abbrev pub on_free_lane : List InstancePlan → InstancePlan → Result InstancePlan Refusal
on_free_lane earlier i = if list_any (λ e. e.lane == i.lane) earlier then under (codes "lane") (refuse LaneTwice) else Ok i

unfoldable pub instance_table : List InstancePlan → Data → Result InstancePlan Refusal
instance_table earlier d = do
  i ← table instance_keys instance_rows d
  on_free_lane earlier i

unfoldable pub instance_list : Data → Result (List InstancePlan) Refusal
instance_list = list_after (at_most 32) instance_table

unfoldable pub instances_row : Members → Result (List InstancePlan) Refusal
instances_row = required (codes "instances") instance_list

-- the places from 0 on, so many
abbrev pub places : ℕ → List ℕ
places zero = []
places (suc n) = places n ++ n ∷ []

-- the keys of an epoch that one function alone has
abbrev pub own_keys : FunctionKind → List (List ℕ)
own_keys kinds.Nat = codes "sweep" ∷ codes "sweep_stop" ∷ []
own_keys kinds.Firewall = []
own_keys kinds.Balancer = codes "active" ∷ []

abbrev pub epoch_keys : FunctionKind → List (List ℕ)
epoch_keys kind = codes "instances" ∷ own_keys kind ++ codes "schedule" ∷ []

-- a balancer's active backends, by default all
unfoldable pub active_row : FunctionKind → ℕ → Members → Result (List ℕ) Refusal
active_row kinds.Balancer backends ms =
    defaulted (places backends) (codes "active") (list_of (one_to NoBackend 64) (number OutOfRange 0 backends)) ms
active_row kinds.Nat backends ms = Ok []
active_row kinds.Firewall backends ms = Ok []

-- how many numbers a sweep's stop can be: 0 to 2^40, and without a sweep none
abbrev pub stop_count : Bool → ℕ
stop_count true = 2 ^ 40 + 1
stop_count false = 0

abbrev pub sweep_of : Bool → Option ℕ → SweepPlan
sweep_of true stop = Yes stop
sweep_of false stop = No

-- a NAT's sweep, by default none
unfoldable pub sweep_row : FunctionKind → Members → Result SweepPlan Refusal
sweep_row kinds.Nat ms = do
  sweep ← defaulted false (codes "sweep") truth ms
  stop ← optional (codes "sweep_stop") (number OutOfRange 0 (stop_count sweep)) ms
  Ok (sweep_of sweep stop)
sweep_row kinds.Firewall ms = Ok No
sweep_row kinds.Balancer ms = Ok No

-- the order of turns: each the number of an actor
unfoldable pub schedule_row : ℕ → Members → Result (List ℕ) Refusal
schedule_row actors = defaulted [] (codes "schedule") (list_of any_count (number ScheduleActor 0 actors))

unfoldable pub epoch_rows : FunctionKind → ℕ → Members → Result Epoch Refusal
epoch_rows kind backends ms = do
  instances ← instances_row ms
  active ← active_row kind backends ms
  sweep ← sweep_row kind ms
  schedule ← schedule_row (length instances + sweep_count sweep) ms
  Ok (record { instances = instances; active = active; sweep = sweep; schedule = schedule })

unfoldable pub epoch_table : FunctionKind → ℕ → Data → Result Epoch Refusal
epoch_table kind backends = table (epoch_keys kind) (epoch_rows kind backends)

-- ---- the whole plan

abbrev pub plan_keys : List (List ℕ)
plan_keys = codes "function" ∷ codes "shards" ∷ codes "batch"
    ∷ codes "nat" ∷ codes "firewall" ∷ codes "balancer" ∷ codes "epoch" ∷ []

-- the table that is the function's own; the other functions' are unread
unfoldable pub function_row : FunctionKind → Members → Result PlainFunction Refusal
function_row kinds.Nat ms = required (codes "nat") nat_table ms >>= λ pool. Ok (nat pool)
function_row kinds.Firewall ms = required (codes "firewall") firewall_table ms
function_row kinds.Balancer ms = required (codes "balancer") balancer_table ms >>= λ service. Ok (balancer service)

-- how many backends there are
abbrev pub backend_count : PlainFunction → ℕ
backend_count (nat pool) = 0
backend_count (firewall inside rules) = 0
backend_count (balancer service) = length service.backends

unfoldable pub shards_row : Members → Result ℕ Refusal
shards_row = defaulted 4 (codes "shards") (from_to 1 64)

unfoldable pub batch_row : Members → Result ℕ Refusal
batch_row = defaulted 1 (codes "batch") (from_to 1 32)

unfoldable pub epochs_row : FunctionKind → ℕ → Members → Result (List Epoch) Refusal
epochs_row kind backends = demanded NoEpoch (codes "epoch") (list_of (one_to NoEpoch 1000) (epoch_table kind backends))

unfoldable pub plan_rows : Members → Result PlainPlan Refusal
plan_rows ms = do
  kind ← required (codes "function") (one_of ((codes "nat", kinds.Nat) ∷ (codes "firewall", kinds.Firewall) ∷ (codes "balancer", kinds.Balancer) ∷ [])) ms
  shards ← shards_row ms
  batch ← batch_row ms
  function ← function_row kind ms
  epochs ← epochs_row kind (backend_count function) ms
  Ok (record { function = function; shards = shards; batch = batch; epochs = epochs })

-- the plan of a document's table, or its first refusal
unfoldable pub plan_of : Members → Result PlainPlan Refusal
plan_of = checked plan_keys plan_rows
