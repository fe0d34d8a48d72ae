-- A NAT's flow that has an outside pair keeps it.
use Rattle.std.proofs.Common.{◌≡◌, ℕ, ◌≤◌, Some, List, ◌++◌, take, drop, ap, sym, ◌∙◌, take-append-drop, append_assoc}
use Rattle.slnf_base.specs.declared.addresses.Pair.{Pair}
use Rattle.slnf_base.specs.declared.packets.Proto.{Proto}
use Rattle.slnf_base.specs.Ranges.{IsPair}
use Rattle.slnf_access.specs.declared.requests.Entry.{Entry}
use Rattle.slnf_access.specs.Map.{empty, map_after}
use Rattle.slnf_access.specs.Machines.{Stand}
use Rattle.slnf_run.proofs.DecidedOnce.{take_further}
use Rattle.slnf_box.specs.Nat.{Nat}
use Rattle.slnf_nat.specs.Flights.{NatFlight}
use Rattle.slnf_nat.specs.Machine.{flow_key}
use Rattle.slnf_nat.specs.StoredFlows.{flow_in, flow_at}
use Rattle.slnf_nat.specs.Given.{IsNat, IsNatList}
use Rattle.slnf_nat.proofs.Nexts.{flow_stays}
use Rattle.slnf_nat.proofs.Explained.{flow_there}

pub flows_stay : (nat : Nat) → IsNat nat → (base_at : ℕ → ℕ) (begins : ℕ → ℕ → Stand NatFlight) (es : List Entry) →
    IsNatList nat base_at begins es → (t u : ℕ) (proto : Proto) (inside port : Pair) → t ≤ u → IsPair inside →
    flow_at (map_after empty (take t es)) proto inside ≡ Some port →
    flow_at (map_after empty (take u es)) proto inside ≡ Some port
flows_stay nat is_nat base_at begins es given t u proto inside port le fits there =
    let middle : List Entry = drop t (take u es) in
    let long : take u es ≡ take t es ++ middle = take_further t u es le in
    let split : es ≡ take t es ++ (middle ++ drop u es) =
    sym (take-append-drop u es) ∙ ap (λ l. l ++ drop u es) long ∙ append_assoc (take t es) middle (drop u es) in
    let r = flow_there (map_after empty (take t es) (flow_key proto inside)) port there in
    ap (λ l. flow_at (map_after empty l) proto inside) long
    ∙ ap flow_in
    (flow_stays nat is_nat base_at begins es given (take t es) middle (drop u es) split proto inside r.0 fits r.1)
    ∙ r.2
