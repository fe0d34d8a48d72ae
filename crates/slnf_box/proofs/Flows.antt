-- The two tables of a NAT do what its list of flows does.
use Rattle.std.proofs.Common.{◌≡◌, Bool, true, false, cond, Option, Some, None, List, ◌∷◌, refl, ap, sym, ◌∙◌, OnOk}
use Rattle.std.specs.declared.result.Result.{Result}
use Rattle.std.specs.declared.result.Result.TheVariants.{Ok, Err}
use Rattle.std.specs.Prelude.{◌&&◌, ◌==◌}
use Rattle.std.proofs.lemmas.Cmp.{nat_eq_equiv}
use Rattle.slnf_base.specs.declared.addresses.Pair.{Pair}
use Rattle.slnf_base.specs.declared.packets.Proto.{Proto}
use Rattle.slnf_base.specs.declared.packets.Packet.{Packet}
use Rattle.slnf_base.specs.declared.packets.Reason.TheVariants.{Neither}
use Rattle.slnf_base.specs.declared.packets.Verdict.TheVariants.{Dropped}
use Rattle.slnf_base.specs.declared.plans.Pool.{Pool}
use Rattle.slnf_base.specs.Numbers.{proto_number}
use Rattle.slnf_base.specs.Equal.{is_same_pair, is_same_proto}
use Rattle.slnf_box.specs.LbBox.{with_pin}
use Rattle.slnf_box.specs.NatBox.{Flow, pair_of, owner, free_choice, out_verdict, out_is_new, in_verdict, out_next, nat_verdict, nat_next, is_new_flow}
use Rattle.slnf_box.specs.Pools.{nat_of, is_outbound, is_inbound}
use Rattle.slnf_box.specs.Tables.{fresh_choice, pairs_with, owners_with, table_verdict, table_pairs, table_owners, table_is_new}

-- the tests from the other side
swapped : (p q : Proto) (a b : Pair) → (is_same_proto p q && is_same_pair a b) ≡ (is_same_proto q p && is_same_pair b a)
swapped p q a b =
    ap (λ t. t && is_same_pair a b) (nat_eq_equiv.symm (proto_number p) (proto_number q))
    ∙ ap (λ t. is_same_proto q p && (t && (a.port == b.port))) (nat_eq_equiv.symm a.addr b.addr)
    ∙ ap (λ t. is_same_proto q p && ((b.addr == a.addr) && t)) (nat_eq_equiv.symm a.port b.port)

-- one flow more is one pair more, each way
pair_more : (flow : Flow) (flows : List Flow)
    → pair_of (flow ∷ flows) ≡ with_pin (pair_of flows) flow.proto flow.inside flow.outside
pair_more flow flows = λ i proto inside.
    ap (λ t. cond t (Some flow.outside) (pair_of flows proto inside)) (swapped flow.proto proto flow.inside inside) i

owner_more : (flow : Flow) (flows : List Flow) → owner (flow ∷ flows) ≡ with_pin (owner flows) flow.proto flow.outside flow.inside
owner_more flow flows = λ i proto outside.
    ap (λ t. cond t (Some flow.inside) (owner flows proto outside)) (swapped flow.proto proto flow.outside outside) i

-- a choice can be taken alike
choice_alike : (pool : Pool) (flows : List Flow) (packet : Packet) (choice : Option Pair)
    → fresh_choice pool (owner flows) packet choice ≡ free_choice (nat_of pool) flows packet choice
choice_alike pool flows packet None = refl
choice_alike pool flows packet (Some port) = refl

pub verdict_alike : (pool : Pool) (flows : List Flow) (packet : Packet) (choice : Option Pair)
    → table_verdict pool (pair_of flows) (owner flows) packet choice ≡ nat_verdict (nat_of pool) flows
    (record { packet = packet; choice = choice })
verdict_alike pool flows packet choice =
    ap (λ fresh. cond (is_outbound pool packet) (out_verdict (pair_of flows packet.proto packet.source) fresh)
    (cond (is_inbound pool packet) (in_verdict (owner flows packet.proto packet.dest)) (Dropped Neither)))
    (choice_alike pool flows packet choice)

-- the tables after a packet on its way out
pairs_out : (flows : List Flow) (packet : Packet) (known fresh : Option Pair)
    → pairs_with (pair_of flows) packet known fresh ≡ pair_of (out_next flows packet known fresh)
pairs_out flows packet (Some known) fresh = refl
pairs_out flows packet None (Some fresh) = sym (pair_more _ flows)
pairs_out flows packet None None = refl

owners_out : (flows : List Flow) (packet : Packet) (known fresh : Option Pair)
    → owners_with (owner flows) packet known fresh ≡ owner (out_next flows packet known fresh)
owners_out flows packet (Some known) fresh = refl
owners_out flows packet None (Some fresh) = sym (owner_more _ flows)
owners_out flows packet None None = refl

-- a table of what a test chooses
chosen : {A : Type 0} (f : List Flow → A) (b : Bool) (x y : List Flow) → cond b (f x) (f y) ≡ f (cond b x y)
chosen f true x y = refl
chosen f false x y = refl

pub pairs_alike : (pool : Pool) (flows : List Flow) (packet : Packet) (choice : Option Pair)
    → table_pairs pool (pair_of flows)
    (owner flows) packet choice ≡ pair_of (nat_next (nat_of pool) flows (record { packet = packet; choice = choice }))
pairs_alike pool flows packet choice =
    let known = pair_of flows packet.proto packet.source in
    ap (λ fresh. cond (is_outbound pool packet) (pairs_with (pair_of flows) packet known fresh) (pair_of flows))
    (choice_alike pool flows packet choice)
    ∙ ap (λ out. cond (is_outbound pool packet) out (pair_of flows))
    (pairs_out flows packet known (free_choice (nat_of pool) flows packet choice))
    ∙ chosen pair_of (is_outbound pool packet) _ flows

pub owners_alike : (pool : Pool) (flows : List Flow) (packet : Packet) (choice : Option Pair)
    → table_owners pool (pair_of flows)
    (owner flows) packet choice ≡ owner (nat_next (nat_of pool) flows (record { packet = packet; choice = choice }))
owners_alike pool flows packet choice =
    let known = pair_of flows packet.proto packet.source in
    ap (λ fresh. cond (is_outbound pool packet) (owners_with (owner flows) packet known fresh) (owner flows))
    (choice_alike pool flows packet choice)
    ∙ ap (λ out. cond (is_outbound pool packet) out (owner flows))
    (owners_out flows packet known (free_choice (nat_of pool) flows packet choice))
    ∙ chosen owner (is_outbound pool packet) _ flows

pub new_alike : (pool : Pool) (flows : List Flow) (packet : Packet) (choice : Option Pair)
    → table_is_new pool (pair_of flows) (owner flows) packet choice ≡ is_new_flow (nat_of pool) flows
    (record { packet = packet; choice = choice })
new_alike pool flows packet choice =
    ap (λ fresh. is_outbound pool packet && out_is_new (pair_of flows packet.proto packet.source) fresh)
    (choice_alike pool flows packet choice)

-- what follows from two facts of a success
pub both_ok : {A E P Q R : Type 0} → (r : Result A E) → (P → Q → R) → OnOk r P → OnOk r Q → OnOk r R
both_ok (Ok x) f p q = f p q
both_ok (Err e) f p q = tt
