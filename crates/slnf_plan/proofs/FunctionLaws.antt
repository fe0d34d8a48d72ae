-- What a function's table that was read keeps.
use Rattle.std.proofs.Common.{◌≡◌, ℕ, suc, Bool, true, false, ◌&&◌, ◌||◌, cond, eqb, leb, nat_le, List, [], ◌∷◌, length, map, Option, Some, None, Result, Ok, refl, sym, ap, ◌∙◌, subst}
use Rattle.std.specs.Prelude.{codes, ◌==◌, ℤ, pos, negsuc, option_and_then}
use Rattle.std.specs.List.{list_all}
use Rattle.std.proofs.lemmas.Bool.{and_parts, and_from, le-leb, leb-true}
use Rattle.toml.specs.Data.{Data, Items, no_items, item, Members, as_array}
use Rattle.slnf_base.specs.declared.addresses.Pair.{Pair}
use Rattle.slnf_base.specs.declared.packets.Proto.{Proto}
use Rattle.slnf_base.specs.declared.packets.Proto.TheVariants.{Tcp, Udp}
use Rattle.slnf_base.specs.declared.plans.Service.{Service}
use Rattle.slnf_fw_table.specs.declared.rules.Rule.{Rule}
use Rattle.slnf_plan.specs.declared.function_kind.FunctionKind.{FunctionKind}
use Rattle.slnf_plan.specs.declared.function_kind.FunctionKind.TheVariants as kinds
use Rattle.slnf_plan.specs.declared.plan.FunctionPlan.{FunctionPlan}
use Rattle.slnf_plan.specs.declared.plan.FunctionPlan.TheVariants.{Nat, Firewall, Balancer}
use Rattle.slnf_plan.specs.declared.refusal.Cause.TheVariants.{MissingKey, BadAddress, BadPrefix, NoBackend, OutOfRange}
use Rattle.slnf_plan.specs.declared.refusal.Refusal.{Refusal}
use Rattle.slnf_plan.specs.Plain.{PlainPrefix, PlainRule, PlainFunction, nat, firewall, balancer, plain_rule, plain_function}
use Rattle.slnf_plan.specs.Ranges.{has_port, is_rule, fits_function}
use Rattle.slnf_plan.specs.Refusals.{◌>>=◌, refuse, under}
use Rattle.slnf_plan.specs.Tables.{text, one_of, at_most, one_to, list_of, required, defaulted}
use Rattle.slnf_plan.specs.Texts.{pair_of, prefix_of, address_at, decimal_after}
use Rattle.slnf_plan.specs.Values.{whole, in_order, two_ports, ports}
use Rattle.slnf_plan.specs.Plans.{anywhere, nat_table, rule_keys, rule_rows, rule_table, firewall_keys, firewall_rows, firewall_table, balancer_keys, balancer_rows, balancer_table, function_row, backend_count}
use Rattle.slnf_plan.proofs.Laws.{bind_ok, kind_ok, ok_is, demanded_ok, demanded_reads, defaulted_reads, Reads, table_ok, list_most, list_some, list_reads, text_reads, words_read}
use Rattle.slnf_plan.proofs.EpochLaws.{backends_fit}

-- ---- ports

abbrev ordered : ℕ × ℕ → Bool
ordered p = nat_le p.0 p.1

order_ok : (b : Bool) (p q : ℕ × ℕ) → cond b (Ok p) (refuse OutOfRange) ≡ Ok q → (b ≡ true) × (p ≡ q)
order_ok true p q e = (refl, ok_is p q e)
order_ok false p q e = absurd cc

in_order_reads : (least : ℕ) (low high : ℤ) (p : ℕ × ℕ) → in_order least low high ≡ Ok p → ordered p ≡ true
in_order_reads least (pos low) (pos high) p e =
    let a = order_ok (leb least low && leb low high && leb high 65535) (low, high) p e in
    let b = and_parts (leb least low && leb low high) (leb high 65535) a.0 in
    let c = and_parts (leb least low) (leb low high) b.0 in
    subst (λ q. ordered q ≡ true) a.1 c.1
in_order_reads least (pos low) (negsuc high) p e = absurd cc
in_order_reads least (negsuc low) (pos high) p e = absurd cc
in_order_reads least (negsuc low) (negsuc high) p e = absurd cc

two_ports_read : (least : ℕ) (ds : Items) (p : ℕ × ℕ) → two_ports least ds ≡ Ok p → ordered p ≡ true
two_ports_read least no_items p e = absurd cc
two_ports_read least (item a no_items) p e = absurd cc
two_ports_read least (item a (item b no_items)) p e =
    let x = bind_ok (under (codes "0") (whole a)) (λ low. under (codes "1") (whole b) >>= λ high. in_order least low high) p e in
    let y = bind_ok (under (codes "1") (whole b)) (λ high. in_order least x.0 high) p x.2 in
    in_order_reads least x.0 y.0 p y.2
two_ports_read least (item a (item b (item c ds))) p e = absurd cc

ports_read : (least : ℕ) → Reads ordered (ports least)
ports_read least d p e =
    let a = kind_ok (as_array d) (two_ports least) p e in
    two_ports_read least a.0 p a.2

-- ---- a rule

abbrev is_proto : ℕ → Bool
is_proto n = n == 0 || n == 6 || n == 17

-- a rule's test, of what its text spells
abbrev pub is_plain_rule : PlainRule → Bool
is_plain_rule rule = is_proto rule.proto && nat_le rule.low rule.high

rule_fits : (ms : Members) (r : PlainRule) → rule_rows ms ≡ Ok r → is_plain_rule r ≡ true
unfolding rule_rows
rule_fits ms r e =
    let prefix : Data → Result PlainPrefix Refusal = text BadPrefix prefix_of in
    let actions : Data → Result Bool Refusal = one_of ((codes "permit", true) ∷ (codes "deny", false) ∷ []) in
    let directions : Data → Result Bool Refusal = one_of ((codes "out", true) ∷ (codes "in", false) ∷ []) in
    let protos : List (List ℕ × ℕ) = (codes "tcp", 6) ∷ (codes "udp", 17) ∷ (codes "any", 0) ∷ [] in
    let made : Bool → Bool → ℕ → PlainPrefix → PlainPrefix
    → ℕ × ℕ → PlainRule = λ permit outbound proto source dest range. record {
      permit = permit;
      outbound = outbound;
      proto = proto;
      source = source;
      dest = dest;
      low = range.0;
      high = range.1;
    } in
    let a = bind_ok (required (codes "action") actions ms) (λ permit. required (codes "direction") directions ms
    >>= λ outbound. defaulted 0 (codes "proto") (one_of protos) ms >>= λ proto. defaulted anywhere
    (codes "source") prefix ms >>= λ source. defaulted anywhere (codes "dest") prefix ms >>= λ dest. defaulted
    (0, 65535) (codes "ports") (ports 0) ms >>= λ range. Ok (made permit outbound proto source dest range)) r e in
    let b = bind_ok (required (codes "direction") directions ms)
    (λ outbound. defaulted 0 (codes "proto") (one_of protos) ms >>= λ proto. defaulted anywhere
    (codes "source") prefix ms >>= λ source. defaulted anywhere (codes "dest") prefix ms >>= λ dest. defaulted
    (0, 65535) (codes "ports") (ports 0) ms >>= λ range. Ok (made a.0 outbound proto source dest range)) r a.2 in
    let c = bind_ok (defaulted 0 (codes "proto") (one_of protos) ms) (λ proto. defaulted anywhere
    (codes "source") prefix ms >>= λ source. defaulted anywhere (codes "dest") prefix ms >>= λ dest. defaulted
    (0, 65535) (codes "ports") (ports 0) ms >>= λ range. Ok (made a.0 b.0 proto source dest range)) r b.2 in
    let d = bind_ok (defaulted anywhere (codes "source") prefix ms)
    (λ source. defaulted anywhere (codes "dest") prefix ms >>= λ dest. defaulted (0, 65535) (codes "ports")
    (ports 0) ms >>= λ range. Ok (made a.0 b.0 c.0 source dest range)) r c.2 in
    let f = bind_ok (defaulted anywhere (codes "dest") prefix ms) (λ dest.
    defaulted (0, 65535) (codes "ports") (ports 0) ms >>= λ range. Ok (made a.0 b.0 c.0 d.0 dest range)) r d.2 in
    let g = bind_ok (defaulted (0, 65535) (codes "ports") (ports 0) ms) (λ range. Ok (made a.0 b.0 c.0 d.0 f.0 range)) r f.2 in
    let proto = defaulted_reads is_proto 0 (codes "proto") (one_of protos) ms c.0 (words_read is_proto protos refl) refl c.1 in
    let range = defaulted_reads ordered (0, 65535) (codes "ports") (ports 0) ms g.0 (ports_read 0) refl g.1 in
    subst (λ x. is_plain_rule x ≡ true) (ok_is (made a.0 b.0 c.0 d.0 f.0 g.0) r g.2)
    (and_from (is_proto c.0) (ordered g.0) proto range)

rule_reads : Reads is_plain_rule rule_table
unfolding rule_table
rule_reads d r e =
    let rows = table_ok rule_keys rule_rows d r e in
    rule_fits rows.0 r rows.1

-- ---- the functions

-- the ranges of a function, of what its text spells
abbrev pub fits_plain : PlainFunction → Bool
fits_plain (nat pool) = true
fits_plain (firewall inside rules) = nat_le (length rules) 256 && list_all is_plain_rule rules
fits_plain (balancer service) = has_port service.front
    && nat_le 1 (length service.backends) && nat_le (length service.backends) 64 && list_all has_port service.backends

list_all-plain_rule : (rules : List Rule) → list_all is_plain_rule (map plain_rule rules) ≡ list_all is_rule rules
list_all-plain_rule [] = refl
list_all-plain_rule (r ∷ rs) = ap (λ b. is_rule r && b) (list_all-plain_rule rs)

length-plain_rule : (rules : List Rule) → length (map plain_rule rules) ≡ length rules
length-plain_rule [] = refl
length-plain_rule (r ∷ rs) = ap suc (length-plain_rule rs)

pub fits_plain_function : (f : FunctionPlan) → fits_plain (plain_function f) ≡ fits_function f
fits_plain_function (Nat pool) = refl
fits_plain_function (Firewall inside rules) = rw (length-plain_rule rules, list_all-plain_rule rules) refl
fits_plain_function (Balancer service) = refl

-- which function it is
abbrev pub kind_of : PlainFunction → FunctionKind
kind_of (nat pool) = kinds.Nat
kind_of (firewall inside rules) = kinds.Firewall
kind_of (balancer service) = kinds.Balancer

firewall_fits : (ms : Members) (f : PlainFunction)
    → firewall_rows ms ≡ Ok f → (fits_plain f ≡ true) × (kind_of f ≡ kinds.Firewall)
unfolding firewall_rows
firewall_fits ms f e =
    let prefix : Data → Result PlainPrefix Refusal = text BadPrefix prefix_of in
    let rules = list_of (at_most 256) rule_table in
    let a = bind_ok (required (codes "inside") prefix ms)
    (λ inside. required (codes "rules") rules ms >>= λ rs. Ok (firewall inside rs)) f e in
    let b = bind_ok (required (codes "rules") rules ms) (λ rs. Ok (firewall a.0 rs)) f a.2 in
    let d = demanded_ok MissingKey (codes "rules") rules ms b.0 b.1 in
    let few = list_most (at_most 256) (λ _. rule_table) 256 d.0 b.0 refl d.1 in
    let fit = list_reads is_plain_rule (at_most 256) (λ _. rule_table) d.0 b.0 (λ _. rule_reads) d.1 in
    subst (λ g. (fits_plain g ≡ true) × (kind_of g ≡ kinds.Firewall)) (ok_is (firewall a.0 b.0) f b.2)
    (rw (le-leb (length b.0) 256 few, fit) refl, refl)

chosen_pair : (b : Bool) (p q : Pair) → cond b (Some p) None ≡ Some q → (b ≡ true) × (p ≡ q)
chosen_pair true p q e = (refl, cc)
chosen_pair false p q e = absurd cc

some_of : {A B : Type 0} (o : Option A) (f : A → Option B) (y : B) → option_and_then f o ≡ Some y → (x : A) × (f x ≡ Some y)
some_of None f y e = absurd cc
some_of (Some x) f y e = (x, e)

pair_has_port : (s : List ℕ) (p : Pair) → pair_of s ≡ Some p → has_port p ≡ true
unfolding pair_of
pair_has_port s p e =
    let a = some_of (address_at s) (λ a. option_and_then (λ p. cond (eqb (length p.1) 0 && nat_le 1 p.0)
    (Some (record { addr = a.0; port = p.0 })) None) (decimal_after 58 65535 a.1)) p e in
    let b = some_of (decimal_after 58 65535 a.0.1)
    (λ p. cond (eqb (length p.1) 0 && nat_le 1 p.0) (Some (record { addr = a.0.0; port = p.0 })) None) p a.1 in
    let c = chosen_pair (eqb (length b.0.1) 0 && nat_le 1 b.0.0) (record { addr = a.0.0; port = b.0.0 }) p b.1 in
    let d = and_parts (eqb (length b.0.1) 0) (nat_le 1 b.0.0) c.0 in
    subst (λ q. has_port q ≡ true) c.1 d.1

service_fits : (ms : Members) (s : Service) → balancer_rows ms ≡ Ok s → fits_plain (balancer s) ≡ true
unfolding balancer_rows
service_fits ms s e =
    let pair : Data → Result Pair Refusal = text BadAddress pair_of in
    let pairs = list_of (one_to NoBackend 64) pair in
    let protos : Data → Result Proto Refusal = one_of ((codes "tcp", Tcp) ∷ (codes "udp", Udp) ∷ []) in
    let made : Proto → Pair → List Pair
    → Service = λ proto front backends. record { proto = proto; front = front; backends = backends } in
    let a = bind_ok (required (codes "proto") protos ms) (λ proto. required (codes "service") pair ms
    >>= λ front. required (codes "backends") pairs ms >>= λ backends. Ok (made proto front backends)) s e in
    let b = bind_ok (required (codes "service") pair ms)
    (λ front. required (codes "backends") pairs ms >>= λ backends. Ok (made a.0 front backends)) s a.2 in
    let c = bind_ok (required (codes "backends") pairs ms) (λ backends. Ok (made a.0 b.0 backends)) s b.2 in
    let reads : Reads has_port pair = text_reads has_port BadAddress pair_of pair_has_port in
    let front = demanded_reads has_port MissingKey (codes "service") pair ms b.0 reads b.1 in
    let d = demanded_ok MissingKey (codes "backends") pairs ms c.0 c.1 in
    let some = list_some (one_to NoBackend 64) (λ _. pair) NoBackend d.0 c.0 refl d.1 in
    let few = list_most (one_to NoBackend 64) (λ _. pair) 64 d.0 c.0 refl d.1 in
    let fit = list_reads has_port (one_to NoBackend 64) (λ _. pair) d.0 c.0 (λ _. reads) d.1 in
    subst (λ t. fits_plain (balancer t) ≡ true) (ok_is (made a.0 b.0 c.0) s c.2)
    (rw (front, le-leb 1 (length c.0) some, le-leb (length c.0) 64 few, fit) refl)

-- a function that was read is the named one, and fits
pub record IsFunction (kind : FunctionKind) (f : PlainFunction) : Type 0 where
  pub fits : fits_plain f ≡ true
  pub named : kind_of f ≡ kind

pub function_keeps : (kind : FunctionKind) (ms : Members) (f : PlainFunction) → function_row kind ms ≡ Ok f → IsFunction kind f
unfolding function_row firewall_table balancer_table
function_keeps kinds.Nat ms f e =
    let a = bind_ok (required (codes "nat") nat_table ms) (λ pool. Ok (nat pool)) f e in
    subst (λ g. IsFunction kinds.Nat g) (ok_is (nat a.0) f a.2) (record { fits = refl; named = refl })
function_keeps kinds.Firewall ms f e =
    let a = demanded_ok MissingKey (codes "firewall") firewall_table ms f e in
    let rows = table_ok firewall_keys firewall_rows a.0 f a.1 in
    let p = firewall_fits rows.0 f rows.1 in
    record { fits = p.0; named = p.1 }
function_keeps kinds.Balancer ms f e =
    let a = bind_ok (required (codes "balancer") balancer_table ms) (λ service. Ok (balancer service)) f e in
    let b = demanded_ok MissingKey (codes "balancer") balancer_table ms a.0 a.1 in
    let rows = table_ok balancer_keys balancer_rows b.0 a.0 b.1 in
    subst (λ g. IsFunction kinds.Balancer g) (ok_is (balancer a.0) f a.2)
    (record { fits = service_fits rows.0 a.0 rows.1; named = refl })

pub fits_of : (kind : FunctionKind) (ms : Members) (f : FunctionPlan)
    → function_row kind ms ≡ Ok (plain_function f) → fits_function f ≡ true
fits_of kind ms f e = sym (fits_plain_function f) ∙ (function_keeps kind ms (plain_function f) e).fits

-- a balancer's backends are 1 to 64
pub backends_of : (f : FunctionPlan) → fits_function f ≡ true
    → backends_fit (kind_of (plain_function f)) (backend_count (plain_function f))
backends_of (Nat pool) h = tt
backends_of (Firewall inside rules) h = tt
backends_of (Balancer service) h =
    let n = length service.backends in
    let p = and_parts (has_port service.front && nat_le 1 n && nat_le n 64) (list_all has_port service.backends) h in
    let q = and_parts (has_port service.front && nat_le 1 n) (nat_le n 64) p.0 in
    let r = and_parts (has_port service.front) (nat_le 1 n) q.0 in
    (leb-true 1 n r.1, leb-true n 64 q.1)
