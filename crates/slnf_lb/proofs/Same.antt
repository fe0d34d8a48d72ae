-- What the box keeps is what the store's map keeps, through one access.
use Rattle.std.proofs.Common.{◌≡◌, ℕ, Bool, true, false, cond, eqb, Option, Some, None, [], ◌∷◌, refl, ap, sym, ◌∙◌, inl, inr}
use Rattle.std.proofs.lemmas.Bool.{eqb-true, eq-eqb, and_parts, and_from, cond_both}
use Rattle.std.specs.Prelude.{◌&&◌, ◌==◌}
use Rattle.std.proofs.lemmas.Bool.Decides.{eqb_tells}
use Rattle.slnf_base.specs.declared.addresses.Pair.{Pair}
use Rattle.slnf_base.specs.declared.packets.Proto.{Proto}
use Rattle.slnf_base.specs.declared.packets.Proto.TheVariants.{Tcp, Udp}
use Rattle.slnf_base.specs.Numbers.{proto_number}
use Rattle.slnf_base.specs.Equal.{is_same_pair, is_same_proto}
use Rattle.slnf_access.specs.declared.requests.Key.{Key}
use Rattle.slnf_access.specs.declared.requests.Value.{Value}
use Rattle.slnf_access.specs.declared.requests.Held.{Held}
use Rattle.slnf_access.specs.declared.requests.Entry.{Entry}
use Rattle.slnf_access.specs.declared.requests.Request.{Request}
use Rattle.slnf_access.specs.declared.requests.Request.TheVariants.{Read, PutIfAbsent}
use Rattle.slnf_access.specs.Map.{key_of, cell_after, cell_step, Cells, map_after}
use Rattle.slnf_base.specs.Ranges.{IsPair}
use Rattle.std.specs.Option.{option_map}
use Rattle.slnf_keys.specs.declared.keys.PinKey.{PinKey}
use Rattle.slnf_keys.specs.declared.values.Pin.{Pin}
use Rattle.slnf_keys.specs.Keys.{pin_key_number}
use Rattle.slnf_keys.proofs.Laws.{pin_key_number-same, pin_of-pin_number}
use Rattle.slnf_box.specs.LbBox.{Pins, with_pin}
use Rattle.slnf_lb.specs.Machine.{pin_key, pin_value}
use Rattle.slnf_lb.specs.StoredPins.{backend_in, pin_at, IsSameMap}

-- the number of a client's key
abbrev key_number : Proto → Pair → ℕ
key_number proto client = pin_key_number (record { proto = proto; client = client })

-- pairs with the same fields are one
pair_ext : (a b p q : ℕ) → a ≡ b → p ≡ q → let left : Pair = record { addr = a; port = p } in left ≡ record { addr = b; port = q }
pair_ext a b p q addr port =
    let at_addr : ℕ → Pair = λ n. record { addr = n; port = p } in
    let at_port : ℕ → Pair = λ n. record { addr = b; port = n } in
    ap at_addr addr ∙ ap at_port port

-- pairs that pass the test are one
pub same_pair : (a b : Pair) → is_same_pair a b ≡ true → a ≡ b
same_pair a b h =
    let parts = and_parts (a.addr == b.addr) (a.port == b.port) h in
    let addr : a.addr ≡ b.addr = eqb-true a.addr b.addr parts.0 in
    let port : a.port ≡ b.port = eqb-true a.port b.port parts.1 in
    pair_ext a.addr b.addr a.port b.port addr port

-- and one pair passes it
pub pair_same : (a b : Pair) → a ≡ b → is_same_pair a b ≡ true
pair_same a b h = and_from _ _ (eq-eqb a.addr b.addr (ap (λ (p : Pair). p.addr) h))
    (eq-eqb a.port b.port (ap (λ (p : Pair). p.port) h))

-- protocols that pass the test are one
pub same_proto : (a b : Proto) → is_same_proto a b ≡ true → a ≡ b
same_proto Tcp Tcp h = refl
same_proto Tcp Udp h = cc
same_proto Udp Tcp h = cc
same_proto Udp Udp h = refl

-- and one protocol passes it
pub proto_same : (a b : Proto) → a ≡ b → is_same_proto a b ≡ true
proto_same a b h = eq-eqb _ _ (ap proto_number h)

-- both branches are one
same_either : {A : Type 0} (b : Bool) (x : A) → cond b x x ≡ x
same_either true x = refl
same_either false x = refl

-- by the cases of a test
either_test : (b : Bool) (P : Type 0) → (b ≡ true → P) → (b ≡ false → P) → P
either_test true P at_true at_false = at_true refl
either_test false P at_true at_false = at_false refl

-- nothing is not something
none_some : {x : Pair} → let none : Option Pair = None in none ≡ Some x → ⊥
none_some h = cc

-- a read leaves every cell
pub read_step : (k : ℕ) (held : Option Held) (e : Entry) (key : Key) → e.request ≡ Read key → cell_step k held e ≡ held
read_step k held e key h =
    ap (λ (request : Request). cond (eqb (key_of request) k) (cell_after request e.stamp held) held) h
    ∙ same_either (eqb key.0 k) held

-- a put leaves every cell that has something
pub put_step : (k : ℕ) (held : Held) (e : Entry) (key : Key) (value : Value)
    → e.request ≡ PutIfAbsent key value → cell_step k (Some held) e ≡ Some held
put_step k held e key value h =
    ap (λ (request : Request). cond (eqb (key_of request) k) (cell_after request e.stamp (Some held)) (Some held)) h
    ∙ same_either (eqb key.0 k) (Some held)

-- a put fills its own cell
put_fills : (e : Entry) (key : Key) (value : Value)
    → e.request ≡ PutIfAbsent key value → cell_step key.0 None e ≡ Some (record { value = value; version = e.stamp })
put_fills e key value h =
    ap (λ (request : Request). cond (eqb (key_of request) key.0) (cell_after request e.stamp None) None) h
    ∙ ap (λ (b : Bool). cond b (Some (record { value = value; version = e.stamp })) None) (eq-eqb key.0 key.0 refl)

-- an access to another key leaves the cell
other_step : (k : ℕ) (held : Option Held) (e : Entry) → eqb (key_of e.request) k ≡ false → cell_step k held e ≡ held
other_step k held e h = ap (λ (b : Bool). cond b (cell_after e.request e.stamp held) held) h

-- the box keeps what a map does that has the same in every cell
pub same-equal : (kept : Pins) (cells next : Cells) → ((k : ℕ) → next k ≡ cells k) → IsSameMap kept cells → IsSameMap kept next
same-equal kept cells next equal same = record {
  agrees = λ proto client fits. same.agrees proto client fits ∙ ap backend_in (sym (equal (key_number proto client)));
  whole = λ proto client fits none. equal (key_number proto client)
      ∙ same.whole proto client fits (ap backend_in (sym (equal (key_number proto client))) ∙ none);
}

-- a put that found something leaves every cell
pub put_leaves : (cells : Cells) (e : Entry) (key : Key) (value : Value) (held : Held)
    → e.request ≡ PutIfAbsent key value → cells key.0 ≡ Some held → (k : ℕ) → map_after cells (e ∷ []) k ≡ cells k
put_leaves cells e key value held asked there k = elim (eqb_tells key.0 k) [
  | inl one ↦
      let at : cells k ≡ Some held = ap cells (sym one.1) ∙ there in
      ap (λ (h : Option Held). cell_step k h e) at ∙ put_step k held e key value asked ∙ sym at
  | inr differ ↦ other_step k (cells k) e (ap (λ (r : Request). eqb (key_of r) k) asked ∙ differ.0)
]

-- after a read it keeps what it kept
pub same-read : (kept : Pins) (cells : Cells) (e : Entry) (key : Key)
    → e.request ≡ Read key → IsSameMap kept cells → IsSameMap kept (map_after cells (e ∷ []))
same-read kept cells e key h same = same-equal kept cells _ (λ k. read_step k (cells k) e key h) same

-- the pins with one that is there already
pub same-again : (kept : Pins) (cells : Cells) (proto : Proto) (client backend : Pair) → IsPair client
    → kept proto client ≡ Some backend → IsSameMap kept cells → IsSameMap (with_pin kept proto client backend) cells
same-again kept cells proto client backend fits known same = record {
  agrees = λ other_proto other other_fits.
      cond_both (is_same_proto other_proto proto && is_same_pair other client)
      (Some backend) (kept other_proto other) (λ (o : Option Pair). o ≡ pin_at cells other_proto other)
      (λ t. let parts = and_parts (is_same_proto other_proto proto) (is_same_pair other client) t in
      let p : other_proto ≡ proto = same_proto other_proto proto parts.0 in
      let c : other ≡ client = same_pair other client parts.1 in
      sym known ∙ (ap (λ (q : Proto). kept q client) (sym p) ∙ ap (λ (q : Pair). kept other_proto q) (sym c))
      ∙ same.agrees other_proto other other_fits)
      (λ f. same.agrees other_proto other other_fits);
  whole = same.whole;
}

-- keys with one number are of one client
one_client : (proto other_proto : Proto) (client other : Pair) → IsPair client
    → IsPair other → key_number proto client ≡ key_number other_proto other → (other_proto ≡ proto) × (other ≡ client)
one_client proto other_proto client other fits other_fits h =
    let one : record { proto = proto; client = client }
    ≡ (let r : PinKey = record { proto = other_proto; client = other } in r) =
    pin_key_number-same _ _ fits other_fits h in
    (sym (ap (λ (k : PinKey). k.proto) one), sym (ap (λ (k : PinKey). k.client) one))

-- the key of another client has another number
other_key : (proto other_proto : Proto) (client other : Pair)
    → IsPair client → IsPair other → (is_same_proto other_proto proto && is_same_pair other client) ≡ false
    → eqb (key_number proto client) (key_number other_proto other) ≡ false
other_key proto other_proto client other fits other_fits apart =
    elim (eqb_tells (key_number proto client) (key_number other_proto other)) [
      | inl same ↦
          let one = one_client proto other_proto client other fits other_fits same.1 in
          let both : (is_same_proto other_proto proto && is_same_pair other client) ≡ true =
          and_from _ _ (proto_same other_proto proto one.0) (pair_same other client one.1) in
          cc
      | inr differ ↦ differ.0
    ]

-- a pin that was put
put_pin : (cells : Cells) (e : Entry) (proto : Proto) (client backend : Pair)
    → IsPair backend → e.request ≡ PutIfAbsent (pin_key proto client) (pin_value backend)
    → cells (key_number proto client) ≡ None → pin_at (map_after cells (e ∷ [])) proto client ≡ Some backend
put_pin cells e proto client backend fits asked absent =
    ap backend_in (ap (λ (held : Option Held). cell_step (key_number proto client) held e) absent
    ∙ put_fills e (pin_key proto client) (pin_value backend) asked)
    ∙ ap (option_map (λ (pin : Pin). pin.backend)) (pin_of-pin_number (record { backend = backend }) fits)

-- after a put that was done it keeps the new pin
pub same-put : (kept : Pins) (cells : Cells) (e : Entry) (proto : Proto) (client backend : Pair)
    → IsPair client → IsPair backend → e.request ≡ PutIfAbsent (pin_key proto client) (pin_value backend)
    → cells (key_number proto client) ≡ None → IsSameMap kept cells
    → IsSameMap (with_pin kept proto client backend) (map_after cells (e ∷ []))
same-put kept cells e proto client backend fits backend_fits asked absent same =
    let after = map_after cells (e ∷ []) in
    let key_is : key_of e.request ≡ key_number proto client = ap key_of asked in
    let put = put_pin cells e proto client backend backend_fits asked absent in
    let stays = λ (other_proto : Proto) (other : Pair) (other_fits :
    IsPair other) (f : (is_same_proto other_proto proto && is_same_pair other client) ≡ false).
    other_step (key_number other_proto other) (cells (key_number other_proto other)) e
    (ap (λ (n : ℕ). eqb n (key_number other_proto other)) key_is ∙ other_key proto other_proto client other fits other_fits f) in
    record {
      agrees = λ other_proto other other_fits.
          cond_both (is_same_proto other_proto proto && is_same_pair other client)
          (Some backend) (kept other_proto other) (λ (o : Option Pair). o ≡ pin_at after other_proto other)
          (λ t. let parts = and_parts (is_same_proto other_proto proto) (is_same_pair other client) t in
          let p : other_proto ≡ proto = same_proto other_proto proto parts.0 in
          let c : other ≡ client = same_pair other client parts.1 in
          sym put ∙ (ap (λ (q : Proto). pin_at after q client) (sym p) ∙ ap (λ (q : Pair). pin_at after other_proto q) (sym c)))
          (λ f. same.agrees other_proto other other_fits ∙ ap backend_in (sym (stays other_proto other other_fits f)));
      whole = λ other_proto other other_fits none.
          either_test (is_same_proto other_proto proto && is_same_pair other client) (after (key_number other_proto other) ≡ None)
          (λ t. let parts = and_parts (is_same_proto other_proto proto) (is_same_pair other client) t in
          let p : other_proto ≡ proto = same_proto other_proto proto parts.0 in
          let c : other ≡ client = same_pair other client parts.1 in
          let there : pin_at after other_proto other ≡ Some backend =
          (ap (λ (q : Proto). pin_at after q other) p ∙ ap (λ (q : Pair). pin_at after proto q) c) ∙ put in
          absurd (none_some (sym none ∙ there)))
          (λ f. let stay = stays other_proto other other_fits f in
          stay ∙ same.whole other_proto other other_fits (ap backend_in (sym stay) ∙ none));
    }
