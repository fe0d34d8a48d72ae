-- The box keeps up with each access of the machine.
use Rattle.std.proofs.Common.{◌≡◌, ℕ, Bool, true, false, cond, Option, Some, None, List, [], ◌∷◌, refl, ap, sym, ◌∙◌, subst}
use Rattle.std.specs.Option.{option_map}
use Rattle.slnf_base.specs.declared.addresses.Pair.{Pair}
use Rattle.slnf_base.specs.declared.packets.Proto.{Proto}
use Rattle.slnf_base.specs.declared.packets.Packet.{Packet}
use Rattle.slnf_base.specs.declared.packets.Change.TheVariants.{Source, Dest}
use Rattle.slnf_base.specs.declared.packets.Reason.TheVariants.{Neither, NotPinned}
use Rattle.slnf_base.specs.declared.packets.Verdict.{Verdict}
use Rattle.slnf_base.specs.declared.packets.Verdict.TheVariants.{Emit, Dropped}
use Rattle.slnf_base.specs.declared.plans.Service.{Service}
use Rattle.slnf_base.specs.Equal.{is_same_pair}
use Rattle.slnf_access.specs.declared.requests.Held.{Held}
use Rattle.slnf_access.specs.declared.requests.Entry.{Entry}
use Rattle.slnf_access.specs.declared.requests.Request.{Request}
use Rattle.slnf_access.specs.declared.requests.Request.TheVariants.{Read, PutIfAbsent}
use Rattle.slnf_access.specs.declared.requests.Reply.{Reply}
use Rattle.slnf_access.specs.declared.requests.Reply.TheVariants.{Done, Found, Absent}
use Rattle.slnf_access.specs.Map.{key_of, reply_to, Cells, map_after}
use Rattle.slnf_access.specs.declared.functions.Step.{Step}
use Rattle.slnf_access.specs.declared.functions.Step.TheVariants.{Over as StepOver}
use Rattle.slnf_access.specs.Machines.{Stand, Flies, Ends, stand_of_step, stand_after}
use Rattle.slnf_base.specs.Ranges.{IsPair}
use Rattle.slnf_keys.specs.declared.values.Pin.{Pin}
use Rattle.slnf_keys.specs.Keys.{pin_key_number}
use Rattle.slnf_keys.specs.Values.{pin_of}
use Rattle.slnf_box.specs.LbBox.{Pins, with_pin, backend_or, return_verdict, lb_verdict, lb_next}
use Rattle.slnf_box.specs.Services.{is_forward, is_return}
use Rattle.slnf_lb.specs.declared.flights.LbState.{LbState}
use Rattle.slnf_lb.specs.declared.flights.LbState.TheVariants.{Forward, Put, Return}
use Rattle.slnf_lb.specs.Flight.{Flying}
use Rattle.slnf_lb.specs.Machine.{pin_key, pin_value, asks_in, lb_asks, goes_in, lb_goes, forwarded, returned, lb_machine}
use Rattle.slnf_lb.specs.StoredPins.{backend_in, pin_at, IsSameMap}
use Rattle.slnf_lb.specs.Kept.{HasDirection, IsFlight, IsKeptUp}
use Rattle.slnf_lb.proofs.Same.{same-read, same-again, same-equal, same-put, put_leaves}

-- the number of a client's key
abbrev key_number : Proto → Pair → ℕ
key_number proto client = pin_key_number (record { proto = proto; client = client })

-- the verdict and the pins that a packet to the front leaves, where its client has this
forward_verdict : (service : Service) (kept : Pins) (packet : Packet) (choice : Pair) (known : Option Pair)
    → is_forward service packet ≡ true → kept packet.proto packet.source ≡ known
    → lb_verdict service kept packet choice ≡ Emit (Dest (backend_or known choice))
forward_verdict service kept packet choice known forward is =
    ap (λ (b : Bool). cond b (Emit (Dest (backend_or (kept packet.proto packet.source) choice))) (cond (is_return
    service packet) (return_verdict service packet (kept packet.proto packet.dest)) (Dropped Neither))) forward
    ∙ ap (λ (o : Option Pair). Emit (Dest (backend_or o choice))) is

forward_next : (service : Service) (kept : Pins) (packet : Packet) (choice : Pair) (known : Option Pair)
    → is_forward service packet ≡ true → kept packet.proto packet.source ≡ known
    → lb_next service kept packet choice ≡ with_pin kept packet.proto packet.source (backend_or known choice)
forward_next service kept packet choice known forward is =
    ap (λ (b : Bool). cond b
    (with_pin kept packet.proto packet.source (backend_or (kept packet.proto packet.source) choice)) kept) forward
    ∙ ap (λ (o : Option Pair). with_pin kept packet.proto packet.source (backend_or o choice)) is

-- what is found at a client's key is a pin, and the box has it
pub record Pinned (kept : Pins) (proto : Proto) (client : Pair) (held : Held) : Type 0 where
  pub pin : Pin
  pub is : pin_of held.value.0 ≡ Some pin
  pub known : kept proto client ≡ Some pin.backend

-- nothing is not something
nothing_there : {held : Held} → let none : Option Held = None in none ≡ Some held → ⊥
nothing_there h = cc

pinned_by : (kept : Pins) (cells : Cells) (proto : Proto) (client : Pair) (held : Held) (read : Option Pin)
    → pin_of held.value.0 ≡ read → IsPair client → cells (key_number proto client) ≡ Some held
    → IsSameMap kept cells → Pinned kept proto client held
pinned_by kept cells proto client held None is fits there same =
    let none : pin_at cells proto client ≡ None = ap backend_in there ∙ ap (option_map (λ (pin : Pin). pin.backend)) is in
    let gone = same.whole proto client fits none in
    absurd (nothing_there (sym gone ∙ there))
pinned_by kept cells proto client held (Some pin) is fits there same = record {
  pin = pin;
  is = is;
  known = same.agrees proto client fits ∙ ap backend_in there ∙ ap (option_map (λ (pin : Pin). pin.backend)) is;
}

pinned : (kept : Pins) (cells : Cells) (proto : Proto) (client : Pair) (held : Held)
    → IsPair client → cells (key_number proto client) ≡ Some held → IsSameMap kept cells → Pinned kept proto client held
pinned kept cells proto client held fits there same =
    pinned_by kept cells proto client held (pin_of held.value.0) refl fits there same

-- a packet to the front that found a pin
found_forward : (service : Service) (kept : Pins) (cells : Cells) (packet : Packet) (choice : Pair) (held : Held)
    → is_forward service packet ≡ true → IsPair packet.source → Pinned kept packet.proto packet.source held
    → IsSameMap kept cells → IsKeptUp service kept packet choice cells (stand_of_step (forwarded (pin_of held.value.0)))
found_forward service kept cells packet choice held forward fits there same =
    subst (λ (o : Option Pin). IsKeptUp service kept packet choice cells (stand_of_step (forwarded o))) (sym there.is) (
      forward_verdict service kept packet choice (Some there.pin.backend) forward there.known,
      subst (λ (pins : Pins). IsSameMap pins cells)
          (sym (forward_next service kept packet choice (Some there.pin.backend) forward there.known))
          (same-again kept cells packet.proto packet.source there.pin.backend fits there.known same),
    )

-- the reply to an access on the map, where its key has this
reply_is : (cells : Cells) (e : Entry) (request : Request) (held : Option Held)
    → e.request ≡ request → e.reply ≡ reply_to e.request e.stamp (cells (key_of e.request))
    → cells (key_of request) ≡ held → e.reply ≡ reply_to request e.stamp held
reply_is cells e request held asked replied is =
    replied ∙ ap (λ (q : Request). reply_to q e.stamp (cells (key_of q))) asked
    ∙ ap (λ (h : Option Held). reply_to request e.stamp h) is

-- a packet in the state Forward
forward_step : (service : Service) (kept : Pins) (cells : Cells) (e : Entry) (packet : Packet)
    (choice : Pair) (held : Option Held) → is_forward service packet ≡ true → IsPair packet.source → e.request
    ≡ Read (pin_key packet.proto packet.source) → e.reply ≡ reply_to e.request e.stamp (cells (key_of e.request))
    → cells (key_number packet.proto packet.source) ≡ held → IsSameMap kept cells → IsKeptUp service kept packet choice
    (map_after cells (e ∷ [])) (stand_of_step (goes_in service Forward packet choice e.reply))
forward_step service kept cells e packet choice None forward fits asked replied is same =
    subst (λ (r : Reply). IsKeptUp service kept packet choice (map_after cells (e ∷ []))
    (stand_of_step (goes_in service Forward packet choice r))) (sym (reply_is cells e _ None asked replied is))
    (same-read kept cells e _ asked same)
forward_step service kept cells e packet choice (Some held) forward fits asked replied is same =
    subst (λ (r : Reply). IsKeptUp service kept packet choice (map_after cells (e ∷ []))
    (stand_of_step (goes_in service Forward packet choice r))) (sym (reply_is cells e _ (Some held) asked replied is))
    (found_forward service kept (map_after cells (e ∷ [])) packet choice held forward fits
    (pinned kept cells packet.proto packet.source held fits is same) (same-read kept cells e _ asked same))

-- a packet in the state Put
put_step : (service : Service) (kept : Pins) (cells : Cells) (e : Entry)
    (packet : Packet) (choice : Pair) (held : Option Held) → is_forward service packet ≡ true → IsPair packet.source
    → IsPair choice → e.request ≡ PutIfAbsent (pin_key packet.proto packet.source) (pin_value choice)
    → e.reply ≡ reply_to e.request e.stamp (cells (key_of e.request))
    → cells (key_number packet.proto packet.source) ≡ held → IsSameMap kept cells → IsKeptUp service kept packet choice
    (map_after cells (e ∷ [])) (stand_of_step (goes_in service Put packet choice e.reply))
put_step service kept cells e packet choice None forward fits choice_fits asked replied is same =
    let absent : kept packet.proto packet.source ≡ None = same.agrees packet.proto packet.source fits ∙ ap backend_in is in
    subst (λ (r : Reply). IsKeptUp service kept packet choice (map_after cells (e ∷ []))
    (stand_of_step (goes_in service Put packet choice r))) (sym (reply_is cells e _ None asked replied is)) (
      forward_verdict service kept packet choice None forward absent,
      subst (λ (pins : Pins). IsSameMap pins (map_after cells (e ∷ [])))
          (sym (forward_next service kept packet choice None forward absent))
          (same-put kept cells e packet.proto packet.source choice fits choice_fits asked is same),
    )
put_step service kept cells e packet choice (Some held) forward fits choice_fits asked replied is same =
    subst (λ (r : Reply). IsKeptUp service kept packet choice (map_after cells (e ∷ []))
    (stand_of_step (goes_in service Put packet choice r))) (sym (reply_is cells e _ (Some held) asked replied is))
    (found_forward service kept (map_after cells (e ∷ [])) packet choice held forward fits
    (pinned kept cells packet.proto packet.source held fits is same)
    (same-equal kept cells _ (put_leaves cells e _ _ held asked is) same))

-- the verdict and the pins that a packet from a backend leaves, where its client has this
return_is : (service : Service) (kept : Pins) (packet : Packet) (choice : Pair) (known : Option Pair)
    → is_forward service packet ≡ false → is_return service packet ≡ true → kept packet.proto packet.dest ≡ known
    → lb_verdict service kept packet choice ≡ return_verdict service packet known
return_is service kept packet choice known not_forward back is =
    ap (λ (b : Bool). cond b (Emit (Dest (backend_or (kept packet.proto packet.source) choice)))
    (cond (is_return service packet) (return_verdict service packet (kept packet.proto packet.dest))
    (Dropped Neither))) not_forward
    ∙ ap (λ (b : Bool). cond b (return_verdict service packet (kept packet.proto packet.dest)) (Dropped Neither)) back
    ∙ ap (λ (o : Option Pair). return_verdict service packet o) is

return_next : (service : Service) (kept : Pins) (packet : Packet) (choice : Pair)
    → is_forward service packet ≡ false → lb_next service kept packet choice ≡ kept
return_next service kept packet choice not_forward =
    ap (λ (b : Bool). cond b
    (with_pin kept packet.proto packet.source (backend_or (kept packet.proto packet.source) choice)) kept) not_forward

-- the box's verdict on a pin that is there is the machine's
returned_kept : (service : Service) (kept : Pins) (packet : Packet) (choice : Pair) (cells : Cells) (pin : Pin)
    (same_source : Bool) → is_same_pair pin.backend packet.source ≡ same_source → lb_verdict service kept packet choice
    ≡ return_verdict service packet (Some pin.backend) → IsSameMap (lb_next service kept packet choice) cells
    → IsKeptUp service kept packet choice cells (stand_of_step (returned service packet (Some pin)))
returned_kept service kept packet choice cells pin true is verdict same =
    subst (λ (b : Bool). IsKeptUp service kept packet choice cells
    (stand_of_step (cond b (StepOver (Emit (Source service.front))) (StepOver (Dropped NotPinned))))) (sym is)
    (verdict ∙ ap (λ (b : Bool). cond b (Emit (Source service.front)) (Dropped NotPinned)) is, same)
returned_kept service kept packet choice cells pin false is verdict same =
    subst (λ (b : Bool). IsKeptUp service kept packet choice cells
    (stand_of_step (cond b (StepOver (Emit (Source service.front))) (StepOver (Dropped NotPinned))))) (sym is)
    (verdict ∙ ap (λ (b : Bool). cond b (Emit (Source service.front)) (Dropped NotPinned)) is, same)

-- a packet from a backend
return_step : (service : Service) (kept : Pins) (cells : Cells)
    (e : Entry) (packet : Packet) (choice : Pair) (held : Option Held) → is_forward service packet ≡ false
    → is_return service packet ≡ true → IsPair packet.dest → e.request ≡ Read (pin_key packet.proto packet.dest)
    → e.reply ≡ reply_to e.request e.stamp (cells (key_of e.request))
    → cells (key_number packet.proto packet.dest) ≡ held → IsSameMap kept cells → IsKeptUp service kept packet choice
    (map_after cells (e ∷ [])) (stand_of_step (goes_in service Return packet choice e.reply))
return_step service kept cells e packet choice None not_forward back fits asked replied is same =
    let after = map_after cells (e ∷ []) in
    let absent : kept packet.proto packet.dest ≡ None = same.agrees packet.proto packet.dest fits ∙ ap backend_in is in
    subst (λ (r : Reply). IsKeptUp service kept packet choice after
    (stand_of_step (goes_in service Return packet choice r))) (sym (reply_is cells e _ None asked replied is)) (
      return_is service kept packet choice None not_forward back absent,
      subst (λ (pins : Pins). IsSameMap pins after)
          (sym (return_next service kept packet choice not_forward)) (same-read kept cells e _ asked same),
    )
return_step service kept cells e packet choice (Some held) not_forward back fits asked replied is same =
    let after = map_after cells (e ∷ []) in
    let there = pinned kept cells packet.proto packet.dest held fits is same in
    let kept_next : IsSameMap (lb_next service kept packet choice) after =
    subst (λ (pins : Pins). IsSameMap pins after) (sym (return_next service kept packet choice not_forward))
    (same-read kept cells e _ asked same) in
    subst (λ (r : Reply). IsKeptUp service kept packet choice after
    (stand_of_step (goes_in service Return packet choice r))) (sym (reply_is cells e _ (Some held) asked replied is))
    (subst (λ (o : Option Pin). IsKeptUp service kept packet choice after (stand_of_step (returned service packet o)))
    (sym there.is)
    (returned_kept service kept packet choice after there.pin (is_same_pair there.pin.backend packet.source) refl
    (return_is service kept packet choice (Some there.pin.backend) not_forward back there.known) kept_next))

-- a packet in any state
kept_in : (service : Service) (kept : Pins) (cells : Cells) (e : Entry) (state : LbState) (packet : Packet)
    (choice : Pair) → HasDirection service packet state → IsPair packet.source → IsPair packet.dest → IsPair choice
    → e.request ≡ asks_in state packet choice → e.reply ≡ reply_to e.request e.stamp (cells (key_of e.request))
    → IsSameMap kept cells → IsKeptUp service kept packet choice
    (map_after cells (e ∷ [])) (stand_of_step (goes_in service state packet choice e.reply))
kept_in service kept cells e Forward packet choice direction source dest choice_fits asked replied same =
    forward_step service kept cells e packet choice _ direction source asked replied refl same
kept_in service kept cells e Put packet choice direction source dest choice_fits asked replied same =
    put_step service kept cells e packet choice _ direction source choice_fits asked replied refl same
kept_in service kept cells e Return packet choice direction source dest choice_fits asked replied same =
    return_step service kept cells e packet choice _ direction.0 direction.1 dest asked replied refl same

-- a packet under way is the one that began, in the direction that it began with
pub record Goes (service : Service) (first flight : Flying) : Type 0 where
  pub packet : flight.packet ≡ first.packet
  pub choice : flight.choice ≡ first.choice
  pub direction : HasDirection service first.packet flight.state

-- an end is no flight
ends_flies : {verdict : Option Verdict} {next : Flying} → let end : Stand Flying = Ends verdict in end ≡ Flies next → ⊥
ends_flies h = cc

-- one flight is one
flies_same : {a b : Flying} → let left : Stand Flying = Flies a in left ≡ Flies b → a ≡ b
flies_same h = cc

-- a packet that found something has ended
forwarded_ends : (pin : Option Pin) {next : Flying} → stand_of_step (forwarded pin) ≡ Flies next → ⊥
forwarded_ends None h = cc
forwarded_ends (Some pin) h = cc

-- whichever verdict it ends with
either_ends : (b : Bool) (yes_verdict no_verdict : Verdict) {next : Flying}
    → (let step : Step Flying = cond b (StepOver yes_verdict) (StepOver no_verdict) in stand_of_step step) ≡ Flies next
    → ⊥
either_ends true yes_verdict no_verdict h = cc
either_ends false yes_verdict no_verdict h = cc

returned_ends : (service : Service) (packet : Packet) (pin : Option Pin) {next : Flying}
    → stand_of_step (returned service packet pin) ≡ Flies next → ⊥
returned_ends service packet None h = cc
returned_ends service packet (Some pin) h =
    either_ends (is_same_pair pin.backend packet.source) (Emit (Source service.front)) (Dropped NotPinned) h

-- one step of a flight keeps that
goes_on : (service : Service) (first : Flying) (state : LbState) (packet : Packet) (choice : Pair)
    (reply : Reply) (next : Flying) → Goes service first (record { state = state; packet = packet; choice = choice })
    → stand_of_step (goes_in service state packet choice reply) ≡ Flies next → Goes service first next
goes_on service first Forward packet choice (Done version) next goes h = absurd (ends_flies h)
goes_on service first Forward packet choice (Found value version) next goes h = absurd (forwarded_ends (pin_of value.0) h)
goes_on service first Forward packet choice Absent next goes h =
    subst (λ (f : Flying). Goes service first f) (flies_same h)
    (record { packet = goes.packet; choice = goes.choice; direction = goes.direction })
goes_on service first Put packet choice (Done version) next goes h = absurd (ends_flies h)
goes_on service first Put packet choice (Found value version) next goes h = absurd (forwarded_ends (pin_of value.0) h)
goes_on service first Put packet choice Absent next goes h = absurd (ends_flies h)
goes_on service first Return packet choice (Done version) next goes h = absurd (ends_flies h)
goes_on service first Return packet choice (Found value version) next goes h =
    absurd (returned_ends service packet (pin_of value.0) h)
goes_on service first Return packet choice Absent next goes h = absurd (ends_flies h)

-- a packet that has ended stays so
ended_after : (service : Service) (verdict : Option Verdict) (own : List Entry) {last : Flying}
    → stand_after (lb_machine service) (Ends verdict) own ≡ Flies last → ⊥
ended_after service verdict [] h = ends_flies h
ended_after service verdict (e ∷ own) h = ended_after service verdict own h

-- a packet under way after its entries is the one that began
goes_after : (service : Service) (first : Flying) (stand : Stand Flying) (last : Flying) (own : List Entry)
    → ((flight : Flying) → stand ≡ Flies flight → Goes service first flight)
    → stand_after (lb_machine service) stand own ≡ Flies last → Goes service first last
goes_after service first stand last [] goes h = goes last h
goes_after service first (Ends verdict) last (e ∷ own) goes h = absurd (ended_after service verdict own h)
goes_after service first (Flies flight) last (e ∷ own) goes h =
    goes_after service first (stand_of_step (lb_goes service flight e.reply)) last own
    (λ next is. goes_on service first flight.state flight.packet flight.choice e.reply next (goes flight refl) is) h

-- The box keeps up with each access of a packet.
pub lb_kept : (service : Service) (kept : Pins) (cells : Cells) (own : List Entry) (e : Entry) (first flight : Flying)
    → IsFlight service first → stand_after (lb_machine service) (Flies first) own ≡ Flies flight
    → e.request ≡ lb_asks flight → e.reply ≡ reply_to e.request e.stamp (cells (key_of e.request))
    → IsSameMap kept cells → IsKeptUp service kept first.packet first.choice
    (map_after cells (e ∷ [])) (stand_of_step (lb_goes service flight e.reply))
lb_kept service kept cells own e first flight begun stands asked replied same =
    let goes = goes_after service first (Flies first) flight own (λ f is. subst (λ (g : Flying). Goes service first g)
    (flies_same is) (record { packet = refl; choice = refl; direction = begun.direction })) stands in
    subst (λ (p : Packet). IsKeptUp service kept p first.choice
    (map_after cells (e ∷ [])) (stand_of_step (lb_goes service flight e.reply))) goes.packet
    (subst (λ (c : Pair). IsKeptUp service kept flight.packet c
    (map_after cells (e ∷ [])) (stand_of_step (lb_goes service flight e.reply))) goes.choice
    (kept_in service kept cells e flight.state flight.packet flight.choice
    (subst (λ (p : Packet). HasDirection service p flight.state) (sym goes.packet) goes.direction)
    (subst (λ (p : Packet). IsPair p.source) (sym goes.packet) begun.source)
    (subst (λ (p : Packet). IsPair p.dest) (sym goes.packet) begun.dest)
    (subst (λ (c : Pair). IsPair c) (sym goes.choice) begun.choice)
    asked replied same))
