-- A hand's answer: where it stands after one more entry of its own.
use Rattle.std.proofs.Common.{◌≡◌, inl, inr, ◌⊎◌, ℕ, zero, suc, ◌+◌, ◌-◌, ◌<◌, ◌≤◌, ◌==◌, Bool, true, false, if◌then◌else◌, List, [], ◌∷◌, ◌++◌, Option, Some, None, length, get_or, set, drop, slice_get, refl, sym, ap, ap₂, ◌∙◌, subst, arith, eq-eqb, ne_eqb}
use Rattle.std.proofs.lemmas.Bool.{cases_eq}
use Rattle.std.proofs.lemmas.List.{length-set, length_push, drop_more}
use Rattle.std.proofs.lemmas.Option.{same_Some, none-some, slice_get_within, slice_get-get_or}
use Rattle.slnf_base.specs.declared.packets.Verdict.{Verdict}
use Rattle.slnf_base.specs.declared.packets.Verdict.TheVariants.{Lost}
use Rattle.slnf_access.specs.declared.requests.Entry.{Entry}
use Rattle.slnf_access.specs.declared.requests.Ask.{Ask}
use Rattle.slnf_access.specs.declared.requests.Reply.{Reply}
use Rattle.slnf_access.specs.Map.{CanReply}
use Rattle.slnf_access.specs.Machines.{Stand, Flies, Ends, stand_step}
use Rattle.slnf_run.specs.Verdicts.{verdict_at}
use Rattle.slnf_instance.specs.declared.hands.Hand.{Hand}
use Rattle.slnf_run.specs.Jobs.{by_rounds, Job, stand_in, offers_in, wishes_in, is_stop, wanted_in}
use Rattle.slnf_run.specs.Scheduled.{ask_of, first_of_wishes}
use Rattle.slnf_instance.specs.Works.{IsLeftOf, flight_at, flights_at, IsAsking, HasBatch, IsBetween, IsRound, HasVerdicts, AtWork, WasStopped, Stands}
use Rattle.slnf_instance.specs.Hands.{is_last, one_less, is_spent, ask_in, StandsAfter, given, Rests, IsDone, IsFirst}
use Rattle.slnf_instance.specs.Instances.{CanAnswer, IsAnswer}
use Rattle.slnf_instance.proofs.Wanting.{wants_first, wants_nothing}
use Rattle.slnf_instance.proofs.Batching.{at_first}
use Rattle.slnf_instance.proofs.Stepping.{stand_more, stand_same, batch_step, flies_step, round_step, verdicts_over, left_step, stop_reached, left_runs}

-- the ask that stands at a place
pub ask_at : {F : Type 0} (hand : Hand F) (a : Ask) → ask_in hand ≡ Some a →
    (is_spent hand.left ≡ false) × (slice_get hand.asks.items hand.place ≡ Some a)
ask_at hand a e = go (is_spent hand.left) refl e
  where
    go : (b : Bool) → is_spent hand.left ≡ b → (if b then None else slice_get hand.asks.items hand.place) ≡ Some a →
        (is_spent hand.left ≡ false) × (slice_get hand.asks.items hand.place ≡ Some a)
    go true q h = absurd (none-some a h)
    go false q h = (q, h)

pub drop_cons : {X : Type 0} (xs : List X) (n : ℕ) (x : X) → slice_get xs n ≡ Some x → drop n xs ≡ x ∷ drop (n + 1) xs
drop_cons xs n x h =
    let l = slice_get_within xs n x h in
    let e : get_or xs n x ≡ x = same_Some _ _ (sym (slice_get-get_or xs n x l) ∙ h) in
    drop_more xs n x l ∙ ap (λ y. y ∷ drop (n + 1) xs) e

pub spent_zero : (left : Option ℕ) → left ≡ Some 0 → is_spent left ≡ true
spent_zero left e = ap is_spent e

no_cons : {X : Type 0} (xs ys : List X) (x : X) → xs ≡ [] → xs ≡ x ∷ ys → ⊥
no_cons xs ys x e f = cc

clash : (b : Bool) → b ≡ true → b ≡ false → ⊥
clash b h k = cc

-- a hand that asks is at work
pub at_work : {F : Type 0} (job : Job F) (own : List Entry) (hand : Hand F) (a : Ask) → StandsAfter job own hand →
    ask_in hand ≡ Some a → AtWork job own hand.left hand.from hand.flights.items
    (a ∷ drop (hand.place + 1) hand.asks.items) hand.verdicts.items
at_work job own hand a s e = go s (ask_at hand a e)
  where
    go : StandsAfter job own hand → (is_spent hand.left ≡ false) × (slice_get hand.asks.items hand.place ≡ Some a) →
        AtWork job own hand.left hand.from hand.flights.items (a ∷ drop (hand.place + 1) hand.asks.items)
        hand.verdicts.items
    go (inl (inl w)) p =
        subst (λ rest. AtWork job own hand.left hand.from hand.flights.items rest hand.verdicts.items)
        (drop_cons hand.asks.items hand.place a p.1) w
    go (inl (inr t)) p =
        absurd (no_cons (drop hand.place hand.asks.items) (drop (hand.place + 1) hand.asks.items) a t.none
        (drop_cons hand.asks.items hand.place a p.1))
    go (inr (inl t)) p = absurd (clash (is_spent hand.left) (spent_zero hand.left t.left_is) p.0)
    go (inr (inr n)) p = absurd (clash (is_spent hand.left) (spent_zero hand.left n.left_is) p.0)

slice_drop : {X : Type 0} (xs : List X) (n : ℕ) → slice_get xs n ≡ slice_get (drop n xs) 0
slice_drop xs zero = refl
slice_drop [] (suc n) = refl
slice_drop (x ∷ xs) (suc n) = slice_drop xs n

pub left_unspent : (stop left : Option ℕ) (made : ℕ) → IsLeftOf stop left made → is_spent left ≡ false
left_unspent None None made h = refl
left_unspent None (Some left) made h = absurd h
left_unspent (Some stop) None made h = absurd h
left_unspent (Some stop) (Some zero) made h = absurd (omega (arith, h.1))
left_unspent (Some stop) (Some (suc left)) made h = ne_eqb (suc left) 0 (λ q. omega arith)

stopped_none : {F : Type 0} (job : Job F) (own : List Entry) → is_stop job.stop (length own) ≡ true →
    wanted_in by_rounds job own ≡ None
stopped_none job own e =
    ap (λ (t : Bool). if t then None else ask_of (first_of_wishes by_rounds (wishes_in job own (offers_in job)))) e

pub stop_is : (stop : Option ℕ) (n m : ℕ) → stop ≡ Some n → m ≡ n → is_stop stop m ≡ true
stop_is stop n m e q = ap (λ o. is_stop o m) e ∙ eq-eqb m n q

-- what the hand asks is what its job wants
pub asks_wanted : {F : Type 0} (job : Job F) (own : List Entry) (hand : Hand F) → StandsAfter job own hand →
    ask_in hand ≡ wanted_in by_rounds job own
asks_wanted {F = F} job own hand s = go s
  where
    unspent : is_spent hand.left ≡ false → ask_in hand ≡ slice_get (drop hand.place hand.asks.items) 0
    unspent e =
        ap (λ (t : Bool). if t then None else slice_get hand.asks.items hand.place) e
        ∙ slice_drop hand.asks.items hand.place

    spent : hand.left ≡ Some 0 → ask_in hand ≡ None
    spent e = ap (λ (t : Bool). if t then None else slice_get hand.asks.items hand.place) (spent_zero hand.left e)

    first : (rest : List Ask) → AtWork job own hand.left hand.from hand.flights.items rest hand.verdicts.items →
        slice_get rest 0 ≡ wanted_in by_rounds job own
    first [] w = absurd (let l = w.some in omega arith)
    first (a ∷ rest) w =
        sym (wants_first job own hand.from (length hand.flights.items) w.round a rest
        (left_runs job.stop hand.left (length own) w.left_is) w.batch w.turn)

    go : StandsAfter job own hand → ask_in hand ≡ wanted_in by_rounds job own
    go (inl (inl w)) =
        unspent (left_unspent job.stop hand.left (length own) w.left_is) ∙ first (drop hand.place hand.asks.items) w
    go (inl (inr t)) =
        unspent (left_unspent job.stop hand.left (length own) t.left_is)
        ∙ (ap (λ rest. slice_get rest 0) t.none
        ∙ sym (wants_nothing job own (hand.from + length hand.flights.items) t.between t.end))
    go (inr (inl t)) =
        spent t.left_is ∙ sym (stopped_none job own
        (stop_is job.stop (length t.before + 1) (length own) t.stop
        (ap length t.whole ∙ length_push t.before t.last)))
    go (inr (inr n)) =
        spent n.left_is ∙ sym (stopped_none job own (stop_is job.stop 0 (length own) n.stop (ap length n.none)))

-- What a reply leaves: a round without its first ask.
module _ {F : Type 0} (job : Job F) (own : List Entry) where
  pub record Landed (left : Option ℕ) (from : ℕ) (flights : List (Option F)) (rest : List Ask)
      (verdicts : List Verdict) : Type 0 where
    pub left_is : IsLeftOf job.stop left (length own)
    pub batch : HasBatch job own from (length flights)
    pub flies : flights ≡ flights_at (stand_in job own) from (length flights)
    pub round : ℕ
    pub turn : IsRound job own from (length flights) round rest
    pub given_is : HasVerdicts job own (from + length flights) verdicts

-- the verdicts, where none is reached
verdicts_lost : {F : Type 0} (job : Job F) (own : List Entry) (e : Entry) (flight : F) (end : ℕ)
    (verdicts : List Verdict) → HasVerdicts job own end verdicts → stand_in job own e.item ≡ Flies flight →
    verdict_at (stand_in job (own ++ e ∷ []) e.item) ≡ Lost → HasVerdicts job (own ++ e ∷ []) end verdicts
verdicts_lost job own e flight end verdicts h flies on = λ item d l u. elim (cases_eq e.item item) [
  | inl q ↦
      h item d l u
      ∙ (ap verdict_at (ap (stand_in job own) (sym q) ∙ flies)
      ∙ sym (ap (λ i. verdict_at (stand_in job (own ++ e ∷ []) i)) (sym q) ∙ on))
  | inr n ↦ h item d l u ∙ ap verdict_at (sym (stand_same job own e item n))
]

verdicts_given : {F : Type 0} (job : Job F) (own : List Entry) (e : Entry) (flight : F) (end : ℕ)
    (verdicts : List Verdict) (stand : Stand F) → HasVerdicts job own end verdicts →
    stand_in job own e.item ≡ Flies flight → job.at ≤ e.item → e.item - job.at < length verdicts →
    stand_in job (own ++ e ∷ []) e.item ≡ stand →
    HasVerdicts job (own ++ e ∷ []) end (given stand (e.item - job.at) verdicts)
verdicts_given job own e flight end verdicts (Flies next) h flies l inside is =
    verdicts_lost job own e flight end verdicts h flies (ap verdict_at is)
verdicts_given job own e flight end verdicts (Ends None) h flies l inside is =
    verdicts_lost job own e flight end verdicts h flies (ap verdict_at is)
verdicts_given job own e flight end verdicts (Ends (Some verdict)) h flies l inside is =
    verdicts_over job own e verdict end verdicts h l inside is

-- an item goes on by the reply
pub landed : {F : Type 0} (job : Job F) (own : List Entry) (e : Entry) (left : Option ℕ) (from : ℕ)
    (flights : List (Option F)) (a : Ask) (rest : List Ask) (verdicts : List Verdict) (reply : Reply)
    (w : AtWork job own left from flights (a ∷ rest) verdicts) (flights' : List (Option F))
    (verdicts' : List Verdict) → is_last left ≡ false → IsAnswer (Some a) reply e →
    flights' ≡ set flights (a.item - from) (flight_at (job.machine.goes w.turn.each.0.flight reply)) →
    verdicts' ≡ given (job.machine.goes w.turn.each.0.flight reply) (a.item - job.at) verdicts → job.at ≤ from →
    a.item - job.at < length verdicts → Landed job (own ++ e ∷ []) (one_less left) from flights' rest verdicts'
landed {F = F} job own e left from flights a rest verdicts reply w flights' verdicts' last is set_is given_is l
    inside =
    let size : ℕ = length flights in
    let flight : F = w.turn.each.0.flight in
    let flies : stand_in job own e.item ≡ Flies flight = ap (stand_in job own) is.0 ∙ w.turn.each.0.flies in
    let goes : stand_in job (own ++ e ∷ []) e.item ≡ job.machine.goes flight reply =
    stand_more job own e e.item refl
    ∙ (ap (λ st. stand_step job.machine st e) flies ∙ ap (job.machine.goes flight) is.2) in
    let from_is : from ≤ a.item = w.turn.each.0.from_is in
    let upto : a.item < from + size = w.turn.each.0.upto in
    let mine : e.item ≡ a.item = is.0 in
    let new : flights' ≡ flights_at (stand_in job (own ++ e ∷ [])) from size =
    set_is ∙ (ap₂ (λ i st. set flights (i - from) (flight_at st)) (sym mine) (sym goes)
    ∙ flies_step job own from size e flights w.flies (omega arith) (omega arith)) in
    let count : length flights' ≡ size = ap length set_is ∙ length-set flights (a.item - from) _ in
    let verdicts_are : verdicts' ≡ given (job.machine.goes flight reply) (e.item - job.at) verdicts =
    given_is ∙ ap (λ i. given (job.machine.goes flight reply) (i - job.at) verdicts) (sym mine) in
    record {
      left_is = left_step job.stop left own e last w.left_is;
      batch = subst (HasBatch job (own ++ e ∷ []) from) (sym count)
          (batch_step job own from size e flight w.batch flies (omega arith));
      flies = new ∙ ap (flights_at (stand_in job (own ++ e ∷ [])) from) (sym count);
      round = w.round;
      turn = subst (λ n. IsRound job (own ++ e ∷ []) from n w.round rest) (sym count)
          (round_step job own from size w.round a rest e w.turn mine);
      given_is = subst (λ n. HasVerdicts job (own ++ e ∷ []) (from + n) verdicts') (sym count)
          (subst (HasVerdicts job (own ++ e ∷ []) (from + size)) (sym verdicts_are)
          (verdicts_given job own e flight (from + size) verdicts (job.machine.goes flight reply) w.given flies
          (omega arith) (omega arith) goes));
    }

-- the round goes on
pub landed_works : {F : Type 0} (job : Job F) (own : List Entry) (left : Option ℕ) (from : ℕ)
    (flights : List (Option F)) (rest : List Ask) (verdicts : List Verdict) →
    Landed job own left from flights rest verdicts → 0 < length rest → AtWork job own left from flights rest verdicts
landed_works job own left from flights rest verdicts w some =
    record {
      left_is = w.left_is;
      batch = w.batch;
      flies = w.flies;
      round = w.round;
      turn = w.turn;
      some =
          some;
      given = w.given_is;
    }

no_more : (item m n : ℕ) → IsAsking item [] ⊎ (m ≡ n) → m ≡ n
no_more item m n (inl i) = absurd i
no_more item m n (inr e) = e

-- the round is done
pub landed_rests : {F : Type 0} (job : Job F) (own : List Entry) (hand : Hand F)
    (w : Landed job own hand.left hand.from hand.flights.items [] hand.verdicts.items) →
    Rests job own hand (w.round + 1)
landed_rests job own hand w = record {
  left_is = w.left_is;
  batch = w.batch;
  flies = w.flies;
  made = λ item flight l u e. no_more item _ _ (w.turn.others item flight l u e);
  given = w.given_is;
}

-- the last access before the stop
pub stopped : {F : Type 0} (job : Job F) (own : List Entry) (e : Entry) (left : Option ℕ) (from : ℕ)
    (flights : List (Option F)) (a : Ask) (rest : List Ask) (verdicts : List Verdict) (reply : Reply) →
    AtWork job own left from flights (a ∷ rest) verdicts → is_last left ≡ true → IsAnswer (Some a) reply e →
    WasStopped job (own ++ e ∷ []) (Some 0) from (length flights) verdicts
stopped job own e left from flights a rest verdicts reply w last is =
    let from_is : from ≤ a.item = w.turn.each.0.from_is in
    let upto : a.item < from + length flights = w.turn.each.0.upto in
    let mine : e.item ≡ a.item = is.0 in
    record {
      before = own;
      last = e;
      whole = refl;
      stop = stop_reached job.stop left (length own) last w.left_is;
      left_is = refl;
      batch = w.batch;
      flight = w.turn.each.0.flight;
      flies = ap (stand_in job own) mine ∙ w.turn.each.0.flies;
      from_is = omega arith;
      upto = omega arith;
      given = w.given;
    }

-- What can be answered is an ask.
pub record Asked {F : Type 0} (hand : Hand F) (reply : Reply) : Type 0 where
  pub ask : Ask
  pub is : ask_in hand ≡ Some ask
  pub can : CanReply ask.request reply

pub asked : {F : Type 0} (hand : Hand F) (reply : Reply) → CanAnswer (ask_in hand) reply → Asked hand reply
asked hand reply h = go (ask_in hand) refl h
  where
    go : (o : Option Ask) → ask_in hand ≡ o → CanAnswer o reply → Asked hand reply
    go None e k = absurd k
    go (Some a) e k = record { ask = a; is = e; can = k }

-- an entry that answers an ask
abbrev pub answer_of : Ask → Reply → Entry
answer_of a reply =
    record { stamp = 0; shard = 0; incarnation = 0; item = a.item; request = a.request; reply = reply }

-- the answer of what is asked is one
pub answers : {F : Type 0} (hand : Hand F) (reply : Reply) (k : Asked hand reply) →
    IsAnswer (ask_in hand) reply (answer_of k.ask reply)
answers hand reply k = subst (λ o. IsAnswer o reply (answer_of k.ask reply)) (sym k.is) (refl, refl, refl)

-- an entry that answers tells what is asked
pub answered_ask : {F : Type 0} (hand : Hand F) (reply : Reply) (e : Entry) → IsAnswer (ask_in hand) reply e →
    (a : Ask) × (ask_in hand ≡ Some a) × IsAnswer (Some a) reply e
answered_ask hand reply e h = go (ask_in hand) refl h
  where
    go : (o : Option Ask) → ask_in hand ≡ o → IsAnswer o reply e →
        (a : Ask) × (ask_in hand ≡ Some a) × IsAnswer (Some a) reply e
    go None q k = absurd k
    go (Some a) q k = (a, q, k)

-- the ask that the code reads
pub ask_is : {F : Type 0} (hand : Hand F) (a q : Ask) → ask_in hand ≡ Some a →
    q ≡ get_or hand.asks.items hand.place q → q ≡ a
ask_is hand a q is at =
    let there = (ask_at hand a is).1 in
    let l = slice_get_within hand.asks.items hand.place a there in
    same_Some q a (ap Some at ∙ (sym (slice_get-get_or hand.asks.items hand.place q l) ∙ there))

slice_flights : {F : Type 0} (stand : ℕ → Stand F) (a n k m : ℕ) → k < n → a + k ≡ m →
    slice_get (flights_at stand a n) k ≡ Some (flight_at (stand m))
slice_flights stand a zero k m l q = absurd (omega arith)
slice_flights stand a (suc n) zero m l q = let e : a ≡ m = omega arith in ap (λ i. Some (flight_at (stand i))) e
slice_flights stand a (suc n) (suc k) m l q = slice_flights stand (a + 1) n k m (omega arith) (omega arith)

-- What is at hand where an ask is to be answered.
pub record Ready {F : Type 0} (job : Job F) (own : List Entry) (hand : Hand F) (q : Ask) : Type 0 where
  pub work : AtWork job own hand.left hand.from hand.flights.items (q ∷ drop (hand.place + 1) hand.asks.items)
      hand.verdicts.items
  pub there : slice_get hand.flights.items (q.item - hand.from) ≡ Some (Some work.turn.each.0.flight)
  pub from_is : hand.from ≤ q.item
  pub upto : q.item < hand.from + length hand.flights.items
  pub inside : hand.place < length hand.asks.items

pub ready : {F : Type 0} (job : Job F) (own : List Entry) (hand : Hand F) (a q : Ask) → StandsAfter job own hand →
    ask_in hand ≡ Some a → q ≡ get_or hand.asks.items hand.place q → Ready job own hand q
ready job own hand a q s is at =
    let w = at_work job own hand q s (is ∙ ap Some (sym (ask_is hand a q is at))) in
    let from_is : hand.from ≤ q.item = w.turn.each.0.from_is in
    let upto : q.item < hand.from + length hand.flights.items = w.turn.each.0.upto in
    record {
      work = w;
      there = ap (λ fs. slice_get fs (q.item - hand.from)) w.flies
          ∙ (slice_flights (stand_in job own) hand.from (length hand.flights.items) (q.item - hand.from) q.item
          (omega arith) (omega arith)
          ∙ ap (λ st. Some (flight_at st)) w.turn.each.0.flies);
      from_is = from_is;
      upto = upto;
      inside = slice_get_within hand.asks.items hand.place a (ask_at hand a is).1;
    }

-- the last access before the stop
pub hand_stops : {F : Type 0} (job : Job F) (own : List Entry) (hand : Hand F) (reply : Reply) (e : Entry) →
    StandsAfter job own hand → IsAnswer (ask_in hand) reply e → is_last hand.left ≡ true →
    Stands job (own ++ e ∷ []) (Some 0) hand.from hand.flights.items (drop hand.place hand.asks.items)
    hand.verdicts.items
hand_stops job own hand reply e s is last =
    let k = answered_ask hand reply e is in
    inr (inl (stopped job own e hand.left hand.from hand.flights.items k.0 (drop (hand.place + 1) hand.asks.items)
    hand.verdicts.items reply (at_work job own hand k.0 s k.1) last k.2))

-- an access that isn't the last
pub hand_lands : {F : Type 0} (job : Job F) (own : List Entry) (hand : Hand F) (reply : Reply) (e : Entry) (q : Ask)
    (left : Option ℕ) (flights : List (Option F)) (verdicts : List Verdict) → StandsAfter job own hand →
    IsAnswer (ask_in hand) reply e → is_last hand.left ≡ false → q ≡ get_or hand.asks.items hand.place q →
    left ≡ one_less hand.left → ((flight : F) →
    slice_get hand.flights.items (q.item - hand.from) ≡ Some (Some flight) →
    flights ≡ set hand.flights.items (q.item - hand.from) (flight_at (job.machine.goes flight reply))) →
    ((flight : F) → slice_get hand.flights.items (q.item - hand.from) ≡ Some (Some flight) →
    verdicts ≡ given (job.machine.goes flight reply) (q.item - job.at) hand.verdicts.items) → job.at ≤ hand.from →
    q.item - job.at < length hand.verdicts.items →
    Landed job (own ++ e ∷ []) left hand.from flights (drop (hand.place + 1) hand.asks.items) verdicts
hand_lands job own hand reply e q left flights verdicts s is last at less flights_are verdicts_are l inside =
    let k = answered_ask hand reply e is in
    let r = ready job own hand k.0 q s k.1 at in
    let mine = subst (λ a. IsAnswer (Some a) reply e) (sym (ask_is hand k.0 q k.1 at)) k.2 in
    subst (λ o. Landed job (own ++ e ∷ []) o hand.from flights (drop (hand.place + 1) hand.asks.items) verdicts)
    (sym less)
    (landed job own e hand.left hand.from hand.flights.items q (drop (hand.place + 1) hand.asks.items)
    hand.verdicts.items reply r.work flights verdicts last mine
    (flights_are r.work.turn.each.0.flight r.there) (verdicts_are r.work.turn.each.0.flight r.there) l inside)

-- what an instance's value asks is what its hand asks
pub asks_same : {F : Type 0} (hand : Hand F) →
    (if is_spent hand.left then None else slice_get (drop hand.place hand.asks.items) 0) ≡ ask_in hand
asks_same hand = ap (λ o. if is_spent hand.left then None else o) (sym (slice_drop hand.asks.items hand.place))

left_first : (left : Option ℕ) → is_spent left ≡ false → IsLeftOf left left 0
left_first None e = tt
left_first (Some zero) e = absurd (cc)
left_first (Some (suc left)) e = (omega arith, omega arith)

left_none : (left : Option ℕ) → is_spent left ≡ true → left ≡ Some 0
left_none None e = absurd (cc)
left_none (Some zero) e = refl
left_none (Some (suc left)) e = absurd (clash ((suc left) == 0) e (ne_eqb (suc left) 0 (λ q. omega arith)))

-- a new hand
pub first_done : {F : Type 0} (job : Job F) (hand : Hand F) → job.at ≡ hand.errand.at → job.stop ≡ hand.errand.stop →
    IsFirst hand.errand hand → is_spent hand.left ≡ false → IsDone job [] hand
first_done job hand at stop f runs =
    let to : hand.from + length hand.flights.items ≡ job.at =
    (let n : length hand.flights.items ≡ 0 = ap length f.none in omega (arith, n, f.from)) in
    record {
      left_is = subst (λ o. IsLeftOf o hand.left 0) (f.left ∙ sym stop) (left_first hand.left runs);
      between = subst (IsBetween job []) (sym to) (at_first job);
      given = λ item d l u. absurd (omega arith);
    }

pub first_never : {F : Type 0} (job : Job F) (hand : Hand F) → job.at ≡ hand.errand.at → job.stop ≡ hand.errand.stop →
    IsFirst hand.errand hand → is_spent hand.left ≡ true → StandsAfter job [] hand
first_never job hand at stop f spent =
    let n : length hand.flights.items ≡ 0 = ap length f.none in
    let none : hand.left ≡ Some 0 = left_none hand.left spent in
    inr (inr (record {
      none = refl;
      stop = stop ∙ (sym f.left ∙ none);
      left_is = none;
      to_is =
          omega (arith, f.from);
    }))
