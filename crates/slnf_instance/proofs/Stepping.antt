-- Where an actor is after one more access of its own.
use Rattle.std.proofs.Common.{◌≡◌, inl, inr, ◌⊎◌, ℕ, zero, suc, ◌+◌, ◌-◌, ◌<◌, ◌≤◌, ◌==◌, ◌%◌, nat_le, true, false, List, [], ◌∷◌, ◌++◌, Option, Some, None, length, get_or, set, refl, sym, ap, ap₂, ◌∙◌, subst, arith, append-nil, ne_eqb}
use Rattle.std.proofs.lemmas.Bool.{cases_eq, cases_lt}
use Rattle.std.proofs.lemmas.Bool.Decides.{nat_tests}
use Rattle.std.proofs.lemmas.List.{length_push, get_or-set_same, get_or-set_other}
use Rattle.std.proofs.lemmas.List.Elements.{filter-append}
use Rattle.slnf_base.specs.declared.packets.Verdict.{Verdict}
use Rattle.slnf_access.specs.declared.requests.Entry.{Entry}
use Rattle.slnf_access.specs.declared.requests.Ask.{Ask}
use Rattle.slnf_access.specs.declared.requests.Request.{Request}
use Rattle.slnf_access.specs.Map.{key_of}
use Rattle.slnf_access.specs.Machines.{Stand, Flies, Ends, HasEnded, stand_step, stand_after}
use Rattle.slnf_access.proofs.Laws.{stand_after-append}
use Rattle.slnf_batch.specs.Order.{GoesBefore}
use Rattle.slnf_batch.proofs.Laws.{Ascends-head, Ascends-tail}
use Rattle.slnf_run.specs.Parts.{of_item}
use Rattle.slnf_run.specs.Verdicts.{verdict_at}
use Rattle.slnf_access.proofs.Elements.{each-weaker}
use Rattle.slnf_run.proofs.AddedEntries.{of_item-own, of_item-other}
use Rattle.slnf_run.specs.Jobs.{Job, stand_in, is_stop}
use Rattle.slnf_instance.specs.Works.{IsLeftOf, flight_at, flights_at, IsAsking, IsAskOf, HasBatch, IsRound, HasVerdicts}
use Rattle.slnf_instance.specs.Hands.{is_last, one_less}
use Rattle.slnf_instance.proofs.Every.{every_of_all, every_both}
use Rattle.slnf_instance.proofs.Wanting.{flies_ended, same_flight}

pub of_item_more : (item : ℕ) (own : List Entry) (e : Entry) → e.item ≡ item →
    of_item item (own ++ e ∷ []) ≡ of_item item own ++ e ∷ []
of_item_more item own e q =
    filter-append (λ f. f.item == item) own (e ∷ []) ∙ ap (λ l. of_item item own ++ l) (of_item-own item e [] q)

pub of_item_same : (item : ℕ) (own : List Entry) (e : Entry) → (e.item ≡ item → ⊥) →
    of_item item (own ++ e ∷ []) ≡ of_item item own
of_item_same item own e n =
    filter-append (λ f. f.item == item) own (e ∷ [])
    ∙ (ap (λ l. of_item item own ++ l) (of_item-other item e [] n) ∙ append-nil (of_item item own))

pub stand_more : {F : Type 0} (job : Job F) (own : List Entry) (e : Entry) (item : ℕ) → e.item ≡ item →
    stand_in job (own ++ e ∷ []) item ≡ stand_step job.machine (stand_in job own item) e
stand_more job own e item q =
    ap (stand_after job.machine (job.begins item)) (of_item_more item own e q)
    ∙ stand_after-append job.machine (job.begins item) (of_item item own) (e ∷ [])

pub stand_same : {F : Type 0} (job : Job F) (own : List Entry) (e : Entry) (item : ℕ) → (e.item ≡ item → ⊥) →
    stand_in job (own ++ e ∷ []) item ≡ stand_in job own item
stand_same job own e item n = ap (stand_after job.machine (job.begins item)) (of_item_same item own e n)

-- where the entry's item flew, what had ended has ended
ended_stays : {F : Type 0} (job : Job F) (own : List Entry) (e : Entry) (flight : F) (item : ℕ) →
    stand_in job own e.item ≡ Flies flight → HasEnded (stand_in job own item) →
    HasEnded (stand_in job (own ++ e ∷ []) item)
ended_stays job own e flight item flies h =
    subst HasEnded (sym (stand_same job own e item
    (λ q. flies_ended (stand_in job own item) flight h (ap (stand_in job own) (sym q) ∙ flies)))) h

-- the batch stays in hand
pub batch_step : {F : Type 0} (job : Job F) (own : List Entry) (from size : ℕ) (e : Entry) (flight : F) →
    HasBatch job own from size → stand_in job own e.item ≡ Flies flight → e.item < from + size →
    HasBatch job (own ++ e ∷ []) from size
batch_step job own from size e flight b flies u = record {
  number = b.number;
  earlier = b.earlier;
  offers = b.offers;
  below = b.below;
  place = b.place;
  inside = b.inside;
  ended = each-weaker (λ o. HasEnded (stand_in job own o.item)) (λ o. HasEnded (stand_in job (own ++ e ∷ []) o.item))
      (λ o h. ended_stays job own e flight o.item flies h) b.earlier b.ended;
  fresh = λ item l. of_item_same item own e (λ q. omega arith) ∙ b.fresh item l;
}

pub same_flights : {F : Type 0} (old new : ℕ → Stand F) (a n : ℕ) → ((m : ℕ) → a ≤ m → new m ≡ old m) →
    flights_at old a n ≡ flights_at new a n
same_flights old new a zero h = refl
same_flights old new a (suc n) h =
    ap₂ (λ st fs. flight_at st ∷ fs) (sym (h a (omega arith)))
    (same_flights old new (a + 1) n (λ m l. h m (omega arith)))

pub set_flights : {F : Type 0} (old new : ℕ → Stand F) (a n item k : ℕ) → a + k ≡ item → k < n →
    ((m : ℕ) → (m ≡ item → ⊥) → new m ≡ old m) →
    set (flights_at old a n) k (flight_at (new item)) ≡ flights_at new a n
set_flights old new a zero item k q l h = absurd (omega arith)
set_flights old new a (suc n) item zero q l h =
    let e : item ≡ a = omega arith in
    ap₂ (λ m fs. flight_at (new m) ∷ fs) e (same_flights old new (a + 1) n (λ m u. h m (λ r. omega arith)))
set_flights old new a (suc n) item (suc k) q l h =
    ap₂ (λ st fs. flight_at st ∷ fs) (sym (h a (λ r. omega arith)))
    (set_flights old new (a + 1) n item k (omega arith) (omega arith) h)

pub flies_step : {F : Type 0} (job : Job F) (own : List Entry) (from size : ℕ) (e : Entry)
    (flights : List (Option F)) → flights ≡ flights_at (stand_in job own) from size → from ≤ e.item →
    e.item < from + size → set flights (e.item - from) (flight_at (stand_in job (own ++ e ∷ []) e.item))
    ≡ flights_at (stand_in job (own ++ e ∷ [])) from size
flies_step job own from size e flights flies l u =
    ap (λ fs. set fs (e.item - from) (flight_at (stand_in job (own ++ e ∷ []) e.item))) flies
    ∙ set_flights (stand_in job own) (stand_in job (own ++ e ∷ [])) from size e.item (e.item - from) (omega arith)
    (omega arith) (λ m n. stand_same job own e m (λ q. n (sym q)))

-- an ask behind another is of another item
apart : {F : Type 0} (job : Job F) (own : List Entry) (from size round : ℕ) (a b : Ask) →
    IsAskOf job own from size round a → IsAskOf job own from size round b → GoesBefore job.shards a b →
    a.item ≡ b.item → ⊥
apart job own from size round a b is at order q =
    let same : is.flight ≡ at.flight =
    same_flight is.flight at.flight (sym is.flies ∙ (ap (stand_in job own) q ∙ at.flies)) in
    let asked : a.request ≡ b.request = is.request ∙ (ap job.machine.asks same ∙ sym at.request) in
    let shard : key_of a.request % job.shards ≡ key_of b.request % job.shards =
    ap (λ (r : Request). key_of r % job.shards) asked in
    not_before (key_of a.request % job.shards) (key_of b.request % job.shards) a.item b.item shard q order
  where
    not_before : (s t m n : ℕ) → s ≡ t → m ≡ n → (s < t) ⊎ ((s ≡ t) × (m < n)) → ⊥
    not_before s t m n p r (inl l) = omega arith
    not_before s t m n p r (inr l) = omega (arith, l.1)

ask_stays : {F : Type 0} (job : Job F) (own : List Entry) (from size round : ℕ) (e : Entry) (b : Ask) →
    (e.item ≡ b.item → ⊥) → IsAskOf job own from size round b → IsAskOf job (own ++ e ∷ []) from size round b
ask_stays job own from size round e b n is = record {
  flight = is.flight;
  flies = stand_same job own e b.item n ∙ is.flies;
  request = is.request;
  made = ap length (of_item_same b.item own e n) ∙ is.made;
  from_is = is.from_is;
  upto = is.upto;
}

-- the round goes on without its first ask
pub round_step : {F : Type 0} (job : Job F) (own : List Entry) (from size round : ℕ) (a : Ask) (rest : List Ask)
    (e : Entry) → IsRound job own from size round (a ∷ rest) → e.item ≡ a.item →
    IsRound job (own ++ e ∷ []) from size round rest
round_step {F = F} job own from size round a rest e r mine = record {
  each =
      every_both (IsAskOf job own from size round) (GoesBefore job.shards a)
      (IsAskOf job (own ++ e ∷ []) from size round)
      (λ b is order. ask_stays job own from size round e b
      (λ q. apart job own from size round a b r.each.0 is order (sym mine ∙ q)) is)
      rest r.each.1 (every_of_all (GoesBefore job.shards a) rest (Ascends-head job.shards a rest r.ascends));
  ascends = Ascends-tail job.shards a rest r.ascends;
  others = λ item flight l u flies. elim (cases_eq e.item item) [
    | inl q ↦
        let made : length (of_item a.item own) ≡ round = r.each.0.made in
        let same : length (of_item item own) ≡ length (of_item a.item own) =
        ap (λ i. length (of_item i own)) (sym q ∙ mine) in
        let more : length (of_item item (own ++ e ∷ [])) ≡ length (of_item item own) + 1 =
        ap length (of_item_more item own e q) ∙ length_push (of_item item own) e in
        inr (omega arith)
    | inr n ↦ other item n (r.others item flight l u (sym (stand_same job own e item n) ∙ flies))
  ];
}
  where
    other : (item : ℕ) → (e.item ≡ item → ⊥) → IsAsking item (a ∷ rest) ⊎ (length (of_item item own) ≡ round + 1) →
        IsAsking item rest ⊎ (length (of_item item (own ++ e ∷ [])) ≡ round + 1)
    other item n (inl (inl q)) = absurd (n (mine ∙ q))
    other item n (inl (inr i)) = inl i
    other item n (inr m) = inr (ap length (of_item_same item own e n) ∙ m)

-- the verdicts, where the item flies on
pub verdicts_go : {F : Type 0} (job : Job F) (own : List Entry) (e : Entry) (flight next : F) (end : ℕ)
    (verdicts : List Verdict) → HasVerdicts job own end verdicts → stand_in job own e.item ≡ Flies flight →
    stand_in job (own ++ e ∷ []) e.item ≡ Flies next → HasVerdicts job (own ++ e ∷ []) end verdicts
verdicts_go job own e flight next end verdicts h flies on = λ item d l u. elim (cases_eq e.item item) [
  | inl q ↦
      h item d l u
      ∙ (ap verdict_at (ap (stand_in job own) (sym q) ∙ flies)
      ∙ sym (ap verdict_at (ap (stand_in job (own ++ e ∷ [])) (sym q) ∙ on)))
  | inr n ↦ h item d l u ∙ ap verdict_at (sym (stand_same job own e item n))
]

-- and where it ends
pub verdicts_over : {F : Type 0} (job : Job F) (own : List Entry) (e : Entry) (verdict : Verdict) (end : ℕ)
    (verdicts : List Verdict) → HasVerdicts job own end verdicts → job.at ≤ e.item →
    e.item - job.at < length verdicts → stand_in job (own ++ e ∷ []) e.item ≡ Ends (Some verdict) →
    HasVerdicts job (own ++ e ∷ []) end (set verdicts (e.item - job.at) verdict)
verdicts_over job own e verdict end verdicts h from inside over = λ item d l u. elim (cases_eq e.item item) [
  | inl q ↦
      let k : item - job.at ≡ e.item - job.at = omega arith in
      ap (λ n. get_or (set verdicts (e.item - job.at) verdict) n d) k
      ∙ (get_or-set_same verdicts (e.item - job.at) verdict d inside
      ∙ sym (ap verdict_at (ap (stand_in job (own ++ e ∷ [])) (sym q) ∙ over)))
  | inr n ↦
      get_or-set_other verdicts (e.item - job.at) (item - job.at) verdict d (λ r. n (omega arith))
      ∙ (h item d l u ∙ ap verdict_at (sym (stand_same job own e item n)))
]

below_one : (left : ℕ) → left ≤ 1 → nat_le left 1 ≡ false → ⊥
below_one left l h = grind (arith, nat_tests)

pub left_step : (stop left : Option ℕ) (own : List Entry) (e : Entry) → is_last left ≡ false →
    IsLeftOf stop left (length own) → IsLeftOf stop (one_less left) (length (own ++ e ∷ []))
left_step None None own e last h = tt
left_step None (Some left) own e last h = absurd h
left_step (Some stop) None own e last h = absurd h
left_step (Some stop) (Some left) own e last h =
    let n : length (own ++ e ∷ []) ≡ length own + 1 = length_push own e in
    let more : 1 < left = elim (cases_lt 1 left) [ inl l ↦ l | inr l ↦ absurd (below_one left l last) ] in
    (omega (arith, h.0), omega arith)

pub stop_reached : (stop left : Option ℕ) (made : ℕ) → is_last left ≡ true → IsLeftOf stop left made →
    stop ≡ Some (made + 1)
stop_reached None None made last h = absurd (cc)
stop_reached None (Some left) made last h = absurd h
stop_reached (Some stop) None made last h = absurd h
stop_reached (Some stop) (Some left) made last h =
    let one : left ≤ 1 = grind (arith, nat_tests) in
    let e : stop ≡ made + 1 = omega (arith, h.0, h.1) in
    ap Some e

-- an actor that has accesses left isn't stopped
pub left_runs : (stop left : Option ℕ) (made : ℕ) → IsLeftOf stop left made → is_stop stop made ≡ false
left_runs None None made h = refl
left_runs None (Some left) made h = absurd h
left_runs (Some stop) None made h = absurd h
left_runs (Some stop) (Some left) made h = ne_eqb made stop (λ q. omega (arith, h.0, h.1))
