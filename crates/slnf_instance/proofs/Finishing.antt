-- What an actor took and its verdicts, in the end.
use Rattle.std.proofs.Common.{◌≡◌, inl, inr, ℕ, zero, suc, ◌+◌, ◌-◌, ◌<◌, ◌≤◌, ◌==◌, ◌&&◌, not, nat_lt, Bool, true, false, if◌then◌else◌, List, [], ◌∷◌, ◌++◌, Option, Some, None, length, get_or, take, map, refl, sym, ap, ap₂, ◌∙◌, arith, eq-eqb, ne_eqb}
use Rattle.std.specs.List.{range_with_len, AllByRecursion as Every}
use Rattle.std.proofs.lemmas.Bool.{cases_eq, cond-true, cond-false, cond_both}
use Rattle.std.proofs.lemmas.List.{length_push, take_at, length-take-le, get_or-take, same_lists}
use Rattle.std.proofs.lemmas.List.FromFn.{length-range_with_len, length-map-range_with_len, get_or-map-range_with_len}
use Rattle.slnf_base.specs.declared.packets.Verdict.{Verdict}
use Rattle.slnf_access.specs.declared.requests.Entry.{Entry}
use Rattle.slnf_access.specs.declared.requests.Ask.{Ask}
use Rattle.slnf_access.specs.Machines.{HasEnded, stand_after}
use Rattle.slnf_run.specs.Parts.{Offer, is_among, with_key, batched, batch_of, last_of, offers_until, of_item}
use Rattle.slnf_run.specs.Verdicts.{verdict_at, counted}
use Rattle.slnf_access.proofs.Elements.{each-weaker}
use Rattle.slnf_run.specs.Jobs.{one_batch, by_rounds, Job, first_in, offers_in, stand_in, is_stop, wanted_in, taken_in, verdict_in}
use Rattle.slnf_run.proofs.Batches.{batched_from}
use Rattle.slnf_instance.proofs.Until.{up_to, up_to-batch}
use Rattle.slnf_instance.specs.declared.endings.Ending.TheVariants.{Stopped}
use Rattle.slnf_instance.specs.declared.hands.Hand.{Hand}
use Rattle.slnf_instance.specs.Works.{AtWork, WasStopped}
use Rattle.slnf_instance.specs.Hands.{StandsAfter, is_spent, ask_in}
use Rattle.slnf_instance.specs.Ends.{unstopped, ending_in, verdicts_in, ending_of}
use Rattle.slnf_instance.proofs.Wanting.{flies_ended, wants_first}
use Rattle.slnf_instance.proofs.Stepping.{left_runs}
use Rattle.slnf_instance.proofs.Answering.{stop_is, left_unspent, spent_zero, asks_wanted}

length-batched : (limit : ℕ) (first : ℕ → Option ℕ) (number size : ℕ) (keys items : List ℕ) →
    length (batched limit first number size keys items) ≡ length items
length-batched limit first number size keys [] = refl
length-batched limit first number size keys (item ∷ items) =
    cond_both (nat_lt size limit && not (is_among (first item) keys)) _ _ (λ os. length os ≡ suc (length items))
    (λ _. ap suc (length-batched limit first number (size + 1) (with_key (first item) keys) items))
    (λ _. ap suc (length-batched limit first (number + 1) 1 (with_key (first item) []) items))

-- all that is offered
pub offers_count : {F : Type 0} (job : Job F) → length (offers_in job) ≡ job.count
offers_count job =
    length-batched job.batch (first_in job) 0 0 [] (range_with_len job.at job.count)
    ∙ length-range_with_len job.at job.count

batch_here : (number item from size : ℕ) (later : List Offer) → from ≤ item → item < from + size →
    batch_of item (one_batch number (range_with_len from size) ++ later) ≡ number
batch_here number item from zero later l u = absurd (omega arith)
batch_here number item from (suc size) later l u = elim (cases_eq from item) [
  | inl q ↦ cond-true (from == item) number _ (eq-eqb from item q)
  | inr n ↦ cond-false (from == item) number _ (ne_eqb from item n)
      ∙ batch_here number item (from + 1) size later (omega arith) (omega arith)
]

-- the batch of an item of the batch in hand
batch_is : (number item from size : ℕ) (earlier later : List Offer) →
    Every (λ (o : Offer). o.item ≡ item → ⊥) earlier → from ≤ item → item < from + size →
    batch_of item (earlier ++ (one_batch number (range_with_len from size) ++ later)) ≡ number
batch_is number item from size [] later h l u = batch_here number item from size later l u
batch_is number item from size (x ∷ earlier) later h l u =
    cond-false (x.item == item) x.batch _ (ne_eqb x.item item h.0)
    ∙ batch_is number item from size earlier later h.1 l u

last_is : (es : List Entry) (e : Entry) → last_of (es ++ e ∷ []) ≡ Some e
last_is [] e = refl
last_is (f ∷ []) e = refl
last_is (f ∷ g ∷ es) e = last_is (g ∷ es) e

-- how much an actor took that was stopped
pub stopped_count : {F : Type 0} (job : Job F) (own : List Entry) (left : Option ℕ) (from size : ℕ)
    (verdicts : List Verdict) → WasStopped job own left from size verdicts →
    job.at + length (taken_in job own) ≡ from + size
stopped_count job own left from size verdicts t =
    let b = t.batch in
    let later : List Offer = batched job.batch (first_in job) (b.number + 1) 0 []
    (range_with_len (from + size) (job.at + job.count - (from + size))) in
    let whole : List Offer = b.earlier ++ (one_batch b.number (range_with_len from size) ++ later) in
    let stop : is_stop job.stop (length own) ≡ true =
    stop_is job.stop (length t.before + 1) (length own) t.stop (ap length t.whole ∙ length_push t.before t.last) in
    let taken : taken_in job own ≡ offers_until (last_of own) (offers_in job) =
    ap (λ (c : Bool). if c then offers_until (last_of own) (offers_in job) else offers_in job) stop in
    let last : last_of own ≡ Some t.last = ap last_of t.whole ∙ last_is t.before t.last in
    let until : taken_in job own ≡ up_to (batch_of t.last.item (offers_in job)) (offers_in job) =
    taken ∙ ap (λ o. offers_until o (offers_in job)) last in
    let number : batch_of t.last.item whole ≡ b.number =
    batch_is b.number t.last.item from size b.earlier later
    (each-weaker (λ o. HasEnded (stand_in job t.before o.item)) (λ (o : Offer). o.item ≡ t.last.item → ⊥)
    (λ o h q. flies_ended (stand_in job t.before o.item) t.flight h (ap (stand_in job t.before) q ∙ t.flies))
    b.earlier b.ended)
    t.from_is t.upto in
    let count : length (taken_in job own) ≡ length b.earlier + length (range_with_len from size) =
    ap length until
    ∙ (ap (λ os. length (up_to (batch_of t.last.item os) os)) b.offers
    ∙ (ap (λ n. length (up_to n whole)) number
    ∙ up_to-batch b.number b.earlier (range_with_len from size) later b.below
    (batched_from job.batch (first_in job) (b.number + 1) 0 []
    (range_with_len (from + size) (job.at + job.count - (from + size)))))) in
    let n : length (range_with_len from size) ≡ size = length-range_with_len from size in
    let at : from ≡ job.at + length b.earlier = b.place in
    omega arith

-- and one that wasn't
pub all_taken : {F : Type 0} (job : Job F) (own : List Entry) → is_stop job.stop (length own) ≡ false →
    length (taken_in job own) ≡ job.count
all_taken job own e =
    ap (λ (c : Bool). length (if c then offers_until (last_of own) (offers_in job) else offers_in job)) e
    ∙ offers_count job

-- the verdicts, item by item, are a list
pub as_list : (f : ℕ → Verdict) (at n : ℕ) (verdicts : List Verdict) → n ≤ length verdicts →
    ((item : ℕ) (d : Verdict) → at ≤ item → item < at + n → get_or verdicts (item - at) d ≡ f item) →
    take n verdicts ≡ map f (range_with_len at n)
as_list f at n verdicts l h =
    let k : length (take n verdicts) ≡ n = length-take-le n verdicts l in
    same_lists (take n verdicts) (map f (range_with_len at n)) (k ∙ sym (length-map-range_with_len f at n))
    (λ i d u. get_or-take n verdicts i d (omega arith)
    ∙ (ap (λ m. get_or verdicts m d) (let q : i ≡ at + i - at = omega arith in q)
    ∙ (h (at + i) d (omega arith) (omega arith)
    ∙ sym (get_or-map-range_with_len f at n i (at + i) d (omega arith) refl))))

unstopped_verdict : {F : Type 0} (job : Job F) (own : List Entry) (item : ℕ) → is_stop job.stop (length own) ≡ false →
    verdict_in job own item ≡ verdict_at (stand_in job own item)
unstopped_verdict job own item e =
    ap (λ c. verdict_at (stand_after job.machine (job.begins item) (of_item item (counted c own)))) e

stopped_verdict : {F : Type 0} (job : Job F) (own before : List Entry) (last : Entry) (item : ℕ) →
    is_stop job.stop (length own) ≡ true → own ≡ before ++ last ∷ [] →
    verdict_in job own item ≡ verdict_at (stand_in job before item)
stopped_verdict job own before last item e q =
    let n : length own - 1 ≡ length before =
    (let k : length own ≡ length before + 1 = ap length q ∙ length_push before last in omega arith) in
    ap (λ c. verdict_at (stand_after job.machine (job.begins item) (of_item item (counted c own)))) e
    ∙ ap (λ es. verdict_at (stand_after job.machine (job.begins item) (of_item item es)))
    (ap₂ take n q ∙ take_at before (last ∷ []) (length before) refl)

-- What a hand that has ended tells: how much its actor took, and the verdicts.
pub record HasDone {F : Type 0} (job : Job F) (own : List Entry) (to : ℕ) (verdicts : List Verdict) : Type 0 where
  pub count : job.at + length (taken_in job own) ≡ to
  pub verdicts_are : take (to - job.at) verdicts ≡ verdicts_in job own

done_of : {F : Type 0} (job : Job F) (own : List Entry) (to : ℕ) (verdicts : List Verdict) →
    job.at + length (taken_in job own) ≡ to → to - job.at ≤ length verdicts →
    ((item : ℕ) (d : Verdict) → job.at ≤ item → item < to →
    get_or verdicts (item - job.at) d ≡ verdict_in job own item) → HasDone job own to verdicts
done_of job own to verdicts count inside h =
    let n : to - job.at ≡ length (taken_in job own) = omega arith in
    record {
      count = count;
      verdicts_are =
          as_list (verdict_in job own) job.at (to - job.at) verdicts inside (λ item d l u. h item d l (omega arith))
          ∙ ap (λ k. map (verdict_in job own) (range_with_len job.at k)) n;
    }

pub done : {F : Type 0} (job : Job F) (own : List Entry) (hand : Hand F) → StandsAfter job own hand →
    ask_in hand ≡ None → wanted_in by_rounds job own ≡ None →
    hand.from + length hand.flights.items - job.at ≤ length hand.verdicts.items →
    HasDone job own (hand.from + length hand.flights.items) hand.verdicts.items
done {F = F} job own hand s none wants inside = go s
  where
    to : ℕ
    to = hand.from + length hand.flights.items

    some_none : (a : Ask) → None ≡ Some a → ⊥
    some_none a e = cc

    no_ask : (rest : List Ask) → AtWork job own hand.left hand.from hand.flights.items rest hand.verdicts.items → ⊥
    no_ask [] w = let l = w.some in omega arith
    no_ask (a ∷ rest) w =
        some_none a (sym wants ∙ wants_first job own hand.from (length hand.flights.items) w.round a rest
        (left_runs job.stop hand.left (length own) w.left_is) w.batch w.turn)

    go : StandsAfter job own hand → HasDone job own to hand.verdicts.items
    go (inl (inl w)) = absurd (no_ask _ w)
    go (inl (inr t)) =
        let runs : is_stop job.stop (length own) ≡ false = left_runs job.stop hand.left (length own) t.left_is in
        let count : length (taken_in job own) ≡ job.count = all_taken job own runs in
        let end : to ≡ job.at + job.count = t.end in
        done_of job own to hand.verdicts.items (omega arith) inside
        (λ item d l u. t.given item d l u ∙ sym (unstopped_verdict job own item runs))
    go (inr (inl t)) =
        let stop : is_stop job.stop (length own) ≡ true =
        stop_is job.stop (length t.before + 1) (length own) t.stop (ap length t.whole ∙ length_push t.before t.last)
        in
        done_of job own to hand.verdicts.items
        (stopped_count job own hand.left hand.from (length hand.flights.items) hand.verdicts.items t) inside
        (λ item d l u. t.given item d l u ∙ sym (stopped_verdict job own t.before t.last item stop t.whole))
    go (inr (inr n)) =
        let stop : is_stop job.stop (length own) ≡ true = stop_is job.stop 0 (length own) n.stop (ap length n.none) in
        let taken : length (taken_in job own) ≡ 0 =
        ap (λ (c : Bool). length (if c then offers_until (last_of own) (offers_in job) else offers_in job)) stop
        ∙ ap (λ es. length (offers_until (last_of es) (offers_in job))) n.none in
        let at : to ≡ job.at = n.to_is in
        done_of job own to hand.verdicts.items (omega arith) inside (λ item d l u. absurd (omega arith))

-- the hand is spent exactly where its actor is stopped
pub spent_is : {F : Type 0} (job : Job F) (own : List Entry) (hand : Hand F) → StandsAfter job own hand →
    is_spent hand.left ≡ is_stop job.stop (length own)
spent_is job own hand (inl (inl w)) =
    left_unspent job.stop hand.left (length own) w.left_is ∙ sym (left_runs job.stop hand.left (length own) w.left_is)
spent_is job own hand (inl (inr t)) =
    left_unspent job.stop hand.left (length own) t.left_is ∙ sym (left_runs job.stop hand.left (length own) t.left_is)
spent_is job own hand (inr (inl t)) =
    spent_zero hand.left t.left_is ∙ sym
    (stop_is job.stop (length t.before + 1) (length own) t.stop (ap length t.whole ∙ length_push t.before t.last))
spent_is job own hand (inr (inr n)) =
    spent_zero hand.left n.left_is ∙ sym (stop_is job.stop 0 (length own) n.stop (ap length n.none))

-- the hand's ending is its actor's
pub ending_is : {F : Type 0} (job : Job F) (own : List Entry) (hand : Hand F) → StandsAfter job own hand →
    job.count ≡ hand.errand.end - hand.errand.at → ending_of hand ≡ ending_in job hand.errand.quota own
ending_is job own hand s count =
    go (is_spent hand.left) (is_stop job.stop (length own)) refl refl (spent_is job own hand s)
  where
    go : (b t : Bool) → is_spent hand.left ≡ b → is_stop job.stop (length own) ≡ t → b ≡ t →
        (if b then Some Stopped else unstopped (ask_in hand) hand.errand.quota (hand.errand.end - hand.errand.at))
        ≡ (if t then Some Stopped else unstopped (wanted_in by_rounds job own) hand.errand.quota
        (length (taken_in job own)))
    go true true p q e = refl
    go false false p q e =
        ap₂ (λ o n. unstopped o hand.errand.quota n) (asks_wanted job own hand s)
        (sym count ∙ sym (all_taken job own q))
    go true false p q e = absurd (cc)
    go false true p q e = absurd (cc)
