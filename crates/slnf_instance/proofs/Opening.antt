-- A round that is opened: the asks of all that flies.
use Rattle.std.proofs.Common.{◌≡◌, inl, inr, ℕ, zero, suc, ◌+◌, ◌<◌, ◌≤◌, List, [], ◌∷◌, ◌++◌, Option, Some, None, length, get_or, take, refl, sym, ap, ◌∙◌, subst, arith}
use Rattle.std.specs.Prelude.{Contains}
use Rattle.std.specs.List.Sorted.{IsPermutation}
use Rattle.std.proofs.lemmas.Bool.{cases_eq}
use Rattle.std.proofs.lemmas.List.{take_more, length-take-le, append-nil}
use Rattle.std.proofs.lemmas.List.Sorted.{All-permutation, Contains-permutation}
use Rattle.slnf_access.specs.declared.requests.Entry.{Entry}
use Rattle.slnf_access.specs.declared.requests.Ask.{Ask}
use Rattle.slnf_access.specs.declared.requests.Request.{Request}
use Rattle.slnf_access.specs.Machines.{Stand, Flies, Ends, HasEnded}
use Rattle.slnf_batch.specs.Order.{Ascends, ItemsDiffer}
use Rattle.slnf_batch.proofs.Laws.{ItemsDiffer-nil, ItemsDiffer-cons}
use Rattle.std.specs.List.{AllByRecursion as Every}
use Rattle.slnf_access.proofs.Elements.{each-weaker}
use Rattle.slnf_run.specs.Jobs.{Job, stand_in}
use Rattle.slnf_instance.specs.Works.{flight_at, flights_at, asks_of, IsAsking, IsAskOf, IsRound, AllMade}
use Rattle.slnf_instance.proofs.Every.{every_of_all, all_of_every}

-- the items that ask are from this one on
asks_from : {F : Type 0} (asks : F → Request) (from : ℕ) (flights : List (Option F)) →
    Every (λ (ask : Ask). from ≤ ask.item) (asks_of asks from flights)
asks_from asks from [] = tt
asks_from asks from (None ∷ flights) =
    each-weaker (λ (ask : Ask). from + 1 ≤ ask.item) (λ ask. from ≤ ask.item) (λ ask l. omega arith) _
    (asks_from asks (from + 1) flights)
asks_from asks from (Some flight ∷ flights) = (
  omega arith,
  each-weaker (λ (ask : Ask). from + 1 ≤ ask.item) (λ ask. from ≤ ask.item) (λ ask l. omega arith) _
      (asks_from asks (from + 1) flights),
)

-- and no item asks twice
pub asks_differ : {F : Type 0} (asks : F → Request) (from : ℕ) (flights : List (Option F)) →
    ItemsDiffer (asks_of asks from flights)
asks_differ asks from [] = ItemsDiffer-nil
asks_differ asks from (None ∷ flights) = asks_differ asks (from + 1) flights
asks_differ asks from (Some flight ∷ flights) =
    ItemsDiffer-cons (record { item = from; request = asks flight }) (asks_of asks (from + 1) flights)
    (all_of_every (λ (other : Ask). ¬ (from ≡ other.item)) (asks_of asks (from + 1) flights)
    (each-weaker (λ (ask : Ask). from + 1 ≤ ask.item) (λ ask. ¬ (from ≡ ask.item)) (λ ask l e. omega arith)
    (asks_of asks (from + 1) flights) (asks_from asks (from + 1) flights)))
    (asks_differ asks (from + 1) flights)

pub asks_few : {F : Type 0} (asks : F → Request) (from : ℕ) (flights : List (Option F)) →
    length (asks_of asks from flights) ≤ length flights
asks_few asks from [] = omega arith
asks_few asks from (None ∷ flights) = let l = asks_few asks (from + 1) flights in omega arith
asks_few asks from (Some flight ∷ flights) = let l = asks_few asks (from + 1) flights in omega arith

-- one flight more
pub asks_push : {F : Type 0} (asks : F → Request) (from : ℕ) (flights : List (Option F)) (flight : F) →
    asks_of asks from (flights ++ Some flight ∷ []) ≡ asks_of asks from flights
    ++ record { item = from + length flights; request = asks flight } ∷ []
asks_push asks from [] flight =
    let q : from ≡ from + 0 = omega arith in ap (λ n. record { item = n; request = asks flight } ∷ []) q
asks_push asks from (None ∷ flights) flight =
    let q : from + 1 + length flights ≡ from + suc (length flights) = omega arith in
    asks_push asks (from + 1) flights flight
    ∙ ap (λ n. asks_of asks (from + 1) flights ++ record { item = n; request = asks flight } ∷ []) q
asks_push asks from (Some other ∷ flights) flight =
    let q : from + 1 + length flights ≡ from + suc (length flights) = omega arith in
    ap (λ l. record { item = from; request = asks other } ∷ l)
    (asks_push asks (from + 1) flights flight
    ∙ ap (λ n. asks_of asks (from + 1) flights ++ record { item = n; request = asks flight } ∷ []) q)

pub asks_push_none : {F : Type 0} (asks : F → Request) (from : ℕ) (flights : List (Option F)) →
    asks_of asks from (flights ++ None ∷ []) ≡ asks_of asks from flights
asks_push_none asks from [] = refl
asks_push_none asks from (None ∷ flights) = asks_push_none asks (from + 1) flights
asks_push_none asks from (Some other ∷ flights) =
    ap (λ l. record { item = from; request = asks other } ∷ l) (asks_push_none asks (from + 1) flights)

-- one item more is asked
pub asks_more : {F : Type 0} (asks : F → Request) (from : ℕ) (flights : List (Option F)) (n : ℕ) (d : Option F)
    (old new : List Ask) → n < length flights → old ≡ asks_of asks from (take n flights) →
    new ≡ old ++ asks_of asks (from + n) (get_or flights n d ∷ []) → new ≡ asks_of asks from (take (n + 1) flights)
asks_more {F = F} asks from flights n d old new l h more =
    let k : length (take n flights) ≡ n = length-take-le n flights (omega arith) in
    more ∙ (ap (λ xs. xs ++ asks_of asks (from + n) (get_or flights n d ∷ [])) h
    ∙ (ap (λ m. asks_of asks from (take n flights) ++ asks_of asks (from + m) (get_or flights n d ∷ [])) (sym k)
    ∙ (go (get_or flights n d) ∙ ap (asks_of asks from) (sym (take_more flights n d l)))))
  where
    go : (flight : Option F) → asks_of asks from (take n flights)
        ++ asks_of asks (from + length (take n flights)) (flight ∷ [])
        ≡ asks_of asks from (take n flights ++ flight ∷ [])
    go None = append-nil (asks_of asks from (take n flights)) ∙ sym (asks_push_none asks from (take n flights))
    go (Some flight) = sym (asks_push asks from (take n flights) flight)

-- each ask is one of an item that flies
asks_are : {F : Type 0} (job : Job F) (own : List Entry) (from size round a n : ℕ) → from ≤ a → a + n ≤ from + size →
    AllMade job own from size round →
    Every (IsAskOf job own from size round) (asks_of job.machine.asks a (flights_at (stand_in job own) a n))
asks_are job own from size round a zero l u made = tt
asks_are {F = F} job own from size round a (suc n) l u made =
    go (stand_in job own a) refl (asks_are job own from size round (a + 1) n (omega arith) (omega arith) made)
  where
    go : (stand : Stand F) → stand_in job own a ≡ stand →
        Every (IsAskOf job own from size round)
        (asks_of job.machine.asks (a + 1) (flights_at (stand_in job own) (a + 1) n)) →
        Every (IsAskOf job own from size round)
        (asks_of job.machine.asks a (flight_at stand ∷ flights_at (stand_in job own) (a + 1) n))
    go (Ends verdict) e rest = rest
    go (Flies flight) e rest = (
      record {
        flight = flight;
        flies = e;
        request = refl;
        made = made a flight l (omega arith) e;
        from_is =
            l;
        upto = omega arith;
      },
      rest,
    )

-- each item that flies asks
asks_all : {F : Type 0} (job : Job F) (own : List Entry) (item a n : ℕ) (flight : F) → a ≤ item → item < a + n →
    stand_in job own item ≡ Flies flight →
    IsAsking item (asks_of job.machine.asks a (flights_at (stand_in job own) a n))
asks_all job own item a zero flight l u e = absurd (omega arith)
asks_all {F = F} job own item a (suc n) flight l u e = elim (cases_eq item a) [
  | inl q ↦ here (stand_in job own a) (ap (stand_in job own) (sym q) ∙ e) q
  | inr q ↦ there (stand_in job own a) (asks_all job own item (a + 1) n flight (omega arith) (omega arith) e)
]
  where
    here : (stand : Stand F) → stand ≡ Flies flight → item ≡ a →
        IsAsking item (asks_of job.machine.asks a (flight_at stand ∷ flights_at (stand_in job own) (a + 1) n))
    here (Ends verdict) e q = absurd (cc)
    here (Flies other) e q = inl (sym q)

    there : (stand : Stand F) → IsAsking item
        (asks_of job.machine.asks (a + 1) (flights_at (stand_in job own) (a + 1) n)) →
        IsAsking item (asks_of job.machine.asks a (flight_at stand ∷ flights_at (stand_in job own) (a + 1) n))
    there (Ends verdict) i = i
    there (Flies other) i = inr i

-- An ask of an item that stands among these.
record AskIn (item : ℕ) (xs : List Ask) : Type 0 where
  ask : Ask
  contains : Contains xs ask
  item_is : ask.item ≡ item

ask_in : (item : ℕ) (xs : List Ask) → IsAsking item xs → AskIn item xs
ask_in item [] i = absurd i
ask_in item (x ∷ xs) (inl e) = record { ask = x; contains = (0, omega arith, refl); item_is = e }
ask_in item (x ∷ xs) (inr i) =
    let r : AskIn item xs = ask_in item xs i in
    record {
      ask = r.ask;
      contains = (suc r.contains.0, omega (arith, r.contains.1), r.contains.2);
      item_is =
          r.item_is;
    }

asking_at : (item : ℕ) (xs : List Ask) (ask : Ask) (k : ℕ) → k < length xs → get_or xs k ask ≡ ask → ask.item ≡ item →
    IsAsking item xs
asking_at item [] ask k l e q = absurd (omega arith)
asking_at item (x ∷ xs) ask zero l e q = inl (ap (λ (a : Ask). a.item) e ∙ q)
asking_at item (x ∷ xs) ask (suc k) l e q = inr (asking_at item xs ask k (omega arith) e q)

asking_permutation : (item : ℕ) (xs ys : List Ask) → IsPermutation xs ys → IsAsking item xs → IsAsking item ys
asking_permutation item xs ys p i =
    let r : AskIn item xs = ask_in item xs i in
    let c : Contains ys r.ask = Contains-permutation xs ys r.ask p r.contains in
    asking_at item ys r.ask c.0 c.1 c.2 r.item_is

-- the round that is opened where each item that flies has made so many accesses
pub opened : {F : Type 0} (job : Job F) (own : List Entry) (from round : ℕ) (flights : List (Option F))
    (asks : List Ask) → flights ≡ flights_at (stand_in job own) from (length flights) →
    AllMade job own from (length flights) round → IsPermutation (asks_of job.machine.asks from flights) asks →
    Ascends job.shards asks → IsRound job own from (length flights) round asks
opened job own from round flights asks flies made same ascends =
    let p : IsPermutation (asks_of job.machine.asks from (flights_at (stand_in job own) from (length flights))) asks =
    subst (λ fs. IsPermutation (asks_of job.machine.asks from fs) asks) flies same in
    record {
      each = every_of_all (IsAskOf job own from (length flights) round) asks
          (All-permutation (IsAskOf job own from (length flights) round) _ asks p
          (all_of_every (IsAskOf job own from (length flights) round) _
          (asks_are job own from (length flights) round from (length flights) (omega arith) (omega arith) made)));
      ascends = ascends;
      others = λ item flight l u e. inl
          (asking_permutation item _ asks p (asks_all job own item from (length flights) flight l u e));
    }

ended_or : {F : Type 0} (stand : Stand F) → ((flight : F) → stand ≡ Flies flight → ⊥) → HasEnded stand
ended_or (Ends verdict) h = tt
ended_or (Flies flight) h = h flight refl

-- where no item asks, each has ended
pub none_flies : {F : Type 0} (job : Job F) (own : List Entry) (from : ℕ) (flights : List (Option F))
    (asks : List Ask) → flights ≡ flights_at (stand_in job own) from (length flights) →
    IsPermutation (asks_of job.machine.asks from flights) asks → asks ≡ [] → (item : ℕ) → from ≤ item →
    item < from + length flights → HasEnded (stand_in job own item)
none_flies job own from flights asks flies same none item l u =
    ended_or (stand_in job own item)
    (λ flight e. subst (IsAsking item) none
    (asking_permutation item _ asks (subst (λ fs. IsPermutation (asks_of job.machine.asks from fs) asks) flies same)
    (asks_all job own item from (length flights) flight l u e)))
