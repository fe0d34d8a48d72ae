-- What an entry makes of a reached.
use Rattle.std.proofs.Common.{◌≡◌, ◌⊎◌, ℕ, zero, suc, ◌+◌, ◌-◌, ◌<◌, ◌≤◌, Bool, true, false, ◌==◌, ◌||◌, nat_lt, nat_le, if◌then◌else◌, List, [], ◌∷◌, Option, Some, None, IsTrue, length, set, slice_get, refl, sym, ap, ap₂, ◌∙◌, subst, subst₂, arith, inl, inr, eq-eqb, ne_eqb}
use Rattle.std.proofs.lemmas.Bool.{cases_eq, cond-true, cond-false, cond_both}
use Rattle.std.proofs.lemmas.Option.{same_Some, none-some}
use Rattle.std.proofs.lemmas.Bool.Decides.{nat_tests}
use Rattle.slnf_access.specs.declared.requests.Entry.{Entry}
use Rattle.slnf_access.specs.declared.requests.Request.{Request}
use Rattle.slnf_access.specs.Machines.{Machine, Stand, Flies, Ends, stand_step, IsAsked}
use Rattle.slnf_run.specs.Jobs.{Job, Offer, offers_in, is_stop}
use Rattle.slnf_instance.specs.Works.{flight_at}
use Rattle.slnf_instance.specs.Hands.{is_spent, one_less}
use Rattle.slnf_local.specs.Hands.{Hand as Held, Item, batch_in_hand, items_in, stand_in, IsAskedIn, items_after, some_fly as items_fly, up_to, hand_with, hand_go, hand_after}
use Rattle.slnf_hand.specs.Reached.{Reached, offers_from, some_fly, place_in, AsksFor, AreItems, IsLeft, IsFlying, Rests, next_in, end_of, IsDealtTo, Holds, Expects, IsSettled}
use Rattle.slnf_hand.proofs.Dealing.{fly_same}

-- no entry is left exactly where the actor is stopped
pub spent_is : (stop left : Option ℕ) (made : ℕ) → IsLeft stop left made → is_spent left ≡ is_stop stop made
spent_is None None made h = refl
spent_is None (Some left) made h = absurd h
spent_is (Some stop) None made h = absurd h
spent_is (Some stop) (Some left) made h = elim (cases_eq made stop) [
  | inl q ↦ let z : left ≡ 0 = omega arith in eq-eqb left 0 z ∙ sym (eq-eqb made stop q)
  | inr q ↦ ne_eqb left 0 (λ z. absurd (q (omega arith))) ∙ sym (ne_eqb made stop q)
]

pub left_next : (stop left : Option ℕ) (made : ℕ) → IsLeft stop left made → is_spent left ≡ false →
    IsLeft stop (one_less left) (made + 1)
left_next None None made h s = tt
left_next None (Some left) made h s = absurd h
left_next (Some stop) None made h s = absurd h
left_next (Some stop) (Some left) made h s =
    let l : 0 < left = (let q = s in grind (arith, nat_tests)) in omega arith

-- an item that isn't in the batch has no stand in it
pub stand_outside : {F : Type 0} (from item : ℕ) (items : List (Item F)) (flights : List (Option F)) →
    AreItems from items flights → (from ≤ item → item < from + length flights → ⊥) → stand_in item items ≡ None
stand_outside from item [] flights h out = refl
stand_outside from item (x ∷ items) [] h out = absurd h
stand_outside from item (x ∷ items) (f ∷ flights) h out =
    let n : x.number ≡ from = h.0 in
    cond-false (x.number == item) (Some x.stand) (stand_in item items)
    (ne_eqb x.number item (λ q. out (omega arith) (omega arith)))
    ∙ stand_outside (from + 1) item items flights h.2 (λ l u. out (omega arith) (omega arith))

-- What an item of the batch stands like.
pub record StandsSo {F : Type 0} (item : ℕ) (items : List (Item F)) (flight : Option F) : Type 0 where
  pub stand : Stand F
  pub there : stand_in item items ≡ Some stand
  pub flies : flight ≡ flight_at stand

pub stand_inside : {F : Type 0} (from place item : ℕ) (items : List (Item F)) (flights : List (Option F))
    (flight : Option F) → AreItems from items flights → item ≡ from + place → slice_get flights place ≡ Some flight →
    StandsSo item items flight
stand_inside from place item [] [] flight h q at = absurd (cc)
stand_inside from place item [] (f ∷ flights) flight h q at = absurd h
stand_inside from place item (x ∷ items) [] flight h q at = absurd h
stand_inside from zero item (x ∷ items) (f ∷ flights) flight h q at =
    let n : x.number ≡ from = h.0 in
    record {
      stand = x.stand;
      there = cond-true (x.number == item) (Some x.stand) (stand_in item items) (eq-eqb x.number item (omega arith));
      flies = (let e : f ≡ flight = cc in sym e ∙ h.1);
    }
stand_inside from (suc place) item (x ∷ items) (f ∷ flights) flight h q at =
    let n : x.number ≡ from = h.0 in
    let r = stand_inside (from + 1) place item items flights flight h.2 (omega arith) at in
    record {
      stand = r.stand;
      there = cond-false (x.number == item) (Some x.stand) (stand_in item items)
          (ne_eqb x.number item (λ z. absurd (omega arith))) ∙ r.there;
      flies = r.flies;
    }

-- a flight asks what its stand asks
pub asks_same : {F : Type 0} (machine : Machine F) (stand : Stand F) (flight : Option F) (e : Entry) →
    flight ≡ flight_at stand → AsksFor machine.asks flight e.request → IsAsked machine stand e
asks_same machine (Flies g) None e q h = absurd h
asks_same machine (Flies g) (Some f) e q h = (let p : f ≡ g = cc in subst (λ x. e.request ≡ machine.asks x) p h)
asks_same machine (Ends v) None e q h = absurd h
asks_same machine (Ends v) (Some f) e q h = absurd (cc)

pub same_asks : {F : Type 0} (machine : Machine F) (stand : Stand F) (flight : Option F) (e : Entry) →
    flight ≡ flight_at stand → IsAsked machine stand e → AsksFor machine.asks flight e.request
same_asks machine (Flies g) None e q h = absurd (cc)
same_asks machine (Flies g) (Some f) e q h = (let p : g ≡ f = cc in subst (λ x. e.request ≡ machine.asks x) p h)
same_asks machine (Ends v) flight e q h = absurd h

-- the items behind an entry that is not theirs
others : {F : Type 0} (machine : Machine F) (e : Entry) (from : ℕ) (items : List (Item F))
    (flights : List (Option F)) → e.item < from → AreItems from items flights →
    AreItems from (items_after machine e items) flights
others machine e from [] flights l h = h
others machine e from (x ∷ items) [] l h = absurd h
others machine e from (x ∷ items) (f ∷ flights) l h =
    let n : x.number ≡ from = h.0 in
    let no : (e.item == x.number) ≡ false = ne_eqb e.item x.number (λ q. absurd (omega arith)) in
    subst (λ y. AreItems from (y ∷ items_after machine e items) (f ∷ flights))
    (sym (cond-false (e.item == x.number) (record { number = x.number; stand = stand_step machine x.stand e }) x no))
    (h.0, h.1, others machine e (from + 1) items flights (omega arith) h.2)

-- the item of the entry goes on, and the others stay
pub landed : {F : Type 0} (machine : Machine F) (e : Entry) (from place : ℕ) (items : List (Item F))
    (flights : List (Option F)) (flight : F) → AreItems from items flights → e.item ≡ from + place →
    slice_get flights place ≡ Some (Some flight) →
    AreItems from (items_after machine e items) (set flights place (flight_at (machine.goes flight e.reply)))
landed machine e from place [] [] flight h q at = absurd (cc)
landed machine e from place [] (f ∷ flights) flight h q at = absurd h
landed machine e from place (x ∷ items) [] flight h q at = absurd h
landed {F = F} machine e from zero (x ∷ items) (f ∷ flights) flight h q at =
    let n : x.number ≡ from = h.0 in
    let same : (e.item == x.number) ≡ true = eq-eqb e.item x.number (omega arith) in
    let s : Some flight ≡ flight_at x.stand = (let p : f ≡ Some flight = cc in sym p ∙ h.1) in
    subst (λ y. AreItems from (y ∷ items_after machine e items) (flight_at (machine.goes flight e.reply) ∷ flights))
    (sym (cond-true (e.item == x.number) (record { number = x.number; stand = stand_step machine x.stand e }) x same))
    (h.0, ap flight_at (sym (go x.stand s)), others machine e (from + 1) items flights (omega arith) h.2)
  where
    go : (stand : Stand F) → Some flight ≡ flight_at stand → stand_step machine stand e ≡ machine.goes flight e.reply
    go (Flies g) s = (let p : g ≡ flight = cc in ap (λ x. machine.goes x e.reply) p)
    go (Ends v) s = absurd (cc)
landed machine e from (suc place) (x ∷ items) (f ∷ flights) flight h q at =
    let n : x.number ≡ from = h.0 in
    let no : (e.item == x.number) ≡ false = ne_eqb e.item x.number (λ z. absurd (omega arith)) in
    subst (λ y. AreItems from (y ∷ items_after machine e items)
    (f ∷ set flights place (flight_at (machine.goes flight e.reply))))
    (sym (cond-false (e.item == x.number) (record { number = x.number; stand = stand_step machine x.stand e }) x no))
    (h.0, h.1, landed machine e (from + 1) place items flights flight h.2 (omega arith) at)

-- the place of an item
pub place_some : (from count item place : ℕ) → place_in from count item ≡ Some place →
    (item ≡ from + place) × (place < count)
place_some from count item place h = go (nat_lt item from) (nat_le count (item - from)) refl refl h
  where
    go : (a b : Bool) → nat_lt item from ≡ a → nat_le count (item - from) ≡ b →
        (if a || b then None else Some (item - from)) ≡ Some place → (item ≡ from + place) × (place < count)
    go true b p q r = absurd (none-some place r)
    go false true p q r = absurd (none-some place r)
    go false false p q r =
        let e : item - from ≡ place = same_Some (item - from) place r in
        let l : from ≤ item = grind (arith, nat_tests) in
        let m : item - from < count = grind (arith, nat_tests) in
        (omega arith, omega arith)

pub place_none : (from count item : ℕ) → place_in from count item ≡ None → from ≤ item → item < from + count → ⊥
place_none from count item h l u = go (nat_lt item from) (nat_le count (item - from)) refl refl h
  where
    go : (a b : Bool) → nat_lt item from ≡ a → nat_le count (item - from) ≡ b →
        (if a || b then None else Some (item - from)) ≡ None → ⊥
    go true b p q r = let k : item < from = grind (arith, nat_tests) in absurd (omega arith)
    go false true p q r = let k : count ≤ item - from = grind (arith, nat_tests) in absurd (omega arith)
    go false false p q r = absurd (none-some (item - from) (sym r))

-- an item of the batch in reached: what its flight asks is what the reached expects
pub asked_expects : {F : Type 0} (job : Job F) (h : Held F) (reached : Reached F) (e : Entry) (place : ℕ)
    (flight : Option F) → Holds job h reached → is_spent reached.left ≡ false → e.item ≡ reached.from + place →
    slice_get reached.flights place ≡ Some flight → AsksFor job.machine.asks flight e.request → Expects job h e
asked_expects {F = F} job h reached e place flight holds running q at asked =
    (sym (spent_is job.stop reached.left h.made holds.left_is) ∙ running, go holds.rests)
  where
    go : IsTrue (is_spent reached.left) ⊎ Rests job h.batch h.items reached →
        IsAskedIn job.machine (stand_in e.item h.items) e
    go (inl spent) = absurd (cc)
    go (inr (inl f)) =
        let s = stand_inside reached.from place e.item h.items reached.flights flight f.items_are q at in
        subst (λ o. IsAskedIn job.machine o e) (sym s.there) (asks_same job.machine s.stand flight e s.flies asked)
    go (inr (inr t)) = absurd (none-some flight (sym (sym at ∙ ap (λ xs. slice_get xs place) t.none)))

pub expects_asked : {F : Type 0} (job : Job F) (h : Held F) (reached : Reached F) (e : Entry) (place : ℕ)
    (flight : Option F) → Holds job h reached → is_spent reached.left ≡ false → e.item ≡ reached.from + place →
    slice_get reached.flights place ≡ Some flight → Expects job h e → AsksFor job.machine.asks flight e.request
expects_asked {F = F} job h reached e place flight holds running q at expects = go holds.rests
  where
    go : IsTrue (is_spent reached.left) ⊎ Rests job h.batch h.items reached → AsksFor job.machine.asks flight e.request
    go (inl spent) = absurd (cc)
    go (inr (inl f)) =
        let s = stand_inside reached.from place e.item h.items reached.flights flight f.items_are q at in
        same_asks job.machine s.stand flight e s.flies (subst (λ o. IsAskedIn job.machine o e) s.there expects.1)
    go (inr (inr t)) = absurd (none-some flight (sym (sym at ∙ ap (λ xs. slice_get xs place) t.none)))

-- another item isn't expected
pub outside_unexpected : {F : Type 0} (job : Job F) (h : Held F) (reached : Reached F) (e : Entry) →
    Holds job h reached → is_spent reached.left ≡ false → (reached.from ≤ e.item → e.item < end_of reached → ⊥) →
    Expects job h e → ⊥
outside_unexpected {F = F} job h reached e holds running out expects = go holds.rests
  where
    go : IsTrue (is_spent reached.left) ⊎ Rests job h.batch h.items reached → ⊥
    go (inl spent) = absurd (cc)
    go (inr (inl f)) = subst (λ o. IsAskedIn job.machine o e) (stand_outside reached.from e.item h.items
        reached.flights f.items_are out) expects.1
    go (inr (inr t)) = subst (λ items. IsAskedIn job.machine (stand_in e.item items) e) t.items_are expects.1

length_set : {X : Type 0} (xs : List X) (k : ℕ) (x : X) → length (set xs k x) ≡ length xs
length_set [] k x = refl
length_set (y ∷ xs) zero x = refl
length_set (y ∷ xs) (suc k) x = ap suc (length_set xs k x)

-- the reached after an entry that is expected
pub entry_taken : {F : Type 0} (job : Job F) (h : Held F) (reached mid new : Reached F) (e : Entry) (place : ℕ)
    (flight : F) → Holds job h reached → is_spent reached.left ≡ false → e.item ≡ reached.from + place →
    slice_get reached.flights place ≡ Some (Some flight) → mid.left ≡ reached.left → mid.from ≡ reached.from →
    mid.flights ≡ set reached.flights place (flight_at (job.machine.goes flight e.reply)) → IsSettled job mid new →
    Holds job (hand_after job.machine job.begins (offers_in job) h e) new
entry_taken {F = F} job h reached mid new e place flight holds running q at left from flights settled = go holds.rests
  where
    offers : List Offer
    offers = offers_in job

    items : List (Item F)
    items = items_after job.machine e h.items

    left_is : IsLeft job.stop new.left (h.made + 1)
    left_is = subst (λ l. IsLeft job.stop l (h.made + 1)) (sym (settled.left_is ∙ ap one_less left))
        (left_next job.stop reached.left h.made holds.left_is running)

    end_mid : end_of mid ≡ end_of reached
    end_mid = ap₂ (λ a n. a + n) from (ap length flights
        ∙ length_set reached.flights place (flight_at (job.machine.goes flight e.reply)))

    flying : (f : IsFlying job h.batch h.items reached) →
        Holds job (hand_with job.begins offers (h.made + 1) f.number items) new
    flying f =
        let number = f.number in
        let are : AreItems mid.from items mid.flights =
        subst₂ (λ a xs. AreItems a items xs) (sym from) (sym flights) (landed job.machine e reached.from place
        h.items reached.flights flight f.items_are q at) in
        let fly : items_fly items ≡ some_fly mid.flights = fly_same mid.from items mid.flights are in
        let through : job.at + length (up_to number offers) ≡ new.through = f.upto
        ∙ (sym end_mid ∙ sym settled.through_is) in
        cond_both (items_fly items) _ _ (λ held. Holds job held new)
        (λ flies.
        let on = settled.goes_on (sym fly ∙ flies) in
        let k : end_of new ≡ end_of reached = ap₂ (λ a xs. a + length xs) on.0 on.1 ∙ end_mid in
        record {
          left_is = left_is;
          through_is = through;
          rests = inr (inl (record {
            number = number;
            batch_is = refl;
            items_are = subst₂ (λ a xs. AreItems a items xs) (sym on.0) (sym on.1) are;
            flies = flies;
            upto = f.upto ∙ sym k;
            later = f.later ∙ ap (λ a. offers_from job (number + 1) a (job.at + job.count - a)) (sym k);
            rest = subst (IsDealtTo job (number + 1)) (sym k) f.rest;
          }));
        })
        (λ ends. record {
          left_is = left_is;
          through_is = through;
          rests = elim (settled.deals (sym fly ∙ ends)) [
            | inl spent ↦ inl spent
            | inr deals ↦ inr
                (subst (λ batch. Rests job batch (items_in job.begins batch offers) new)
                (ap (next_in job (number + 1)) end_mid ∙ sym (ap (batch_in_hand job.begins) f.later))
                (deals (number + 1) (subst (IsDealtTo job (number + 1)) (sym end_mid) f.rest)))
          ];
        })

    go : IsTrue (is_spent reached.left) ⊎ Rests job h.batch h.items reached →
        Holds job (hand_after job.machine job.begins offers h e) new
    go (inl spent) = absurd (cc)
    go (inr (inl f)) = subst (λ batch. Holds job (hand_go job.begins offers h items batch) new) (sym f.batch_is)
        (flying f)
    go (inr (inr t)) = absurd (none-some (Some flight) (sym (sym at ∙ ap (λ xs. slice_get xs place) t.none)))

-- the flight that asks
pub flight_of : {F : Type 0} (asks : F → Request) (flight : Option F) (request : Request) →
    AsksFor asks flight request → (f : F) × (flight ≡ Some f) × (request ≡ asks f)
flight_of asks None request h = absurd h
flight_of asks (Some f) request h = (f, refl, h)

-- a stopped actor expects nothing
pub spent_expects : {F : Type 0} (job : Job F) (h : Held F) (reached : Reached F) (e : Entry) → Holds job h reached →
    is_spent reached.left ≡ true → Expects job h e → ⊥
spent_expects job h reached e holds spent expects =
    let stop : is_stop job.stop h.made ≡ true = sym (spent_is job.stop reached.left h.made holds.left_is) ∙ spent in
    let no : is_stop job.stop h.made ≡ false = expects.0 in absurd (cc)
