-- The first ask of a round is the access that the actor wants.
use Rattle.std.proofs.Common.{◌≡◌, inl, inr, ◌⊎◌, ℕ, zero, suc, ◌+◌, ◌-◌, ◌%◌, ◌<◌, ◌≤◌, Bool, true, false, if◌then◌else◌, List, [], ◌∷◌, ◌++◌, Option, Some, None, length, refl, sym, ap, ap₂, ◌∙◌, subst, subst₂, arith}
use Rattle.std.specs.List.{range_with_len, AllByRecursion as Every}
use Rattle.std.proofs.lemmas.Bool.{cases_eq}
use Rattle.std.proofs.lemmas.Bool.Decides.{nat_tests}
use Rattle.std.proofs.lemmas.Option.{same_Some, none-some}
use Rattle.slnf_access.specs.declared.requests.Entry.{Entry}
use Rattle.slnf_access.specs.declared.requests.Ask.{Ask}
use Rattle.slnf_access.specs.Map.{key_of}
use Rattle.slnf_access.specs.Machines.{Stand, Flies, Ends, HasEnded}
use Rattle.slnf_batch.specs.Order.{GoesBefore}
use Rattle.slnf_batch.proofs.Laws.{Ascends-head}
use Rattle.slnf_run.specs.Parts.{of_item, Offer, batched}
use Rattle.slnf_run.specs.Scheduled.{Wish, by_rounds, sooner, first_of_wishes, ask_of}
use Rattle.slnf_access.proofs.Elements.{each-weaker, each-append}
use Rattle.slnf_run.proofs.Wishes.{first_meets}
use Rattle.slnf_run.specs.Jobs.{one_batch, Job, first_in, offers_in, stand_in, is_stop, wish_in, wishes_in, wanted_in}
use Rattle.slnf_run.proofs.Batches.{batched_from}
use Rattle.slnf_instance.specs.Works.{IsAsking, IsAskOf, HasBatch, IsBetween, IsRound}
use Rattle.slnf_instance.proofs.Every.{every_of_all, every_range}

-- the other wish is this one, or comes after it
abbrev IsFirst : Wish → Wish → Type 0
IsFirst w v = (v ≡ w) ⊎ ((by_rounds w v ≡ true) × (by_rounds v w ≡ false))

abbrev IsIn : Wish → List Wish → Type 0
IsIn w [] = ⊥
IsIn w (v ∷ ws) = (v ≡ w) ⊎ IsIn w ws

sooner_is : (w v : Wish) (o : Option Wish) → IsFirst w v → ((u : Wish) → o ≡ Some u → IsFirst w u) →
    (v ≡ w) ⊎ (o ≡ Some w) → sooner by_rounds v o ≡ w
sooner_is w v None f g (inl e) = e
sooner_is w v None f g (inr e) = absurd (none-some w e)
sooner_is w v (Some u) f g i = pick (by_rounds u v) refl
  where
    clash : (b : Bool) → b ≡ true → b ≡ false → ⊥
    clash b h k = cc

    pick : (b : Bool) → by_rounds u v ≡ b → (if b then u else v) ≡ w
    pick true e = elim (g u refl) [
      | inl q ↦ q
      | inr p ↦ elim i [
        | inl q ↦ absurd (clash (by_rounds u v) e (ap (by_rounds u) q ∙ p.1))
        | inr q ↦ same_Some u w q
      ]
    ]
    pick false e = elim f [
      | inl q ↦ q
      | inr p ↦ elim i [
        | inl q ↦ q
        | inr q ↦ absurd (clash (by_rounds u v) (ap (λ x. by_rounds x v) (same_Some u w q) ∙ p.0) e)
      ]
    ]

first_is : (w : Wish) (ws : List Wish) → Every (IsFirst w) ws → IsIn w ws → first_of_wishes by_rounds ws ≡ Some w
first_is w [] h i = absurd i
first_is w (v ∷ ws) h i =
    ap Some (sooner_is w v (first_of_wishes by_rounds ws) h.0 (λ u e. first_meets by_rounds (IsFirst w) ws u h.1 e)
    (elim i [ inl q ↦ inl q | inr q ↦ inr (first_is w ws h.1 q) ]))

-- the wish of an offer whose item flies so
abbrev wish_at : {F : Type 0} → Job F → List Entry → Offer → F → Wish
wish_at job own offer flight = record {
  batch = offer.batch;
  made = length (of_item offer.item own);
  shard = key_of (job.machine.asks flight) % job.shards;
  ask = record { item = offer.item; request = job.machine.asks flight };
}

-- the offer's wish, if it has one, is this one or comes after it
abbrev IsBehind : {F : Type 0} → Job F → List Entry → Wish → Offer → Type 0
IsBehind {F = F} job own w offer =
    (flight : F) → stand_in job own offer.item ≡ Flies flight → IsFirst w (wish_at job own offer flight)

behind_all : {F : Type 0} (job : Job F) (own : List Entry) (w : Wish) (offers : List Offer) →
    Every (IsBehind job own w) offers → Every (IsFirst w) (wishes_in job own offers)
behind_all job own w [] h = tt
behind_all {F = F} job own w (offer ∷ offers) h =
    go (stand_in job own offer.item) refl (behind_all job own w offers h.1)
  where
    go : (stand : Stand F) → stand_in job own offer.item ≡ stand → Every (IsFirst w) (wishes_in job own offers) →
        Every (IsFirst w) (wish_in job own offer stand (wishes_in job own offers))
    go (Ends verdict) e k = k
    go (Flies flight) e k = (h.0 flight e, k)

wish_skip : {F : Type 0} (job : Job F) (own : List Entry) (w : Wish) (offer : Offer) (stand : Stand F)
    (wishes : List Wish) → IsIn w wishes → IsIn w (wish_in job own offer stand wishes)
wish_skip job own w offer (Ends verdict) wishes i = i
wish_skip job own w offer (Flies flight) wishes i = inr i

wish_here : {F : Type 0} (job : Job F) (own : List Entry) (offer : Offer) (flight : F) (stand : Stand F)
    (wishes : List Wish) → stand ≡ Flies flight →
    IsIn (wish_at job own offer flight) (wish_in job own offer stand wishes)
wish_here job own offer flight stand wishes e =
    subst (λ st. IsIn (wish_at job own offer flight) (wish_in job own offer st wishes)) (sym e) (inl refl)

in_front : {F : Type 0} (job : Job F) (own : List Entry) (w : Wish) (earlier offers : List Offer) →
    IsIn w (wishes_in job own offers) → IsIn w (wishes_in job own (earlier ++ offers))
in_front job own w [] offers i = i
in_front job own w (x ∷ earlier) offers i =
    wish_skip job own w x (stand_in job own x.item) (wishes_in job own (earlier ++ offers))
    (in_front job own w earlier offers i)

in_batch : {F : Type 0} (job : Job F) (own : List Entry) (number item from size : ℕ) (flight : F)
    (later : List Offer) → from ≤ item → item < from + size → stand_in job own item ≡ Flies flight →
    IsIn (wish_at job own (record { item = item; batch = number }) flight)
    (wishes_in job own (one_batch number (range_with_len from size) ++ later))
in_batch job own number item from zero flight later l u e = absurd (omega arith)
in_batch job own number item from (suc size) flight later l u e =
    elim (cases_eq item from) [
      | inl q ↦
          subst (λ n. IsIn (wish_at job own (record { item = item; batch = number }) flight)
          (wish_in job own (record { item = n; batch = number }) (stand_in job own n)
          (wishes_in job own (one_batch number (range_with_len (from + 1) size) ++ later)))) q
          (wish_here job own (record { item = item; batch = number }) flight (stand_in job own item) _ e)
      | inr n ↦
          wish_skip job own _ (record { item = from; batch = number }) (stand_in job own from) _
          (in_batch job own number item (from + 1) size flight later (omega arith) (omega arith) e)
    ]

by_batch : (w v : Wish) → w.batch < v.batch → IsFirst w v
by_batch w v l = inr (grind (arith, nat_tests), grind (arith, nat_tests))

by_made : (w v : Wish) → w.batch ≡ v.batch → w.made < v.made → IsFirst w v
by_made w v b l = inr (grind (arith, nat_tests), grind (arith, nat_tests))

by_turn : (w v : Wish) → w.batch ≡ v.batch → w.made ≡ v.made →
    (w.shard < v.shard) ⊎ ((w.shard ≡ v.shard) × (w.ask.item < v.ask.item)) → IsFirst w v
by_turn w v b m (inl l) = inr (grind (arith, nat_tests), grind (arith, nat_tests))
by_turn w v b m (inr l) = inr (grind (arith, nat_tests, l.0, l.1), grind (arith, nat_tests, l.0, l.1))

pub flies_ended : {F : Type 0} (stand : Stand F) (flight : F) → HasEnded stand → stand ≡ Flies flight → ⊥
flies_ended stand flight h e = subst HasEnded e h

pub same_flight : {F : Type 0} (f g : F) → Flies f ≡ Flies g → f ≡ g
same_flight f g e = ap (λ (st : Stand _). elim st [ Flies h ↦ h | Ends v ↦ f ]) e

-- What one asks that asks after another in a round.
record IsLater {F : Type 0} (job : Job F) (own : List Entry) (from size round item : ℕ) (a : Ask) : Type 0 where
  ask : Ask
  item_is : ask.item ≡ item
  is : IsAskOf job own from size round ask
  order : GoesBefore job.shards a ask

later_of : {F : Type 0} (job : Job F) (own : List Entry) (from size round item : ℕ) (a : Ask) (rest : List Ask) →
    Every (IsAskOf job own from size round) rest → Every (GoesBefore job.shards a) rest → IsAsking item rest →
    IsLater job own from size round item a
later_of job own from size round item a [] h k i = absurd i
later_of job own from size round item a (b ∷ rest) h k (inl e) =
    record { ask = b; item_is = e; is = h.0; order = k.0 }
later_of job own from size round item a (b ∷ rest) h k (inr i) =
    later_of job own from size round item a rest h.1 k.1 i

-- the wish of the round's first ask
abbrev first_wish : {F : Type 0} → Job F → List Entry → ℕ → Ask → F → Wish
first_wish job own number a flight = wish_at job own (record { item = a.item; batch = number }) flight

behind_batch : {F : Type 0} (job : Job F) (own : List Entry) (number from size round : ℕ) (a : Ask) (rest : List Ask)
    (flight : F) → stand_in job own a.item ≡ Flies flight → IsRound job own from size round (a ∷ rest) → (item : ℕ) →
    from ≤ item → item < from + size →
    IsBehind job own (first_wish job own number a flight) (record { item = item; batch = number })
behind_batch {F = F} job own number from size round a rest flight flies r item l u other e =
    elim (r.others item other l u e) [
      | inl (inl q) ↦ inl (
          let same : other ≡ flight = same_flight other flight (sym e ∙ (ap (stand_in job own) (sym q) ∙ flies)) in
          ap₂ (λ i f. wish_at job own (record { item = i; batch = number }) f) (sym q) same)
      | inl (inr i) ↦
          let n : IsLater job own from size round item a =
          later_of job own from size round item a rest r.each.1
          (every_of_all (GoesBefore job.shards a) rest (Ascends-head job.shards a rest r.ascends)) i in
          let made : length (of_item n.ask.item own) ≡ round = n.is.made in
          let mine : length (of_item a.item own) ≡ round = r.each.0.made in
          let same : n.is.flight ≡ other =
          same_flight n.is.flight other (sym n.is.flies ∙ (ap (stand_in job own) n.item_is ∙ e)) in
          let w : Wish = first_wish job own number a flight in
          let asked : a.request ≡ job.machine.asks flight =
          r.each.0.request ∙ ap job.machine.asks (same_flight r.each.0.flight flight (sym r.each.0.flies ∙ flies)) in
          let v : IsFirst w (wish_at job own (record { item = n.ask.item; batch = number }) n.is.flight) =
          by_turn w (wish_at job own (record { item = n.ask.item; batch = number }) n.is.flight) refl
          (mine ∙ sym made)
          (subst₂ (λ x y. (key_of x % job.shards < key_of y % job.shards)
          ⊎ ((key_of x % job.shards ≡ key_of y % job.shards) × (a.item < n.ask.item))) asked n.is.request n.order) in
          subst₂ (λ i f. IsFirst w (wish_at job own (record { item = i; batch = number }) f)) n.item_is same v
      | inr m ↦
          let mine : length (of_item a.item own) ≡ round = r.each.0.made in
          by_made (first_wish job own number a flight)
          (wish_at job own (record { item = item; batch = number }) other) refl (omega arith)
    ]

pub every_one_batch : (P : Offer → Type 0) (number : ℕ) (items : List ℕ) →
    Every (λ item. P (record { item = item; batch = number })) items → Every P (one_batch number items)
every_one_batch P number [] h = tt
every_one_batch P number (item ∷ items) h = (h.0, every_one_batch P number items h.1)

-- the round's first ask is wanted
pub wants_first : {F : Type 0} (job : Job F) (own : List Entry) (from size round : ℕ) (a : Ask) (rest : List Ask) →
    is_stop job.stop (length own) ≡ false → HasBatch job own from size → IsRound job own from size round (a ∷ rest) →
    wanted_in by_rounds job own ≡ Some a
wants_first {F = F} job own from size round a rest running b r =
    ap (λ t. if t then None else ask_of (first_of_wishes by_rounds (wishes_in job own (offers_in job)))) running
    ∙ (ap ask_of (ap (λ os. first_of_wishes by_rounds (wishes_in job own os)) b.offers
    ∙ first_is w (wishes_in job own whole) all mine)
    ∙ ap (λ q. Some (record { item = a.item; request = q })) (sym r.each.0.request))
  where
    flight : F
    flight = r.each.0.flight

    w : Wish
    w = first_wish job own b.number a flight

    later : List Offer
    later =
        batched job.batch (first_in job) (b.number + 1) 0 []
        (range_with_len (from + size) (job.at + job.count - (from + size)))

    whole : List Offer
    whole = b.earlier ++ (one_batch b.number (range_with_len from size) ++ later)

    above : (n : ℕ) → b.number + 1 ≤ n → b.number < n
    above n l = omega arith

    all : Every (IsFirst w) (wishes_in job own whole)
    all = behind_all job own w whole
        (each-append (IsBehind job own w) b.earlier (one_batch b.number (range_with_len from size) ++ later)
        (each-weaker (λ o. HasEnded (stand_in job own o.item)) (IsBehind job own w)
        (λ o h f e. absurd (flies_ended (stand_in job own o.item) f h e)) b.earlier b.ended)
        (each-append (IsBehind job own w) (one_batch b.number (range_with_len from size)) later
        (every_one_batch (IsBehind job own w) b.number (range_with_len from size)
        (every_range (λ item. IsBehind job own w (record { item = item; batch = b.number })) from size
        (behind_batch job own b.number from size round a rest flight r.each.0.flies r)))
        (each-weaker (λ o. b.number + 1 ≤ o.batch) (IsBehind job own w)
        (λ o l f e. by_batch w (wish_at job own o f) (above o.batch l)) later
        (batched_from job.batch (first_in job) (b.number + 1) 0 []
        (range_with_len (from + size) (job.at + job.count - (from + size)))))))

    mine : IsIn w (wishes_in job own whole)
    mine = in_front job own w b.earlier (one_batch b.number (range_with_len from size) ++ later)
        (in_batch job own b.number a.item from size flight later r.each.0.from_is r.each.0.upto r.each.0.flies)

no_wishes : {F : Type 0} (job : Job F) (own : List Entry) (offers : List Offer) →
    Every (λ o. HasEnded (stand_in job own o.item)) offers → wishes_in job own offers ≡ []
no_wishes job own [] h = refl
no_wishes {F = F} job own (offer ∷ offers) h = go (stand_in job own offer.item) h.0 (no_wishes job own offers h.1)
  where
    go : (stand : Stand F) → HasEnded stand → wishes_in job own offers ≡ [] →
        wish_in job own offer stand (wishes_in job own offers) ≡ []
    go (Ends verdict) e k = k
    go (Flies flight) e k = absurd e

-- each offer has ended where nothing is left
pub all_ended : {F : Type 0} (job : Job F) (own : List Entry) (to : ℕ) → IsBetween job own to →
    to ≡ job.at + job.count → Every (λ o. HasEnded (stand_in job own o.item)) (offers_in job)
all_ended job own to b end =
    let z : job.at + job.count - to ≡ 0 = omega arith in
    subst (Every (λ o. HasEnded (stand_in job own o.item))) (sym b.offers)
    (each-append (λ o. HasEnded (stand_in job own o.item)) b.earlier _ b.ended
    (subst (λ n. Every (λ o. HasEnded (stand_in job own o.item))
    (batched job.batch (first_in job) b.number 0 [] (range_with_len to n))) (sym z) tt))

none_either : {X : Type 0} (o : Option X) (t : Bool) → o ≡ None → (if t then None else o) ≡ None
none_either o true e = refl
none_either o false e = e

pub wants_nothing : {F : Type 0} (job : Job F) (own : List Entry) (to : ℕ) → IsBetween job own to →
    to ≡ job.at + job.count → wanted_in by_rounds job own ≡ None
wants_nothing job own to b end =
    none_either (ask_of (first_of_wishes by_rounds (wishes_in job own (offers_in job))))
    (is_stop job.stop (length own))
    (ap (λ ws. ask_of (first_of_wishes by_rounds ws))
    (no_wishes job own (offers_in job) (all_ended job own to b end)))
