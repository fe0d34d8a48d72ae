-- Batches that are taken one after another until an item flies.
use Rattle.std.proofs.Common.{◌≡◌, ℕ, zero, suc, ◌+◌, ◌-◌, ◌<◌, ◌≤◌, true, false, if◌then◌else◌, List, [], ◌∷◌, Option, Some, None, length, refl, sym, ap, ap₂, ◌∙◌, subst, arith, inl, inr}
use Rattle.std.specs.List.{range_with_len}
use Rattle.slnf_access.specs.Machines.{Stand, Flies, Ends}
use Rattle.slnf_run.specs.Jobs.{Job, joining, first_in, offers_in}
use Rattle.slnf_instance.specs.Works.{flight_at, flights_at}
use Rattle.slnf_local.specs.Hands.{Item, batch_in_hand, items_in, some_fly as items_fly}
use Rattle.slnf_local.specs.Cuts.{items_at, IsDealt}
use Rattle.slnf_local.proofs.Cuts.{IsCutOff, cut_off, next_cut}
use Rattle.slnf_hand.specs.Reached.{Reached, offers_from, some_fly, AreItems, IsTaken, IsDealtTo, Rests, next_in, end_of}

-- the code's flights are those of the items
pub fly_same : {F : Type 0} (from : ℕ) (items : List (Item F)) (flights : List (Option F)) →
    AreItems from items flights → items_fly items ≡ some_fly flights
fly_same from [] [] h = refl
fly_same from [] (f ∷ flights) h = absurd h
fly_same from (x ∷ items) [] h = absurd h
fly_same {F = F} from (x ∷ items) (f ∷ flights) h = go x.stand f h.1 (fly_same (from + 1) items flights h.2)
  where
    go : (stand : Stand F) (f : Option F) → f ≡ flight_at stand → items_fly items ≡ some_fly flights →
        items_fly (record { number = x.number; stand = stand } ∷ items) ≡ some_fly (f ∷ flights)
    go (Flies flight) None e r = absurd (cc)
    go (Flies flight) (Some g) e r = refl
    go (Ends verdict) None e r = r
    go (Ends verdict) (Some g) e r = absurd (cc)

pub items_begin : {F : Type 0} (stand : ℕ → Stand F) (from c : ℕ) →
    AreItems from (items_at stand (range_with_len from c)) (flights_at stand from c)
items_begin stand from zero = tt
items_begin stand from (suc c) = (refl, refl, items_begin stand (from + 1) c)

-- What taking a batch tells.
pub record Takes {F : Type 0} (job : Job F) (number : ℕ) (old new : Reached F) : Type 1 where
  pub cut : IsCutOff F (offers_in job) job.batch (first_in job) job.at number (end_of old)
      (job.at + job.count - end_of old) (length new.flights)
  pub from : new.from ≡ end_of old
  pub next : next_in job number (end_of old) ≡ (if items_fly
      (items_at job.begins (range_with_len new.from (length new.flights))) then Some number else next_in job
      (number + 1) (end_of new))
  pub rest : IsDealtTo job (number + 1) (end_of new)
  pub later : offers_from job (number + 1) (end_of old + length new.flights)
      (job.at + job.count - end_of old - length new.flights) ≡ offers_from job (number + 1) (end_of new)
      (job.at + job.count - end_of new)
  pub items : AreItems new.from (items_at job.begins (range_with_len new.from (length new.flights))) new.flights

pub takes : {F : Type 0} (job : Job F) (number : ℕ) (old new : Reached F) → 0 < job.batch → IsTaken job old new →
    IsDealtTo job number (end_of old) → Takes job number old new
takes {F = F} job number old new l t d =
    let c : ℕ = length new.flights in
    let from : new.from ≡ end_of old = t.from in
    let size : c ≡ joining job.batch (first_in job) 0 []
    (range_with_len (end_of old) (job.at + job.count - end_of old)) =
    subst (λ a. c ≡ joining job.batch (first_in job) 0 [] (range_with_len a (job.at + job.count - a))) from t.size in
    let off = cut_off F (offers_in job) job.batch (first_in job) job.at number (end_of old)
    (job.at + job.count - end_of old) c l size d in
    let p : end_of old + c ≡ end_of new = ap (λ a. a + c) (sym from) in
    let q : job.at + job.count - end_of old - c ≡ job.at + job.count - end_of new =
    (let q1 : job.at + job.count - end_of old - c ≡ job.at + job.count - (end_of old + c) = omega arith in q1
    ∙ ap (λ a. job.at + job.count - a) p) in
    record {
      cut = off;
      from = from;
      next = next_cut job.begins job.batch (first_in job) number (end_of old) (job.at + job.count - end_of old) c l size
          ∙ ap₂ (λ a later. if items_fly (items_at job.begins (range_with_len a c)) then Some number
          else batch_in_hand job.begins later) (sym from)
          (ap₂ (offers_from job (number + 1)) p q);
      rest = subst (λ a. IsDealt (offers_in job) job.batch (first_in job) job.at (number + 1) a
          (job.at + job.count - a)) p
          (subst (IsDealt (offers_in job) job.batch (first_in job) job.at (number + 1) (end_of old + c))
          (let r : job.at + job.count - end_of old - c ≡ job.at + job.count - (end_of old + c) = omega arith in r)
          off.rest);
      later = ap₂ (offers_from job (number + 1)) p q;
      items = subst (AreItems new.from (items_at job.begins (range_with_len new.from c))) (sym t.flights)
          (items_begin job.begins new.from c);
    }

-- a batch of which an item flies is the one in reached
pub taken_flies : {F : Type 0} (job : Job F) (number : ℕ) (old new : Reached F) → Takes job number old new →
    some_fly new.flights ≡ true → Rests job (next_in job number (end_of old))
    (items_in job.begins (next_in job number (end_of old)) (offers_in job)) new
taken_flies job number old new t flies =
    let items = items_at job.begins (range_with_len new.from (length new.flights)) in
    let fly : items_fly items ≡ true = fly_same new.from items new.flights t.items ∙ flies in
    let next : next_in job number (end_of old) ≡ Some number =
    t.next ∙ ap (λ b. if b then Some number else next_in job (number + 1) (end_of new)) fly in
    let same : items_in job.begins (next_in job number (end_of old)) (offers_in job) ≡ items =
    ap (λ b. items_in job.begins b (offers_in job)) next
    ∙ (t.cut.items job.begins ∙ ap (λ a. items_at job.begins (range_with_len a (length new.flights))) (sym t.from)) in
    subst (λ items. Rests job (next_in job number (end_of old)) items new) (sym same)
    (inl (record {
      number = number;
      batch_is = next;
      items_are = t.items;
      flies = fly;
      upto = t.cut.through ∙ ap (λ a. a + length new.flights) (sym t.from);
      later = t.cut.later ∙ t.later;
      rest = t.rest;
    }))

-- behind a batch of which none flies
pub taken_ends : {F : Type 0} (job : Job F) (number : ℕ) (old new : Reached F) → Takes job number old new →
    some_fly new.flights ≡ false → next_in job number (end_of old) ≡ next_in job (number + 1) (end_of new)
taken_ends job number old new t ends =
    let items = items_at job.begins (range_with_len new.from (length new.flights)) in
    t.next ∙ ap (λ b. if b then Some number else next_in job (number + 1) (end_of new))
    (fly_same new.from items new.flights t.items ∙ ends)

-- Nothing is dealt but batches of which none flies.
pub record GoesTo {F : Type 0} (job : Job F) (number : ℕ) (old reached : Reached F) : Type 0 where
  pub next : ℕ
  pub dealt : IsDealtTo job next (end_of reached)
  pub same : next_in job number (end_of old) ≡ next_in job next (end_of reached)

pub none_left : {F : Type 0} (job : Job F) (number : ℕ) (old reached cleared : Reached F) →
    GoesTo job number old reached → job.at + job.count ≤ end_of reached → cleared.flights ≡ [] →
    Rests job (next_in job number (end_of old)) (items_in job.begins (next_in job number (end_of old))
    (offers_in job)) cleared
none_left job number old reached cleared g l none =
    let z : job.at + job.count - end_of reached ≡ 0 = omega arith in
    let next : next_in job number (end_of old) ≡ None = g.same
    ∙ ap (λ n. batch_in_hand job.begins (offers_from job g.next (end_of reached) n)) z in
    inr (record { batch_is = next; items_are = ap (λ b. items_in job.begins b (offers_in job)) next; none = none })
