-- From a batch that is done to the next round.
use Rattle.std.proofs.Common.{◌≡◌, inl, inr, ℕ, zero, suc, ◌+◌, ◌-◌, ◌<◌, ◌≤◌, List, [], ◌∷◌, length, drop, refl, sym, ap, ◌∙◌, subst, arith}
use Rattle.std.specs.List.Sorted.{IsPermutation}
use Rattle.std.proofs.lemmas.Bool.{cases_lt}
use Rattle.slnf_access.specs.declared.requests.Entry.{Entry}
use Rattle.slnf_access.specs.Machines.{stand_after}
use Rattle.slnf_batch.specs.Order.{Ascends}
use Rattle.slnf_run.specs.Parts.{of_item}
use Rattle.slnf_run.specs.Verdicts.{verdict_at}
use Rattle.slnf_instance.specs.declared.hands.Hand.{Hand}
use Rattle.slnf_run.specs.Jobs.{Job, stand_in}
use Rattle.slnf_instance.specs.Works.{IsLeftOf, asks_of, IsBetween}
use Rattle.slnf_instance.specs.Hands.{IsSameErrand, IsTaken, Rests, IsDone, HandGoesOn}
use Rattle.slnf_instance.proofs.Stepping.{same_flights}
use Rattle.slnf_instance.proofs.Batching.{taken, closed}
use Rattle.slnf_instance.proofs.Opening.{opened, none_flies}

-- an item without an entry stands as it began
fresh_stands : {F : Type 0} (job : Job F) (own : List Entry) (item : ℕ) → of_item item own ≡ [] →
    stand_in job own item ≡ job.begins item
fresh_stands job own item e = ap (stand_after job.machine (job.begins item)) e

-- the next batch is in hand, and nothing of it has made an access
pub taken_rests : {F : Type 0} (job : Job F) (own : List Entry) (old new : Hand F) → 0 < job.batch →
    job.at ≤ old.from → IsDone job own old → IsTaken job old new → IsSameErrand old new → Rests job own new 0
taken_rests job own old new l from done t same =
    let between : IsBetween job own new.from = subst (IsBetween job own) (sym t.from) done.between in
    let size : ℕ = length new.flights.items in
    let at : new.from ≡ old.from + length old.flights.items = t.from in
    record {
      left_is = subst (λ o. IsLeftOf job.stop o (length own)) (sym same.left) done.left_is;
      batch = taken job own new.from size l t.size between;
      flies = t.flights ∙ same_flights job.begins (stand_in job own) new.from size
          (λ m u. fresh_stands job own m (between.fresh m u));
      made = λ item flight a u e. ap length (between.fresh item a);
      given = λ item d a u. elim (cases_lt item new.from) [
        | inl b ↦ t.verdicts.earlier (item - job.at) d (omega arith) ∙ done.given item d a (omega arith)
        | inr b ↦ t.verdicts.begins item d b u
            ∙ ap verdict_at (sym (fresh_stands job own item (between.fresh item b)))
      ];
    }

-- a round is opened in which something flies
pub opened_goes : {F : Type 0} (job : Job F) (own : List Entry) (rounds : ℕ) (hand after : Hand F) →
    Rests job own hand rounds → after ≡ record hand { asks = after.asks; place = 0 } →
    IsPermutation (asks_of job.machine.asks hand.from hand.flights.items) after.asks.items →
    Ascends job.shards after.asks.items → 0 < length after.asks.items → HandGoesOn job own after
opened_goes job own rounds hand after r kept same ascends some =
    subst (HandGoesOn job own) (sym kept) (inl (record {
      left_is = r.left_is;
      batch = r.batch;
      flies = r.flies;
      round = rounds;
      turn = opened job own hand.from rounds hand.flights.items after.asks.items r.flies r.made same ascends;
      some = some;
      given = r.given;
    }))

-- a round in which nothing flies
pub opened_done : {F : Type 0} (job : Job F) (own : List Entry) (rounds : ℕ) (hand after : Hand F) →
    Rests job own hand rounds → after ≡ record hand { asks = after.asks; place = 0 } →
    IsPermutation (asks_of job.machine.asks hand.from hand.flights.items) after.asks.items → after.asks.items ≡ [] →
    IsDone job own after
opened_done job own rounds hand after r kept same none =
    subst (IsDone job own) (sym kept) (record {
      left_is = r.left_is;
      between = closed job own hand.from (length hand.flights.items) r.batch
          (none_flies job own hand.from hand.flights.items after.asks.items r.flies same none);
      given = r.given;
    })

drop_nil : {X : Type 0} (n : ℕ) (xs : List X) → xs ≡ [] → drop n xs ≡ []
drop_nil zero xs e = e
drop_nil (suc n) [] e = refl
drop_nil (suc n) (x ∷ xs) e = absurd (cc)

-- nothing is left
pub through : {F : Type 0} (job : Job F) (own : List Entry) (hand : Hand F) → IsDone job own hand →
    hand.from + length hand.flights.items ≡ job.at + job.count → hand.asks.items ≡ [] → HandGoesOn job own hand
through job own hand done end none = inr (record {
  left_is = done.left_is;
  between = done.between;
  end = end;
  none = drop_nil hand.place hand.asks.items none;
  given = done.given;
})
