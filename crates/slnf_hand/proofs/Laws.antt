-- What is known of an actor that stands for a follower's hand.
use Rattle.std.proofs.Common.{◌≡◌, ◌⊎◌, inl, inr, ℕ, suc, ◌+◌, ◌-◌, Bool, true, false, ◌||◌, ◌==◌, if◌then◌else◌, List, [], ◌∷◌, Option, IsTrue, length, refl, sym, ap, ◌∙◌, arith, ne_eqb}
use Rattle.std.specs.List.{range_with_len}
use Rattle.std.proofs.lemmas.Bool.{cond_both}
use Rattle.std.proofs.lemmas.List.FromFn.{length-range_with_len}
use Rattle.slnf_run.specs.Jobs.{Offer, Job, joins, with_key, batched, first_in, offers_in}
use Rattle.slnf_instance.specs.Items.{Workload}
use Rattle.slnf_instance.specs.Hands.{is_spent}
use Rattle.slnf_local.specs.Hands.{Hand as Held, is_no_batch}
use Rattle.slnf_hand.specs.Reached.{some_fly, Rests, has_ended, taken_by}
use Rattle.slnf_hand.specs.Hands.{Followed, is_over, taken, IsHandOf}
use Rattle.slnf_hand.proofs.Dealing.{fly_same}
use Rattle.slnf_hand.proofs.Taking.{spent_is}

some_fly_none : {F : Type 0} (flights : List (Option F)) → some_fly flights ≡ true → (length flights == 0) ≡ false
some_fly_none [] h = absurd (cc)
some_fly_none (f ∷ flights) h = ne_eqb (length (f ∷ flights)) 0 (λ q. absurd (omega arith))

length_batched : (limit : ℕ) (first : ℕ → Option ℕ) (number size : ℕ) (keys items : List ℕ) →
    length (batched limit first number size keys items) ≡ length items
length_batched limit first number size keys [] = refl
length_batched limit first number size keys (item ∷ items) =
    cond_both (joins limit size keys (first item)) _ _ (λ (offers : List Offer). length offers ≡ suc (length items))
    (λ b. ap suc (length_batched limit first number (size + 1) (with_key (first item) keys) items))
    (λ b. ap suc (length_batched limit first (number + 1) 1 (with_key (first item) []) items))

-- it has ended where the hand says so
pub ended_is : {G F : Type 0} (work : G → Workload F) (job : Job F) (held : Held F) (hand : Followed G F) →
    IsHandOf work job held hand → is_over hand ≡ has_ended job held
ended_is {F = F} work job held hand h =
    sym (ap (λ b. if b then true else is_no_batch held.batch)
    (sym (spent_is job.stop hand.reached.left held.made h.holds.left_is))
    ∙ go (is_spent hand.reached.left) refl h.holds.rests)
  where
    go : (b : Bool) → is_spent hand.reached.left ≡ b →
        IsTrue (is_spent hand.reached.left) ⊎ Rests job held.batch held.items hand.reached →
        (if b then true else is_no_batch held.batch) ≡ (b || (length hand.reached.flights == 0))
    go true q r = refl
    go false q (inl spent) = absurd (cc)
    go false q (inr (inl f)) =
        ap is_no_batch f.batch_is
        ∙ sym (some_fly_none hand.reached.flights
        (sym (fly_same hand.reached.from held.items hand.reached.flights f.items_are) ∙ f.flies))
    go false q (inr (inr t)) = ap is_no_batch t.batch_is ∙ sym (ap (λ xs. length xs == 0) t.none)

-- and has taken as many items
pub taken_is : {G F : Type 0} (work : G → Workload F) (job : Job F) (held : Held F) (hand : Followed G F) →
    IsHandOf work job held hand → taken hand ≡ taken_by job held
taken_is work job held hand h =
    let size : length (offers_in job) ≡ job.count =
    length_batched job.batch (first_in job) 0 0 [] (range_with_len job.at job.count)
    ∙ length-range_with_len job.at job.count in
    let at : hand.errand.at ≡ job.at = ap (λ (j : Job _). j.at) h.job_is in
    let count : hand.errand.end - hand.errand.at ≡ job.count = ap (λ (j : Job _). j.count) h.job_is in
    let through : job.at + held.through ≡ hand.reached.through = h.holds.through_is in
    let own : hand.reached.through - hand.errand.at ≡ held.through = omega arith in
    let all : hand.errand.end - hand.errand.at ≡ length (offers_in job) = count ∙ sym size in
    go (is_spent hand.reached.left) own all
    ∙ ap (λ b. if b then held.through else length (offers_in job))
    (spent_is job.stop hand.reached.left held.made h.holds.left_is)
  where
    go : (b : Bool) → hand.reached.through - hand.errand.at ≡ held.through →
        hand.errand.end - hand.errand.at ≡ length (offers_in job) →
        (if b then hand.reached.through else hand.errand.end) - hand.errand.at
        ≡ (if b then held.through else length (offers_in job))
    go true p q = p
    go false p q = q
