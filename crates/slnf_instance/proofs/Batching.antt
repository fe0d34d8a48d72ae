-- From one batch to the next.
use Rattle.std.proofs.Common.{◌≡◌, ℕ, suc, ◌+◌, ◌-◌, ◌<◌, ◌≤◌, List, [], ◌∷◌, ◌++◌, length, refl, sym, ap, ◌∙◌, arith, append_assoc, length-append}
use Rattle.std.specs.List.{range_with_len, AllByRecursion as Every}
use Rattle.std.proofs.lemmas.List.FromFn.{length-range_with_len}
use Rattle.slnf_access.specs.declared.requests.Entry.{Entry}
use Rattle.slnf_access.specs.Machines.{HasEnded}
use Rattle.slnf_run.specs.Parts.{Offer, batched}
use Rattle.slnf_run.specs.Jobs.{joining, one_batch, Job, first_in, stand_in}
use Rattle.slnf_run.proofs.Batches.{batched_joining, joining_within}
use Rattle.slnf_instance.specs.Works.{HasBatch, IsBetween}
use Rattle.slnf_access.proofs.Elements.{each-append}
use Rattle.slnf_instance.proofs.Every.{every_range}
use Rattle.slnf_instance.proofs.Wanting.{every_one_batch}

-- before the first access
pub at_first : {F : Type 0} (job : Job F) → IsBetween job [] job.at
at_first job =
    let n : job.count ≡ job.at + job.count - job.at = omega arith in
    record {
      number = 0;
      earlier = [];
      offers = ap (λ k. batched job.batch (first_in job) 0 0 [] (range_with_len job.at k)) n;
      below = tt;
      place = omega arith;
      inside = omega arith;
      ended = tt;
      fresh = λ item l. refl;
    }

-- the next batch is taken
pub taken : {F : Type 0} (job : Job F) (own : List Entry) (from c : ℕ) → 0 < job.batch →
    c ≡ joining job.batch (first_in job) 0 [] (range_with_len from (job.at + job.count - from)) →
    IsBetween job own from → HasBatch job own from c
taken job own from c l q b =
    let n : ℕ = job.at + job.count - from in
    let within : joining job.batch (first_in job) 0 [] (range_with_len from n) ≤ length (range_with_len from n) =
    joining_within job.batch (first_in job) 0 [] (range_with_len from n) in
    let count : length (range_with_len from n) ≡ n = length-range_with_len from n in
    let rest : n - c ≡ job.at + job.count - (from + c) = omega arith in
    record {
      number = b.number;
      earlier = b.earlier;
      offers = b.offers ∙ ap (λ os. b.earlier ++ os)
          (batched_joining job.batch (first_in job) b.number 0 [] from n c l q
          ∙ ap (λ k. one_batch b.number (range_with_len from c)
          ++ batched job.batch (first_in job) (b.number + 1) 0 [] (range_with_len (from + c) k)) rest);
      below = b.below;
      place = b.place;
      inside = (let i = b.inside in omega arith);
      ended = b.ended;
      fresh = λ item u. b.fresh item (omega arith);
    }

length-one_batch : (number : ℕ) (items : List ℕ) → length (one_batch number items) ≡ length items
length-one_batch number [] = refl
length-one_batch number (item ∷ items) = ap suc (length-one_batch number items)

below_next : (number : ℕ) (xs : List Offer) → Every (λ offer. offer.batch < number) xs →
    Every (λ offer. offer.batch < number + 1) xs
below_next number [] h = tt
below_next number (x ∷ xs) h = (let l = h.0 in omega arith, below_next number xs h.1)

in_number : (number : ℕ) (items : List ℕ) →
    Every (λ (offer : Offer). offer.batch < number + 1) (one_batch number items)
in_number number [] = tt
in_number number (item ∷ items) = (omega arith, in_number number items)

-- a batch is done where each of its items has ended
pub closed : {F : Type 0} (job : Job F) (own : List Entry) (from size : ℕ) → HasBatch job own from size →
    ((item : ℕ) → from ≤ item → item < from + size → HasEnded (stand_in job own item)) →
    IsBetween job own (from + size)
closed job own from size b h =
    let items : List ℕ = range_with_len from size in
    let later : List Offer = batched job.batch (first_in job) (b.number + 1) 0 []
    (range_with_len (from + size) (job.at + job.count - (from + size))) in
    let count : length (b.earlier ++ one_batch b.number items) ≡ length b.earlier + size =
    length-append b.earlier (one_batch b.number items)
    ∙ ap (λ n. length b.earlier + n) (length-one_batch b.number items ∙ length-range_with_len from size) in
    let at : from ≡ job.at + length b.earlier = b.place in
    record {
      number = b.number + 1;
      earlier = b.earlier ++ one_batch b.number items;
      offers = b.offers ∙ sym (append_assoc b.earlier (one_batch b.number items) later);
      below = each-append (λ offer. offer.batch < b.number + 1) b.earlier (one_batch b.number items)
          (below_next b.number b.earlier b.below) (in_number b.number items);
      place = omega arith;
      inside = b.inside;
      ended = each-append (λ o. HasEnded (stand_in job own o.item)) b.earlier (one_batch b.number items) b.ended
          (every_one_batch (λ o. HasEnded (stand_in job own o.item)) b.number items
          (every_range (λ item. HasEnded (stand_in job own item)) from size h));
      fresh = b.fresh;
    }
