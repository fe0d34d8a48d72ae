-- How many packets an actor took: by whether and where it was stopped.
use Rattle.std.proofs.Common.{◌≡◌, ℕ, suc, zero, ◌-◌, ◌<◌, ◌≤◌, true, false, nat_le, filter, Some, None, List, [], ◌∷◌, length, take, get_or, refl, sym, ap, ◌∙◌, arith}
use Rattle.std.specs.List.{range_with_len}
use Rattle.std.proofs.lemmas.Bool.{cond-true, cond-false}
use Rattle.std.proofs.lemmas.List.{length-map}
use Rattle.std.proofs.lemmas.List.FromFn.{length-range_with_len}
use Rattle.slnf_access.specs.declared.requests.Entry.{Entry}
use Rattle.slnf_run.specs.Setting.{Actor}
use Rattle.slnf_run.specs.Jobs.{Job, Offer, batched, last_of, offers_until, first_in, is_stop, offers_in, taken_in}
use Rattle.slnf_run.proofs.OfferRows.{items_batched, rises_batched, taken_front}
use Rattle.slnf_verdicts.specs.Batches.{number_in, batch_end}
use Rattle.slnf_verdicts.proofs.BatchEnds.{upto_last, same_batch, number_from}

-- as many are offered as the job says
offer_count : {F : Type 0} (job : Job F) → length (offers_in job) ≡ job.count
offer_count job =
    sym (length-map (offers_in job) (λ offer. offer.item))
    ∙ ap length (items_batched job.batch (first_in job) 0 0 [] (range_with_len job.at job.count))
    ∙ length-range_with_len job.at job.count

short_take : {X : Type 0} (k : ℕ) (xs : List X) → length (take k xs) ≤ length xs
short_take zero xs = omega arith
short_take (suc k) [] = omega arith
short_take (suc k) (x ∷ xs) = let rest : length (take k xs) ≤ length xs = short_take k xs in omega arith

-- an actor took no more than it was offered
pub taken_most : {F : Type 0} (job : Job F) (own : List Entry) → length (taken_in job own) ≤ job.count
taken_most job own =
    let actor : Actor = record { lane = None; quota = None; stop = job.stop } in
    let front = taken_front actor own 0 (offers_in job)
    (rises_batched job.batch (first_in job) 0 0 [] (range_with_len job.at job.count)) in
    let size : length (taken_in job own) ≡ length (take front.0 (offers_in job)) = ap length front.1 in
    let short : length (take front.0 (offers_in job)) ≤ length (offers_in job) = short_take front.0 (offers_in job) in
    let all : length (offers_in job) ≡ job.count = offer_count job in
    omega arith

-- all where it wasn't stopped
pub taken_all : {F : Type 0} (job : Job F) (own : List Entry) → is_stop job.stop (length own) ≡ false →
    job.count ≡ length (taken_in job own)
taken_all job own running =
    sym (ap length (cond-false (is_stop job.stop (length own)) (offers_until (last_of own) (offers_in job))
    (offers_in job) running)
    ∙ offer_count job)

empty_of : (own : List Entry) → length own ≡ 0 → own ≡ []
empty_of [] is = refl
empty_of (e ∷ own) is = absurd (omega arith)

-- none where it was stopped before its first access
pub taken_none : {F : Type 0} (job : Job F) (own : List Entry) → is_stop job.stop (length own) ≡ true →
    length own ≡ 0 → 0 ≡ length (taken_in job own)
taken_none job own stopped none_ =
    sym (ap length (cond-true (is_stop job.stop (length own)) (offers_until (last_of own) (offers_in job))
    (offers_in job) stopped)
    ∙ ap (λ es. length (offers_until (last_of es) (offers_in job))) (empty_of own none_))

-- the last entry
last_there : (own : List Entry) (d : Entry) → 0 < length own → last_of own ≡ Some (get_or own (length own - 1) d)
last_there [] d some = absurd (omega arith)
last_there (e ∷ []) d some = refl
last_there (e ∷ f ∷ own) d some =
    let q : length (e ∷ f ∷ own) - 1 ≡ suc (length (f ∷ own) - 1) = omega arith in
    last_there (f ∷ own) d (omega arith) ∙ ap (λ k. Some (get_or (e ∷ f ∷ own) k d)) (sym q)

-- those up to the batch of an item
upto_item : {F : Type 0} (job : Job F) (e : Entry) → 0 < job.batch → (n : ℕ) → job.count ≡ n →
    length (offers_until (Some e) (batched job.batch (first_in job) 0 0 [] (range_with_len job.at n)))
    ≡ batch_end job.batch (first_in job) (number_in job.at n e.item) 0 [] (range_with_len job.at n)
upto_item job e some zero is = refl
upto_item job e some (suc n) is =
    let inside = number_from job.at (suc n) e.item (omega arith) in
    let offers : List Offer = batched job.batch (first_in job) 0 0 [] (range_with_len job.at (suc n)) in
    ap (λ b. length (filter (λ offer. nat_le offer.batch b) offers))
    (same_batch job.batch (first_in job) job.at (suc n) e.item some (omega arith))
    ∙ upto_last job.batch (first_in job) (number_in job.at (suc n) e.item) 0 0 [] job.at (suc n) inside.0 inside.1

-- and else those of the batches up to its last entry's
pub taken_upto : {F : Type 0} (job : Job F) (own : List Entry) (last : ℕ) (d : Entry) → 0 < job.batch →
    is_stop job.stop (length own) ≡ true → 0 < length own →
    last ≡ number_in job.at job.count (get_or own (length own - 1) d).item →
    batch_end job.batch (first_in job) last 0 [] (range_with_len job.at job.count) ≡ length (taken_in job own)
taken_upto job own last d some stopped more is =
    ap (λ k. batch_end job.batch (first_in job) k 0 [] (range_with_len job.at job.count)) is
    ∙ sym (ap length (cond-true (is_stop job.stop (length own)) (offers_until (last_of own) (offers_in job))
    (offers_in job) stopped)
    ∙ ap (λ o. length (offers_until o (offers_in job))) (last_there own d more)
    ∙ upto_item job (get_or own (length own - 1) d) some job.count refl)
