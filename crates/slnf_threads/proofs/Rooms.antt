-- An actor on a lane takes at most as many packets as are left of it.
use Rattle.std.proofs.Common.{◌≡◌, ℕ, zero, suc, ◌-◌, ◌≤◌, true, Option, Some, None, List, [], ◌∷◌, length, take, slice_index, ap, sym, ◌∙◌, arith}
use Rattle.std.specs.List.{range_with_len}
use Rattle.std.proofs.lemmas.List.{length-map}
use Rattle.std.proofs.lemmas.List.FromFn.{length-range_with_len, length-map-range_with_len}
use Rattle.slnf_access.specs.declared.requests.Entry.{Entry}
use Rattle.slnf_run.specs.Setting.{Actor, Setting, is_on}
use Rattle.slnf_run.specs.Jobs.{Job, job_of, verdict_in, taken_in}
use Rattle.slnf_run.specs.Parts.{Offer, batched, within_quota, offers_of, taken_of}
use Rattle.slnf_run.proofs.OfferRows.{items_batched, rises_batched, taken_front}
use Rattle.slnf_run.proofs.TakenRows.{key_first, offered_count, offers_on_lane}
use Rattle.slnf_instance.specs.Ends.{verdicts_in}

length_take : {X : Type 0} (k : ℕ) (xs : List X) → length (take k xs) ≤ length xs
length_take zero xs = omega arith
length_take (suc k) [] = omega arith
length_take (suc k) (x ∷ xs) = let r : length (take k xs) ≤ length xs = length_take k xs in omega arith

quota_most : (quota : Option ℕ) (count : ℕ) → within_quota quota count ≤ count
quota_most None count = omega arith
quota_most (Some quota) count = omega arith

module _ {F A : Type 0} (s : Setting F A) where
  pub took_most : (own : List Entry) (lane i at : ℕ) (actor : Actor) → is_on lane actor ≡ true →
      length (verdicts_in (job_of s i at actor) own) ≤ slice_index s.lanes lane - at
  took_most own lane i at actor on =
      let job : Job F = job_of s i at actor in
      let count : ℕ = offered_count s lane at actor in
      let offers : List Offer = batched s.batch (key_first s i) 0 0 [] (range_with_len at count) in
      let f : (k : ℕ) × (taken_of actor own offers ≡ take k offers) =
      taken_front actor own 0 offers (rises_batched s.batch (key_first s i) 0 0 [] (range_with_len at count)) in
      let size : length offers ≡ count = sym (length-map offers (λ offer. offer.item))
      ∙ (ap length (items_batched s.batch (key_first s i) 0 0 [] (range_with_len at count))
      ∙ length-range_with_len at count) in
      let quota : count ≤ slice_index s.lanes lane - at = quota_most actor.quota (slice_index s.lanes lane - at) in
      let few : length (take f.0 offers) ≤ length offers = length_take f.0 offers in
      let same : length (taken_of actor own (offers_of s i at actor)) ≡ length (take f.0 offers) =
      ap (λ o. length (taken_of actor own o)) (offers_on_lane s lane i at actor on) ∙ ap length f.1 in
      let told : length (verdicts_in job own) ≡ length (taken_in job own) =
      length-map-range_with_len (verdict_in job own) job.at (length (taken_in job own)) in
      omega (arith, size, quota, few, same, told)
