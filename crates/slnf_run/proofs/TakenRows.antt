-- What an incarnation on a lane took: packets of the lane in a row, from its post's place on.
use Rattle.std.proofs.Common.{◌≡◌, ℕ, suc, zero, ◌+◌, ◌-◌, ◌<◌, ◌≤◌, true, Option, Some, None, List, [], ◌∷◌, length, take, slice_index, ap, sym, ◌∙◌, subst, arith}
use Rattle.std.specs.List.{range_with_len}
use Rattle.std.proofs.lemmas.List.{length-map}
use Rattle.std.proofs.lemmas.List.FromFn.{length-range_with_len}
use Rattle.slnf_access.specs.declared.requests.Entry.{Entry}
use Rattle.slnf_run.specs.Setting.{Actor, Setting, is_on}
use Rattle.slnf_run.specs.Parts.{part_of, first_key_of, Offer, batched, within_quota, offers_of, taken_of, Post, taken_at}
use Rattle.slnf_run.proofs.OfferRows.{items_of, has_item, items_batched, rises_batched, taken_front, taken_range, has_in_range}
use Rattle.slnf_run.proofs.LanePosts.{on_lane}

length_take : {X : Type 0} (k : ℕ) (xs : List X) → length (take k xs) ≤ length xs
length_take zero xs = omega arith
length_take (suc k) [] = omega arith
length_take (suc k) (x ∷ xs) = let r : length (take k xs) ≤ length xs = length_take k xs in omega arith

quota_most : (quota : Option ℕ) (count : ℕ) → within_quota quota count ≤ count
quota_most None count = omega arith
quota_most (Some quota) count = omega arith

module _ {F A : Type 0} (s : Setting F A) where
  -- the first key of an incarnation's item
  abbrev pub key_first : ℕ → ℕ → Option ℕ
  key_first i item = first_key_of (s.scene.machine i) (s.scene.begins i item)

  -- how many packets an actor on a lane is offered
  abbrev pub offered_count : ℕ → ℕ → Actor → ℕ
  offered_count lane at actor = within_quota actor.quota (slice_index s.lanes lane - at)

  -- an actor on a lane is offered its packets in a row
  pub offers_on_lane : (lane i at : ℕ) (actor : Actor) → is_on lane actor ≡ true → offers_of s i at actor
      ≡ batched s.batch (key_first i) 0 0 [] (range_with_len at (offered_count lane at actor))
  offers_on_lane lane i at actor on =
      ap (λ o. offers_of s i at (record { lane = o; quota = actor.quota; stop = actor.stop })) (on_lane lane actor on)

  -- it took numbers in a row
  pub taken_in_row : (es : List Entry) (lane i : ℕ) (post : Post) → is_on lane post.actor ≡ true →
      items_of (taken_at s es i post) ≡ range_with_len post.at (length (taken_at s es i post))
  taken_in_row es lane i post on =
      subst (λ offers. items_of (taken_of post.actor (part_of i es) offers)
      ≡ range_with_len post.at (length (taken_of post.actor (part_of i es) offers)))
      (sym (offers_on_lane lane i post.at post.actor on))
      (taken_range post.actor (part_of i es) s.batch (key_first i) post.at (offered_count lane post.at post.actor))

  -- at most as many as there are
  pub taken_most : (es : List Entry) (lane i at : ℕ) (actor : Actor) → is_on lane actor ≡ true →
      length (taken_of actor (part_of i es) (offers_of s i at actor)) ≤ slice_index s.lanes lane - at
  taken_most es lane i at actor on =
      let count : ℕ = offered_count lane at actor in
      let offers : List Offer = batched s.batch (key_first i) 0 0 [] (range_with_len at count) in
      let f : (k : ℕ) × (taken_of actor (part_of i es) offers ≡ take k offers) =
      taken_front actor (part_of i es) 0 offers
      (rises_batched s.batch (key_first i) 0 0 [] (range_with_len at count)) in
      let size : length offers ≡ count = sym (length-map offers (λ offer. offer.item))
      ∙ ap length (items_batched s.batch (key_first i) 0 0 [] (range_with_len at count))
      ∙ length-range_with_len at count in
      let quota : count ≤ slice_index s.lanes lane - at = quota_most actor.quota (slice_index s.lanes lane - at) in
      let few : length (take f.0 offers) ≤ length offers = length_take f.0 offers in
      let same : length (taken_of actor (part_of i es) (offers_of s i at actor)) ≡ length (take f.0 offers) =
      ap (λ o. length (taken_of actor (part_of i es) o)) (offers_on_lane lane i at actor on) ∙ ap length f.1 in
      omega arith

  -- and so packets of the lane alone
  pub taken_inside : (es : List Entry) (lane i item : ℕ) (post : Post) → is_on lane post.actor ≡ true →
      has_item item (taken_at s es i post) ≡ true → item < slice_index s.lanes lane
  taken_inside es lane i item post on took =
      let r : (post.at ≤ item) × (item < post.at + length (taken_at s es i post)) =
      has_in_range item post.at (length (taken_at s es i post)) (taken_at s es i post)
      (taken_in_row es lane i post on) took in
      let most : length (taken_at s es i post) ≤ slice_index s.lanes lane - post.at =
      taken_most es lane i post.at post.actor on in
      omega arith
