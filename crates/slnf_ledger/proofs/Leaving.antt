-- The verdicts of packets that an epoch's actors took, and of those behind them.
use Rattle.std.proofs.Common.{◌≡◌, inl, inr, ℕ, suc, zero, ◌+◌, ◌<◌, ◌≤◌, Bool, true, false, ◌&&◌, if◌then◌else◌, Some, None, List, [], ◌∷◌, ◌++◌, length, map, slice_get, refl, sym, ap, ◌∙◌, arith, append-nil, add-zero}
use Rattle.std.specs.List.{range_with_len}
use Rattle.std.proofs.lemmas.Bool.{cond-true, cond-false}
use Rattle.std.proofs.lemmas.List.{length-append}
use Rattle.std.proofs.lemmas.List.FromFn.{length-map-range_with_len}
use Rattle.std.proofs.lemmas.Option.{same_Some, slice_get_within}
use Rattle.slnf_base.specs.declared.packets.Verdict.{Verdict}
use Rattle.slnf_access.specs.declared.requests.Entry.{Entry}
use Rattle.slnf_run.specs.Setting.{Actor, Setting, is_on}
use Rattle.slnf_run.specs.Jobs.{Offer, verdict_in}
use Rattle.slnf_run.specs.Parts.{part_of, at_lane, taken_at, Post}
use Rattle.slnf_run.specs.Verdicts.{verdict_by, verdict_among, takes}
use Rattle.slnf_run.specs.OneBox.{HasLanesOnce}
use Rattle.slnf_run.proofs.OfferRows.{has_item, has_in_range, range_has_item}
use Rattle.slnf_run.proofs.TakenRows.{taken_in_row}
use Rattle.slnf_run.proofs.LanePosts.{on_lane, at_of_lane}
use Rattle.slnf_instance.specs.Ends.{verdicts_in}
use Rattle.slnf_ledger.proofs.Apart.{NoneOn, none_on, rest_once, none_rest, not_so, either_way}
use Rattle.slnf_ledger.proofs.Giving.{job_there, given_on}

-- the element at a place of a map over a range
mapped_at : {X : Type 0} (f : ℕ → X) (a n k : ℕ) (x : X) → slice_get (map f (range_with_len a n)) k ≡ Some x →
    x ≡ f (a + k)
mapped_at f a zero k x h = absurd (cc)
mapped_at f a (suc n) zero x h = let q : a + 0 ≡ a = omega arith in sym (same_Some (f a) x h) ∙ ap f (sym q)
mapped_at f a (suc n) (suc k) x h =
    let q : a + 1 + k ≡ a + suc k = omega arith in mapped_at f (a + 1) n k x h ∙ ap f q

and_both : (a b : Bool) → a ≡ true → b ≡ true → (a && b) ≡ true
and_both true b h k = k
and_both false b h k = absurd (cc)

and_first : (a b : Bool) → (a && b) ≡ true → a ≡ true
and_first true b h = refl
and_first false b h = absurd (cc)

and_second : (a b : Bool) → (a && b) ≡ true → b ≡ true
and_second true b h = h
and_second false b h = absurd (cc)

-- the post of an actor of the epoch with this number
abbrev pub post_at : ℕ → (ℕ → ℕ) → Actor → Post
post_at number places actor = record { actor = actor; era = number; at = at_lane places actor }

module _ {F A : Type 0} (s : Setting F A) (es : List Entry) (number : ℕ) (places : ℕ → ℕ) (lane : ℕ) where
  -- what an actor took, and the verdicts of these packets
  abbrev took : ℕ → Actor → List Offer
  took i actor = taken_at s es i (post_at number places actor)

  abbrev gives : ℕ → Actor → List Verdict
  gives i actor = verdicts_in (job_there s places i actor) (part_of i es)

  gives_count : (i : ℕ) (actor : Actor) → length (gives i actor) ≡ length (took i actor)
  gives_count i actor = length-map-range_with_len (verdict_in (job_there s places i actor) (part_of i es))
      (job_there s places i actor).at (length (took i actor))

  -- where it begins
  begins_there : (i : ℕ) (actor : Actor) → is_on lane actor ≡ true → (job_there s places i actor).at ≡ places lane
  begins_there i actor on =
      ap (λ o. elim o [ None ↦ 0 | Some l ↦ at_lane places actor ]) (on_lane lane actor on)
      ∙ at_of_lane places lane actor on

  -- it took its packets in a row
  takes_row : (i n : ℕ) (actor : Actor) → is_on lane actor ≡ true → n < length (gives i actor) →
      takes s es i (post_at number places actor) lane (places lane + n) ≡ true
  takes_row i n actor on l =
      let at : at_lane places actor ≡ places lane = at_of_lane places lane actor on in
      let count : length (gives i actor) ≡ length (took i actor) = gives_count i actor in
      and_both (is_on lane actor) (has_item (places lane + n) (took i actor)) on
      (range_has_item (places lane + n) (at_lane places actor) (length (took i actor)) (took i actor)
      (taken_in_row s es lane i (post_at number places actor) on) (omega arith) (omega arith))

  -- and none behind them
  takes_no_more : (i n : ℕ) (actor : Actor) → (is_on lane actor ≡ true → length (gives i actor) ≤ n) →
      takes s es i (post_at number places actor) lane (places lane + n) ≡ false
  takes_no_more i n actor most = not_so (takes s es i (post_at number places actor) lane (places lane + n))
      (λ h.
      let on : is_on lane actor ≡ true = and_first (is_on lane actor) (has_item (places lane + n) (took i actor)) h in
      let at : at_lane places actor ≡ places lane = at_of_lane places lane actor on in
      let count : length (gives i actor) ≡ length (took i actor) = gives_count i actor in
      let few : length (gives i actor) ≤ n = most on in
      let inside : (at_lane places actor ≤ places lane + n)
      × (places lane + n < at_lane places actor + length (took i actor)) =
      has_in_range (places lane + n) (at_lane places actor) (length (took i actor)) (took i actor)
      (taken_in_row s es lane i (post_at number places actor) on)
      (and_second (is_on lane actor) (has_item (places lane + n) (took i actor)) h) in
      let upto : places lane + n < at_lane places actor + length (took i actor) = inside.1 in
      omega arith)

  -- actors that aren't on the lane give nothing to it
  none_given : (i : ℕ) (actors : List Actor) → NoneOn lane actors → given_on s es places lane i actors ≡ []
  none_given i [] none = refl
  none_given i (actor ∷ actors) none =
      ap (λ l. l ++ given_on s es places lane (i + 1) actors)
      (cond-false (is_on lane actor) (gives i actor) [] (not_so (is_on lane actor) (none 0 actor refl)))
      ∙ none_given (i + 1) actors (none_rest lane actor actors none)

  -- a packet that one of the actors took has the verdict that it gives
  pub verdict_given : (n i : ℕ) (v : Verdict) (actors : List Actor) (rest : List Post) → HasLanesOnce actors →
      slice_get (given_on s es places lane i actors) n ≡ Some v →
      v ≡ verdict_among s es lane (places lane + n) i (map (post_at number places) actors ++ rest)
  verdict_given n i v [] rest once there = absurd (cc)
  verdict_given n i v (actor ∷ actors) rest once there =
      let post : Post = post_at number places actor in
      let k : ℕ = places lane + n in
      let others : Verdict = verdict_among s es lane k (i + 1) (map (post_at number places) actors ++ rest) in
      elim (either_way (is_on lane actor)) [
        | inl on ↦
            let alone : given_on s es places lane (i + 1) actors ≡ [] =
            none_given (i + 1) actors (none_on lane actor actors once on) in
            let given : given_on s es places lane i (actor ∷ actors) ≡ gives i actor =
            ap (λ l. l ++ given_on s es places lane (i + 1) actors) (cond-true (is_on lane actor) (gives i actor) [] on)
            ∙ (ap (λ l. gives i actor ++ l) alone ∙ append-nil (gives i actor)) in
            let own : slice_get (gives i actor) n ≡ Some v = ap (λ l. slice_get l n) (sym given) ∙ there in
            mapped_at (verdict_in (job_there s places i actor) (part_of i es)) (job_there s places i actor).at
            (length (took i actor)) n v own
            ∙ (ap (λ a. verdict_in (job_there s places i actor) (part_of i es) (a + n)) (begins_there i actor on)
            ∙ sym (cond-true (takes s es i post lane k) (verdict_by s es i post k) others
            (takes_row i n actor on (slice_get_within (gives i actor) n v own))))
        | inr off ↦
            let given : given_on s es places lane i (actor ∷ actors) ≡ given_on s es places lane (i + 1) actors =
            ap (λ l. l ++ given_on s es places lane (i + 1) actors)
            (cond-false (is_on lane actor) (gives i actor) [] off) in
            verdict_given n (i + 1) v actors rest (rest_once actor actors once)
            (ap (λ l. slice_get l n) (sym given) ∙ there)
            ∙ sym (cond-false (takes s es i post lane k) (verdict_by s es i post k) others
            (takes_no_more i n actor (λ on. absurd (cc))))
      ]

  -- a packet behind those that they took is none of theirs
  pub verdict_past : (n i : ℕ) (actors : List Actor) (rest : List Post) →
      length (given_on s es places lane i actors) ≤ n →
      verdict_among s es lane (places lane + n) i (map (post_at number places) actors ++ rest)
      ≡ verdict_among s es lane (places lane + n) (i + length actors) rest
  verdict_past n i [] rest l = ap (λ j. verdict_among s es lane (places lane + n) j rest) (sym (add-zero i))
  verdict_past n i (actor ∷ actors) rest l =
      let post : Post = post_at number places actor in
      let k : ℕ = places lane + n in
      let others : Verdict = verdict_among s es lane k (i + 1) (map (post_at number places) actors ++ rest) in
      let mine : List Verdict = if is_on lane actor then gives i actor else [] in
      let count : length (given_on s es places lane i (actor ∷ actors))
      ≡ length mine + length (given_on s es places lane (i + 1) actors) =
      length-append mine (given_on s es places lane (i + 1) actors) in
      let q : i + 1 + length actors ≡ i + suc (length actors) = omega arith in
      cond-false (takes s es i post lane k) (verdict_by s es i post k) others
      (takes_no_more i n actor (λ on.
      let own : length mine ≡ length (gives i actor) =
      ap length (cond-true (is_on lane actor) (gives i actor) [] on) in
      omega arith))
      ∙ (verdict_past n (i + 1) actors rest (omega arith)
      ∙ ap (λ j. verdict_among s es lane k j rest) q)
