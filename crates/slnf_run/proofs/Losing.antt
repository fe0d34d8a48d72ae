-- A taken packet that has come to no end is in the batch in hand of its stopped incarnation.
use Rattle.std.proofs.Common.{◌≡◌, inl, inr, ℕ, ◌+◌, ◌-◌, ◌≤◌, Bool, true, false, cond, ◌||◌, ◌==◌, nat_le, Option, Some, None, List, [], ◌∷◌, ◌++◌, length, take, filter, slice_get, refl, ap, sym, ◌∙◌, subst, arith}
use Rattle.std.proofs.Math.Seq.{take-append_seam}
use Rattle.std.specs.List.{range_with_len}
use Rattle.std.proofs.lemmas.Bool.{eqb-true, leb-true}
use Rattle.std.proofs.lemmas.Bool.Decides.{leb_tells}
use Rattle.std.proofs.lemmas.List.{length_push}
use Rattle.std.proofs.lemmas.Option.{same_Some}
use Rattle.slnf_access.specs.declared.requests.Entry.{Entry}
use Rattle.slnf_access.specs.Machines.{Flies, stand_after, HasEnded}
use Rattle.slnf_run.specs.Scene.{stand_of}
use Rattle.slnf_run.specs.Setting.{Setting, is_on}
use Rattle.slnf_run.specs.Parts.{part_of, of_item, Offer, batch_of, is_stopped, last_of, offers_until, Post, posts_of, offers_at, taken_at}
use Rattle.slnf_run.specs.Verdicts.{counted}
use Rattle.slnf_run.specs.Run.{IsOffered, EarlierEnded, IsDone, IsRun}
use Rattle.slnf_run.proofs.Runs.{own_in_part}
use Rattle.slnf_run.specs.OneBox.{WasInHand}
use Rattle.slnf_run.proofs.OfferRows.{has_item, Rises, rises_batched}
use Rattle.slnf_run.proofs.Parting.{IsSplit, split_of_part}
use Rattle.slnf_run.proofs.Taking.{all_ended_at, earlier_ended_at}
use Rattle.slnf_run.proofs.TakenRows.{key_first, offered_count, offers_on_lane}

-- an item among offers is offered
pub has_offered : (item : ℕ) (offers : List Offer) → has_item item offers ≡ true → IsOffered item offers
has_offered item [] h = cc
has_offered item (offer ∷ offers) h = go (offer.item == item) refl h (has_offered item offers)
  where
    go : (b : Bool) → (offer.item == item) ≡ b → (b || has_item item offers) ≡ true →
        (has_item item offers ≡ true → IsOffered item offers) → IsOffered item (offer ∷ offers)
    go true w h r = inl (eqb-true offer.item item w)
    go false w h r = inr (r h)

-- what is among some offers is among all
pub has_more : (item b : ℕ) (offers : List Offer) → has_item item (filter (λ offer. nat_le offer.batch b) offers) ≡ true →
    has_item item offers ≡ true
has_more item b [] h = cc
has_more item b (offer ∷ offers) h = go (nat_le offer.batch b) (offer.item == item) refl h (has_more item b offers)
  where
    rest : List Offer
    rest = filter (λ offer. nat_le offer.batch b) offers

    go : (c d : Bool) → (offer.item == item) ≡ d → has_item item (cond c (offer ∷ rest) rest) ≡ true →
        (has_item item rest ≡ true → has_item item offers ≡ true) → (d || has_item item offers) ≡ true
    go c true w h r = refl
    go true false w h r = r (ap (λ d. d || has_item item rest) (sym w) ∙ h)
    go false false w h r = r h

-- among offers up to a batch, the first is up to it
least_until : (n item b : ℕ) (offers : List Offer) → Rises n offers →
    has_item item (filter (λ offer. nat_le offer.batch b) offers) ≡ true → n ≤ b
least_until n item b [] h k = cc
least_until n item b (offer ∷ offers) h k = go (nat_le offer.batch b) refl k
    (least_until offer.batch item b offers h.1)
  where
    rest : List Offer
    rest = filter (λ offer. nat_le offer.batch b) offers

    go : (c : Bool) → nat_le offer.batch b ≡ c → has_item item (cond c (offer ∷ rest) rest) ≡ true →
        (has_item item rest ≡ true → offer.batch ≤ b) → n ≤ b
    go true w k r = let l : n ≤ offer.batch = h.0 in let m : offer.batch ≤ b = leb-true offer.batch b w in omega arith
    go false w k r = let l : n ≤ offer.batch = h.0 in let m : offer.batch ≤ b = r k in omega arith

-- an item among offers up to a batch is of no later one
pub batch_until : (n item b : ℕ) (offers : List Offer) → Rises n offers →
    has_item item (filter (λ offer. nat_le offer.batch b) offers) ≡ true → batch_of item offers ≤ b
batch_until n item b [] h k = cc
batch_until n item b (offer ∷ offers) h k =
    go (offer.item == item) refl (nat_le offer.batch b) refl k (least_until offer.batch item b offers h.1)
    (batch_until offer.batch item b offers h.1)
  where
    rest : List Offer
    rest = filter (λ offer. nat_le offer.batch b) offers

    go : (c : Bool) → (offer.item == item) ≡ c → (d : Bool) → nat_le offer.batch b ≡ d →
        has_item item (cond d (offer ∷ rest) rest) ≡ true → (has_item item rest ≡ true → offer.batch ≤ b) →
        (has_item item rest ≡ true → batch_of item offers ≤ b) → cond c offer.batch (batch_of item offers) ≤ b
    go true w true v k l r = leb-true offer.batch b v
    go true w false v k l r = l k
    go false w true v k l r = r (ap (λ d. d || has_item item rest) (sym w) ∙ k)
    go false w false v k l r = r k

last_split : (part : List Entry) (l : Entry) → last_of part ≡ Some l → (front : List Entry) × (part ≡ front ++ l ∷ [])
last_split [] l h = absurd (cc)
last_split (e ∷ []) l h = ([], ap (λ x. x ∷ []) (same_Some e l h))
last_split (e ∷ f ∷ es) l h =
    let r : (front : List Entry) × (f ∷ es ≡ front ++ l ∷ []) = last_split (f ∷ es) l h in
    (e ∷ r.0, ap (λ xs. e ∷ xs) r.1)

module _ {F A : Type 0} (s : Setting F A) (j : List Entry) (run : IsRun s j) where
  -- a taken packet that flies at the end is its stopped instance's
  flies_stopped : (i k : ℕ) (post : Post) (f : F) → slice_get (posts_of s j) i ≡ Some post →
      has_item k (taken_at s j i post) ≡ true → stand_after (s.scene.machine i) (s.scene.begins i k)
      (of_item k (counted (is_stopped post.actor (part_of i j)) (part_of i j))) ≡ Flies f →
      is_stopped post.actor (part_of i j) ≡ true
  flies_stopped i k post f posted took flies = go (is_stopped post.actor (part_of i j)) refl took flies
      (run.done i post posted)
    where
      go : (b : Bool) → is_stopped post.actor (part_of i j) ≡ b →
          has_item k (cond b (offers_until (last_of (part_of i j)) (offers_at s i post)) (offers_at s i post))
          ≡ true → stand_after (s.scene.machine i) (s.scene.begins i k) (of_item k (counted b (part_of i j)))
          ≡ Flies f → IsDone s j i post → b ≡ true
      go true w took flies done = refl
      go false w took flies (inl stopped) = sym w ∙ stopped
      go false w took flies (inr done) =
          let ended : HasEnded (stand_of s.scene i k j) = all_ended_at s i j k (offers_at s i post) done.1 took in
          let now : stand_of s.scene i k j ≡ Flies f =
          ap (stand_after (s.scene.machine i) (s.scene.begins i k)) (sym (own_in_part i k j)) ∙ flies in
          absurd (subst HasEnded now ended)

  -- a packet in whose batch the last entry isn't has ended before that
  flies_late : (i k : ℕ) (post : Post) (f : F) (l : Entry) (front : List Entry) → slice_get (posts_of s j) i
      ≡ Some post → IsOffered k (offers_at s i post) → part_of i j ≡ front ++ l ∷ [] →
      stand_after (s.scene.machine i) (s.scene.begins i k) (of_item k front) ≡ Flies f →
      batch_of l.item (offers_at s i post) ≤ batch_of k (offers_at s i post)
  flies_late i k post f l front posted offered split flies =
      let offers : List Offer = offers_at s i post in
      elim (leb_tells (batch_of l.item offers) (batch_of k offers)) [
        | inl at_most ↦ at_most.1
        | inr above ↦
            let w : IsSplit i j front l = split_of_part i j front [] l split in
            let earlier : EarlierEnded s i w.before (batch_of l.item offers) offers =
            subst (λ n. EarlierEnded s n w.before (batch_of l.item (offers_at s n post)) (offers_at s n post)) w.mine
            (run.by_batch w.before w.later l post w.whole (ap (slice_get (posts_of s j)) w.mine ∙ posted)) in
            let ended : HasEnded (stand_of s.scene i k w.before) =
            earlier_ended_at s i w.before (batch_of l.item offers) k offers earlier offered above.1 in
            let now : stand_of s.scene i k w.before ≡ Flies f =
            ap (stand_after (s.scene.machine i) (s.scene.begins i k)) (sym (own_in_part i k w.before)
            ∙ ap (of_item k) w.part) ∙ flies in
            absurd (subst HasEnded now ended)
      ]

  -- A taken packet that flies by the entries that count was in the hand of its stopped incarnation.
  pub lost_in_hand : (lane i k : ℕ) (post : Post) (f : F) → slice_get (posts_of s j) i ≡ Some post →
      is_on lane post.actor ≡ true → has_item k (taken_at s j i post) ≡ true →
      stand_after (s.scene.machine i) (s.scene.begins i k)
      (of_item k (counted (is_stopped post.actor (part_of i j)) (part_of i j))) ≡ Flies f → WasInHand s j i k
  lost_in_hand lane i k post f posted on took flies = go (last_of (part_of i j)) refl
    where
      offers : List Offer
      offers = offers_at s i post

      stopped : is_stopped post.actor (part_of i j) ≡ true
      stopped = flies_stopped i k post f posted took flies

      until : has_item k (offers_until (last_of (part_of i j)) offers) ≡ true
      until = subst (λ b. has_item k (cond b (offers_until (last_of (part_of i j)) offers) offers)
          ≡ true) stopped took

      by_front : stand_after (s.scene.machine i) (s.scene.begins i k)
          (of_item k (take (length (part_of i j) - 1) (part_of i j))) ≡ Flies f
      by_front = subst (λ b. stand_after (s.scene.machine i) (s.scene.begins i k)
          (of_item k (counted b (part_of i j))) ≡ Flies f) stopped flies

      rises : Rises 0 offers
      rises = subst (Rises 0) (sym (offers_on_lane s lane i post.at post.actor on))
          (rises_batched s.batch (key_first s i) 0 0 []
          (range_with_len post.at (offered_count s lane post.at post.actor)))

      go : (o : Option Entry) → last_of (part_of i j) ≡ o → WasInHand s j i k
      go None w = let no : false ≡ true = ap (λ o. has_item k (offers_until o offers)) (sym w) ∙ until in absurd (cc)
      go (Some l) w =
          let up : has_item k (filter (λ offer. nat_le offer.batch (batch_of l.item offers)) offers) ≡ true =
          ap (λ o. has_item k (offers_until o offers)) (sym w) ∙ until in
          let most : batch_of k offers ≤ batch_of l.item offers =
          batch_until 0 k (batch_of l.item offers) offers rises up in
          let r : (front : List Entry) × (part_of i j ≡ front ++ l ∷ []) = last_split (part_of i j) l w in
          let size : length (part_of i j) ≡ length r.0 + 1 = ap length r.1 ∙ length_push r.0 l in
          let n : length (part_of i j) - 1 ≡ length r.0 = omega arith in
          let counts : take (length (part_of i j) - 1) (part_of i j) ≡ r.0 = ap (λ n. take n (part_of i j)) n
          ∙ ap (take (length r.0)) r.1 ∙ take-append_seam r.0 (l ∷ []) in
          let least : batch_of l.item offers ≤ batch_of k offers =
          flies_late i k post f l r.0 posted (has_offered k offers (has_more k (batch_of l.item offers) offers up))
          r.1 (ap (λ xs. stand_after (s.scene.machine i) (s.scene.begins i k) (of_item k xs)) (sym counts)
          ∙ by_front) in
          record {
            post = post;
            posted = posted;
            stopped = stopped;
            last = l;
            at_last = w;
            batch =
                omega arith;
            under_way = subst HasEnded flies;
          }
