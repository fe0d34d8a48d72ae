-- A verdict that an item comes to was decided at an entry of its own.
use Rattle.std.proofs.Common.{◌≡◌, ◌⊎◌, inl, inr, ℕ, suc, ◌-◌, ◌<◌, append_assoc, eq-eqb, Bool, true, false, cond, ◌==◌, Option, Some, None, List, [], ◌∷◌, ◌++◌, length, take, drop, slice_get, refl, ap, sym, ◌∙◌, subst, subst₂, eqb-true, append-nil, take-append-drop}
use Rattle.std.proofs.Math.Seq.{take-append_seam}
use Rattle.std.specs.Option.{option_and_then}
use Rattle.std.proofs.lemmas.Bool.{and_parts}
use Rattle.std.proofs.lemmas.List.Elements.{filter-append}
use Rattle.std.proofs.lemmas.Option.{same_Some}
use Rattle.slnf_base.specs.declared.packets.Reason.{Reason}
use Rattle.slnf_base.specs.declared.packets.Verdict.TheVariants.{Dropped}
use Rattle.slnf_base.specs.declared.packets.Verdict.{Verdict}
use Rattle.slnf_access.specs.declared.requests.Entry.{Entry}
use Rattle.slnf_access.specs.Map.{key_of, CanReply, Cells, empty, map_after, IsLegalFrom}
use Rattle.slnf_access.specs.Machines.{Machine, Stand, Flies, Ends, stand_step, stand_after, IsPath, decided_at}
use Rattle.slnf_access.proofs.Laws.{can_reply_to, path-front}
use Rattle.slnf_run.specs.Scene.{Scene, is_of, own_of, stand_of}
use Rattle.slnf_run.specs.Visits.{Decision, newly, decided_by, decision_of, decision_at}
use Rattle.slnf_run.specs.Steady.{IsSteady}
use Rattle.slnf_run.specs.Setting.{Setting, is_on, actors_of}
use Rattle.slnf_run.specs.Parts.{part_of, of_item, is_stopped, Post, posts_of, taken_at}
use Rattle.slnf_run.specs.Verdicts.{counted, verdict_at, verdict_by}
use Rattle.slnf_run.specs.Run.{IsRun}
use Rattle.slnf_run.proofs.Splits.{IsSplit, split_at, slice_get-split}
use Rattle.slnf_run.proofs.DecidedOnce.{IsDecision, is_decision, stand_of-own, steady_step}
use Rattle.slnf_run.proofs.NextAccess.{stand_after-ended}
use Rattle.slnf_run.proofs.Counting.{prefix_induction}
use Rattle.slnf_run.proofs.Runs.{own_in_part, paths_of_run, counted_ended}
use Rattle.slnf_run.specs.OneBox.{IsSound, EndsWell, CanMake, IsOn, IsGiven, IsDecided}
use Rattle.slnf_run.proofs.OfferRows.{has_item}
use Rattle.slnf_run.proofs.LanePosts.{actor_at}
use Rattle.slnf_run.proofs.Losing.{lost_in_hand}
use Rattle.slnf_run.proofs.TakenRows.{taken_inside}
use Rattle.slnf_run.proofs.Cuts.{whole_at}
use Rattle.slnf_access.proofs.Elements.{each-at, each-filter, each-front}
use Rattle.std.specs.List.{AllByRecursion}

-- the decision at an entry, by where its item stands
decision_of_entry : {F A : Type 0} (s : Scene F A) (es before later : List Entry) (e : Entry) → es ≡ before
    ++ e ∷ later → decision_at s es (length before)
    ≡ decision_of (s.begins e.incarnation e.item) (decided_by s before e)
decision_of_entry s es before later e split =
    ap (option_and_then (λ f. decision_of (s.begins f.incarnation f.item) (decided_by s (take (length before) es) f)))
    (ap (λ xs. slice_get xs (length before)) split ∙ slice_get-split before later e)
    ∙ ap (λ xs. decision_of (s.begins e.incarnation e.item) (decided_by s xs e)) (ap (take (length before)) split
    ∙ take-append_seam before (e ∷ later))

-- A verdict that an item comes to, and that wasn't decided at first, was decided at an entry of its own.
module _ {F A : Type 0} (s : Setting F A) (es : List Entry) (first : F) (steady : (i : ℕ) →
    IsSteady (s.scene.machine i)) where
  -- the item has no verdict yet, or it was decided at an entry
  abbrev Far : ℕ → ℕ → List Entry → Type 0
  Far i k xs = (decided_at (s.scene.machine i) (stand_of s.scene i k xs) ≡ None)
      ⊎ ((u : Verdict) × (d : ℕ) × (decided_at (s.scene.machine i) (stand_of s.scene i k xs) ≡ Some u)
      × IsDecided s es i k d (record { first = first; verdict = u }))

  far_own : (before later : List Entry) (e : Entry) → es ≡ before ++ e ∷ later → s.scene.begins e.incarnation e.item
      ≡ Flies first → Far e.incarnation e.item before → Far e.incarnation e.item (before ++ e ∷ [])
  far_own before later e split begins (inl none) =
      go (decided_at (s.scene.machine e.incarnation) (stand_of s.scene e.incarnation e.item (before ++ e ∷ []))) refl
    where
      go : (o : Option Verdict) → decided_at (s.scene.machine e.incarnation)
          (stand_of s.scene e.incarnation e.item (before ++ e ∷ [])) ≡ o → Far e.incarnation e.item (before ++ e ∷ [])
      go None w = inl w
      go (Some u) w =
          let m : Machine F = s.scene.machine e.incarnation in
          let st : Stand F = stand_of s.scene e.incarnation e.item before in
          let stepped : decided_at m (stand_step m st e) ≡ Some u =
          ap (decided_at m) (sym (stand_of-own s.scene before e)) ∙ w in
          let newly_so : decided_by s.scene before e ≡ Some u =
          ap (λ o. newly o (decided_at m (stand_step m st e))) none ∙ stepped in
          inr (
            u,
            length before,
            w,
            record {
              e = e;
              at = ap (λ xs. slice_get xs (length before)) split ∙ slice_get-split before later e;
              by = refl;
              of = refl;
              decided = decision_of_entry s.scene es before later e split
                  ∙ ap (λ st. decision_of st (decided_by s.scene before e)) begins
                  ∙ ap (decision_of (Flies first)) newly_so;
            },
          )
  far_own before later e split begins (inr r) =
      inr (
        r.0,
        r.1,
        ap (decided_at (s.scene.machine e.incarnation)) (stand_of-own s.scene before e)
            ∙ steady_step (s.scene.machine e.incarnation) (steady e.incarnation)
            (stand_of s.scene e.incarnation e.item before) e r.0 r.2,
        r.3,
      )

  far_same : (i k : ℕ) (xs ys : List Entry) → stand_of s.scene i k ys ≡ stand_of s.scene i k xs → Far i k xs →
      Far i k ys
  far_same i k xs ys same (inl h) = inl (ap (decided_at (s.scene.machine i)) same ∙ h)
  far_same i k xs ys same (inr r) = inr (r.0, r.1, ap (decided_at (s.scene.machine i)) same ∙ r.2, r.3)

  far_step : (i k : ℕ) → s.scene.begins i k ≡ Flies first → (before later : List Entry) (e : Entry) → es ≡ before
      ++ e ∷ later → Far i k before → Far i k (before ++ e ∷ [])
  far_step i k begins before later e split far = go (is_of i k e) refl
    where
      go : (b : Bool) → is_of i k e ≡ b → Far i k (before ++ e ∷ [])
      go true w =
          let parts : ((e.incarnation == i) ≡ true) × ((e.item == k) ≡ true) =
          and_parts (e.incarnation == i) (e.item == k) w in
          subst₂ (λ a b. s.scene.begins a b ≡ Flies first → Far a b before → Far a b (before ++ e ∷ []))
          (eqb-true e.incarnation i parts.0) (eqb-true e.item k parts.1) (far_own before later e split) begins far
      go false w =
          let same : own_of i k (before ++ e ∷ []) ≡ own_of i k before = filter-append (is_of i k) before (e ∷ [])
          ∙ ap (λ b. own_of i k before ++ cond b (e ∷ []) []) w ∙ append-nil (own_of i k before) in
          far_same i k before (before ++ e ∷ []) (ap (stand_after (s.scene.machine i) (s.scene.begins i k)) same) far

  far_last : (i k : ℕ) (v : Verdict) → decided_at (s.scene.machine i) (stand_of s.scene i k es) ≡ Some v →
      Far i k es → (d : ℕ) × IsDecided s es i k d (record { first = first; verdict = v })
  far_last i k v now (inl h) = cc
  far_last i k v now (inr r) =
      let same : r.0 ≡ v = same_Some r.0 v (sym r.2 ∙ now) in
      (r.1, subst (λ u. IsDecided s es i k r.1 (record { first = first; verdict = u })) same r.3)

  pub was_decided_by : (i k : ℕ) (v : Verdict) → s.scene.begins i k ≡ Flies first → (s.scene.machine i).decided first
      ≡ None → decided_at (s.scene.machine i) (stand_of s.scene i k es) ≡ Some v → (d : ℕ)
      × IsDecided s es i k d (record { first = first; verdict = v })
  was_decided_by i k v begins unmade now =
      far_last i k v now (prefix_induction (λ xs. Far i k xs) es
      (inl (ap (decided_at (s.scene.machine i)) begins ∙ unmade)) (far_step i k begins))

-- each reply of a legal list is one that a store can give
can_reply : (cells : Cells) (es : List Entry) → IsLegalFrom cells es →
    AllByRecursion (λ e. CanReply e.request e.reply) es
can_reply cells [] h = tt
can_reply cells (e ∷ es) h = (
  subst (CanReply e.request) (sym h.0) (can_reply_to e.request e.stamp (cells (key_of e.request))),
  can_reply (map_after cells (e ∷ [])) es h.1,
)

-- the entries that count are a front
counted_front : (stopped : Bool) (part : List Entry) → (rest : List Entry) × (part ≡ counted stopped part ++ rest)
counted_front false part = ([], sym (append-nil part))
counted_front true part = (drop (length part - 1) part, sym (take-append-drop (length part - 1) part))

-- What is written of a packet that an incarnation took.
module _ {F A : Type 0} (s : Setting F A) (j : List Entry) (sound : IsSound s) (run : IsRun s j) where
  -- an item can make the front of its entries
  can_front : (i k : ℕ) (own rest : List Entry) → own_of i k j ≡ own ++ rest →
      CanMake (s.scene.machine i) (s.scene.begins i k) own
  can_front i k own rest split = (
    path-front (s.scene.machine i) (s.scene.begins i k) own rest
        (subst (IsPath (s.scene.machine i) (s.scene.begins i k)) split (paths_of_run s j run i k)),
    each-front (λ e. CanReply e.request e.reply) own rest
        (subst (AllByRecursion (λ e. CanReply e.request e.reply)) split
        (each-filter (λ e. CanReply e.request e.reply) (is_of i k) j (can_reply empty j run.legal))),
  )

  -- each packet that is decided is of a lane
  pub decided_on_lane : (d : ℕ) (e : Entry) (decision : Decision F) → slice_get j d ≡ Some e → decision_at s.scene j d
      ≡ Some decision → (lane : ℕ) × IsOn s j lane e.incarnation
  decided_on_lane d e decision at decided = go (p.0.actor.lane) refl
    where
      w : (j ≡ take d j ++ e ∷ drop (suc d) j) × (length (take d j) ≡ d)
      w = whole_at j d e at

      p : (post : Post) × IsSplit (posts_of s j) e.incarnation post
      p = split_at (posts_of s j) e.incarnation (each-at (λ e. e.incarnation < length (posts_of s j)) (take d j)
          (drop (suc d) j) e (subst (AllByRecursion (λ e. e.incarnation < length (posts_of s j))) w.0 run.of_actors))

      actor : slice_get (actors_of s.eras) e.incarnation ≡ Some p.0.actor
      actor = actor_at s j e.incarnation p.0 p.1.at

      front : j ≡ (take d j ++ e ∷ []) ++ drop (suc d) j
      front = w.0 ∙ sym (append_assoc (take d j) (e ∷ []) (drop (suc d) j))

      can : CanMake (s.scene.machine e.incarnation) (s.scene.begins e.incarnation e.item)
          (own_of e.incarnation e.item (take d j ++ e ∷ []))
      can = can_front e.incarnation e.item (own_of e.incarnation e.item (take d j ++ e ∷ []))
          (own_of e.incarnation e.item (drop (suc d) j))
          (ap (own_of e.incarnation e.item) front ∙ filter-append (is_of e.incarnation e.item) (take d j ++ e ∷ [])
          (drop (suc d) j))

      now : decided_at (s.scene.machine e.incarnation) (stand_of s.scene e.incarnation e.item (take d j ++ e ∷ []))
          ≡ Some decision.verdict
      now =
          let r : (f : Entry) × IsDecision s.scene j d decision f = is_decision s.scene j d decision decided in
          let same : r.0 ≡ e = same_Some r.0 e (sym r.1.at ∙ at) in
          ap (decided_at (s.scene.machine e.incarnation)) (stand_of-own s.scene (take d j) e)
          ∙ subst (λ f. decided_at (s.scene.machine f.incarnation)
          (stand_step (s.scene.machine f.incarnation) (stand_of s.scene f.incarnation f.item (take d j)) f)
          ≡ Some decision.verdict) same r.1.after

      go : (o : Option ℕ) → p.0.actor.lane ≡ o → (lane : ℕ) × IsOn s j lane e.incarnation
      go None none = let no : decided_at (s.scene.machine e.incarnation)
          (stand_of s.scene e.incarnation e.item (take d j ++ e ∷ [])) ≡ None =
          sound.sweeps e.incarnation e.item p.0.actor
          (own_of e.incarnation e.item (take d j ++ e ∷ [])) actor none can in
          let clash : ◌≡◌ {A = Option Verdict} None (Some decision.verdict) = sym no ∙ now in absurd (cc)
      go (Some lane) on = (
        lane,
        (
          p.0,
          p.1.at,
          ap (λ o. elim o [ None ↦ false | Some own ↦ own == lane ]) on
              ∙ eq-eqb lane lane refl,
        ),
      )

  -- it began with it, it is lost with its instance, or it was decided
  pub given_by : (lane i k : ℕ) (post : Post) → slice_get (posts_of s j) i ≡ Some post → is_on lane post.actor
      ≡ true → has_item k (taken_at s j i post) ≡ true → IsGiven s j i k (verdict_by s j i post k)
  given_by lane i k post posted on took = go (s.scene.begins i k) refl
      (stand_after (s.scene.machine i) (s.scene.begins i k)
      (of_item k (counted (is_stopped post.actor (part_of i j)) (part_of i j)))) refl
    where
      part : List Entry
      part = counted (is_stopped post.actor (part_of i j)) (part_of i j)

      actor : slice_get (actors_of s.eras) i ≡ Some post.actor
      actor = actor_at s j i post posted

      can : CanMake (s.scene.machine i) (s.scene.begins i k) (of_item k part)
      can =
          let r : (rest : List Entry) × (part_of i j ≡ part ++ rest) =
          counted_front (is_stopped post.actor (part_of i j)) (part_of i j) in
          let whole : of_item k (part_of i j) ≡ of_item k part ++ of_item k r.0 = ap (of_item k) r.1
          ∙ filter-append (λ e. e.item == k) part r.0 in
          can_front i k (of_item k part) (of_item k r.0) (sym (own_in_part i k j) ∙ whole)

      well : EndsWell (stand_after (s.scene.machine i) (s.scene.begins i k) (of_item k part))
      well = sound.ends_well i lane k post.actor (of_item k part) actor on
          (taken_inside s j lane i k post on took) can

      go : (st : Stand F) → s.scene.begins i k ≡ st → (now : Stand F) →
          stand_after (s.scene.machine i) (s.scene.begins i k) (of_item k part) ≡ now →
          IsGiven s j i k (verdict_at now)
      go st b (Flies f) w = inr (inl (refl, lost_in_hand s j run lane i k post f posted on took w))
      go st b (Ends None) w = absurd (subst EndsWell w well)
      go (Ends u) b (Ends (Some v)) w =
          let same : Ends u ≡ Ends (Some v) = sym (stand_after-ended (s.scene.machine i) u (of_item k part))
          ∙ ap (λ st. stand_after (s.scene.machine i) st (of_item k part)) (sym b) ∙ w in
          let r : (reason : Reason) × (v ≡ Dropped reason) =
          sound.begins_dropped i lane k post.actor v actor on (taken_inside s j lane i k post on took) (b
          ∙ same) in
          inl (r.0, b ∙ same ∙ ap (λ v. Ends (Some v)) r.1, r.1)
      go (Flies first) b (Ends (Some v)) w =
          let whole : stand_of s.scene i k j ≡ Ends (Some v) =
          ap (stand_after (s.scene.machine i) (s.scene.begins i k)) (sym (own_in_part i k j))
          ∙ counted_ended (s.scene.machine i) (s.scene.begins i k) k (is_stopped post.actor (part_of i j))
          (part_of i j) (Some v) w in
          let r = was_decided_by s j first sound.steady i k v b (sound.undecided i k first b)
          (ap (decided_at (s.scene.machine i)) whole) in
          inr (inr (
            r.0,
            record { first = first; verdict = v },
            r.1,
            refl,
            subst EndsWell w well,
            record { post = post; posted = posted; comes = w },
          ))
