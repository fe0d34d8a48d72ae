-- One box explains each run of a sound setting, if it explains its list.
use Rattle.std.proofs.Common.{◌≡◌, ◌↔◌, ◌⊎◌, inl, inr, ℕ, suc, zero, ◌+◌, ◌<◌, ◌≤◌, Bool, true, false, cond, Some, None, List, [], ◌∷◌, length, take, drop, slice_get, refl, ap, sym, ◌∙◌, subst, zero-add, add-zero, arith}
use Rattle.std.proofs.lemmas.Bool.{and_parts, and_from}
use Rattle.std.proofs.lemmas.Option.{same_Some}
use Rattle.slnf_base.specs.declared.packets.Verdict.TheVariants.{Dropped, Lost, Left}
use Rattle.slnf_access.specs.declared.requests.Entry.{Entry}
use Rattle.slnf_access.specs.Map.{Cells}
use Rattle.slnf_access.specs.Machines.{Stand, Flies, Ends, HasEnded}
use Rattle.slnf_run.specs.Boxes.{Box, IsExplained}
use Rattle.slnf_run.specs.Visits.{Decision, decision_at}
use Rattle.slnf_run.specs.Setting.{Setting, is_on}
use Rattle.slnf_run.specs.Parts.{Post, posts_of, taken_at}
use Rattle.slnf_run.specs.Verdicts.{verdict_at, stand_by, takes, verdict_by, verdict_among, verdict_of}
use Rattle.slnf_run.specs.Run.{IsRun}
use Rattle.slnf_run.specs.OneBox.{IsAnswer, IsSound, IsOn, Took, NobodyTook, WasInHand, IsGiven, IsTold, IsOneBox, HasCome}
use Rattle.slnf_run.proofs.Offering.{IsOffering, offering_of_run}
use Rattle.slnf_run.proofs.OfferRows.{has_item, has_in_range}
use Rattle.slnf_run.proofs.Taking.{entry_taken}
use Rattle.slnf_run.proofs.LanePosts.{IsBefore, apart}
use Rattle.slnf_run.proofs.Cuts.{whole_at}
use Rattle.slnf_run.proofs.TakenRows.{taken_in_row}
use Rattle.slnf_run.proofs.CameTo.{given_by, decided_on_lane}
use Rattle.slnf_base.specs.declared.packets.Verdict.{Verdict}

module _ {F A : Type 0} (s : Setting F A) (es : List Entry) where
  -- What it is that an incarnation took a packet.
  pub record IsTaker (lane number i : ℕ) : Type 0 where
    pub post : Post
    pub posted : slice_get (posts_of s es) i ≡ Some post
    pub on : is_on lane post.actor ≡ true
    pub took : has_item number (taken_at s es i post) ≡ true
    pub from : post.at ≤ number
    pub upto : number < post.at + length (taken_at s es i post)

  pub taker : (lane number i : ℕ) → Took s es lane number i → IsTaker lane number i
  taker lane number i h =
      let parts : (is_on lane h.0.actor ≡ true) × (has_item number (taken_at s es i h.0) ≡ true) =
      and_parts (is_on lane h.0.actor) (has_item number (taken_at s es i h.0)) h.2 in
      let range : (h.0.at ≤ number) × (number < h.0.at + length (taken_at s es i h.0)) =
      has_in_range number h.0.at (length (taken_at s es i h.0)) (taken_at s es i h.0)
      (taken_in_row s es lane i h.0 parts.0) parts.1 in
      record { post = h.0; posted = h.1; on = parts.0; took = parts.1; from = range.0; upto = range.1 }

  -- of an earlier incarnation the packets come first
  pub room_of : (i k : ℕ) (p q : Post) → IsBefore s es s.eras 0 i k p q → p.at + length (taken_at s es i p) ≤ q.at
  room_of i k p q h = subst (λ n. p.at + length (taken_at s es n p) ≤ q.at) (zero-add i) h.room

  -- no two incarnations took one packet
  pub one_taker : IsSound s → (lane number i k : ℕ) → Took s es lane number i → Took s es lane number k → i ≡ k
  one_taker sound lane number i k h g =
      let p : IsTaker lane number i = taker lane number i h in
      let q : IsTaker lane number k = taker lane number k g in
      let a : number < p.post.at + length (taken_at s es i p.post) = p.upto in
      let b : number < q.post.at + length (taken_at s es k q.post) = q.upto in
      let c : p.post.at ≤ number = p.from in
      let d : q.post.at ≤ number = q.from in
      elim (apart s es lane s.eras 0 0 (λ lane. 0) i k p.post q.post sound.lanes_once p.posted q.posted p.on q.on) [
        | inl same ↦ same
        | inr (inl before) ↦ let r : p.post.at + length (taken_at s es i p.post) ≤ q.post.at =
            room_of i k p.post q.post before in absurd (omega arith)
        | inr (inr before) ↦ let r : q.post.at + length (taken_at s es k q.post) ≤ p.post.at =
            room_of k i q.post p.post before in absurd (omega arith)
      ]

  -- a packet that none of these took is left
  among_none : (lane number base : ℕ) (posts : List Post) →
      ((k : ℕ) (post : Post) → slice_get posts k ≡ Some post → takes s es (base + k) post lane number ≡ true → ⊥) →
      verdict_among s es lane number base posts ≡ Left
  among_none lane number base [] none = refl
  among_none lane number base (post ∷ posts) none =
      go (takes s es base post lane number) refl
      (among_none lane number (base + 1) posts (λ k p h t.
      none (suc k) p h (let q : base + 1 + k ≡ base + suc k = omega arith in
      subst (λ n. takes s es n p lane number ≡ true) q t)))
    where
      go : (b : Bool) → takes s es base post lane number ≡ b → verdict_among s es lane number (base + 1) posts
          ≡ Left → cond b (verdict_by s es base post number) (verdict_among s es lane number (base + 1) posts) ≡ Left
      go true w r = absurd (none 0 post refl (subst (λ n. takes s es n post lane number ≡ true)
          (sym (add-zero base)) w))
      go false w r = r

  -- a packet that one of these alone took has the verdict by that one
  among_taker : (lane number base k : ℕ) (posts : List Post) (post : Post) → slice_get posts k ≡ Some post →
      takes s es (base + k) post lane number ≡ true →
      ((n : ℕ) (p : Post) → slice_get posts n ≡ Some p → takes s es (base + n) p lane number ≡ true → base + n
      ≡ base + k) → verdict_among s es lane number base posts ≡ verdict_by s es (base + k) post number
  among_taker lane number base k [] post at took only = cc
  among_taker lane number base zero (p ∷ posts) post at took only =
      let same : p ≡ post = same_Some p post at in
      subst (λ n. cond (takes s es base p lane number) (verdict_by s es base p number)
      (verdict_among s es lane number (base + 1) posts) ≡ verdict_by s es n post number) (sym (add-zero base))
      (ap (λ b. cond b (verdict_by s es base p number) (verdict_among s es lane number (base + 1) posts))
      (ap (λ p. takes s es base p lane number) same
      ∙ subst (λ n. takes s es n post lane number ≡ true) (add-zero base) took)
      ∙ ap (λ p. verdict_by s es base p number) same)
  among_taker lane number base (suc k) (p ∷ posts) post at took only =
      let q : base + 1 + k ≡ base + suc k = omega arith in
      go (takes s es base p lane number) refl
      (among_taker lane number (base + 1) k posts post at
      (subst (λ n. takes s es n post lane number ≡ true) (sym q) took)
      (λ n r h t.
      let m : base + 1 + n ≡ base + suc n = omega arith in
      let same : base + suc n ≡ base + suc k = only (suc n) r h
      (subst (λ n. takes s es n r lane number ≡ true) m t) in
      omega arith))
    where
      go : (b : Bool) → takes s es base p lane number ≡ b → verdict_among s es lane number (base + 1) posts
          ≡ verdict_by s es (base + 1 + k) post number →
          cond b (verdict_by s es base p number) (verdict_among s es lane number (base + 1) posts)
          ≡ verdict_by s es (base + suc k) post number
      go true w r =
          let same : base + 0 ≡ base + suc k = only 0 p refl
          (subst (λ n. takes s es n p lane number ≡ true) (sym (add-zero base)) w) in
          absurd (omega arith)
      go false w r = let q : base + 1 + k ≡ base + suc k = omega arith in r
          ∙ ap (λ n. verdict_by s es n post number) q

  pub left_of_nobody : (lane number : ℕ) → NobodyTook s es lane number → verdict_of s es lane number ≡ Left
  left_of_nobody lane number none =
      among_none lane number 0 (posts_of s es) (λ k p h t.
      none k (p, h, subst (λ n. takes s es n p lane number ≡ true) (zero-add k) t))

  pub verdict_of_taker : IsSound s → (lane number i : ℕ) → (h : Took s es lane number i) → verdict_of s es lane number
      ≡ verdict_by s es i h.0 number
  verdict_of_taker sound lane number i h =
      among_taker lane number 0 i (posts_of s es) h.0 h.1
      (subst (λ n. takes s es n h.0 lane number ≡ true) (sym (zero-add i)) h.2)
      (λ n p at t. ap (λ x. 0 + x) (one_taker sound lane number n i
      (p, at, subst (λ n. takes s es n p lane number ≡ true) (zero-add n) t) h))
      ∙ ap (λ n. verdict_by s es n h.0 number) (zero-add i)

  -- somebody took a packet, or nobody did
  found : (lane number base : ℕ) (posts : List Post) →
      ((k : ℕ) × (post : Post) × (slice_get posts k ≡ Some post) × (takes s es (base + k) post lane number ≡ true))
      ⊎ ((k : ℕ) (post : Post) → slice_get posts k ≡ Some post → takes s es (base + k) post lane number ≡ true → ⊥)
  found lane number base [] = inr (λ k post h t. let no : None ≡ Some post = h in cc)
  found lane number base (p ∷ posts) = go (takes s es base p lane number) refl (found lane number (base + 1) posts)
    where
      go : (b : Bool) → takes s es base p lane number ≡ b →
          (((k : ℕ) × (post : Post) × (slice_get posts k ≡ Some post)
          × (takes s es (base + 1 + k) post lane number ≡ true))
          ⊎ ((k : ℕ) (post : Post) → slice_get posts k ≡ Some post → takes s es (base + 1 + k) post lane number
          ≡ true → ⊥)) → ((k : ℕ) × (post : Post) × (slice_get (p ∷ posts) k ≡ Some post)
          × (takes s es (base + k) post lane number ≡ true))
          ⊎ ((k : ℕ) (post : Post) → slice_get (p ∷ posts) k ≡ Some post → takes s es (base + k) post lane number
          ≡ true → ⊥)
      go true w r = inl (0, p, refl, subst (λ n. takes s es n p lane number ≡ true) (sym (add-zero base)) w)
      go false w (inl r) = inl (
        suc r.0,
        r.1,
        r.2,
        (let q : base + 1 + r.0 ≡ base + suc r.0 = omega arith in
            subst (λ n. takes s es n r.1 lane number ≡ true) q r.3),
      )
      go false w (inr none) = inr all
        where
          all : (k : ℕ) (post : Post) → slice_get (p ∷ posts) k ≡ Some post → takes s es (base + k) post lane number
              ≡ true → ⊥
          all zero post h t =
              let same : p ≡ post = same_Some p post h in
              let yes_so : takes s es base p lane number ≡ true = ap (λ p. takes s es base p lane number) same
              ∙ subst (λ n. takes s es n post lane number ≡ true) (add-zero base) t in
              let no : false ≡ true = sym w ∙ yes_so in
              cc
          all (suc k) post h t = none k post h (let q : base + suc k ≡ base + 1 + k = omega arith in
              subst (λ n. takes s es n post lane number ≡ true) q t)

  pub took_or_not : (lane number : ℕ) → ((i : ℕ) × Took s es lane number i) ⊎ NobodyTook s es lane number
  took_or_not lane number = elim (found lane number 0 (posts_of s es)) [
    | inl r ↦ inl (r.0, (r.1, r.2, subst (λ n. takes s es n r.1 lane number ≡ true) (zero-add r.0) r.3))
    | inr none ↦ inr (λ i h. none i h.0 h.1 (subst (λ n. takes s es n h.0 lane number ≡ true) (sym (zero-add i)) h.2))
  ]

  pub taken_by_entry : IsOffering s es → (lane t : ℕ) (e : Entry) → slice_get es t ≡ Some e →
      IsOn s es lane e.incarnation → Took s es lane e.item e.incarnation
  taken_by_entry rules lane t e at on = (
    on.0,
    on.1,
    and_from (is_on lane on.0.actor) (has_item e.item (taken_at s es e.incarnation on.0)) on.2
        (entry_taken s es rules (take t es) (drop (suc t) es) e on.0 (whole_at es t e at).0 on.1),
  )

  pub decided_taken : IsSound s → IsRun s es → (d : ℕ) (e : Entry) (decision : Decision F) → slice_get es d ≡ Some e →
      decision_at s.scene es d ≡ Some decision → (lane : ℕ) × Took s es lane e.item e.incarnation
  decided_taken sound run d e decision at decided =
      let r : (lane : ℕ) × IsOn s es lane e.incarnation = decided_on_lane s es sound run d e decision at decided in
      (r.0, taken_by_entry (offering_of_run s es run) r.0 d e at r.1)

  pub given_to : IsSound s → IsRun s es → (lane number i : ℕ) → Took s es lane number i →
      IsGiven s es i number (verdict_of s es lane number)
  given_to sound run lane number i h =
      let p : IsTaker lane number i = taker lane number i h in
      let parts : (is_on lane h.0.actor ≡ true) × (has_item number (taken_at s es i h.0) ≡ true) =
      and_parts (is_on lane h.0.actor) (has_item number (taken_at s es i h.0)) h.2 in
      subst (IsGiven s es i number) (sym (verdict_of_taker sound lane number i h))
      (given_by s es sound run lane i number h.0 h.1 parts.0 parts.1)

  -- what is taken isn't left
  pub nobody_left : IsSound s → IsRun s es → (lane number : ℕ) → verdict_of s es lane number ≡ Left →
      NobodyTook s es lane number
  nobody_left sound run lane number left i h = go (given_to sound run lane number i h)
    where
      go : IsGiven s es i number (verdict_of s es lane number) → ⊥
      go (inl begins) = let no : Dropped begins.0 ≡ Left = sym begins.2 ∙ left in cc
      go (inr (inl lost)) = let no : Lost ≡ Left = sym lost.0 ∙ left in cc
      go (inr (inr placed)) = subst IsAnswer left placed.4

  -- an item that is under way where its incarnation is stopped is lost
  lost_by : (i k : ℕ) (post : Post) → (HasEnded (stand_by s es i post k) → ⊥) → verdict_by s es i post k ≡ Lost
  lost_by i k post under_way = go (stand_by s es i post k) under_way
    where
      go : (st : Stand F) → (HasEnded st → ⊥) → verdict_at st ≡ Lost
      go (Flies flight) under_way = refl
      go (Ends end) under_way = absurd (under_way tt)

  -- A taken packet is lost exactly where its stopped incarnation had it in hand and under way.
  pub lost_exactly : IsSound s → IsRun s es → (lane number i : ℕ) → Took s es lane number i →
      ((verdict_of s es lane number ≡ Lost) ↔ WasInHand s es i number)
  lost_exactly sound run lane number i h = (λ lost. there lost (given_to sound run lane number i h), back)
    where
      there : verdict_of s es lane number ≡ Lost → IsGiven s es i number (verdict_of s es lane number) →
          WasInHand s es i number
      there lost (inl begins) = let no : Dropped begins.0 ≡ Lost = sym begins.2 ∙ lost in cc
      there lost (inr (inl in_hand)) = in_hand.1
      there lost (inr (inr placed)) = absurd (subst IsAnswer lost placed.4)

      back : WasInHand s es i number → verdict_of s es lane number ≡ Lost
      back w =
          let same : w.post ≡ h.0 = same_Some w.post h.0 (sym w.posted ∙ h.1) in
          verdict_of_taker sound lane number i h ∙ lost_by i number h.0
          (subst (λ (post : Post). HasEnded (stand_by s es i post number) → ⊥) same w.under_way)

  -- a packet that has come to its verdict wasn't under way at its instance's stop
  pub come_or_under_way : (i k : ℕ) (v : Verdict) → HasCome s es i k v → WasInHand s es i k → ⊥
  come_or_under_way i k v come hand =
      let same : come.post ≡ hand.post = same_Some come.post hand.post (sym come.posted ∙ hand.posted) in
      let ended : stand_by s es i hand.post k ≡ Ends (Some v) = ap (λ p. stand_by s es i p k) (sym same)
      ∙ come.comes in
      hand.under_way (subst HasEnded (sym ended) tt)

-- What each run of a sound setting tells of its packets.
pub told : {F A : Type 0} (s : Setting F A) (j : List Entry) → IsSound s → IsRun s j → IsTold s j
told s j sound run = record {
  taken = decided_taken s j sound run;
  entries = taken_by_entry s j (offering_of_run s j run);
  one_taker = one_taker s j sound;
  left = left_of_nobody s j;
  left_alone = nobody_left s j sound run;
  given = given_to s j sound run;
  lost = lost_exactly s j sound run;
}

-- One box explains each run of a sound setting, if it explains its list.
pub one_box : {F A C : Type 0} (s : Setting F A) (box : Box A C) (Same : C → Cells → Type 0) (j : List Entry) →
    IsSound s → IsRun s j → IsExplained s.scene box Same j → IsOneBox s box Same j
one_box s box Same j sound run explained = record { explained = explained; told = told s j sound run }
