-- What was taken of each lane is a front, and what is left is the rest.
use Rattle.std.proofs.Common.{◌≡◌, ◌⊎◌, inl, inr, ℕ, suc, zero, ◌+◌, ◌-◌, ◌<◌, ◌≤◌, Bool, true, false, cond, Some, option_map, List, [], ◌∷◌, ◌++◌, length, map, slice_get, slice_index, refl, ap, ◌∙◌, subst, zero-add, suc-add, arith}
use Rattle.std.specs.List.{range_with_len}
use Rattle.std.proofs.lemmas.Bool.{cases_lt, and_from}
use Rattle.std.proofs.lemmas.List.{length-map}
use Rattle.std.proofs.lemmas.Option.{slice_get-map}
use Rattle.slnf_base.specs.declared.packets.Verdict.{Verdict}
use Rattle.slnf_base.specs.declared.packets.Verdict.TheVariants.{Emit, Dropped, Lost, Left}
use Rattle.slnf_access.specs.declared.requests.Entry.{Entry}
use Rattle.slnf_run.specs.Setting.{Actor, Era, Setting, is_on}
use Rattle.slnf_run.specs.Parts.{part_of, offers_of, taken_of, at_lane, taken_on, places_after, Post, posts_from, posts_of, taken_at}
use Rattle.slnf_run.specs.Verdicts.{verdict_of, verdicts_from, is_left, left_of, left_in}
use Rattle.slnf_run.specs.Run.{IsRun}
use Rattle.slnf_run.specs.OneBox.{HasLanesOnce, IsSound, Took, come_after, come_in_all, behind_from, IsFront}
use Rattle.slnf_run.proofs.OfferRows.{has_item, range_has_item}
use Rattle.slnf_run.proofs.LanePosts.{post_of, slice_get_either, slice_get_of_map, at_of_lane, taken_least}
use Rattle.slnf_run.proofs.TakenRows.{taken_in_row, taken_most}
use Rattle.slnf_run.proofs.OneBoxOfRun.{IsTaker, taker, left_of_nobody, nobody_left}

-- an element of a front, and of a back
append_left : {X : Type 0} (xs ys : List X) (k : ℕ) (x : X) → slice_get xs k ≡ Some x → slice_get (xs ++ ys) k
    ≡ Some x
append_left [] ys k x h = absurd (cc)
append_left (y ∷ xs) ys zero x h = h
append_left (y ∷ xs) ys (suc k) x h = append_left xs ys k x h

append_right : {X : Type 0} (xs ys : List X) (k : ℕ) → slice_get (xs ++ ys) (length xs + k) ≡ slice_get ys k
append_right [] ys k = rw zero-add
append_right (x ∷ xs) ys k = rw suc-add (append_right xs ys k)

not_left : (v : Verdict) → (v ≡ Left → ⊥) → is_left v ≡ false
not_left (Emit change) h = refl
not_left (Dropped reason) h = refl
not_left Lost h = refl
not_left Left h = absurd (h refl)

counted_next : (b : Bool) (front a n rest : ℕ) → rest ≡ n - (front - (a + 1)) → ((a < front) × (b ≡ false))
    ⊎ ((front ≤ a) × (b ≡ true)) → cond b 1 0 + rest ≡ suc n - (front - a)
counted_next true front a n rest r (inl before) = let no : true ≡ false = before.1 in cc
counted_next true front a n rest r (inr behind) = let l : front ≤ a = behind.0 in omega arith
counted_next false front a n rest r (inl before) = let l : a < front = before.0 in omega arith
counted_next false front a n rest r (inr behind) = let no : false ≡ true = behind.1 in cc

module _ {F A : Type 0} (s : Setting F A) (es : List Entry) where
  abbrev took_there : ℕ → (ℕ → ℕ) → Actor → ℕ
  took_there i places actor = length (taken_of actor (part_of i es) (offers_of s i (at_lane places actor) actor))

  -- no actor on a lane takes of it
  taken_on_none : (lane : ℕ) (places : ℕ → ℕ) (actors : List Actor) (i : ℕ) →
      ((k : ℕ) (b : Actor) → slice_get actors k ≡ Some b → is_on lane b ≡ true → ⊥) →
      taken_on s es i places lane actors ≡ 0
  taken_on_none lane places [] i none = refl
  taken_on_none lane places (a ∷ actors) i none =
      go (is_on lane a) refl (taken_on_none lane places actors (i + 1) (λ k b h on. none (suc k) b h on))
    where
      go : (c : Bool) → is_on lane a ≡ c → taken_on s es (i + 1) places lane actors ≡ 0 →
          cond c (took_there i places a) 0 + taken_on s es (i + 1) places lane actors ≡ 0
      go true w r = absurd (none 0 a refl w)
      go false w r = omega arith

  -- An actor of these that is on the lane, and takes what they take of it.
  record IsSole (lane : ℕ) (places : ℕ → ℕ) (actors : List Actor) (i : ℕ) : Type 0 where
    k : ℕ
    actor : Actor
    at : slice_get actors k ≡ Some actor
    on : is_on lane actor ≡ true
    takes : taken_on s es i places lane actors ≡ took_there (i + k) places actor

  sole : (lane : ℕ) (places : ℕ → ℕ) (actors : List Actor) (i : ℕ) → HasLanesOnce actors →
      (taken_on s es i places lane actors ≡ 0) ⊎ IsSole lane places actors i
  sole lane places [] i once = inl refl
  sole lane places (a ∷ actors) i once =
      go (is_on lane a) refl (sole lane places actors (i + 1) (λ lane k l x y h g on_x on_y. let q : suc k ≡ suc l =
      once lane (suc k) (suc l) x y h g on_x on_y in omega arith))
    where
      lone : is_on lane a ≡ true → taken_on s es (i + 1) places lane actors ≡ 0
      lone w = taken_on_none lane places actors (i + 1) (λ k b h on. let q : 0 ≡ suc k =
          once lane 0 (suc k) a b refl h w on in omega arith)

      first : (c : Bool) → is_on lane a ≡ c → c ≡ true →
          cond c (took_there i places a) 0 + taken_on s es (i + 1) places lane actors ≡ took_there (i + 0) places a
      first true w t =
          let z : taken_on s es (i + 1) places lane actors ≡ 0 = lone w in
          let q : i + 0 ≡ i = omega arith in
          let r : took_there (i + 0) places a ≡ took_there i places a = ap (λ n. took_there n places a) q in
          omega arith
      first false w t = cc

      rest : (c : Bool) → is_on lane a ≡ c → c ≡ false →
          cond c (took_there i places a) 0 + taken_on s es (i + 1) places lane actors
          ≡ taken_on s es (i + 1) places lane actors
      rest true w t = cc
      rest false w t = omega arith

      go : (c : Bool) → is_on lane a ≡ c → (taken_on s es (i + 1) places lane actors ≡ 0)
          ⊎ IsSole lane places actors (i + 1) → (taken_on s es i places lane (a ∷ actors) ≡ 0)
          ⊎ IsSole lane places (a ∷ actors) i
      go true w r = inr (record { k = 0; actor = a; at = refl; on = w; takes = first (is_on lane a) refl w })
      go false w (inl none) = inl (rest (is_on lane a) refl w ∙ none)
      go false w (inr one) = inr (record {
        k = suc one.k;
        actor = one.actor;
        at = one.at;
        on = one.on;
        takes = rest (is_on lane a) refl w ∙ one.takes
            ∙ (let q : i + 1 + one.k ≡ i + suc one.k = omega arith in ap (λ n. took_there n places one.actor) q);
      })

  come_grows : (lane : ℕ) (eras : List Era) (base : ℕ) (places : ℕ → ℕ) →
      places lane ≤ come_after s es base places eras lane
  come_grows lane [] base places = omega arith
  come_grows lane (era ∷ eras) base places =
      let r : places lane + taken_on s es base places lane era.actors ≤ come_after s es (base + length era.actors)
      (places_after s es base places era) eras lane =
      come_grows lane eras (base + length era.actors) (places_after s es base places era) in
      omega arith

  -- no incarnation took more than its lane has come
  taken_within : (lane : ℕ) (eras : List Era) (number base : ℕ) (places : ℕ → ℕ) (k : ℕ) (post : Post) →
      slice_get (posts_from s es number base places eras) k ≡ Some post → is_on lane post.actor ≡ true →
      post.at + length (taken_at s es (base + k) post) ≤ come_after s es base places eras lane
  taken_within lane [] number base places k post h on = cc
  taken_within lane (era ∷ eras) number base places k post h on =
      elim (slice_get_either (map (post_of number places) era.actors)
      (posts_from s es (number + 1) (base + length era.actors) (places_after s es base places era) eras) k post h) [
        | inl here ↦
            let r = slice_get_of_map (post_of number places) era.actors k post here in
            let on_r : is_on lane r.0 ≡ true = ap (λ (p : Post). is_on lane p.actor) r.2 ∙ on in
            let at : at_lane places r.0 ≡ places lane = at_of_lane places lane r.0 on_r in
            let most : took_there (base + k) places r.0 ≤ taken_on s es base places lane era.actors =
            taken_least s es lane places era.actors base k r.0 r.1 on_r in
            let far : places lane + taken_on s es base places lane era.actors ≤ come_after s es base places
            (era ∷ eras) lane = come_grows lane eras (base + length era.actors)
            (places_after s es base places era) in
            subst (λ (p : Post). p.at + length (taken_at s es (base + k) p) ≤ come_after s es base places
            (era ∷ eras) lane) r.2 (let z : at_lane places r.0 + took_there
            (base + k) places r.0 ≤ come_after s es base places (era ∷ eras) lane = omega arith in z)
        | inr there ↦
            let size : length (map (post_of number places) era.actors) ≡ length era.actors =
            length-map era.actors (post_of number places) in
            let k_at : k ≡ length (map (post_of number places) era.actors) + there.0 = there.1 in
            let q : base + length era.actors + there.0 ≡ base + k = omega arith in
            subst (λ n. post.at + length (taken_at s es n post) ≤ come_after s es base places (era ∷ eras) lane) q
            (taken_within lane eras (number + 1) (base + length era.actors)
            (places_after s es base places era) there.0 post there.2 on)
      ]

  -- A post on the lane whose incarnation took the packet.
  record IsPosted (lane packet base : ℕ) (posts : List Post) : Type 0 where
    k : ℕ
    post : Post
    at : slice_get posts k ≡ Some post
    on : is_on lane post.actor ≡ true
    from : post.at ≤ packet
    upto : packet < post.at + length (taken_at s es (base + k) post)

  -- each packet of the front was taken
  front_taken : (lane packet : ℕ) (eras : List Era) (number base : ℕ) (places : ℕ → ℕ) →
      ((n : ℕ) (era : Era) → slice_get eras n ≡ Some era → HasLanesOnce era.actors) → places lane ≤ packet →
      packet < come_after s es base places eras lane →
      IsPosted lane packet base (posts_from s es number base places eras)
  front_taken lane packet [] number base places once low high = absurd (omega arith)
  front_taken lane packet (era ∷ eras) number base places once low high =
      elim (cases_lt packet (places lane + taken_on s es base places lane era.actors)) [
        | inl here ↦ elim (sole lane places era.actors base (once 0 era refl)) [
          | inl none ↦ absurd (omega arith)
          | inr one ↦
              let at : at_lane places one.actor ≡ places lane = at_of_lane places lane one.actor one.on in
              let t : taken_on s es base places lane era.actors ≡ took_there (base + one.k) places one.actor =
              one.takes in
              record {
                k = one.k;
                post = post_of number places one.actor;
                at = append_left (map (post_of number places) era.actors)
                    (posts_from s es (number + 1) (base + length era.actors) (places_after s es base places era) eras)
                    one.k (post_of number places one.actor)
                    (slice_get-map (post_of number places) era.actors one.k
                    ∙ ap (option_map (post_of number places)) one.at);
                on = one.on;
                from = (let z : at_lane places one.actor ≤ packet = omega arith in z);
                upto = (let z : packet < at_lane places one.actor + took_there (base + one.k) places one.actor =
                    omega arith in z);
              }
        ]
        | inr further ↦
            let r : IsPosted lane packet (base + length era.actors)
            (posts_from s es (number + 1) (base + length era.actors) (places_after s es base places era) eras) =
            front_taken lane packet eras (number + 1) (base + length era.actors) (places_after s es base places era)
            (λ n e at. once (suc n) e at) further high in
            let size : length (map (post_of number places) era.actors) ≡ length era.actors =
            length-map era.actors (post_of number places) in
            let q : base + length era.actors + r.k ≡ base + (length (map (post_of number places) era.actors) + r.k) =
            omega arith in
            record {
              k = length (map (post_of number places) era.actors) + r.k;
              post = r.post;
              at = append_right (map (post_of number places) era.actors)
                  (posts_from s es (number + 1) (base + length era.actors) (places_after s es base places era) eras)
                  r.k ∙ r.at;
              on = r.on;
              from = r.from;
              upto = subst (λ n. packet < r.post.at + length (taken_at s es n r.post)) q r.upto;
            }
      ]

  -- an actor on a lane takes no more than there is
  took_most : (lane i : ℕ) (places : ℕ → ℕ) (actor : Actor) → is_on lane actor ≡ true →
      took_there i places actor ≤ slice_index s.lanes lane - places lane
  took_most lane i places actor on =
      let place : at_lane places actor ≡ places lane = at_of_lane places lane actor on in
      let most : took_there i places actor ≤ slice_index s.lanes lane - at_lane places actor =
      taken_most s es lane i (at_lane places actor) actor on in
      omega arith

  come_within : (lane : ℕ) (eras : List Era) (base : ℕ) (places : ℕ → ℕ) →
      ((n : ℕ) (era : Era) → slice_get eras n ≡ Some era → HasLanesOnce era.actors) →
      places lane ≤ slice_index s.lanes lane → come_after s es base places eras lane ≤ slice_index s.lanes lane
  come_within lane [] base places once low = low
  come_within lane (era ∷ eras) base places once low =
      come_within lane eras (base + length era.actors) (places_after s es base places era)
      (λ n e at. once (suc n) e at)
      (elim (sole lane places era.actors base (once 0 era refl)) [
        | inl none ↦ (let z : places lane + taken_on s es base places lane era.actors ≤ slice_index s.lanes lane =
            omega arith in z)
        | inr one ↦
            let t : taken_on s es base places lane era.actors ≡ took_there (base + one.k) places one.actor =
            one.takes in
            let most : took_there (base + one.k) places one.actor ≤ slice_index s.lanes lane - places lane =
            took_most lane (base + one.k) places one.actor one.on in
            let z : places lane + taken_on s es base places lane era.actors ≤ slice_index s.lanes lane =
            omega arith in
            z
      ])

  pub in_front : (lane number i : ℕ) → Took s es lane number i → number < come_in_all s es lane
  in_front lane number i h =
      let p : IsTaker s es lane number i = taker s es lane number i h in
      let most : p.post.at + length (taken_at s es i p.post) ≤ come_in_all s es lane =
      subst (λ n. p.post.at + length (taken_at s es n p.post) ≤ come_in_all s es lane) (zero-add i)
      (taken_within lane s.eras 0 0 (λ lane. 0) i p.post p.posted p.on) in
      let upto : number < p.post.at + length (taken_at s es i p.post) = p.upto in
      omega arith

  pub front_of : IsSound s → (lane number : ℕ) → number < come_in_all s es lane → (i : ℕ) × Took s es lane number i
  front_of sound lane number h =
      let r : IsPosted lane number 0 (posts_of s es) =
      front_taken lane number s.eras 0 0 (λ lane. 0) sound.lanes_once (omega arith) h in
      let upto : number < r.post.at + length (taken_at s es r.k r.post) =
      subst (λ n. number < r.post.at + length (taken_at s es n r.post)) (zero-add r.k) r.upto in (
        r.k,
        (
          r.post,
          r.at,
          and_from (is_on lane r.post.actor) (has_item number (taken_at s es r.k r.post)) r.on
              (range_has_item number r.post.at (length (taken_at s es r.k r.post)) (taken_at s es r.k r.post)
              (taken_in_row s es lane r.k r.post r.on) r.from upto),
        ),
      )

module _ {F A : Type 0} (s : Setting F A) (j : List Entry) (sound : IsSound s) (run : IsRun s j) where
  is_left_of : (lane number : ℕ) → ((number < come_in_all s j lane) × (is_left (verdict_of s j lane number) ≡ false))
      ⊎ ((come_in_all s j lane ≤ number) × (is_left (verdict_of s j lane number) ≡ true))
  is_left_of lane number = elim (cases_lt number (come_in_all s j lane)) [
    | inl before ↦
        let r : (i : ℕ) × Took s j lane number i = front_of s j sound lane number before in
        inl (before, not_left (verdict_of s j lane number) (λ h. nobody_left s j sound run lane number h r.0 r.1))
    | inr behind ↦
        inr (
          behind,
          ap is_left (left_of_nobody s j lane number (λ i h. let l : number < come_in_all s j lane =
              in_front s j lane number i h in omega arith)),
        )
  ]

  left_counted : (lane a n : ℕ) → left_of (map (verdict_of s j lane) (range_with_len a n))
      ≡ n - (come_in_all s j lane - a)
  left_counted lane a zero = omega arith
  left_counted lane a (suc n) =
      counted_next (is_left (verdict_of s j lane a)) (come_in_all s j lane) a n
      (left_of (map (verdict_of s j lane) (range_with_len (a + 1) n))) (left_counted lane (a + 1) n)
      (is_left_of lane a)

  left_from : (lane : ℕ) (counts : List ℕ) → left_in (verdicts_from s j lane counts) ≡ behind_from s j lane counts
  left_from lane [] = refl
  left_from lane (count ∷ counts) =
      let r : left_in (verdicts_from s j (lane + 1) counts) ≡ behind_from s j (lane + 1) counts =
      left_from (lane + 1) counts in
      let q : left_of (map (verdict_of s j lane) (range_with_len 0 count)) ≡ count - (come_in_all s j lane - 0) =
      left_counted lane 0 count in
      omega arith

  -- What was taken of each lane is a front, and what is left is the rest.
  pub front : IsFront s j
  front = record {
    taken = in_front s j;
    all = front_of s j sound;
    within = λ lane. come_within s j lane s.eras 0 (λ lane. 0) sound.lanes_once (omega arith);
    left = left_from 0 s.lanes;
  }
