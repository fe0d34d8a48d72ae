-- Of two packets of a lane with one first key, all entries of the earlier stand before those of the later.
use Rattle.std.proofs.Common.{◌≡◌, inl, inr, ℕ, suc, zero, ◌+◌, ◌-◌, ◌<◌, ◌≤◌, Bool, true, false, cond, not, ◌&&◌, ◌||◌, ◌==◌, nat_lt, Option, Some, None, List, [], ◌∷◌, ◌++◌, length, take, drop, slice_get, refl, ap, sym, ◌∙◌, subst, append_assoc, eq-eqb, ne_eqb, arith}
use Rattle.std.proofs.Math.Nat.{eq-or-lt_of_le}
use Rattle.std.specs.List.{range_with_len}
use Rattle.std.proofs.lemmas.Bool.{cases_order, and_from}
use Rattle.std.proofs.lemmas.List.Elements.{filter-append}
use Rattle.std.proofs.lemmas.Option.{same_Some}
use Rattle.slnf_access.specs.declared.requests.Entry.{Entry}
use Rattle.slnf_access.specs.Map.{key_of, empty, map_after}
use Rattle.slnf_access.specs.Machines.{HasEnded}
use Rattle.slnf_run.specs.Scene.{is_of, own_of, stand_of}
use Rattle.slnf_run.specs.Setting.{Setting, is_on, era_of}
use Rattle.slnf_run.specs.Parts.{first_key_of, Offer, is_among, with_key, batched, batch_of, Post, posts_of, offers_at, taken_at}
use Rattle.slnf_run.specs.Visits.{Decision}
use Rattle.slnf_run.specs.Run.{IsRun, IsOffered, EarlierEnded}
use Rattle.slnf_run.specs.Keeps.{IsNext}
use Rattle.slnf_run.proofs.NextAccess.{is_next}
use Rattle.slnf_run.proofs.Runs.{paths_of_run}
use Rattle.slnf_run.specs.OneBox.{IsSound, IsOn, IsDecided, IsWithin, HasPlaces}
use Rattle.slnf_run.proofs.OfferRows.{has_item, Rises, items_batched, rises_batched, or_first, or_second, has_in_range, range_has_item}
use Rattle.slnf_run.proofs.Offering.{offering_of_run}
use Rattle.slnf_run.proofs.Taking.{offered_has, earlier_ended_at, nothing_behind, entry_offered}
use Rattle.slnf_run.proofs.LanePosts.{apart}
use Rattle.slnf_run.proofs.Cuts.{whole_at}
use Rattle.slnf_run.proofs.TakenRows.{key_first, offered_count, offers_on_lane}
use Rattle.slnf_run.proofs.OneBoxOfRun.{IsTaker, taker, room_of, taken_by_entry}

-- an item's batch is none before the first
batch_least : (n item : ℕ) (offers : List Offer) → Rises n offers → has_item item offers ≡ true →
    n ≤ batch_of item offers
batch_least n item [] h k = cc
batch_least n item (offer ∷ offers) h k = go (offer.item == item) k (batch_least offer.batch item offers h.1)
  where
    go : (b : Bool) → (b || has_item item offers) ≡ true →
        (has_item item offers ≡ true → offer.batch ≤ batch_of item offers) →
        n ≤ cond b offer.batch (batch_of item offers)
    go true k r = h.0
    go false k r = let l : n ≤ offer.batch = h.0 in let m : offer.batch ≤ batch_of item offers = r k in omega arith

-- batches of numbers in a row have each of them
batched_has : (limit : ℕ) (first : ℕ → Option ℕ) (number size : ℕ) (keys : List ℕ) (a n item : ℕ) → a ≤ item →
    item < a + n → has_item item (batched limit first number size keys (range_with_len a n)) ≡ true
batched_has limit first number size keys a n item h l =
    range_has_item item a n (batched limit first number size keys (range_with_len a n))
    (items_batched limit first number size keys (range_with_len a n)) h l

among_more : (key : ℕ) (more : Option ℕ) (keys : List ℕ) → is_among (Some key) keys ≡ true →
    is_among (Some key) (with_key more keys) ≡ true
among_more key None keys h = h
among_more key (Some other) keys h = or_second (other == key) (is_among (Some key) keys) h

among_itself : (key : ℕ) (keys : List ℕ) → is_among (Some key) (key ∷ keys) ≡ true
among_itself key keys = or_first (key == key) (is_among (Some key) keys) (eq-eqb key key refl)

and_not : (a b : Bool) → b ≡ true → (a && not b) ≡ false
and_not true true h = refl
and_not true false h = cc
and_not false b h = refl

other_first : (offer : Offer) (item : ℕ) (offers : List Offer) → (offer.item ≡ item → ⊥) →
    batch_of item (offer ∷ offers) ≡ batch_of item offers
other_first offer item offers h = ap (λ b. cond b offer.batch (batch_of item offers)) (ne_eqb offer.item item h)

same_first : (offer : Offer) (item : ℕ) (offers : List Offer) → offer.item ≡ item → batch_of item (offer ∷ offers)
    ≡ offer.batch
same_first offer item offers h = ap (λ b. cond b offer.batch (batch_of item offers)) (eq-eqb offer.item item h)

-- an item whose first key stands in the batch in hand is in a later one
above_batch : (limit : ℕ) (first : ℕ → Option ℕ) (number size : ℕ) (keys : List ℕ) (a n item key : ℕ) → a ≤ item →
    item < a + n → first item ≡ Some key → is_among (Some key) keys ≡ true →
    number < batch_of item (batched limit first number size keys (range_with_len a n))
above_batch limit first number size keys a zero item key low high has among = absurd (omega arith)
above_batch limit first number size keys a (suc n) item key low high has among = elim (eq-or-lt_of_le low) [
  | inl same ↦
      let closed : (nat_lt size limit && not (is_among (first a) keys)) ≡ false =
      and_not (nat_lt size limit) (is_among (first a) keys) (ap (λ o. is_among o keys) (ap first same ∙ has)
      ∙ among) in
      let q : batch_of item (batched limit first number size keys (range_with_len a (suc n))) ≡ number + 1 =
      ap (λ b. batch_of item (cond b (record { item = a; batch = number } ∷ batched limit first number (size + 1)
      (with_key (first a) keys) (range_with_len (a + 1) n))
      (record { item = a; batch = number + 1 } ∷ batched limit first (number + 1) 1 (with_key (first a) [])
      (range_with_len (a + 1) n)))) closed
      ∙ same_first (record { item = a; batch = number + 1 }) item
      (batched limit first (number + 1) 1 (with_key (first a) []) (range_with_len (a + 1) n)) same in
      omega arith
  | inr less ↦
      go (nat_lt size limit && not (is_among (first a) keys))
      (above_batch limit first number (size + 1) (with_key (first a) keys) (a + 1) n item key (omega arith)
      (omega arith) has (among_more key (first a) keys among))
      (batch_least (number + 1) item (batched limit first (number + 1) 1 (with_key (first a) [])
      (range_with_len (a + 1) n)) (rises_batched limit first (number + 1) 1 (with_key (first a) [])
      (range_with_len (a + 1) n)) (batched_has limit first (number + 1) 1 (with_key (first a) []) (a + 1) n item
      (omega arith) (omega arith)))
      (λ e. let q : a ≡ item = e in omega arith)
]
  where
    go : (b : Bool) → number < batch_of item (batched limit first number (size + 1) (with_key (first a) keys)
        (range_with_len (a + 1) n)) → number + 1 ≤ batch_of item
        (batched limit first (number + 1) 1 (with_key (first a) []) (range_with_len (a + 1) n)) → (a ≡ item → ⊥) →
        number < batch_of item (cond b (record { item = a; batch = number } ∷ batched limit first number (size + 1)
        (with_key (first a) keys) (range_with_len (a + 1) n))
        (record { item = a; batch = number + 1 } ∷ batched limit first (number + 1) 1 (with_key (first a) [])
        (range_with_len (a + 1) n)))
    go true h k other =
        let q : batch_of item (record { item = a; batch = number } ∷ batched limit first number (size + 1)
        (with_key (first a) keys) (range_with_len (a + 1) n))
        ≡ batch_of item (batched limit first number (size + 1) (with_key (first a) keys)
        (range_with_len (a + 1) n)) = other_first (record { item = a; batch = number }) item _ other in
        omega arith
    go false h k other =
        let q : batch_of item (record { item = a; batch = number + 1 } ∷ batched limit first (number + 1) 1
        (with_key (first a) []) (range_with_len (a + 1) n))
        ≡ batch_of item (batched limit first (number + 1) 1 (with_key (first a) []) (range_with_len (a + 1) n)) =
        other_first (record { item = a; batch = number + 1 }) item _ other in
        omega arith

-- of two items with one first key the later is in a later batch
pub batches_apart : (limit : ℕ) (first : ℕ → Option ℕ) (number size : ℕ) (keys : List ℕ) (a n k l key : ℕ) → a ≤ k →
    k < l → l < a + n → first k ≡ Some key → first l ≡ Some key →
    batch_of k (batched limit first number size keys (range_with_len a n)) < batch_of l
    (batched limit first number size keys (range_with_len a n))
batches_apart limit first number size keys a zero k l key low between high has_k has_l = absurd (omega arith)
batches_apart limit first number size keys a (suc n) k l key low between high has_k has_l =
    elim (eq-or-lt_of_le low) [
      | inl same ↦ here same (nat_lt size limit && not (is_among (first a) keys))
      | inr less ↦
          further less (nat_lt size limit && not (is_among (first a) keys))
          (batches_apart limit first number (size + 1) (with_key (first a) keys) (a + 1) n k l key (omega arith) between
          (omega arith) has_k has_l)
          (batches_apart limit first (number + 1) 1 (with_key (first a) []) (a + 1) n k l key (omega arith) between
          (omega arith) has_k has_l)
    ]
  where
    both : (b : ℕ) (rest : List Offer) → (a ≡ k → ⊥) → batch_of k rest < batch_of l rest →
        batch_of k (record { item = a; batch = b } ∷ rest) < batch_of l (record { item = a; batch = b } ∷ rest)
    both b rest other h =
        let later : a ≤ k = low in
        let q : batch_of k (record { item = a; batch = b } ∷ rest) ≡ batch_of k rest =
        other_first (record { item = a; batch = b }) k rest other in
        let r : batch_of l (record { item = a; batch = b } ∷ rest) ≡ batch_of l rest =
        other_first (record { item = a; batch = b }) l rest (λ e. let z : a ≡ l = e in let y : k < l = between in
        omega arith) in
        omega arith

    further : a < k → (b : Bool) → batch_of k (batched limit first number (size + 1) (with_key (first a) keys)
        (range_with_len (a + 1) n)) < batch_of l (batched limit first number (size + 1) (with_key (first a) keys)
        (range_with_len (a + 1) n)) → batch_of k (batched limit first (number + 1) 1 (with_key (first a) [])
        (range_with_len (a + 1) n)) < batch_of l (batched limit first (number + 1) 1 (with_key (first a) [])
        (range_with_len (a + 1) n)) → batch_of k (cond b
        (record { item = a; batch = number } ∷ batched limit first number (size + 1) (with_key (first a) keys)
        (range_with_len (a + 1) n)) (record { item = a; batch = number + 1 } ∷ batched limit first (number + 1) 1
        (with_key (first a) []) (range_with_len (a + 1) n))) < batch_of l
        (cond b (record { item = a; batch = number } ∷ batched limit first number (size + 1) (with_key (first a) keys)
        (range_with_len (a + 1) n)) (record { item = a; batch = number + 1 } ∷ batched limit first (number + 1) 1
        (with_key (first a) []) (range_with_len (a + 1) n)))
    further less true h g = both number (batched limit first number (size + 1) (with_key (first a) keys)
        (range_with_len (a + 1) n)) (λ e. let z : a ≡ k = e in omega arith) h
    further less false h g = both (number + 1) (batched limit first (number + 1) 1 (with_key (first a) [])
        (range_with_len (a + 1) n)) (λ e. let z : a ≡ k = e in omega arith) g

    one : a ≡ k → (b : ℕ) (rest : List Offer) → b < batch_of l rest →
        batch_of k (record { item = a; batch = b } ∷ rest) < batch_of l (record { item = a; batch = b } ∷ rest)
    one same b rest h =
        let q : batch_of k (record { item = a; batch = b } ∷ rest) ≡ b =
        same_first (record { item = a; batch = b }) k rest same in
        let r : batch_of l (record { item = a; batch = b } ∷ rest) ≡ batch_of l rest =
        other_first (record { item = a; batch = b }) l rest (λ e. let z : a ≡ l = e in let y : k < l = between in
        omega arith) in
        omega arith

    in_hand : a ≡ k → (keys : List ℕ) → is_among (Some key) (with_key (first a) keys) ≡ true
    in_hand same keys = ap (λ o. is_among (Some key) (with_key o keys)) (ap first same ∙ has_k)
        ∙ among_itself key keys

    here : a ≡ k → (b : Bool) → batch_of k (cond b
        (record { item = a; batch = number } ∷ batched limit first number (size + 1) (with_key (first a) keys)
        (range_with_len (a + 1) n)) (record { item = a; batch = number + 1 } ∷ batched limit first (number + 1) 1
        (with_key (first a) []) (range_with_len (a + 1) n))) < batch_of l
        (cond b (record { item = a; batch = number } ∷ batched limit first number (size + 1) (with_key (first a) keys)
        (range_with_len (a + 1) n)) (record { item = a; batch = number + 1 } ∷ batched limit first (number + 1) 1
        (with_key (first a) []) (range_with_len (a + 1) n)))
    here same true = let z : k < l = between in one same number
        (batched limit first number (size + 1) (with_key (first a) keys) (range_with_len (a + 1) n))
        (above_batch limit first number (size + 1) (with_key (first a) keys) (a + 1) n l key (omega arith)
        (omega arith) has_l (in_hand same keys))
    here same false = let z : k < l = between in
        one same (number + 1) (batched limit first (number + 1) 1 (with_key (first a) []) (range_with_len (a + 1) n))
        (above_batch limit first (number + 1) 1 (with_key (first a) []) (a + 1) n l key (omega arith)
        (omega arith) has_l (in_hand same []))

slice_get_drop : {X : Type 0} (n m : ℕ) (xs : List X) → slice_get (drop n xs) m ≡ slice_get xs (n + m)
slice_get_drop zero m xs = ap (slice_get xs) (let q : m ≡ 0 + m = omega arith in q)
slice_get_drop (suc n) m [] = refl
slice_get_drop (suc n) m (x ∷ xs) = slice_get_drop n m xs
    ∙ ap (slice_get (x ∷ xs)) (let q : suc (n + m) ≡ suc n + m = omega arith in q)

-- a list split at two entries
pub two_at : (es : List Entry) (d c : ℕ) (f e : Entry) → slice_get es d ≡ Some f → slice_get es c ≡ Some e → d < c →
    (middle : List Entry) × (later : List Entry) × (es ≡ take d es ++ f ∷ (middle ++ e ∷ later))
two_at es d c f e h g l =
    let n : ℕ = c - suc d in
    let q : suc d + n ≡ c = omega arith in
    let at : slice_get (drop (suc d) es) n ≡ Some e = slice_get_drop (suc d) n es ∙ ap (slice_get es) q ∙ g in
    let w = whole_at (drop (suc d) es) n e at in (
      take n (drop (suc d) es),
      drop (suc n) (drop (suc d) es),
      (whole_at es d f h).0
          ∙ ap (λ xs. take d es ++ f ∷ xs) w.0,
    )

push_no_nil : (xs ys : List Entry) (e : Entry) → xs ++ e ∷ ys ≡ [] → ⊥
push_no_nil [] ys e h = cc
push_no_nil (x ∷ xs) ys e h = cc

own_somewhere : (xs ys : List Entry) (e : Entry) (i : ℕ) → e.incarnation ≡ i → own_of i e.item (xs ++ e ∷ ys) ≡ [] → ⊥
own_somewhere xs ys e i same h =
    push_no_nil (own_of i e.item xs) (own_of i e.item ys) e
    (ap (λ b. own_of i e.item xs ++ cond b (e ∷ own_of i e.item ys) (own_of i e.item ys))
    (sym (and_from (e.incarnation == i) (e.item == e.item) (eq-eqb e.incarnation i same)
    (eq-eqb e.item e.item refl)))
    ∙ sym (filter-append (is_of i e.item) xs (e ∷ ys)) ∙ h)

module _ {F A : Type 0} (s : Setting F A) (j : List Entry) (sound : IsSound s) (run : IsRun s j) where
  -- An item with an entry began with a flight, and has a first key.
  has_first_key : (d : ℕ) (e : Entry) → slice_get j d ≡ Some e → (key : ℕ)
      × (first_key_of (s.scene.machine e.incarnation) (s.scene.begins e.incarnation e.item) ≡ Some key)
  has_first_key d e at =
      let r : (first : F) × (flight : F) × IsNext s.scene (map_after empty (take d j))
      (own_of e.incarnation e.item (take d j)) e first flight =
      is_next s.scene j run.legal (paths_of_run s j run) (take d j) (drop (suc d) j) e (whole_at j d e at).0 in (
        key_of ((s.scene.machine e.incarnation).asks r.0),
        ap (first_key_of (s.scene.machine e.incarnation)) r.2.begins,
      )

  -- of two items of one incarnation with one first key, the earlier has ended where the later has an entry
  same_incarnation : (lane c d : ℕ) (e f : Entry) (post : Post) → slice_get j c ≡ Some e → slice_get j d ≡ Some f →
      slice_get (posts_of s j) f.incarnation ≡ Some post → is_on lane post.actor ≡ true → e.incarnation
      ≡ f.incarnation → e.item < f.item → first_key_of (s.scene.machine e.incarnation)
      (s.scene.begins e.incarnation e.item) ≡ first_key_of (s.scene.machine f.incarnation)
      (s.scene.begins f.incarnation f.item) → d < c → ⊥
  same_incarnation lane c d e f post at_c at_d posted on same between keys behind =
      let w = two_at j d c f e at_d at_c behind in
      let i : ℕ = f.incarnation in
      let first : ℕ → Option ℕ = key_first s i in
      let key : (key : ℕ) × (first f.item ≡ Some key) = has_first_key d f at_d in
      let key_e : first e.item ≡ Some key.0 = subst (λ n. key_first s n e.item ≡ first f.item) same keys ∙ key.1 in
      let count : ℕ = offered_count s lane post.at post.actor in
      let offers : List Offer = batched s.batch first 0 0 [] (range_with_len post.at count) in
      let offered : offers_at s i post ≡ offers = offers_on_lane s lane i post.at post.actor on in
      let f_offered : IsOffered f.item offers = subst (IsOffered f.item) offered
      (entry_offered s j (offering_of_run s j run) (take d j) (middle_of w.0 e w.1) f post w.2 posted) in
      let e_split : j ≡ (take d j ++ f ∷ w.0) ++ e ∷ w.1 = w.2 ∙ sym (append_assoc (take d j) (f ∷ w.0) (e ∷ w.1)) in
      let e_offered : IsOffered e.item offers = subst (IsOffered e.item) offered
      (subst (λ n. IsOffered e.item (offers_at s n post)) same
      (entry_offered s j (offering_of_run s j run) (take d j ++ f ∷ w.0) w.1 e post e_split (ap (slice_get (posts_of s j)) same
      ∙ posted))) in
      let range_f : (post.at ≤ f.item) × (f.item < post.at + count) =
      has_in_range f.item post.at count offers (items_batched s.batch first 0 0 [] (range_with_len post.at count))
      (offered_has f.item offers f_offered) in
      let range_e : (post.at ≤ e.item) × (e.item < post.at + count) =
      has_in_range e.item post.at count offers (items_batched s.batch first 0 0 [] (range_with_len post.at count))
      (offered_has e.item offers e_offered) in
      let less : batch_of e.item offers < batch_of f.item offers =
      batches_apart s.batch first 0 0 [] post.at count e.item f.item key.0 range_e.0 between range_f.1 key_e
      key.1 in
      let earlier : EarlierEnded s i (take d j) (batch_of f.item offers) offers =
      subst (λ o. EarlierEnded s i (take d j) (batch_of f.item o) o) offered
      (run.by_batch (take d j) (middle_of w.0 e w.1) f post w.2 posted) in
      let ended : HasEnded (stand_of s.scene i e.item (take d j)) =
      earlier_ended_at s i (take d j) (batch_of f.item offers) e.item offers earlier e_offered less in
      let none : own_of i e.item (f ∷ middle_of w.0 e w.1) ≡ [] =
      nothing_behind s.scene i e.item j (take d j) (f ∷ middle_of w.0 e w.1) (paths_of_run s j run) w.2 ended in
      own_somewhere (f ∷ w.0) w.1 e i same none
    where
      middle_of : List Entry → Entry → List Entry → List Entry
      middle_of middle e later = middle ++ e ∷ later

  -- Of two packets of a lane with one first key, each entry of the earlier stands before each of the later.
  pub entries_in_order : (lane c d : ℕ) (e f : Entry) → slice_get j c ≡ Some e → slice_get j d ≡ Some f →
      IsOn s j lane e.incarnation → IsOn s j lane f.incarnation → e.item < f.item →
      first_key_of (s.scene.machine e.incarnation) (s.scene.begins e.incarnation e.item)
      ≡ first_key_of (s.scene.machine f.incarnation) (s.scene.begins f.incarnation f.item) → c < d
  entries_in_order lane c d e f at_c at_d on_e on_f between keys =
      let p : IsTaker s j lane e.item e.incarnation =
      taker s j lane e.item e.incarnation (taken_by_entry s j (offering_of_run s j run) lane c e at_c on_e) in
      let q : IsTaker s j lane f.item f.incarnation =
      taker s j lane f.item f.incarnation (taken_by_entry s j (offering_of_run s j run) lane d f at_d on_f) in
      elim (cases_order c d) [
        | inl same ↦
            let one : e ≡ f = same_Some e f (sym at_c ∙ ap (slice_get j) same ∙ at_d) in
            let n : e.item ≡ f.item = ap (λ (e : Entry). e.item) one in
            absurd (omega arith)
        | inr (inl less) ↦ less
        | inr (inr more) ↦
            elim (apart s j lane s.eras 0 0 (λ lane.
            0) e.incarnation f.incarnation p.post q.post sound.lanes_once p.posted q.posted p.on q.on) [
              | inl same ↦ absurd (same_incarnation lane c d e f q.post at_c at_d q.posted q.on same between keys
                  more)
              | inr (inl before) ↦
                  let w = two_at j d c f e at_d at_c more in
                  let eras : era_of s.eras f.incarnation ≤ era_of s.eras e.incarnation =
                  run.by_epoch (take d j) w.0 w.1 f e w.2 in
                  let l : era_of s.eras e.incarnation < era_of s.eras f.incarnation = before.era in
                  absurd (omega arith)
              | inr (inr before) ↦
                  let r : q.post.at + length (taken_at s j f.incarnation q.post) ≤ p.post.at =
                  room_of s j f.incarnation e.incarnation q.post p.post before in
                  let a : f.item < q.post.at + length (taken_at s j f.incarnation q.post) = q.upto in
                  let b : p.post.at ≤ e.item = p.from in
                  absurd (omega arith)
            ]
      ]

  -- Of two packets of a lane that come to the box, with one first key, the earlier has the lower place.
  pub places_in_order : HasPlaces s.scene j → (lane k l i m c d : ℕ) (x y : Decision F) → k < l → IsOn s j lane i →
      IsOn s j lane m → IsDecided s j i k c x → IsDecided s j m l d y →
      first_key_of (s.scene.machine i) (s.scene.begins i k) ≡ first_key_of (s.scene.machine m) (s.scene.begins m l) →
      s.scene.place j c x.first x.verdict < s.scene.place j d y.first y.verdict
  places_in_order places lane k l i m c d x y between on_i on_m h g keys =
      let a : IsWithin j c h.e (s.scene.place j c x.first x.verdict) = places c h.e x h.at h.decided in
      let b : IsWithin j d g.e (s.scene.place j d y.first y.verdict) = places d g.e y g.at g.decided in
      let bi : b.own.incarnation ≡ m = b.incarnation ∙ g.by in
      let bk : b.own.item ≡ l = b.item ∙ g.of in
      let hk : h.e.item ≡ k = h.of in
      let low : s.scene.place j c x.first x.verdict ≤ c = a.upto in
      let high : b.first ≤ s.scene.place j d y.first y.verdict = b.from in
      let less : c < b.first =
      entries_in_order lane c b.first h.e b.own h.at b.at
      (subst (IsOn s j lane) (sym h.by) on_i) (subst (IsOn s j lane) (sym bi) on_m) (omega arith)
      (ap (λ n. first_key_of (s.scene.machine n) (s.scene.begins n h.e.item)) h.by
      ∙ ap (λ n. first_key_of (s.scene.machine i) (s.scene.begins i n)) h.of ∙ keys
      ∙ sym (ap (λ n. first_key_of (s.scene.machine n) (s.scene.begins n b.own.item)) bi
      ∙ ap (λ n. first_key_of (s.scene.machine m) (s.scene.begins m n)) bk)) in
      omega arith
