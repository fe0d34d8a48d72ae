-- The entries of a run, and those of a schedule so far, are of the packets of its lanes, each by the incarnation that
-- took it, and of the items of its sweeps.
use Rattle.std.proofs.Common.{◌≡◌, ◌⊎◌, inl, inr, ℕ, zero, suc, ◌+◌, ◌*◌, ◌<◌, ◌≤◌, Bool, true, false, ◌||◌, ◌==◌, Option, Some, None, List, [], ◌∷◌, ◌++◌, length, map, slice_get, slice_index, refl, ap, sym, ◌∙◌, subst, eq-eqb, arith, add-mul, zero-add}
use Rattle.std.specs.List.{range_with_len, AllByRecursion}
use Rattle.std.proofs.Math.Nat.{suc-mul}
use Rattle.std.proofs.lemmas.Bool.{and_from}
use Rattle.std.proofs.lemmas.List.{length-map, length-append}
use Rattle.std.proofs.lemmas.List.FromFn.{length-range_with_len}
use Rattle.std.proofs.lemmas.Bool.Decides.{leb_tells}
use Rattle.slnf_access.specs.declared.requests.Entry.{Entry}
use Rattle.slnf_run.specs.Setting.{Actor, Setting, is_on, actors_of, total_of, sweeps_in}
use Rattle.slnf_run.specs.Parts.{first_key_of, Offer, batched, offers_of, offers_at, Post, posts_of}
use Rattle.slnf_run.specs.Items.{Item, is_item, is_of_items, sum_over, EachItem}
use Rattle.slnf_run.specs.Run.{IsOffered}
use Rattle.slnf_run.proofs.Splits.{IsSplit, split_at, slice_get-split}
use Rattle.slnf_run.specs.OneBox.{IsSound, Took, NobodyTook}
use Rattle.slnf_run.proofs.OfferRows.{has_item, items_batched, or_first, or_second, has_in_range}
use Rattle.slnf_run.proofs.LanePosts.{actor_at}
use Rattle.slnf_run.proofs.Taking.{offered_has, entry_offered}
use Rattle.slnf_run.proofs.OneBoxOfRun.{IsTaker, taker, one_taker, taken_by_entry, took_or_not}
use Rattle.slnf_run.proofs.Offering.{IsOffering}
use Rattle.slnf_run.proofs.TakenRows.{taken_inside}
use Rattle.std.proofs.lemmas.Option.{same_Some}
use Rattle.slnf_access.proofs.Elements.{each-at, each-splits}

pub each_item_weaker : (P Q : ℕ → ℕ → Type 0) → ((i k : ℕ) → P i k → Q i k) → (items : List Item) → EachItem P items →
    EachItem Q items
each_item_weaker P Q w [] h = tt
each_item_weaker P Q w (item ∷ items) h = (w item.incarnation item.number h.0, each_item_weaker P Q w items h.1)

pub each_of_all : (P : ℕ → ℕ → Type 0) → ((i k : ℕ) → P i k) → (items : List Item) → EachItem P items
each_of_all P h [] = tt
each_of_all P h (item ∷ items) = (h item.incarnation item.number, each_of_all P h items)

-- the sum over items that have at most m each
pub sum_most : (most : ℕ → ℕ → ℕ) (m : ℕ) (items : List Item) → EachItem (λ i k. most i k ≤ m) items →
    sum_over most items ≤ length items * m
sum_most most m [] h = omega arith
sum_most most m (item ∷ items) h =
    let here : most item.incarnation item.number ≤ m = h.0 in
    let rest : sum_over most items ≤ length items * m = sum_most most m items h.1 in
    let q : suc (length items) * m ≡ length items * m + m = suc-mul (length items) m in
    go (most item.incarnation item.number) (sum_over most items) (length items * m)
    (suc (length items) * m) here rest q
  where
    go : (a b c d : ℕ) → a ≤ m → b ≤ c → d ≡ c + m → a + b ≤ d
    go a b c d h k q = omega arith

pub sum_append : (most : ℕ → ℕ → ℕ) (xs ys : List Item) → sum_over most (xs ++ ys)
    ≡ sum_over most xs + sum_over most ys
sum_append most [] ys = omega arith
sum_append most (x ∷ xs) ys = let r : sum_over most (xs ++ ys) ≡ sum_over most xs + sum_over most ys =
    sum_append most xs ys in omega arith

among_left : (xs ys : List Item) (e : Entry) → is_of_items xs e ≡ true → is_of_items (xs ++ ys) e ≡ true
among_left [] ys e h = cc
among_left (x ∷ xs) ys e h = go (is_item x e) (is_of_items xs e) h (among_left xs ys e)
  where
    go : (a b : Bool) → (a || b) ≡ true → (b ≡ true → is_of_items (xs ++ ys) e ≡ true) → (a || is_of_items (xs ++ ys) e)
        ≡ true
    go true b h r = refl
    go false b h r = r h

among_right : (xs ys : List Item) (e : Entry) → is_of_items ys e ≡ true → is_of_items (xs ++ ys) e ≡ true
among_right [] ys e h = h
among_right (x ∷ xs) ys e h = or_second (is_item x e) (is_of_items (xs ++ ys) e) (among_right xs ys e h)

is_it : (i k : ℕ) (e : Entry) → e.incarnation ≡ i → e.item ≡ k → ((e.incarnation == i) ≡ true)
    × ((e.item == k) ≡ true)
is_it i k e h g = (eq-eqb e.incarnation i h, eq-eqb e.item k g)

-- items with these incarnations by their numbers
module _ (by : ℕ → ℕ) where
  abbrev pub row : List ℕ → List Item
  row numbers = map (λ n. record { incarnation = by n; number = n }) numbers

  pub in_row : (a n : ℕ) (e : Entry) → a ≤ e.item → e.item < a + n → e.incarnation ≡ by e.item →
      is_of_items (row (range_with_len a n)) e ≡ true
  in_row a zero e h l own = absurd (omega arith)
  in_row a (suc n) e h l own = elim (leb_tells (suc a) e.item) [
    | inl more ↦ or_second (is_item (record { incarnation = by a; number = a }) e)
        (is_of_items (row (range_with_len (a + 1) n)) e)
        (in_row (a + 1) n e (let m : suc a ≤ e.item = more.1 in omega arith) (omega arith) own)
    | inr less ↦
        let at : e.item ≡ a = (let m : e.item < suc a = less.1 in omega arith) in
        let it = is_it (by a) a e (own ∙ ap by at) at in
        or_first (is_item (record { incarnation = by a; number = a }) e) (is_of_items (row (range_with_len (a + 1) n)) e)
        (and_from (e.incarnation == by a) (e.item == a) it.0 it.1)
  ]

module _ {F A : Type 0} (s : Setting F A) (j : List Entry) (sound : IsSound s) (rules : IsOffering s j) where
  abbrev taker_in : (lane number : ℕ) → ((i : ℕ) × Took s j lane number i) ⊎ NobodyTook s j lane number → ℕ
  taker_in lane number (inl r) = r.0
  taker_in lane number (inr none) = 0

  -- the incarnation that took a packet
  abbrev taker_of : ℕ → ℕ → ℕ
  taker_of lane number = taker_in lane number (took_or_not s j lane number)

  taker_is : (lane number i : ℕ) → Took s j lane number i → taker_of lane number ≡ i
  taker_is lane number i took = go (took_or_not s j lane number)
    where
      go : (o : ((i : ℕ) × Took s j lane number i) ⊎ NobodyTook s j lane number) → taker_in lane number o ≡ i
      go (inl r) = one_taker s j sound lane number r.0 i r.1 took
      go (inr none) = absurd (none i took)

  -- the packets of these lanes, of which the first has this number
  abbrev packets_from : ℕ → List ℕ → List Item
  packets_from lane [] = []
  packets_from lane (count ∷ counts) = row (taker_of lane) (range_with_len 0 count) ++ packets_from (lane + 1) counts

  packets_size : (lane : ℕ) (counts : List ℕ) → length (packets_from lane counts) ≡ total_of counts
  packets_size lane [] = refl
  packets_size lane (count ∷ counts) =
      let r : length (packets_from (lane + 1) counts) ≡ total_of counts = packets_size (lane + 1) counts in
      let a : length (row (taker_of lane) (range_with_len 0 count) ++ packets_from (lane + 1) counts)
      ≡ length (row (taker_of lane) (range_with_len 0 count)) + length (packets_from (lane + 1) counts) =
      length-append (row (taker_of lane) (range_with_len 0 count)) (packets_from (lane + 1) counts) in
      let b : length (row (taker_of lane) (range_with_len 0 count)) ≡ count =
      length-map (range_with_len 0 count) (λ n. record { incarnation = taker_of lane n; number = n })
      ∙ length-range_with_len 0 count in
      omega arith

  in_packets : (lane l : ℕ) (counts : List ℕ) (e : Entry) → e.item < slice_index counts l → taker_of (lane + l) e.item
      ≡ e.incarnation → is_of_items (packets_from lane counts) e ≡ true
  in_packets lane l [] e h own = absurd (omega arith)
  in_packets lane zero (count ∷ counts) e h own =
      let q : lane + 0 ≡ lane = omega arith in
      among_left (row (taker_of lane) (range_with_len 0 count)) (packets_from (lane + 1) counts) e
      (in_row (taker_of lane) 0 count e (omega arith) (omega arith) (sym own ∙ ap (λ n. taker_of n e.item) q))
  in_packets lane (suc l) (count ∷ counts) e h own =
      let q : lane + suc l ≡ lane + 1 + l = omega arith in
      among_right (row (taker_of lane) (range_with_len 0 count)) (packets_from (lane + 1) counts) e
      (in_packets (lane + 1) l counts e h (ap (λ n. taker_of n e.item) (sym q) ∙ own))

  -- the items of the sweeps among these actors, of which the first is this incarnation
  abbrev swept_by : ℕ → Option ℕ → List Item
  swept_by i None = row (λ n. i) (range_with_len 0 s.sweep_items)
  swept_by i (Some lane) = []

  abbrev sweeps_from : ℕ → List Actor → List Item
  sweeps_from i [] = []
  sweeps_from i (actor ∷ actors) = swept_by i actor.lane ++ sweeps_from (i + 1) actors

  swept_size : (i : ℕ) (o : Option ℕ) → length (swept_by i o) ≡ elim o [ None ↦ 1 | Some lane ↦ 0 ] * s.sweep_items
  swept_size i None =
      let b : length (row (λ n. i) (range_with_len 0 s.sweep_items)) ≡ s.sweep_items =
      length-map (range_with_len 0 s.sweep_items) (λ n. record { incarnation = i; number = n })
      ∙ length-range_with_len 0 s.sweep_items in
      omega arith
  swept_size i (Some lane) = omega arith

  sweeps_size : (i : ℕ) (actors : List Actor) → length (sweeps_from i actors) ≡ sweeps_in actors * s.sweep_items
  sweeps_size i [] = omega arith
  sweeps_size i (actor ∷ actors) =
      length-append (swept_by i actor.lane) (sweeps_from (i + 1) actors)
      ∙ ap (λ n. n + length (sweeps_from (i + 1) actors)) (swept_size i actor.lane)
      ∙ ap (λ n. elim actor.lane [ None ↦ 1 | Some lane ↦ 0 ] * s.sweep_items + n) (sweeps_size (i + 1) actors)
      ∙ sym (add-mul (elim actor.lane [ None ↦ 1 | Some lane ↦ 0 ]) (sweeps_in actors) s.sweep_items)

  in_sweeps : (i k : ℕ) (actors : List Actor) (actor : Actor) (e : Entry) → slice_get actors k ≡ Some actor →
      actor.lane ≡ None → e.item < s.sweep_items → e.incarnation ≡ i + k → is_of_items (sweeps_from i actors) e ≡ true
  in_sweeps i k [] actor e at none size own = absurd (let no : None ≡ Some actor = at in cc)
  in_sweeps i zero (a ∷ actors) actor e at none size own =
      let same : a ≡ actor = same_Some a actor at in
      let q : i + 0 ≡ i = omega arith in
      among_left (swept_by i a.lane) (sweeps_from (i + 1) actors) e
      (subst (λ o. is_of_items (swept_by i o) e ≡ true) (sym (ap (λ (x : Actor). x.lane) same ∙ none))
      (in_row (λ n. i) 0 s.sweep_items e (omega arith) (omega arith) (own ∙ q)))
  in_sweeps i (suc k) (a ∷ actors) actor e at none size own =
      among_right (swept_by i a.lane) (sweeps_from (i + 1) actors) e
      (in_sweeps (i + 1) k actors actor e at none size (let q : i + suc k ≡ i + 1 + k = omega arith in own ∙ q))

  each_row : (P : ℕ → ℕ → Type 0) (i : ℕ) → ((k : ℕ) → P i k) → (numbers : List ℕ) → EachItem P (row (λ n. i) numbers)
  each_row P i h [] = tt
  each_row P i h (n ∷ numbers) = (h n, each_row P i h numbers)

  each_append : (P : ℕ → ℕ → Type 0) (xs ys : List Item) → EachItem P xs → EachItem P ys → EachItem P (xs ++ ys)
  each_append P [] ys h k = k
  each_append P (x ∷ xs) ys h k = (h.0, each_append P xs ys h.1 k)

  -- what the items of each actor without a lane have
  each_swept : (P : ℕ → ℕ → Type 0) (i : ℕ) (actors : List Actor) →
      ((k number : ℕ) (actor : Actor) → slice_get actors k ≡ Some actor → actor.lane ≡ None → P (i + k) number) →
      EachItem P (sweeps_from i actors)
  each_swept P i [] h = tt
  each_swept P i (actor ∷ actors) h =
      each_append P (swept_by i actor.lane) (sweeps_from (i + 1) actors)
      (go actor.lane refl)
      (each_swept P (i + 1) actors (λ k number a at none. let q : i + suc k ≡ i + 1 + k = omega arith in
      subst (λ n. P n number) q (h (suc k) number a at none)))
    where
      go : (o : Option ℕ) → actor.lane ≡ o → EachItem P (swept_by i o)
      go None w = each_row P i (λ number. let q : i + 0 ≡ i = omega arith in
          subst (λ n. P n number) q (h 0 number actor refl w)) (range_with_len 0 s.sweep_items)
      go (Some lane) w = tt

  -- an offered item of a sweep is one of its items
  swept_within : (i k : ℕ) (post : Post) → post.actor.lane ≡ None → IsOffered k (offers_at s i post) →
      k < s.sweep_items
  swept_within i k post none offered =
      let offers : List Offer = batched 1 (λ item. first_key_of (s.scene.machine i) (s.scene.begins i item)) 0 0 []
      (range_with_len 0 s.sweep_items) in
      let is : offers_of s i post.at post.actor ≡ offers =
      ap (λ on. offers_of s i post.at (record { lane = on; quota = post.actor.quota; stop = post.actor.stop }))
      none in
      let has : has_item k offers ≡ true = ap (has_item k) (sym is) ∙ offered_has k (offers_at s i post) offered in
      let r : (0 ≤ k) × (k < 0 + s.sweep_items) =
      has_in_range k 0 s.sweep_items offers (items_batched 1
      (λ item. first_key_of (s.scene.machine i) (s.scene.begins i item)) 0 0 [] (range_with_len 0 s.sweep_items))
      has in
      omega arith

  -- The packets of the lanes, and the sweeps' items.
  abbrev pub packets : List Item
  packets = packets_from 0 s.lanes

  pub packets_few : length packets ≡ total_of s.lanes
  packets_few = packets_size 0 s.lanes

  abbrev pub sweeps : List Item
  sweeps = sweeps_from 0 (actors_of s.eras)

  pub sweeps_few : length sweeps ≡ sweeps_in (actors_of s.eras) * s.sweep_items
  sweeps_few = sweeps_size 0 (actors_of s.eras)

  pub each_of_sweeps : (P : ℕ → ℕ → Type 0) → ((i number : ℕ) (actor : Actor) → slice_get (actors_of s.eras) i
      ≡ Some actor → actor.lane ≡ None → P i number) → EachItem P sweeps
  each_of_sweeps P h = each_swept P 0 (actors_of s.eras) (λ k number actor at none. let q : k ≡ 0 + k = omega arith in
      subst (λ n. P n number) q (h k number actor at none))

  -- Each entry is of one of these.
  pub of_these : AllByRecursion (λ e. is_of_items (packets ++ sweeps) e ≡ true) j
  of_these = each-splits (λ e. is_of_items (packets ++ sweeps) e ≡ true) j at
    where
      at : (before later : List Entry) (e : Entry) → j ≡ before ++ e ∷ later → is_of_items (packets ++ sweeps) e ≡ true
      at before later e split =
          let p : (post : Post) × IsSplit (posts_of s j) e.incarnation post =
          split_at (posts_of s j) e.incarnation (each-at (λ e. e.incarnation < length (posts_of s j)) before later e
          (subst (AllByRecursion (λ e. e.incarnation < length (posts_of s j))) split rules.of_actors)) in
          go p.0 p.1.at p.0.actor.lane refl
        where
          there : slice_get j (length before) ≡ Some e
          there = ap (λ l. slice_get l (length before)) split ∙ slice_get-split before later e

          go : (post : Post) → slice_get (posts_of s j) e.incarnation ≡ Some post → (o : Option ℕ) → post.actor.lane
              ≡ o → is_of_items (packets ++ sweeps) e ≡ true
          go post posted None none =
              among_right packets sweeps e
              (in_sweeps 0 e.incarnation (actors_of s.eras) post.actor e (actor_at s j e.incarnation post posted) none
              (swept_within e.incarnation e.item post none (entry_offered s j rules before later e post split posted))
              (omega arith))
          go post posted (Some lane) is =
              let on : is_on lane post.actor ≡ true = ap (λ o. elim o [ None ↦ false | Some own ↦ own == lane ]) is
              ∙ eq-eqb lane lane refl in
              let took : Took s j lane e.item e.incarnation =
              taken_by_entry s j rules lane (length before) e there (post, posted, on) in
              let t : IsTaker s j lane e.item e.incarnation = taker s j lane e.item e.incarnation took in
              among_left packets sweeps e
              (in_packets 0 lane s.lanes e (taken_inside s j lane e.incarnation e.item t.post t.on t.took)
              (ap (λ n. taker_of n e.item) (zero-add lane) ∙ taker_is lane e.item e.incarnation took))
