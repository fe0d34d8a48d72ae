-- The laws of cuts.
use Rattle.std.proofs.Common.{◌≡◌, ℕ, zero, suc, ◌+◌, ◌<◌, ◌≤◌, Bool, true, false, not, subst, if◌then◌else◌, Option, Some, None, List, [], ◌∷◌, length, get_or, take, refl, sym, ap, ◌∙◌, inl, inr, arith}
use Rattle.std.specs.Prelude.{All}
use Rattle.std.proofs.lemmas.Bool.{cases_lt}
use Rattle.std.proofs.lemmas.Bool.Decides.{nat_tests}
use Rattle.std.proofs.lemmas.List.{get_or-take, length-take-le, take_more, get_or_default}
use Rattle.std.proofs.lemmas.List.Quantifiers.{all_pairs_push}
use Rattle.slnf_access.specs.declared.requests.Key.{Key}
use Rattle.slnf_run.specs.Jobs.{is_among, with_key, joins, joining}
use Rattle.slnf_run.proofs.Batches.{joining_within}
use Rattle.slnf_batch.specs.Firsts.{StandsAmong, number_of}
use Rattle.slnf_batch.specs.Cut.{Differ, KeysDiffer}
use Rattle.slnf_batch.proofs.Laws.{joins_new}

-- a first key that isn't this one differs from it
new_differs : (first : Option Key) (key : Key) → ¬ (first ≡ Some key) → Differ first (Some key)
new_differs None key h = tt
new_differs (Some other) key h = λ e. h (ap (λ (x : ℕ). Some (record { 0 = x })) e)

-- and this one doesn't
same_differs : (first other : Option Key) (key : Key) → first ≡ Some key → other ≡ Some key → ¬ Differ first other
same_differs None other key e o h = cc
same_differs (Some a) None key e o h = cc
same_differs (Some a) (Some b) key e o h =
    let number : Option Key → ℕ = λ x. elim x [ None ↦ 0 | Some k ↦ k.0 ] in
    h (ap number e ∙ sym (ap number o))

none_differs : (first : Option Key) → Differ first None
none_differs None = tt
none_differs (Some key) = tt

-- a first key differs from each that it doesn't stand among
each_differs : (first : Option Key) (firsts : List (Option Key)) → ¬ StandsAmong first firsts →
    (k : ℕ) (d : Option Key) → k < length firsts → Differ (get_or firsts k d) first
each_differs None firsts h k d inside = none_differs _
each_differs (Some key) firsts h k d inside =
    new_differs _ key (λ e. h (k, inside, get_or_default firsts k (Some key) d inside ∙ e))

-- one first key more keeps them apart where it stands among none before it
pub KeysDiffer-more : (firsts : List (Option Key)) (place : ℕ) (first : Option Key) → place < length firsts →
    first ≡ get_or firsts place first → ¬ StandsAmong first (take place firsts) → KeysDiffer (take place firsts) →
    KeysDiffer (take (place + 1) firsts)
KeysDiffer-more firsts place first inside at new apart =
    rw (take_more firsts place first inside, ← at)
    (all_pairs_push Differ (take place firsts) first apart (each_differs first (take place firsts) new))

-- no longer prefix keeps them apart where the first key at its end stands before it
pub repeat_ends : (firsts : List (Option Key)) (place : ℕ) (first : Option Key) → place < length firsts →
    first ≡ get_or firsts place first → StandsAmong first (take place firsts) → (count : ℕ) → count ≤ length firsts →
    KeysDiffer (take count firsts) → count ≤ place
repeat_ends firsts place None inside at stands count within apart = absurd stands
repeat_ends firsts place (Some key) inside at stands count within apart =
    elim (cases_lt place count) [
      | inl longer ↦
          let k = stands.0 in
          let e : length (take place firsts) ≡ place = length-take-le place firsts (omega arith) in
          let f : length (take count firsts) ≡ count = length-take-le count firsts within in
          let before : k < place = omega (arith, stands.1) in
          let early : get_or (take count firsts) k (Some key) ≡ Some key =
          get_or-take count firsts k (Some key) (omega arith) ∙ sym (get_or-take place firsts k (Some key) before)
          ∙ stands.2 in
          let late : get_or (take count firsts) place (Some key) ≡ Some key =
          get_or-take count firsts place (Some key) longer ∙ sym at in
          absurd (same_differs _ _ key early late (apart k place (Some key) before (omega arith)))
      | inr short ↦ short
    ]

-- by recursion: each first key stands neither among these keys nor before
Apart : List ℕ → List (Option Key) → Type 0
Apart keys [] = Unit {0}
Apart keys (first ∷ firsts) =
    (is_among (number_of first) keys ≡ false) × Apart (with_key (number_of first) keys) firsts

-- what joins a batch that has room for all stands apart
joining_apart : (limit size : ℕ) (keys : List ℕ) (firsts : List (Option Key)) → size + length firsts ≤ limit →
    Apart keys (take (joining limit number_of size keys firsts) firsts)
unfolding Apart
joining_apart limit size keys [] room = tt
joining_apart limit size keys (first ∷ firsts) room =
    subst (λ b. Apart keys (take (if b then suc rest else 0) (first ∷ firsts)))
    (sym (joins_new limit size keys (number_of first) (omega arith)))
    (by_test (is_among (number_of first) keys) refl
    (joining_apart limit (size + 1) (with_key (number_of first) keys) firsts (omega arith)))
  where
    rest : ℕ
    rest = joining limit number_of (size + 1) (with_key (number_of first) keys) firsts

    by_test : (b : Bool) → is_among (number_of first) keys ≡ b →
        Apart (with_key (number_of first) keys) (take rest firsts) →
        Apart keys (take (if not b then suc rest else 0) (first ∷ firsts))
    by_test true e more = tt
    by_test false e more = (e, more)

joining_longest : (limit size : ℕ) (keys : List ℕ) (firsts : List (Option Key)) (count : ℕ) →
    size + length firsts ≤ limit →
    count ≤ length firsts → Apart keys (take count firsts) → count ≤ joining limit number_of size keys firsts
unfolding Apart
joining_longest limit size keys [] count room within apart = within
joining_longest limit size keys (first ∷ firsts) zero room within apart = omega arith
joining_longest limit size keys (first ∷ firsts) (suc count) room within apart =
    let rest = joining limit number_of (size + 1) (with_key (number_of first) keys) firsts in
    let longest = joining_longest limit (size + 1) (with_key (number_of first) keys) firsts count (omega arith)
    (omega arith) apart.1 in
    let new : joins limit size keys (number_of first) ≡ true =
    joins_new limit size keys (number_of first) (omega arith) ∙ ap not apart.0 in
    let all : joining limit number_of size keys (first ∷ firsts) ≡ suc rest =
    ap (λ b. if b then suc rest else 0) new in
    omega arith

-- a first key is new to these keys and another where it is new to these and differs from the other
still_new : (first other : Option Key) (keys : List ℕ) → is_among (number_of other) keys ≡ false →
    Differ first other → is_among (number_of other) (with_key (number_of first) keys) ≡ false
still_new None None keys h d = refl
still_new None (Some b) keys h d = h
still_new (Some a) None keys h d = refl
still_new (Some a) (Some b) keys h d = grind (arith, nat_tests)

was_new : (first other : Option Key) (keys : List ℕ) →
    is_among (number_of other) (with_key (number_of first) keys) ≡ false →
    (is_among (number_of other) keys ≡ false) × Differ first other
was_new None None keys h = (refl, tt)
was_new None (Some b) keys h = (h, tt)
was_new (Some a) None keys h = (refl, tt)
was_new (Some a) (Some b) keys h = (grind (arith, nat_tests), λ e. grind (arith, nat_tests))

abbrev AllNew : List ℕ → List (Option Key) → Type 0
AllNew keys firsts = All (λ first. is_among (number_of first) keys ≡ false) firsts

apart_from : (keys : List ℕ) (firsts : List (Option Key)) → AllNew keys firsts → KeysDiffer firsts → Apart keys firsts
unfolding Apart
apart_from keys [] new differ = tt
apart_from keys (first ∷ firsts) new differ = (
  new 0 None (omega arith),
  apart_from (with_key (number_of first) keys) firsts
      (λ k d h. still_new first _ keys (new (suc k) d (omega arith)) (differ 0 (suc k) d (omega arith) (omega arith)))
      (λ i j d before h. differ (suc i) (suc j) d (omega arith) (omega arith)),
)

apart_to : (keys : List ℕ) (firsts : List (Option Key)) → Apart keys firsts → AllNew keys firsts × KeysDiffer firsts
unfolding Apart
apart_to keys [] h = (λ k d inside. absurd (omega arith), λ i j d before inside. absurd (omega arith))
apart_to keys (first ∷ firsts) h =
    let rest = apart_to (with_key (number_of first) keys) firsts h.1 in
    (all_new rest.0, all_differ rest.0 rest.1)
  where
    all_new : AllNew (with_key (number_of first) keys) firsts → AllNew keys (first ∷ firsts)
    all_new new zero d inside = h.0
    all_new new (suc k) d inside = (was_new first _ keys (new k d (omega arith))).0

    all_differ : AllNew (with_key (number_of first) keys) firsts → KeysDiffer firsts → KeysDiffer (first ∷ firsts)
    all_differ new differ zero zero d before inside = absurd (omega arith)
    all_differ new differ zero (suc j) d before inside = (was_new first _ keys (new j d (omega arith))).1
    all_differ new differ (suc i) zero d before inside = absurd (omega arith)
    all_differ new differ (suc i) (suc j) d before inside = differ i j d (omega arith) (omega arith)

new_to_none : (first : Option Key) → is_among (number_of first) [] ≡ false
new_to_none None = refl
new_to_none (Some key) = refl

-- the longest prefix in which no key stands twice is what joins a new batch that has room for all
pub joining_is : (limit : ℕ) (firsts : List (Option Key)) (n : ℕ) → length firsts ≤ limit → n ≤ length firsts →
    KeysDiffer (take n firsts) →
    ((count : ℕ) → count ≤ length firsts → KeysDiffer (take count firsts) → count ≤ n) →
    n ≡ joining limit number_of 0 [] firsts
joining_is limit firsts n room within differ longest =
    let own = joining limit number_of 0 [] firsts in
    let apart = apart_to [] _ (joining_apart limit 0 [] firsts (omega arith)) in
    let below : n ≤ own = joining_longest limit 0 [] firsts n (omega arith) within
    (apart_from [] _ (λ k d h. new_to_none _) differ) in
    let above = longest own (joining_within limit number_of 0 [] firsts) apart.1 in
    omega arith
