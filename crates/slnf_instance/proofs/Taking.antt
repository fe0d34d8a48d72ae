-- A batch that takes one item after another.
use Rattle.std.proofs.Common.{◌≡◌, inl, inr, ℕ, zero, suc, ◌+◌, ◌-◌, ◌<◌, ◌≤◌, true, false, not, ◌&&◌, List, [], ◌∷◌, ◌++◌, Option, length, set, refl, sym, ap, ap₂, ◌∙◌, arith, length-append}
use Rattle.std.specs.List.{range_with_len}
use Rattle.std.proofs.lemmas.Bool.{cond-true, cond-false, le-ltb, cases_lt}
use Rattle.slnf_base.specs.declared.packets.Verdict.{Verdict}
use Rattle.slnf_access.specs.declared.requests.Key.{Key}
use Rattle.slnf_batch.specs.Firsts.{number_of, keys_after}
use Rattle.slnf_batch.proofs.Laws.{keys_after-more}
use Rattle.slnf_run.specs.Jobs.{Job, first_in, is_among, with_key, joins, joining}
use Rattle.slnf_run.proofs.Batches.{joining_takes}
use Rattle.slnf_instance.specs.Works.{flight_at, flights_at}
use Rattle.slnf_instance.specs.Batches.{size_of, rest_of, IsTaking, IsWhole}
use Rattle.slnf_instance.specs.Hands.{AreBegun}
use Rattle.slnf_instance.proofs.Coding.{flights_more, begun_more}

-- nothing is taken yet
pub taking_none : {F : Type 0} (job : Job F) (from : ℕ) (flights : List (Option F)) (firsts : List (Option Key)) →
    flights ≡ [] → firsts ≡ [] → from ≤ job.at + job.count → IsTaking job from flights firsts
taking_none job from flights firsts none empty inside =
    rw (none, empty) (record {
      count = refl;
      flights_are = refl;
      few = omega arith;
      inside = omega arith;
      joined = same;
    })
  where
    same : size_of job from ≡ 0 + rest_of job from []
    same =
        let at : from ≡ from + 0 = omega arith in
        let e : size_of job from ≡ rest_of job from [] =
        ap (λ k. joining job.batch (first_in job) 0 [] (range_with_len k (job.at + job.count - k))) at in
        omega arith

-- the first of the items that are left joins
joining_more : (limit : ℕ) (first : ℕ → Option ℕ) (size : ℕ) (keys : List ℕ) (from left : ℕ) → 0 < left →
    joins limit size keys (first from) ≡ true →
    joining limit first size keys (range_with_len from left)
    ≡ joining limit first (size + 1) (with_key (first from) keys) (range_with_len (from + 1) (left - 1)) + 1
joining_more limit first size keys from zero some h = absurd (omega arith)
joining_more limit first size keys from (suc left) some h =
    let rest : ℕ → ℕ = λ k.
    joining limit first (size + 1) (with_key (first from) keys) (range_with_len (from + 1) k) in
    let q : left ≡ suc left - 1 = omega arith in
    let one : joining limit first size keys (range_with_len from (suc left)) ≡ suc (rest left) =
    cond-true (joins limit size keys (first from)) (suc (rest left)) 0 h in
    let same : rest left ≡ rest (suc left - 1) = ap rest q in
    omega (arith, one, same)

-- none joins where the first of them doesn't
joining_none : (limit : ℕ) (first : ℕ → Option ℕ) (size : ℕ) (keys : List ℕ) (from left : ℕ) →
    joins limit size keys (first from) ≡ false → joining limit first size keys (range_with_len from left) ≡ 0
joining_none limit first size keys from zero h = refl
joining_none limit first size keys from (suc left) h = cond-false (joins limit size keys (first from)) _ 0 h

-- none joins a full batch
joins_full : (limit size : ℕ) (keys : List ℕ) (key : Option ℕ) → limit ≤ size → joins limit size keys key ≡ false
joins_full limit size keys key full = ap (λ b. b && not (is_among key keys)) (le-ltb size limit full)

-- one item more is taken
pub taking_more : {F : Type 0} (job : Job F) (from : ℕ) (flights more_flights : List (Option F))
    (firsts more_firsts : List (Option Key)) (flight : Option F) (first : Option Key) →
    IsTaking job from flights firsts → length firsts < job.batch → from + length firsts < job.at + job.count →
    number_of first ≡ first_in job (from + length firsts) →
    joins job.batch (length firsts) (keys_after [] firsts) (number_of first) ≡ true →
    flight ≡ flight_at (job.begins (from + length firsts)) → more_flights ≡ flights ++ flight ∷ [] →
    more_firsts ≡ firsts ++ first ∷ [] → IsTaking job from more_flights more_firsts
taking_more job from flights more_flights firsts more_firsts flight first h room inside is new flies fe ke =
    let n = length firsts in
    let end = job.at + job.count in
    let count : length more_firsts ≡ n + 1 = ap length ke ∙ length-append firsts (first ∷ []) in
    let size : length more_flights ≡ length flights + 1 = ap length fe ∙ length-append flights (flight ∷ []) in
    let keys : keys_after [] more_firsts ≡ with_key (first_in job (from + n)) (keys_after [] firsts) =
    ap (keys_after []) ke ∙ (keys_after-more [] firsts first
    ∙ ap (λ k. with_key k (keys_after [] firsts)) is) in
    let one = joining_more job.batch (first_in job) n (keys_after [] firsts) (from + n) (end - (from + n))
    (omega arith) (ap (joins job.batch n (keys_after [] firsts)) (sym is) ∙ new) in
    let at : from + n + 1 ≡ from + (n + 1) = omega arith in
    let left : end - (from + n) - 1 ≡ end - (from + (n + 1)) = omega arith in
    let rest : joining job.batch (first_in job) (n + 1) (with_key (first_in job (from + n)) (keys_after [] firsts))
    (range_with_len (from + n + 1) (end - (from + n) - 1)) ≡ rest_of job from more_firsts =
    ap₂ (λ a l. joining job.batch (first_in job) (n + 1)
    (with_key (first_in job (from + n)) (keys_after [] firsts)) (range_with_len a l)) at left
    ∙ ap₂ (λ m ks. joining job.batch (first_in job) m ks (range_with_len (from + m) (end - (from + m))))
    (sym count) (sym keys) in
    record {
      count = omega (arith, count, size, h.count);
      flights_are = flights_more job.begins from n (from + n) flights more_flights flight h.flights_are fe flies refl
          ∙ ap (λ m. flights_at job.begins from m) (sym count);
      few = omega (arith, count);
      inside = omega (arith, count);
      joined = omega (arith, h.joined, one, rest, count);
    }

-- the batch is whole where its next item doesn't join
pub taking_ends : {F : Type 0} (job : Job F) (from : ℕ) (flights : List (Option F)) (firsts : List (Option Key)) →
    IsTaking job from flights firsts →
    joins job.batch (length firsts) (keys_after [] firsts) (first_in job (from + length firsts)) ≡ false →
    IsWhole job from flights
taking_ends job from flights firsts h refused =
    let n = length firsts in
    let none = joining_none job.batch (first_in job) n (keys_after [] firsts) (from + n)
    (job.at + job.count - (from + n)) refused in
    record { size = omega (arith, h.joined, h.count, none) }

-- where it is full
pub taking_full : {F : Type 0} (job : Job F) (from : ℕ) (flights : List (Option F)) (firsts : List (Option Key)) →
    IsTaking job from flights firsts → job.batch ≤ length flights → IsWhole job from flights
taking_full job from flights firsts h full =
    taking_ends job from flights firsts h
    (joins_full job.batch (length firsts) (keys_after [] firsts) _ (omega (arith, h.count)))

-- and where no item is left
pub taking_all : {F : Type 0} (job : Job F) (from : ℕ) (flights : List (Option F)) (firsts : List (Option Key)) →
    IsTaking job from flights firsts → job.at + job.count ≤ from + length flights → IsWhole job from flights
taking_all job from flights firsts h through =
    let n = length firsts in
    let left : job.at + job.count - (from + n) ≡ 0 = omega (arith, h.count) in
    let none : rest_of job from firsts ≡ 0 =
    ap (λ k. joining job.batch (first_in job) n (keys_after [] firsts) (range_with_len (from + n) k)) left in
    record { size = omega (arith, h.joined, h.count, none) }

-- a batch has an item, where one is left
pub size_some : {F : Type 0} (job : Job F) (from : ℕ) → 0 < job.batch → from < job.at + job.count →
    0 < size_of job from
size_some job from some inside = by_left (job.at + job.count - from) (omega arith)
  where
    by_left : (left : ℕ) → 0 < left → 0 < joining job.batch (first_in job) 0 [] (range_with_len from left)
    by_left zero l = absurd (omega arith)
    by_left (suc left) l = joining_takes job.batch (first_in job) from (range_with_len (from + 1) left) some

pub apart_below : (m n : ℕ) → m ≤ n → (m ≡ n → ⊥) → m < n
apart_below m n l h = elim (cases_lt m n) [ inl k ↦ k | inr k ↦ absurd (h (omega arith)) ]

-- the verdict of an item that begins goes to its place
pub begun_next : (f : ℕ → Verdict) (at from n k count : ℕ) (old mid : List Verdict) (v : Verdict) → at ≤ from →
    AreBegun f at from n old mid → k < length mid → v ≡ f (from + n) → k ≡ from + n - at → count ≡ n + 1 →
    AreBegun f at from count old (set mid k v)
begun_next f at from n k count old mid v l h inside is place more =
    let within : from + n - at < length mid = omega arith in
    rw (place, more) (begun_more f at from n old mid v l h within is)
