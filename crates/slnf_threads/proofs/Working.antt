-- An actor's work, one turn after another.
use Rattle.std.proofs.Common.{◌≡◌, ℕ, ◌+◌, ◌-◌, ◌^◌, ◌<◌, ◌≤◌, min, Bool, true, false, Option, Some, None, List, [], ◌∷◌, ◌++◌, length, if◌then◌else◌, refl, sym, ap, ◌∙◌, subst, arith, append_assoc, append-nil, length-append}
use Rattle.std.specs.Prelude.{is_some, not}
use Rattle.slnf_access.specs.declared.requests.Entry.{Entry}
use Rattle.slnf_access.specs.declared.requests.Ask.{Ask}
use Rattle.slnf_bucket.specs.Bucket.{last_stamp}
use Rattle.slnf_store.specs.Passes.{PassState, own_entries}
use Rattle.slnf_run.specs.Jobs.{Job, by_rounds, is_stop, wishes_in, offers_in, taken_in, first_of_wishes, ask_of, wanted_in}
use Rattle.slnf_instance.specs.declared.endings.Ending.{Ending}
use Rattle.slnf_instance.specs.declared.endings.Ending.TheVariants.{Stopped}
use Rattle.slnf_instance.specs.declared.errands.Errand.{Errand}
use Rattle.slnf_instance.specs.Ends.{unstopped, ending_in}
use Rattle.slnf_instance.specs.Hands.{is_spent}
use Rattle.slnf_instance.specs.Items.{Workload}
use Rattle.slnf_instance.specs.Works.{IsLeftOf}
use Rattle.slnf_instance.specs.Instances.{Acting, round_by, StandsBy}
use Rattle.slnf_threads.specs.Reports.{job_by, Gains}
use Rattle.slnf_threads.specs.Takes.{IsWithin, IsWord, left_at}
use Rattle.slnf_threads.specs.Worked.{IsWorked}
use Rattle.slnf_threads.proofs.Taking.{left_of_stands}

last_stamp-append : (clock : ℕ) (xs ys : List Entry) → last_stamp clock (xs ++ ys)
    ≡ last_stamp (last_stamp clock xs) ys
last_stamp-append clock [] ys = refl
last_stamp-append clock (x ∷ xs) ys = last_stamp-append x.stamp xs ys

worked-append : {F : Type 0} (job : Job F) (own xs ys : List Entry) → IsWorked job own xs →
    IsWorked job (own ++ xs) ys → IsWorked job own (xs ++ ys)
worked-append job own [] ys h k = subst (λ l. IsWorked job l ys) (append-nil own) k
worked-append job own (x ∷ xs) ys h k = (
  h.0,
  worked-append job (own ++ x ∷ []) xs ys h.1
      (subst (λ l. IsWorked job l ys) (sym (append_assoc own (x ∷ []) xs)) k),
)

none-some : {X : Type 0} (o : Option X) (x : X) → o ≡ None → o ≡ Some x → ⊥
none-some o x e f = cc

pub some_wanted : {X : Type 0} (o w : Option X) (none : Bool) → is_some o ≡ not none → none ≡ false → o ≡ w → w ≡ None →
    ⊥
some_wanted None w none h k q e = let no : false ≡ not false = h ∙ ap not k in cc
some_wanted (Some x) w none h k q e = absurd (cc)

-- an actor that wants an access isn't stopped
pub wanting : {F : Type 0} (job : Job F) (own : List Entry) → (wanted_in by_rounds job own ≡ None → ⊥) →
    is_stop job.stop (length own) ≡ false
wanting job own wants =
    go (is_stop job.stop (length own)) (ask_of (first_of_wishes by_rounds (wishes_in job own (offers_in job)))) wants
  where
    go : (stopped : Bool) (ask : Option Ask) → ((if stopped then None else ask) ≡ None → ⊥) → stopped ≡ false
    go true ask n = absurd (n refl)
    go false ask n = refl

-- an actor that has ended wants nothing
none_of_ending : {F : Type 0} (job : Job F) (quota : Option ℕ) (own : List Entry) (ending : Ending) →
    Some ending ≡ ending_in job quota own → wanted_in by_rounds job own ≡ None
none_of_ending job quota own ending h =
    go (is_stop job.stop (length own)) (ask_of (first_of_wishes by_rounds (wishes_in job own (offers_in job)))) h
  where
    go : (stopped : Bool) (ask : Option Ask) → Some ending ≡ (if stopped then Some Stopped else unstopped
        (if stopped then None else ask) quota (length (taken_in job own))) → (if stopped then None else ask) ≡ None
    go true ask e = refl
    go false None e = refl
    go false (Some a) e = absurd (cc)

within_left : (stop left : Option ℕ) (made own count : ℕ) → IsWord stop → IsLeftOf stop left own →
    made ≡ min own (2 ^ 64 - 1) → count ≤ left_at 32 stop made → IsWithin stop (own + count)
within_left None left made own count w l m h = tt
within_left (Some stop) None made own count w l m h = absurd l
within_left (Some stop) (Some left) made own count w l m h =
    let sum : left + own ≡ stop = l.0 in
    omega (arith, w, sum, m, h)

pub made_next : (made own count next : ℕ) → made ≡ min own (2 ^ 64 - 1) → next ≡ own + count →
    min (made + count) (2 ^ 64 - 1) ≡ min next (2 ^ 64 - 1)
made_next made own count next m q = omega arith

module _ {G F : Type 0} (work : G → Workload F) where
  -- the job stays
  pub job_stays : (first i : Acting G F) (own : List Entry) → StandsBy work (job_by work first) own i →
      job_by work i ≡ job_by work first
  job_stays first i own stands = stands.job_is

  -- what a turn may make is within the stop
  pub within_turn : (first i : Acting G F) (own : List Entry) (made count : ℕ) (stop : Option ℕ) →
      StandsBy work (job_by work first) own i → stop ≡ i.errand.stop → IsWord stop → made ≡ min (length own) (2 ^ 64 - 1) →
      (wanted_in by_rounds (job_by work first) own ≡ None → ⊥) → count ≤ left_at 32 stop made →
      IsWithin i.errand.stop (length own + count)
  within_turn first i own made count stop stands same word m wants few =
      let is : (job_by work first).stop ≡ stop = ap (λ (j : Job F). j.stop) (sym stands.job_is) ∙ sym same in
      let left : IsLeftOf (job_by work first).stop i.left (length own) =
      left_of_stands (job_by work first) own i.left i.from i.flights i.rest i.verdicts stands.stands
      (wanting (job_by work first) own wants) in
      subst (λ s. IsWithin s (length own + count)) same
      (within_left stop i.left made (length own) count word
      (subst (λ s. IsLeftOf s i.left (length own)) is left) m few)

  module _ (first old new : Acting G F) (start before after : PassState) (more : List Entry)
      (stands : StandsBy work (job_by work first) (own_entries before) old)
      (gains : Gains work old new before after more) where
    pub clock_next : before.clock ≡ last_stamp start.clock (own_entries before) →
        after.clock ≡ last_stamp start.clock (own_entries after)
    clock_next h =
        gains.clock
        ∙ (ap (λ c. last_stamp c more) h
        ∙ (sym (last_stamp-append start.clock (own_entries before) more)
        ∙ ap (last_stamp start.clock) (sym gains.own)))

    pub worked_next : IsWorked (job_by work first) [] (own_entries before) →
        IsWorked (job_by work first) [] (own_entries after)
    worked_next h =
        subst (IsWorked (job_by work first) []) (sym gains.own)
        (worked-append (job_by work first) [] (own_entries before) more h
        (subst (λ j. IsWorked j (own_entries before) more) stands.job_is gains.worked))

    pub stands_next : StandsBy work (job_by work first) (own_entries after) new
    stands_next = subst (λ j. StandsBy work j (own_entries after) new) stands.job_is gains.stands

    pub count_next : length (own_entries after) ≡ length (own_entries before) + length more
    count_next = ap length gains.own ∙ length-append (own_entries before) more

  -- the round of an actor that has some left of it
  pub round_rest : (i : Acting G F) → 0 < length (round_by i) → round_by i ≡ i.rest
  round_rest i = go (is_spent i.left)
    where
      go : (spent : Bool) → 0 < length (if spent then [] else i.rest) → (if spent then [] else i.rest) ≡ i.rest
      go true l = absurd (omega arith)
      go false l = refl

pub ending_kept : {F : Type 0} (job : Job F) (old new : Errand) (own : List Entry) (ending : Ending) → new ≡ old →
    Some ending ≡ ending_in job new.quota own → Some ending ≡ ending_in job old.quota own
ending_kept job old new own ending same h = h ∙ ap (λ (r : Errand). ending_in job r.quota own) same

pub none_wanted : {F : Type 0} (job : Job F) (quota : Option ℕ) (own : List Entry) (ending : Ending) →
    Some ending ≡ ending_in job quota own → wanted_in by_rounds job own ≡ None
none_wanted = none_of_ending
