-- What a box explains of a function's own scene it explains of one that has this as a case.
use Rattle.std.proofs.Common.{◌≡◌, ℕ, zero, suc, cond, ◌==◌, Option, Some, None, List, [], ◌∷◌, ◌++◌, length, map, take, filter_map, slice_get, refl, ap, ap₂, ◌∙◌, subst}
use mathlib.Core.Path.{fun_ext}
use Rattle.std.specs.Option.{option_and_then, option_map}
use Rattle.std.specs.List.{range_with_len}
use Rattle.slnf_base.specs.declared.packets.Verdict.{Verdict}
use Rattle.slnf_access.specs.declared.requests.Entry.{Entry}
use Rattle.slnf_access.specs.Map.{Cells}
use Rattle.slnf_access.specs.Machines.{Machine, Stand, Flies, Ends, stand_step, stand_after, decided_at, IsAsked, IsPath}
use Rattle.slnf_run.specs.Scene.{Scene, own_of, stand_of}
use Rattle.slnf_run.specs.Visits.{Decision, Visit, removal, newly, decided_by, decision_of, decision_at, visit_by, visits_of}
use Rattle.slnf_run.specs.Boxes.{Box, content_step, content_after, IsExplained}
use Rattle.slnf_run.specs.Images.{stand_as, IsImage, IsSceneImage}

module _ {F G : Type 0} (into : F → G) (m : Machine F) (n : Machine G) (image : IsImage into m n) where
  pub step_as : (st : Stand F) (e : Entry) → stand_step n (stand_as into st) e ≡ stand_as into (stand_step m st e)
  step_as (Flies f) e = image.goes f e.reply
  step_as (Ends o) e = refl

  pub after_as : (st : Stand F) (es : List Entry) → stand_after n (stand_as into st) es
      ≡ stand_as into (stand_after m st es)
  after_as st [] = refl
  after_as st (e ∷ es) = ap (λ now. stand_after n now es) (step_as st e) ∙ after_as (stand_step m st e) es

  pub decided_as : (st : Stand F) → decided_at n (stand_as into st) ≡ decided_at m st
  decided_as (Flies f) = image.decided f
  decided_as (Ends o) = refl

  asked_as : (st : Stand F) (e : Entry) → IsAsked n (stand_as into st) e → IsAsked m st e
  asked_as (Flies f) e h = h ∙ image.asks f
  asked_as (Ends o) e h = h

  -- a path of the case is one of the function
  pub path_as : (st : Stand F) (es : List Entry) → IsPath n (stand_as into st) es → IsPath m st es
  path_as st [] h = tt
  path_as st (e ∷ es) h =
      (asked_as st e h.0, path_as (stand_step m st e) es (subst (λ now. IsPath n now es) (step_as st e) h.1))

-- a decision, as one of the case
abbrev pub decision_as : {F G : Type 0} → (F → G) → Decision F → Decision G
decision_as into x = record { first = into x.first; verdict = x.verdict }

decision_of_as : {F G : Type 0} (into : F → G) (st : Stand F) (o : Option Verdict) → decision_of (stand_as into st) o
    ≡ option_map (decision_as into) (decision_of st o)
decision_of_as into (Ends end) o = refl
decision_of_as into (Flies first) None = refl
decision_of_as into (Flies first) (Some v) = refl

module _ {F G A : Type 0} (into : F → G) (s : Scene F A) (t : Scene G A) (image : IsSceneImage into s t) where
  pub stand_of_as : (i k : ℕ) (es : List Entry) → stand_of t i k es ≡ stand_as into (stand_of s i k es)
  stand_of_as i k es =
      ap (λ st. stand_after (t.machine i) st (own_of i k es)) (image.begins i k)
      ∙ after_as into (s.machine i) (t.machine i) (image.machine i) (s.begins i k) (own_of i k es)

  decided_by_as : (before : List Entry) (e : Entry) → decided_by t before e ≡ decided_by s before e
  decided_by_as before e =
      let i : ℕ = e.incarnation in
      let st : Stand F = stand_of s i e.item before in
      let there : stand_of t i e.item before ≡ stand_as into st = stand_of_as i e.item before in
      ap (λ now. newly (decided_at (t.machine i) now) (decided_at (t.machine i) (stand_step (t.machine i) now e)))
      there
      ∙ ap₂ newly (decided_as into (s.machine i) (t.machine i) (image.machine i) st)
      (ap (decided_at (t.machine i)) (step_as into (s.machine i) (t.machine i) (image.machine i) st e)
      ∙ decided_as into (s.machine i) (t.machine i) (image.machine i) (stand_step (s.machine i) st e))

  pub decision_at_as : (es : List Entry) (d : ℕ) → decision_at t es d
      ≡ option_map (decision_as into) (decision_at s es d)
  decision_at_as es d = go (slice_get es d)
    where
      go : (o : Option Entry) → option_and_then (λ e.
          decision_of (t.begins e.incarnation e.item) (decided_by t (take d es) e)) o
          ≡ option_map (decision_as into) (option_and_then
          (λ e. decision_of (s.begins e.incarnation e.item) (decided_by s (take d es) e)) o)
      go None = refl
      go (Some e) =
          ap₂ decision_of (image.begins e.incarnation e.item) (decided_by_as (take d es) e)
          ∙ decision_of_as into (s.begins e.incarnation e.item) (decided_by s (take d es) e)

  visit_by_as : (es : List Entry) (number : ℕ) (e : Entry) (d : ℕ) → visit_by t es number e d
      ≡ visit_by s es number e d
  visit_by_as es number e d =
      ap (option_and_then {U = Visit A} (λ x. cond (t.place es d x.first x.verdict == number)
      (Some (record { arrival = t.arrival x.first e; verdict = Some x.verdict })) None)) (decision_at_as es d)
      ∙ go (decision_at s es d)
    where
      go : (o : Option (Decision F)) → option_and_then {U = Visit A}
          (λ x. cond (t.place es d x.first x.verdict == number)
          (Some (record { arrival = t.arrival x.first e; verdict = Some x.verdict })) None)
          (option_map (decision_as into) o) ≡ option_and_then {U = Visit A}
          (λ x. cond (s.place es d x.first x.verdict == number)
          (Some (record { arrival = s.arrival x.first e; verdict = Some x.verdict })) None) o
      go None = refl
      go (Some x) = rw (image.place es d x.first x.verdict, image.arrival x.first e) refl

  visits_of_as : (es : List Entry) (number : ℕ) (e : Entry) → visits_of t es number e ≡ visits_of s es number e
  visits_of_as es number e =
      ap₂ (λ xs ys. map removal xs ++ ys) (image.removals e)
      (ap (λ f. filter_map f (range_with_len 0 (length es))) (fun_ext (visit_by_as es number e)))

  content_after_as : {C : Type 0} (box : Box A C) (es : List Entry) (n : ℕ) → content_after t box es n
      ≡ content_after s box es n
  content_after_as box es zero = refl
  content_after_as box es (suc n) =
      ap (λ c. content_step t box es n c (slice_get es n)) (content_after_as box es n)
      ∙ go (content_after s box es n) (slice_get es n)
    where
      go : (c : _) (o : Option Entry) → content_step t box es n c o ≡ content_step s box es n c o
      go c None = refl
      go c (Some e) = rw (visits_of_as es n e) refl

  pub explained_as : {C : Type 0} (box : Box A C) (Same : C → Cells → Type 0) (es : List Entry) →
      IsExplained s box Same es → IsExplained t box Same es
  explained_as box Same es r =
      record {
        verdicts = λ n e at. rw (content_after_as box es n, visits_of_as es n e) (r.verdicts n e at);
        maps = λ n h. rw (content_after_as box es n) (r.maps n h);
      }
