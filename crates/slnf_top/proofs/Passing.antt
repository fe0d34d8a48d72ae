-- Answers to bytes, and refusals.
use Rattle.std.proofs.Common.{◌≡◌, ◌≢◌, ◌≤◌, ◌+◌, inl, inr, ℕ, Bool, cond, Option, Some, None, List, [], ◌∷◌, ◌++◌, length, refl, ap, ◌∙◌, subst, append_assoc}
use Rattle.std.specs.Prelude.{Ok, Err, IfSome}
use Rattle.std.specs.List.{list_all}
use Rattle.std.proofs.lemmas.Bool.{le-leb}
use Rattle.slnf_pcap.specs.declared.errors.PcapError.{PcapError}
use Rattle.slnf_pcap.specs.declared.errors.PcapError.TheVariants.{NoMemory as PcapNoMemory}
use Rattle.slnf_pcap.specs.declared.capture.Capture.{Capture}
use Rattle.slnf_pcap.specs.Captures.{capture_of}
use Rattle.slnf_plan.specs.declared.plan.Plan.{Plan}
use Rattle.slnf_plan.specs.declared.error.PlanError.{PlanError}
use Rattle.slnf_plan.specs.declared.error.PlanError.TheVariants as errors
use Rattle.slnf_plan.specs.Reading.{plan_of_bytes, Refuses as PlanRefuses}
use Rattle.slnf_top.specs.declared.statuses.Status.{Status}
use Rattle.slnf_top.specs.declared.statuses.Status.TheVariants as status
use Rattle.slnf_top.specs.declared.inputs.Tally.{Tally}
use Rattle.slnf_top.specs.declared.outputs.File.{File}
use Rattle.slnf_top.specs.Words.{is_proper, are_captures}
use Rattle.slnf_top.specs.Kinds.{Kind, Whole, Formless, Refusing, Broken, Unread, Unwritten, Wanting, kind_of}
use Rattle.slnf_top.specs.Limits.{plan_limit, capture_limit, captures_limit}
use Rattle.slnf_top.specs.Readings.{PlanFile, CaptureFile, reading_of, with_plan, spelled_plan, plan_reading, spelled_capture, bytes_reading, capture_reading}
use Rattle.slnf_top.specs.Refused.{RefusesBy, Refuses, RefusesOne, IsBadPlan, IsBadCapture, AreTooMany}
use Rattle.slnf_top.specs.Inputs.{IsPlanOf}

-- a fact about what is held, where it is told
pub told : (P : List ℕ → Type 0) (held : Option (List ℕ)) (bytes : List ℕ) → held ≡ Some bytes → IfSome held P →
    P bytes
told P held bytes is h = let there : IfSome (Some bytes) P = subst (λ (o : Option (List ℕ)). IfSome o P) is h in there

pub told_weaker : (P Q : List ℕ → Type 0) (held : Option (List ℕ)) →
    ((bytes : List ℕ) → P bytes → Q bytes) → IfSome held P → IfSome held Q
told_weaker P Q None f h = h
told_weaker P Q (Some bytes) f h = f bytes h

-- why a read was refused, by weaker facts
refuses_by : (P Q F G : Type 0) (kind : Kind) → (P → Q) → (F → G) → RefusesBy P F kind → RefusesBy Q G kind
refuses_by P Q F G Whole f g h = h
refuses_by P Q F G Formless f g h = h
refuses_by P Q F G Refusing f g h = g h
refuses_by P Q F G Broken f g h = h
refuses_by P Q F G Unread f g h = f h
refuses_by P Q F G Unwritten f g h = h
refuses_by P Q F G Wanting f g h = h

pub refuses_weaker : (P Q : Type 0) (F G : Status → Type 0) (ended : Status) →
    (P → Q) → (F ended → G ended) → Refuses P F ended → Refuses Q G ended
refuses_weaker P Q F G ended f g h = refuses_by P Q (F ended) (G ended) (kind_of ended) f g h

-- the plan's own refusal
pub plan_error : (bytes : List ℕ) (error : PlanError) → PlanRefuses (plan_of_bytes bytes) error →
    error ≢ errors.NoMemory → plan_of_bytes bytes ≡ Err error
plan_error bytes (errors.NotToml path) h not = h
plan_error bytes (errors.MissingKey path) h not = h
plan_error bytes (errors.UnknownKey path) h not = h
plan_error bytes (errors.WrongType path) h not = h
plan_error bytes (errors.BadAddress path) h not = h
plan_error bytes (errors.BadPrefix path) h not = h
plan_error bytes (errors.OutOfRange path) h not = h
plan_error bytes (errors.LaneTwice path) h not = h
plan_error bytes (errors.NoBackend path) h not = h
plan_error bytes (errors.NoEpoch path) h not = h
plan_error bytes (errors.ScheduleActor path) h not = h
plan_error bytes errors.NoMemory h not = absurd (not refl)

-- the reading of a plan within its limit
pub within_plan : (bytes : List ℕ) → length bytes ≤ plan_limit →
    plan_reading bytes ≡ spelled_plan (plan_of_bytes bytes)
within_plan bytes within =
    ap (λ (b : Bool). cond b (spelled_plan (plan_of_bytes bytes)) (Err (status.OverLimit 1 (plan_limit + 1))))
    (le-leb _ _ within)

pub bad_plan : (bytes : List ℕ) (error : PlanError) → length bytes ≤ plan_limit →
    PlanRefuses (plan_of_bytes bytes) error → error ≢ errors.NoMemory → IsBadPlan bytes (status.PlanBad error)
bad_plan bytes error within refuses not =
    ((error, not, refl), within_plan bytes within ∙ ap spelled_plan (plan_error bytes error refuses not))

pub plan_passed : (name bytes : List ℕ) (plan : Plan) (tally : Tally) → IsPlanOf plan bytes →
    reading_of (PlanFile name) tally bytes ≡ Ok tally
plan_passed name bytes plan tally is =
    ap (with_plan tally) (within_plan bytes is.within ∙ ap spelled_plan is.is)

-- a plan's refusal is one of the input's
pub plan_refuses : (rose : Type 0) (name bytes : List ℕ) (tally : Tally) (held : Option (List ℕ)) (ended : Status) →
    IfSome held (λ h. bytes ≡ h) → Refuses ⊥ (IsBadPlan bytes) ended →
    Refuses rose (RefusesOne (PlanFile name) tally held) ended
plan_refuses rose name bytes tally held ended is h =
    refuses_weaker ⊥ rose (IsBadPlan bytes) (RefusesOne (PlanFile name) tally held) ended (λ none. absurd none)
    (λ bad. (
      inl bad.0,
      told_weaker (λ b. bytes ≡ b) (λ b. reading_of (PlanFile name) tally b ≡ Err ended) held
          (λ b e. subst (λ (x : List ℕ). reading_of (PlanFile name) tally x ≡ Err ended) e
          (ap (with_plan tally) bad.1)) is,
    ))
    h

-- the reading of a capture within limits 2 and 3
pub within_capture : (tally : Tally) (bytes : List ℕ) → length bytes ≤ capture_limit →
    tally.bytes + length bytes ≤ captures_limit →
    capture_reading tally bytes ≡ spelled_capture tally bytes (capture_of bytes)
within_capture tally bytes within both =
    ap (λ (b : Bool). cond b (bytes_reading tally bytes) (Err (status.OverLimit 2 (capture_limit + 1))))
    (le-leb _ _ within)
    ∙ ap (λ (b : Bool). cond b (spelled_capture tally bytes (capture_of bytes))
    (Err (status.OverLimit 3 (tally.bytes + length bytes))))
    (le-leb _ _ both)

pub bad_capture : (tally : Tally) (bytes : List ℕ) (error : PcapError) → length bytes ≤ capture_limit →
    tally.bytes + length bytes ≤ captures_limit → capture_of bytes ≡ Err error → error ≢ PcapNoMemory →
    IsBadCapture tally bytes (status.CaptureBad tally.lanes error)
bad_capture tally bytes error within both is not =
    (inl (error, not, refl), within_capture tally bytes within both ∙ ap (spelled_capture tally bytes) is)

pub too_many : (tally : Tally) (bytes : List ℕ) (capture : Capture) (ended : Status) → length bytes ≤ capture_limit →
    tally.bytes + length bytes ≤ captures_limit → capture_of bytes ≡ Ok capture →
    Refuses ⊥ (AreTooMany tally bytes capture) ended → Refuses ⊥ (IsBadCapture tally bytes) ended
too_many tally bytes capture ended within both is h =
    refuses_weaker ⊥ ⊥ (AreTooMany tally bytes capture) (IsBadCapture tally bytes) ended (λ none. none)
    (λ many. (
      inr (inr many.0),
      within_capture tally bytes within both ∙ ap (spelled_capture tally bytes) is ∙ many.1,
    ))
    h

-- a capture's refusal is one of the input's
pub capture_refuses : (rose : Type 0) (name bytes : List ℕ) (tally : Tally) (held : Option (List ℕ))
    (ended : Status) →
    IfSome held (λ h. bytes ≡ h) → Refuses ⊥ (IsBadCapture tally bytes) ended →
    Refuses rose (RefusesOne (CaptureFile name) tally held) ended
capture_refuses rose name bytes tally held ended is h =
    refuses_weaker ⊥ rose (IsBadCapture tally bytes) (RefusesOne (CaptureFile name) tally held) ended
    (λ none. absurd none)
    (λ bad. (
      elim (bad.0) [ inl own ↦ inl own | inr limit ↦ inr (inr limit) ],
      told_weaker (λ b. bytes ≡ b) (λ b. capture_reading tally b ≡ Err ended) held
          (λ b e. subst (λ (x : List ℕ). capture_reading tally x ≡ Err ended) e bad.1) is,
    ))
    h

-- words that name captures
pub are_captures_is : (words : List (List ℕ)) (proper : Bool) → 1 ≤ length words → length words ≤ 32 →
    proper ≡ list_all is_proper words → proper ≡ are_captures words
are_captures_is words proper some few is = rw (le-leb 1 (length words) some, le-leb (length words) 32 few) is

-- a file by its name and its text
pub file_is : (name spelled text written : List ℕ) (file : File) → file ≡ record { name = name; text = text } →
    name ≡ spelled → text ≡ written → file ≡ record { name = spelled; text = written }
file_is name spelled text written file is same alike =
    is ∙ ap (λ (n : List ℕ). let made : File = record { name = n; text = text } in made) same
    ∙ ap (λ (t : List ℕ). let made : File = record { name = spelled; text = t } in made) alike

-- three files behind others
pub three_more : (captures a b c d : List File) (one two three first second third : File) → a ≡ captures →
    b ≡ a ++ one ∷ [] → c ≡ b ++ two ∷ [] → d ≡ c ++ three ∷ [] → one ≡ first → two ≡ second → three ≡ third →
    d ≡ captures ++ first ∷ second ∷ third ∷ []
three_more captures a b c d one two three first second third is1 is2 is3 is4 e1 e2 e3 =
    is4
    ∙ ap (λ (x : List File). x ++ three ∷ [])
    (is3 ∙ ap (λ (x : List File). x ++ two ∷ []) (is2 ∙ ap (λ (x : List File). x ++ one ∷ []) is1))
    ∙ ap (λ (x : List File). x ++ three ∷ []) (append_assoc (captures) (one ∷ []) (two ∷ []))
    ∙ append_assoc captures (one ∷ two ∷ []) (three ∷ [])
    ∙ ap (λ (f : File). captures ++ f ∷ two ∷ three ∷ []) e1
    ∙ ap (λ (f : File). captures ++ first ∷ f ∷ three ∷ []) e2
    ∙ ap (λ (f : File). captures ++ first ∷ second ∷ f ∷ []) e3
