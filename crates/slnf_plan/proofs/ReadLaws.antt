-- What is said of bytes, from what was read of their table.
use Rattle.std.proofs.Common.{◌≡◌, ℕ, List, [], Some, None, Result, Ok, Err, refl, ap, ◌∙◌}
use Rattle.std.specs.Str.{IsUtf8, is_utf8}
use Rattle.std.proofs.lemmas.Bool.{cases_Bool}
use Rattle.std.proofs.Common.{inl, inr}
use Rattle.std.proofs.lemmas.Str.{IsUtf8-from_is_utf8, is_utf8-from_IsUtf8}
use Rattle.toml.specs.Data.{Members}
use Rattle.toml.specs.Parse.{parse_document}
use Rattle.slnf_plan.specs.declared.error.PlanError.{PlanError}
use Rattle.slnf_plan.specs.declared.error.PlanError.TheVariants as errors
use Rattle.slnf_plan.specs.declared.refusal.Cause.{Cause}
use Rattle.slnf_plan.specs.declared.refusal.Cause.TheVariants as causes
use Rattle.slnf_plan.specs.declared.refusal.Refusal.{Refusal}
use Rattle.slnf_plan.specs.Plain.{PlainPlan}
use Rattle.slnf_plan.specs.Plans.{plan_of}
use Rattle.slnf_plan.specs.Reading.{table_of, error_at, error_of, told, plan_or_error, plan_of_bytes, Refuses}

pub table_some : (bytes : List ℕ) (ms : Members) → IsUtf8 bytes → parse_document bytes ≡ Some ms → table_of bytes ≡ Some ms
table_some bytes ms utf8 e = rw (is_utf8-from_IsUtf8 bytes utf8) e

pub table_none : (bytes : List ℕ) → (IsUtf8 bytes → parse_document bytes ≡ None) → table_of bytes ≡ None
table_none bytes none =
    elim (cases_Bool (is_utf8 bytes)) [
      | inl utf8 ↦ rw utf8 (none (IsUtf8-from_is_utf8 bytes utf8))
      | inr other ↦ rw other refl
    ]

pub bytes_plan : (bytes : List ℕ) (ms : Members) (p : PlainPlan)
    → IsUtf8 bytes → parse_document bytes ≡ Some ms → plan_of ms ≡ Ok p → plan_of_bytes bytes ≡ Ok p
unfolding plan_of_bytes
bytes_plan bytes ms p utf8 e read = ap plan_or_error (table_some bytes ms utf8 e) ∙ ap told read

pub bytes_refused : (bytes : List ℕ) (ms : Members) (r : Refusal)
    → IsUtf8 bytes → parse_document bytes ≡ Some ms → plan_of ms ≡ Err r → plan_of_bytes bytes ≡ Err (error_of r)
unfolding plan_of_bytes
bytes_refused bytes ms r utf8 e read = ap plan_or_error (table_some bytes ms utf8 e) ∙ ap told read

pub bytes_not_toml : (bytes : List ℕ) → (IsUtf8 bytes → parse_document bytes ≡ None)
    → plan_of_bytes bytes ≡ Err (errors.NotToml [])
unfolding plan_of_bytes
bytes_not_toml bytes none = ap plan_or_error (table_none bytes none)

-- an error that names a rule is the first refusal
pub refuses_at : (read : Result PlainPlan PlanError) (cause : Cause) (path : List ℕ)
    → read ≡ Err (error_at cause path) → Refuses read (error_at cause path)
refuses_at read causes.MissingKey path e = e
refuses_at read causes.UnknownKey path e = e
refuses_at read causes.WrongType path e = e
refuses_at read causes.BadAddress path e = e
refuses_at read causes.BadPrefix path e = e
refuses_at read causes.OutOfRange path e = e
refuses_at read causes.LaneTwice path e = e
refuses_at read causes.NoBackend path e = e
refuses_at read causes.NoEpoch path e = e
refuses_at read causes.ScheduleActor path e = e
