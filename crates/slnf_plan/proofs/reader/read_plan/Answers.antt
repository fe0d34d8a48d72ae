use Rattle.std.proofs.Common.{sym, ◌∙◌, []}
use Rattle.std.specs.Prelude.{unwrap_or}
use Rattle.std.proofs.lemmas.Bool.{true≢false}
use Rattle.toml.specs.Errors.{IsMemory}
use Rattle.toml.specs.View.{table_view}
use Rattle.slnf_plan.specs.Plain.{plain}
use Rattle.slnf_plan.specs.Reading.{plan_of_bytes}
use Rattle.slnf_plan.proofs.ReadLaws.{bytes_plan, bytes_refused, bytes_not_toml, refuses_at}
use Rattle.slnf_plan.proofs.reader.read_plan.Goals as goal

pub returns-in-Err-clause-refused : goal.returns-in-Err-clause-refused
returns-in-Err-clause-refused c =
    let other : IsMemory c.in-Err.error → ⊥ = λ memory. true≢false (sym (c.is_memory.ensures.1 memory) ∙ c.if-is_memory.false) in
    rw (c.from_string.ensures, c.new.ensures.bytes)
    (bytes_not_toml c.args.bytes.now (λ utf8. c.in-Err.ensures.refused other utf8))

pub returns-in-Ok-plan_of-clause-plan : goal.returns-in-Ok-plan_of-clause-plan
returns-in-Ok-plan_of-clause-plan c =
    let ok = c.in-Ok.ensures.ok in
    bytes_plan c.args.bytes.now (table_view c.in-Ok.table) (plain c.in-Ok-plan_of.plan) ok.0 ok.1 c.in-Ok-plan_of.ensures

pub returns-clause-refused : goal.returns-clause-refused
returns-clause-refused c =
    let ok = c.in-Ok.ensures.ok in
    let refusal = c.in-Err-Refused.refusal in
    let refused = rw c.in-Err-Refused.field-0-is at c.in-Err-Refused.ensures in
    rw c.error_of.ensures (refuses_at (plan_of_bytes c.args.bytes.now) refusal.cause
    (unwrap_or refusal.path []) (bytes_refused c.args.bytes.now (table_view c.in-Ok.table) refusal ok.0 ok.1 refused))
