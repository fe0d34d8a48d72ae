-- What is answered tells which rule is broken, and nothing else does.
use Rattle.std.proofs.Common.{◌≡◌, ◌∙◌, Option, List, option_map, sym, ap}
use Rattle.slnf_access.specs.declared.requests.Entry.{Entry}
use Rattle.slnf_run.specs.Setting.{Setting}
use Rattle.slnf_local.specs.declared.broken.Broken.{Broken}
use Rattle.slnf_local.specs.Tells.{Tells}
use Rattle.slnf_local.proofs.Telling.{tells_one}
use Rattle.slnf_follow.specs.declared.refusals.Refusal.{Refusal}
use Rattle.slnf_follow.specs.Refusals.{refusal_of, IsAnswer}

pub answers : {F A : Type 0} (s : Setting F A) (j : List Entry) (broken : Option Broken) (answer : Option Refusal) →
    Tells s j broken → answer ≡ option_map refusal_of broken → (refusal : Option Refusal) →
    (answer ≡ refusal → IsAnswer s j refusal) × (IsAnswer s j refusal → answer ≡ refusal)
answers s j broken answer tells is refusal = (
  λ q. record { broken = broken; tells = tells; answer_is = sym q ∙ is },
  λ a. is ∙ (ap (option_map refusal_of) (tells_one s j broken a.broken tells a.tells) ∙ sym a.answer_is),
)
