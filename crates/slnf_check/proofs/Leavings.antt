-- Verdicts and outputs are refused by nothing exactly where they are the true ones.
use Rattle.std.proofs.Common.{◌≡◌, ◌+◌, ℕ, Option, Some, None, List, [], ◌∷◌, refl, sym, ap, ◌∙◌, subst}
use Rattle.std.specs.Prelude.{option_map}
use Rattle.slnf_base.specs.declared.packets.Verdict.{Verdict}
use Rattle.slnf_journal.specs.Verdicts.{verdicts_text}
use Rattle.slnf_follow.specs.declared.refusals.Refusal.{Refusal}
use Rattle.slnf_check.specs.Compare.{first_other_byte, first_other_line, line_at}
use Rattle.slnf_check.specs.Outputs.{or_else, refused_at, verdicts_refusal, outputs_refusal}
use Rattle.slnf_check.proofs.SameTexts.{unmapped, same_where_none, none_where_same}

-- the first of two refusals is none exactly where both are
pub both_none : (one other : Option Refusal) → or_else one other ≡ None → (one ≡ None) × (other ≡ None)
both_none None other h = (refl, h)
both_none (Some refusal) other h = cc

pub verdicts_true : (text : List ℕ) (verdicts : List (List Verdict)) → verdicts_refusal text verdicts ≡ None →
    text ≡ verdicts_text verdicts
verdicts_true text verdicts h = same_where_none text (verdicts_text verdicts)
    (unmapped (line_at text) (first_other_byte text (verdicts_text verdicts))
    (unmapped _ (first_other_line text (verdicts_text verdicts)) h))

pub verdicts_same : (text : List ℕ) (verdicts : List (List Verdict)) → text ≡ verdicts_text verdicts →
    verdicts_refusal text verdicts ≡ None
verdicts_same text verdicts is =
    subst (λ (t : List ℕ). verdicts_refusal t verdicts ≡ None) (sym is)
    (ap (option_map _) (ap (option_map (line_at (verdicts_text verdicts))) (none_where_same (verdicts_text verdicts))))

pub outputs_true : (lane : ℕ) (outputs owns : List (List ℕ)) → outputs_refusal lane outputs owns ≡ None →
    outputs ≡ owns
outputs_true lane [] [] h = refl
outputs_true lane [] (own ∷ owns) h = cc
outputs_true lane (output ∷ outputs) [] h = cc
outputs_true lane (output ∷ outputs) (own ∷ owns) h =
    let both = both_none (option_map (refused_at lane) (first_other_byte output own))
    (outputs_refusal (lane + 1) outputs owns) h in
    let head : output ≡ own =
    same_where_none output own (unmapped (refused_at lane) (first_other_byte output own) both.0) in
    let tail : outputs ≡ owns = outputs_true (lane + 1) outputs owns both.1 in
    ap (λ (text : List ℕ). text ∷ outputs) head ∙ ap (λ (texts : List (List ℕ)). own ∷ texts) tail

none_of_one : (lane : ℕ) (outputs : List (List ℕ)) → outputs_refusal lane outputs outputs ≡ None
none_of_one lane [] = refl
none_of_one lane (output ∷ outputs) =
    ap (λ (r : Option Refusal). or_else r (outputs_refusal (lane + 1) outputs outputs))
    (ap (option_map (refused_at lane)) (none_where_same output))
    ∙ none_of_one (lane + 1) outputs

pub outputs_same : (lane : ℕ) (outputs owns : List (List ℕ)) → outputs ≡ owns →
    outputs_refusal lane outputs owns ≡ None
outputs_same lane outputs owns is =
    subst (λ (texts : List (List ℕ)). outputs_refusal lane texts owns ≡ None) (sym is) (none_of_one lane owns)
