-- How an actor sets out.
use Rattle.std.proofs.Common.{◌≡◌, inl, inr, ℕ, ◌+◌, ◌-◌, true, Option, Some, None, length, sym, ap, ap₂, ◌∙◌, subst, arith}
use Rattle.slnf_run.specs.Jobs.{Job, first_in, offers_in}
use Rattle.slnf_instance.specs.declared.errands.Errand.{Errand}
use Rattle.slnf_instance.specs.Items.{Workload}
use Rattle.slnf_instance.specs.Errands.{job_in}
use Rattle.slnf_instance.specs.Hands.{is_spent}
use Rattle.slnf_local.specs.Hands.{batch_in_hand, items_in}
use Rattle.slnf_local.specs.Cuts.{IsDealt}
use Rattle.slnf_local.proofs.Cuts.{dealt_first}
use Rattle.slnf_hand.specs.declared.progress.Progress.{Progress}
use Rattle.slnf_hand.specs.Reached.{IsLeft, Rests, next_in, end_of, offers_from, IsDealtTo, DealsOn}
use Rattle.slnf_hand.specs.Progress.{reached, Fits, IsSameCount, IsNew, IsFirst}

left_first : (stop : Option ℕ) → IsLeft stop stop 0
left_first None = tt
left_first (Some stop) = omega arith

-- an actor that is to stop before its first access
pub first_spent : {F : Type 0} (work : Workload F) (errand : Errand) (progress : Progress F) → IsNew errand progress →
    is_spent progress.left ≡ true → IsFirst work errand progress
first_spent work errand progress new spent = record {
  errand_is = new.errand_is;
  fits = new.fits;
  holds = record {
    left_is = subst (λ l. IsLeft errand.stop l 0) (sym new.left) (left_first errand.stop);
    through_is = (let t : progress.through ≡ errand.at = new.through in omega arith);
    rests = inl spent;
  };
}

-- and one that goes to its first batch of which an item flies
pub first_dealt : {F : Type 0} (work : Workload F) (errand : Errand) (progress dealt : Progress F) →
    IsNew errand progress → IsSameCount progress dealt → Fits dealt →
    DealsOn (job_in work errand) (reached progress) (reached dealt) → IsFirst work errand dealt
first_dealt {F = F} work errand progress dealt new same fits deals =
    let job : Job F = job_in work errand in
    let start : errand.at + 0 ≡ job.at = omega arith in
    let end : end_of (reached progress) ≡ job.at = ap₂ (λ a xs. a + length xs) new.from new.none ∙ start in
    let left : job.at + job.count - job.at ≡ job.count = omega arith in
    let go : IsDealtTo job 0 (end_of (reached progress)) = subst (IsDealtTo job 0) (sym end)
    (subst (λ n. IsDealt (offers_in job) job.batch (first_in job) job.at 0 job.at n) (sym left)
    (dealt_first job.batch (first_in job) job.at job.count)) in
    let next : next_in job 0 (end_of (reached progress)) ≡ batch_in_hand job.begins (offers_in job) =
    ap (next_in job 0) end ∙ ap (λ n. batch_in_hand job.begins (offers_from job 0 job.at n)) left in
    record {
      errand_is = same.errand ∙ new.errand_is;
      fits = fits;
      holds = record {
        left_is = subst (λ l. IsLeft errand.stop l 0) (sym new.left ∙ sym same.left) (left_first errand.stop);
        through_is = (let t : dealt.through ≡ errand.at = same.through ∙ new.through in omega arith);
        rests = inr (subst (λ b. Rests job b (items_in job.begins b (offers_in job)) (reached dealt)) next
            (deals 0 go));
      };
    }
