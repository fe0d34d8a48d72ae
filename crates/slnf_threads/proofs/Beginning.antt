-- A run before its first epoch.
use Rattle.std.proofs.Common.{◌≡◌, ℕ, List, [], length, refl, sym, ap, subst, arith}
use Rattle.slnf_plan.specs.declared.plan.Plan.{Plan}
use Rattle.slnf_turns.specs.declared.views.View.{View}
use Rattle.slnf_turns.specs.Passes.{AllJoined}
use Rattle.slnf_turns.specs.Views.{first_view}
use Rattle.slnf_store.specs.Stores.{IsOf, shards_of}
use Rattle.slnf_run.specs.Setting.{Setting}
use Rattle.slnf_run.specs.Parts.{posts_from}
use Rattle.slnf_flight.specs.declared.lanes.Lane.{Lane}
use Rattle.slnf_flight.specs.PlanSetting.{setting_of}
use Rattle.slnf_threads.specs.declared.plans.Run.{Run}
use Rattle.slnf_ledger.specs.Ledger.{verdicts_at, places_in}
use Rattle.slnf_ledger.specs.Told.{IsToldSoFar}
use Rattle.slnf_ledger.proofs.Told.{told_first}
use Rattle.slnf_threads.specs.Passing.{AgreesBefore, HavePassed}
use Rattle.slnf_threads.specs.UnderWay.{IsUnderWay}

first_passed : {F A : Type 0} (s : Setting F A) (places : ℕ → ℕ) → ((lane : ℕ) → places lane ≡ 0) →
    HavePassed s 0 0 places first_view
first_passed s places none =
    let begin : (λ lane. 0) ≡ places = λ i lane. sym (none lane) i in
    record {
      base_is = refl;
      root_is = refl;
      splits = refl;
      numbers = refl;
      split = λ i numbers at. absurd (cc);
      worked = λ es agrees. record {
        posts = [];
        count = refl;
        whole = ap (λ p. posts_from s es 0 0 p s.eras) begin;
        each = λ i post at. absurd (cc);
      };
    }

pub under_way_first : (plan : Plan) (lanes : List Lane) (run : Run) → IsOf run.store run.root →
    shards_of run.store ≡ plan.shards → run.root.known ≡ first_view → run.root.clock ≡ 0 → run.base ≡ 0 →
    length run.ledger ≡ 32 → ((lane : ℕ) → verdicts_at run.ledger lane ≡ []) → IsUnderWay plan lanes 0 run
under_way_first plan lanes run here shards known clock base count no_verdict =
    let none : (lane : ℕ) → places_in run.ledger lane ≡ 0 = λ lane. ap length (no_verdict lane) in
    record {
      gathered = record {
        here = here;
        shards = sym shards;
        root = ap (λ (v : View). v.number) known;
        joined = subst AllJoined (sym known) refl;
        clock = λ bound all. omega (arith, clock);
      };
      passed = subst (λ b. HavePassed (setting_of plan lanes) 0 b (places_in run.ledger) run.root.known) (sym base)
          (subst (HavePassed (setting_of plan lanes) 0 0 (places_in run.ledger)) (sym known)
          (first_passed (setting_of plan lanes) (places_in run.ledger) none));
      told = subst (λ b. IsToldSoFar (setting_of plan lanes) (AgreesBefore run.base run.root.known) 0 b run.ledger)
          (sym base)
          (told_first (setting_of plan lanes) (AgreesBefore run.base run.root.known) run.ledger no_verdict);
      fits = λ lane. omega (arith, none lane);
      lanes_are = count;
      base = omega (arith, base);
    }
