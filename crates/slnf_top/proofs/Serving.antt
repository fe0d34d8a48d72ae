-- What `top` and `top_plain` promise, by how the command of the words ended.
use Rattle.std.proofs.Common.{◌≡◌, Option, Some, None, refl, subst}
use Rattle.slnf_shelf.specs.Shelf.{Faults}
use Rattle.slnf_shelf.proofs.Laws.{Moves-still}
use Rattle.slnf_top.specs.declared.statuses.Status.{Status}
use Rattle.slnf_top.specs.declared.statuses.Status.TheVariants as status
use Rattle.slnf_top.specs.Words.{Command}
use Rattle.slnf_top.specs.Kinds.{kind_of, HasJudged}
use Rattle.slnf_top.specs.Readings.{inputs_of}
use Rattle.slnf_top.specs.Reached.{Holds}
use Rattle.slnf_top.specs.Effects.{NoCalls}
use Rattle.slnf_top.specs.Written.{IsExact}
use Rattle.slnf_top.specs.Outcome.{Ended}
use Rattle.slnf_top.specs.Served.{IsServed}
use Rattle.slnf_top.proofs.Answering.{first_of, follows_plan, carries_none, completes}

-- nothing is none
some_none : {A : Type 0} (o : Option A) (x : A) → o ≡ Some x → o ≡ None → ⊥
some_none o x some none = cc

same_some : {A : Type 0} (o : Option A) (x y : A) → o ≡ Some x → o ≡ Some y → x ≡ y
same_some o x y one other = cc

-- the words ask for a command, which ended
module _ (asked : Option Command) (found : Command) (ended : Status) (a b : Faults) (held holds : Holds)
    (is : asked ≡ Some found) (all : Ended found ended a b held holds)
    (exact : HasJudged (kind_of ended) → IsExact found ended held) where
  -- it is the only one
  its_end : (command : Command) → asked ≡ Some command → Ended command ended a b held holds
  its_end command at =
      subst (λ (c : Command). Ended c ended a b held holds) (same_some asked found command is at) all

  its_exact : (command : Command) → asked ≡ Some command → HasJudged (kind_of ended) → IsExact command ended held
  its_exact command at judged =
      subst (λ (c : Command). IsExact c ended held) (same_some asked found command is at) (exact judged)

  pub served : IsServed asked ended a b held holds
  served = record {
    usage = (λ e. absurd (all.not_usage e), λ none. absurd (some_none asked found is none));
    usage_stays = λ e. absurd (all.not_usage e);
    counts = λ command at. (its_end command at).counts;
    others = λ command at. (its_end command at).others;
    read_fault = λ command at. (its_end command at).read_fault;
    write_fault = λ command at. (its_end command at).write_fault;
    no_fault = all.no_fault;
    nothing_begun = λ command at. (its_end command at).nothing_begun;
    reached = λ command at. (its_end command at).reached;
    plan_refused = λ command at plan bytes named told.
        follows_plan command ended a b held holds plan bytes (its_end command at) named told;
    first_refused = λ command bytes at are refusing.
        first_of held (inputs_of command) ended bytes ((its_end command at).reached refusing) are;
    no_inner_memory = carries_none found ended a b held holds all;
    broken = λ command at. (its_end command at).broken;
    exactly = its_exact;
    passed = λ command at. (its_end command at).passed;
    answered = λ command bytes at are none still.
        completes command ended a b held holds bytes (its_end command at) are none still;
    written = λ command at. (its_end command at).written;
    stopped = λ command at. (its_end command at).stopped;
  }

-- the words are of no form, and nothing was done
module _ (asked : Option Command) (a : Faults) (held : Holds) (none : asked ≡ None) where
  nobody : (command : Command) → asked ≡ Some command → ⊥
  nobody command at = some_none asked command at none

  pub formless : IsServed asked status.Usage a a held held
  formless = record {
    usage = (λ e. none, λ e. refl);
    usage_stays = λ e. (Moves-still NoCalls a, λ name. refl);
    counts = λ command at. absurd (nobody command at);
    others = λ command at. absurd (nobody command at);
    read_fault = λ command at. absurd (nobody command at);
    write_fault = λ command at. absurd (nobody command at);
    no_fault = λ not_read not_write. refl;
    nothing_begun = λ command at. absurd (nobody command at);
    reached = λ command at. absurd (nobody command at);
    plan_refused = λ command at. absurd (nobody command at);
    first_refused = λ command bytes at. absurd (nobody command at);
    no_inner_memory = (λ e. cc, λ lane e. cc);
    broken = λ command at. absurd (nobody command at);
    exactly = λ command at. absurd (nobody command at);
    passed = λ command at. absurd (nobody command at);
    answered = λ command bytes at. absurd (nobody command at);
    written = λ command at. absurd (nobody command at);
    stopped = λ command at. absurd (nobody command at);
  }
