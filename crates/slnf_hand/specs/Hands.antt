-- What contracts see of an actor whose entries are followed.
use Rattle.std.specs.Prelude.{◌≡◌, ℕ, ◌-◌, Bool, ◌||◌, ◌==◌, if◌then◌else◌, length}
use Rattle.slnf_run.specs.Jobs.{Job}
use Rattle.slnf_instance.specs.declared.errands.Errand.{Errand}
use Rattle.slnf_instance.specs.Items.{Workload}
use Rattle.slnf_instance.specs.Errands.{job_in}
use Rattle.slnf_instance.specs.Hands.{is_spent}
use Rattle.slnf_local.specs.Hands.{Hand as Held}
use Rattle.slnf_hand.specs.Reached.{Reached, Holds}

-- An actor that is followed: its items and its errand, and how far it has come.
pub record Followed (G F : Type 0) : Type 0 where
  pub items : G
  pub errand : Errand
  pub reached : Reached F

-- it has ended: it is stopped, or no item of its batch flies
abbrev pub is_over : {G F : Type 0} → Followed G F → Bool
is_over hand = is_spent hand.reached.left || (length hand.reached.flights == 0)

-- how many items it took, if it has ended
abbrev pub taken : {G F : Type 0} → Followed G F → ℕ
taken hand = (if is_spent hand.reached.left then hand.reached.through else hand.errand.end) - hand.errand.at

-- The actor has this job by what its items do, and has come as far as one with this hand.
pub record IsHandOf {G F : Type 0} (work : G → Workload F) (job : Job F) (held : Held F) (hand : Followed G F)
    : Type 0 where
  pub job_is : job_in (work hand.items) hand.errand ≡ job
  pub holds : Holds job held hand.reached
