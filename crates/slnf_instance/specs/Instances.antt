-- What contracts see of an instance.
use Rattle.std.specs.Prelude.{◌≡◌, ℕ, Option, Some, None, List, [], if◌then◌else◌, slice_get}
use Rattle.slnf_base.specs.declared.packets.Verdict.{Verdict}
use Rattle.slnf_access.specs.declared.requests.Ask.{Ask}
use Rattle.slnf_access.specs.declared.requests.Entry.{Entry}
use Rattle.slnf_access.specs.declared.requests.Reply.{Reply}
use Rattle.slnf_access.specs.Map.{CanReply}
use Rattle.slnf_run.specs.Jobs.{Job}
use Rattle.slnf_instance.specs.declared.errands.Errand.{Errand}
use Rattle.slnf_instance.specs.Items.{Workload}
use Rattle.slnf_instance.specs.Errands.{job_in}
use Rattle.slnf_instance.specs.Works.{Stands}
use Rattle.slnf_instance.specs.Hands.{is_spent}

-- An actor at work: its items and its errand, how many accesses are left up to its stop, and where it is: its batch
-- begins with the item `from` and has these flights, the accesses left of its round are `rest`, and these are the
-- verdicts so far.
pub record Acting (G F : Type 0) : Type 0 where
  pub items : G
  pub errand : Errand
  pub left : Option ℕ
  pub from : ℕ
  pub flights : List (Option F)
  pub rest : List Ask
  pub verdicts : List Verdict

-- what the actor asks
abbrev pub ask_by : {G F : Type 0} → Acting G F → Option Ask
ask_by i = if is_spent i.left then None else slice_get i.rest 0

-- what is left of the actor's round
abbrev pub round_by : {G F : Type 0} → Acting G F → List Ask
round_by i = if is_spent i.left then [] else i.rest

-- The actor has this job by what its items do, and stands where it is after these entries of its own.
pub record StandsBy {G F : Type 0} (work : G → Workload F) (job : Job F) (own : List Entry) (i : Acting G F) : Type 0
  where
    pub job_is : job_in (work i.items) i.errand ≡ job
    pub stands : Stands job own i.left i.from i.flights i.rest i.verdicts

-- an access is asked for, and it can have the reply
abbrev pub CanAnswer : Option Ask → Reply → Type 0
CanAnswer None reply = ⊥
CanAnswer (Some ask) reply = CanReply ask.request reply

-- the entry is of what is asked, with this reply
abbrev pub IsAnswer : Option Ask → Reply → Entry → Type 0
IsAnswer None reply e = ⊥
IsAnswer (Some ask) reply e = (e.item ≡ ask.item) × (e.request ≡ ask.request) × (e.reply ≡ reply)
