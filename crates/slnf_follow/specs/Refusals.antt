-- The rules of runs by their numbers, and which of them a list of entries is refused by.
use Rattle.std.specs.Prelude.{◌≡◌, Option, List, option_map}
use Rattle.slnf_access.specs.declared.requests.Entry.{Entry}
use Rattle.slnf_run.specs.Setting.{Setting}
use Rattle.slnf_local.specs.declared.broken.Broken.{Broken}
use Rattle.slnf_local.specs.declared.broken.Broken.TheVariants.{Order, Reply, Unexpected, Unended}
use Rattle.slnf_local.specs.Tells.{Tells}
use Rattle.slnf_follow.specs.declared.refusals.At.TheVariants.{Entry as AtEntry, Incarnation as AtIncarnation}
use Rattle.slnf_follow.specs.declared.refusals.Refusal.{Refusal}

-- 2: the entries are in order, in their keys' shards; 3: the replies are the map's; 4: each entry is expected; 5: each
-- actor has ended
abbrev pub refusal_of : Broken → Refusal
refusal_of (Order place) = record { rule = 2; at = AtEntry place }
refusal_of (Reply place) = record { rule = 3; at = AtEntry place }
refusal_of (Unexpected place) = record { rule = 4; at = AtEntry place }
refusal_of (Unended incarnation) = record { rule = 5; at = AtIncarnation incarnation }

-- The list is a run of the setting, or this is the first rule that it breaks, with its least place.
pub record IsAnswer {F A : Type 0} (s : Setting F A) (j : List Entry) (answer : Option Refusal) : Type 0 where
  pub broken : Option Broken
  pub tells : Tells s j broken
  pub answer_is : answer ≡ option_map refusal_of broken
