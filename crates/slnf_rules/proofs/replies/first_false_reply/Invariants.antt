-- so many replies are the map's, and the map is what these entries make
use Rattle.std.proofs.Common.{◌≡◌, ℕ, ◌-◌, ◌≤◌, None, length, take, [], nat_eq}
use Rattle.std.specs.HashMap.{get}
use Rattle.slnf_access.specs.Map.{cell_of}
use Rattle.slnf_run.specs.Made.{Grown}
use Rattle.slnf_local.specs.Rules.{IsTrueReply}
use Rattle.slnf_rules.proofs.replies.first_false_reply.Given as goal

abbrev pub invariant-loop-done : goal.invariant-loop-done
invariant-loop-done l = record {
  upto : l.done ≤ length l.entries;
  grown : Grown IsTrueReply [] (take l.done l.entries);
  made : (key : ℕ) → get nat_eq l.map key ≡ cell_of key None (take l.done l.entries);
}

abbrev pub decreases-loop-done : goal.decreases-loop-done
decreases-loop-done l = length l.entries - l.done
