use Rattle.std.specs.Prelude.{ℕ, List, Bool, ◌==◌, ◌&&◌}
use Rattle.std.specs.List.{list_any}
use Rattle.slnf_shelf.specs.declared.shelf.Call.{Call}
use Rattle.slnf_shelf.specs.declared.calls.Fail.{Fail}
use Rattle.slnf_shelf.specs.Calls.{same_call}

-- the list says that the call of this kind and number fails
abbrev pub is_listed : List Fail → Call → ℕ → Bool
is_listed fails call number = list_any (λ fail. same_call fail.call call && (fail.count == number)) fails
