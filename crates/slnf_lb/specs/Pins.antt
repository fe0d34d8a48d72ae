-- No client's backend changes while its entry stands.
use Rattle.std.specs.Prelude.{◌≡◌, ℕ, ◌≤◌, Some, List, take}
use Rattle.slnf_base.specs.declared.addresses.Pair.{Pair}
use Rattle.slnf_base.specs.declared.packets.Proto.{Proto}
use Rattle.slnf_access.specs.declared.requests.Entry.{Entry}
use Rattle.slnf_access.specs.Map.{empty, map_after}
use Rattle.slnf_lb.specs.StoredPins.{pin_at}

-- a client that has a backend after some prefix has it after every longer one
pub record PinsStay (j : List Entry) : Type 0 where
  pub stays : (proto : Proto) (client backend : Pair) (t u : ℕ) → t ≤ u →
      pin_at (map_after empty (take t j)) proto client ≡ Some backend →
      pin_at (map_after empty (take u j)) proto client ≡ Some backend
