-- What holds of a machine's stands at each step holds in the end.
use Rattle.std.proofs.Common.{◌≡◌, ℕ, None, List, [], ◌∷◌, ap}
use Rattle.slnf_access.specs.declared.requests.Entry.{Entry}
use Rattle.slnf_access.specs.declared.requests.Reply.{Reply}
use Rattle.slnf_access.specs.Machines.{Machine, Stand, Flies, Ends, stand_after, decided_at}
use Rattle.slnf_run.proofs.NextAccess.{stand_after-ended}
use Rattle.slnf_flight.specs.Begins.{no_sweeps}

pub stands_keep : {F : Type 0} (m : Machine F) (P : Stand F → Type 0)
    → ((flight : F) (reply : Reply) → P (Flies flight) → P (m.goes flight reply)) → (st : Stand F) (own : List Entry)
    → P st → P (stand_after m st own)
stands_keep m P step st [] h = h
stands_keep m P step (Flies flight) (e ∷ own) h = stands_keep m P step (m.goes flight e.reply) own
    (step flight e.reply h)
stands_keep m P step (Ends end) (e ∷ own) h = stands_keep m P step (Ends end) own h

-- a function without a sweep decides nothing in one
pub nothing_swept : {F : Type 0} (m : Machine F) (i k : ℕ) (own : List Entry)
    → decided_at m (stand_after m (no_sweeps i k) own) ≡ None
nothing_swept m i k own = ap (decided_at m) (stand_after-ended m None own)
