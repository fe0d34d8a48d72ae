-- How to show what a box owes at an entry.
use Rattle.std.proofs.Common.{◌≡◌, ℕ, cond, ◌==◌, Option, [], ◌∷◌, refl, ap, sym, ◌∙◌, subst₂}
use Rattle.slnf_access.specs.declared.requests.Entry.{Entry}
use Rattle.slnf_access.specs.declared.requests.Held.{Held}
use Rattle.slnf_access.specs.declared.requests.Request.{Request}
use Rattle.slnf_access.specs.declared.requests.Reply.{Reply}
use Rattle.slnf_access.specs.Map.{key_of, reply_to, cell_after, Cells, map_after}
use Rattle.slnf_access.specs.Machines.{Machine, decided_at}
use Rattle.slnf_run.specs.Visits.{newly}
use Rattle.slnf_run.specs.Boxes.{Box}
use Rattle.slnf_run.specs.Keeps.{IsKept}

-- the map after an access with this stamp
abbrev pub accessed : Cells → Request → ℕ → Cells
accessed cells request stamp = λ key. cond (key_of request == key) (cell_after request stamp (cells key)) (cells key)

-- It is enough to take what the flight's key has by cases, and to show it for the access that the flight asks for and
-- the reply that this access has there.
pub kept_by_cell : {F A C : Type 0} (box : Box A C) (Same : C → Cells → Type 0) (m : Machine F) (cells : Cells)
    (e : Entry) (flight : F) (content : C) (arrival : A) → e.request ≡ m.asks flight → e.reply
    ≡ reply_to e.request e.stamp (cells (key_of e.request)) →
    ((cell : Option Held) → cells (key_of (m.asks flight)) ≡ cell →
    IsKept box (λ now. Same now (accessed cells (m.asks flight) e.stamp)) content arrival
    (newly (m.decided flight) (decided_at m (m.goes flight (reply_to (m.asks flight) e.stamp cell))))) →
    IsKept box (λ now. Same now (map_after cells (e ∷ []))) content arrival
    (newly (m.decided flight) (decided_at m (m.goes flight e.reply)))
kept_by_cell box Same m cells e flight content arrival asked replied each =
    let here : e.reply ≡ reply_to (m.asks flight) e.stamp (cells (key_of (m.asks flight))) = replied
    ∙ ap (λ r. reply_to r e.stamp (cells (key_of r))) asked in
    let At : Request → Reply → Type 0 = λ request reply.
    IsKept box (λ now. Same now (accessed cells request e.stamp)) content arrival
    (newly (m.decided flight) (decided_at m (m.goes flight reply))) in
    subst₂ At (sym asked) (sym here) (each (cells (key_of (m.asks flight))) refl)
