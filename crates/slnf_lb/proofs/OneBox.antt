-- One ordinary balancer explains each legal list of paths.
use Rattle.std.proofs.Common.{◌≡◌, ℕ, Some, None, List, [], ◌∷◌, refl}
use Rattle.slnf_base.specs.declared.plans.Service.{Service}
use Rattle.slnf_access.specs.declared.requests.Entry.{Entry}
use Rattle.slnf_access.specs.Map.{Cells, map_after, IsLegal}
use Rattle.slnf_access.specs.Machines.{Stand, Flies, Ends, stand_of_step, decided_at}
use Rattle.slnf_run.specs.Boxes.{IsExplained}
use Rattle.slnf_run.specs.Keeps.{HasPaths, IsKept, Keeps, Anything}
use Rattle.slnf_run.proofs.KeepingBoxes.{kept_explained}
use Rattle.slnf_box.specs.LbBox.{Pins, lb_box}
use Rattle.slnf_lb.specs.Flight.{Flying}
use Rattle.slnf_lb.specs.Machine.{lb_goes, lb_machine}
use Rattle.slnf_lb.specs.StoredPins.{IsSameMap}
use Rattle.slnf_lb.specs.Kept.{IsKeptUp}
use Rattle.slnf_lb.specs.Scene.{lb_scene, BeginAsFlights}
use Rattle.slnf_lb.proofs.Laws.{lb_kept, same-empty}

-- what a packet's step keeps is what the box owes at it
kept_up : (service : Service) (kept : Pins) (first : Flying) (cells : Cells) (stand : Stand Flying) →
    IsKeptUp service kept first.packet first.choice cells stand →
    IsKept (lb_box service) (λ now. IsSameMap now cells) kept
    (record { packet = first.packet; choice = first.choice }) (decided_at (lb_machine service) stand)
kept_up service kept first cells (Flies flight) h = h
kept_up service kept first cells (Ends None) h = h
kept_up service kept first cells (Ends (Some verdict)) h = h

pub lb_explained : (service : Service) (begins : ℕ → ℕ → Stand Flying) (es : List Entry) →
    BeginAsFlights service begins → IsLegal es → HasPaths (lb_scene service begins) es →
    IsExplained (lb_scene service begins) (lb_box service) IsSameMap es
lb_explained service begins es flights legal paths =
    kept_explained (lb_scene service begins) (lb_box service) IsSameMap Anything es keeps legal paths
    (λ before later e split. tt)
  where
    keeps : Keeps (lb_scene service begins) (lb_box service) IsSameMap Anything
    keeps = record {
      steady = λ incarnation flight reply verdict h. absurd (cc);
      at_decider = λ es number first verdict. refl;
      at_first = same-empty;
      at_entry = λ cells own e first flight content next known same.
          kept_up service content first (map_after cells (e ∷ [])) (stand_of_step (lb_goes service flight e.reply))
          (lb_kept service content cells own e first flight (flights e.incarnation e.item first next.begins) next.stands
          next.asked next.replied same);
    }
