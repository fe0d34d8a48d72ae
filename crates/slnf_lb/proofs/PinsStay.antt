-- No client's backend changes in a legal list of paths.
use Rattle.std.proofs.Common.{◌≡◌, ℕ, zero, suc, ◌≤◌, Option, Some, None, List, [], ◌∷◌, ◌++◌, take, drop, refl, ap, sym, ◌∙◌, subst, arith}
use Rattle.std.specs.List.{AllByRecursion}
use Rattle.std.proofs.lemmas.List.{take-append-drop}
use Rattle.slnf_base.specs.declared.addresses.Pair.{Pair}
use Rattle.slnf_base.specs.declared.plans.Service.{Service}
use Rattle.slnf_access.specs.declared.requests.Held.{Held}
use Rattle.slnf_access.specs.declared.requests.Entry.{Entry}
use Rattle.slnf_access.specs.Map.{cell_step, cell_of, empty, map_after, IsLegal}
use Rattle.slnf_access.specs.Machines.{Stand}
use Rattle.slnf_access.proofs.Laws.{cell_of-append}
use Rattle.slnf_access.proofs.Elements.{each-splits, each-front, each-back}
use Rattle.slnf_run.specs.Keeps.{HasPaths}
use Rattle.slnf_run.proofs.NextAccess.{is_next}
use Rattle.slnf_run.proofs.DecidedOnce.{take_further}
use Rattle.slnf_keys.specs.Keys.{pin_key_number}
use Rattle.slnf_lb.specs.Flight.{Flying}
use Rattle.slnf_lb.specs.StoredPins.{backend_in}
use Rattle.slnf_lb.specs.Scene.{lb_scene}
use Rattle.slnf_lb.specs.Pins.{PinsStay}
use Rattle.slnf_lb.proofs.Laws.{held_stays}

-- the entry leaves what a key has
abbrev Leaves : Entry → Type 0
Leaves e = (k : ℕ) (held : Held) → cell_step k (Some held) e ≡ Some held

-- entries that leave what a key has leave it together
leaves_all : (k : ℕ) (held : Held) (es : List Entry) → AllByRecursion Leaves es → cell_of k (Some held) es ≡ Some held
leaves_all k held [] h = refl
leaves_all k held (e ∷ es) h = ap (λ (o : Option Held). cell_of k o es) (h.0 k held) ∙ leaves_all k held es h.1

-- what a key has after a front it has after the whole
stays_whole : (k : ℕ) (held : Held) (front back : List Entry) → AllByRecursion Leaves back →
    cell_of k None front ≡ Some held → cell_of k None (front ++ back) ≡ Some held
stays_whole k held front back h there =
    cell_of-append k None front back ∙ ap (λ (o : Option Held). cell_of k o back) there ∙ leaves_all k held back h

-- nothing is not something
none_pair : {backend : Pair} → let none : Option Pair = None in none ≡ Some backend → ⊥
none_pair h = cc

-- what is found in a cell that has a backend
held_by : (o : Option Held) (backend : Pair) → backend_in o ≡ Some backend → (held : Held) × (o ≡ Some held)
held_by None backend h = absurd (none_pair h)
held_by (Some held) backend h = (held, refl)

pub pins_stay : (service : Service) (begins : ℕ → ℕ → Stand Flying) (es : List Entry) → IsLegal es →
    HasPaths (lb_scene service begins) es → PinsStay es
pins_stay service begins es legal paths = record {
  stays = λ proto client backend t u le h.
      let k : ℕ = pin_key_number (record { proto = proto; client = client }) in
      let there : (held : Held) × (map_after empty (take t es) k ≡ Some held) =
      held_by (map_after empty (take t es) k) backend h in
      let later : List Entry = drop t (take u es) in
      let whole : take u es ≡ take t es ++ later = take_further t u es le in
      let front : AllByRecursion Leaves (take u es) =
      each-front Leaves (take u es) (drop u es) (subst (AllByRecursion Leaves) (sym (take-append-drop u es)) leaves) in
      let back : AllByRecursion Leaves later =
      each-back Leaves (take t es) later (subst (AllByRecursion Leaves) whole front) in
      ap backend_in (ap (λ xs. cell_of k None xs) whole ∙ stays_whole k there.0 (take t es) later back there.1)
      ∙ ap backend_in (sym there.1)
      ∙ h;
}
  where
    leaves : AllByRecursion Leaves es
    leaves = each-splits Leaves es (λ before later e split k held.
        let next = is_next (lb_scene service begins) es legal paths before later e split in
        held_stays next.1 k held e next.2.asked)
