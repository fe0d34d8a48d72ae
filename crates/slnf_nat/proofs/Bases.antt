-- The bases of epochs rise, and none is above its incarnations.
use Rattle.std.proofs.Common.{◌≡◌, ℕ, zero, suc, ◌+◌, ◌-◌, ◌≤◌, nat_lt, Bool, true, false, cond, List, [], ◌∷◌, length, refl, ap, arith, add-one}
use Rattle.std.proofs.lemmas.Bool.{ltb-false}
use Rattle.slnf_run.specs.Setting.{Era, era_of, base_of, own_base}

-- bases rise with epochs
pub base_of-rises : (eras : List Era) (a b : ℕ) → a ≤ b → base_of eras a ≤ base_of eras b
base_of-rises eras zero b h = omega arith
base_of-rises [] (suc a) b h = omega arith
base_of-rises (era ∷ eras) (suc a) zero h = absurd (omega arith)
base_of-rises (era ∷ eras) (suc a) (suc b) h =
    let r : base_of eras a ≤ base_of eras b = base_of-rises eras a b (omega arith) in
    omega arith

pub base_of-below : (eras : List Era) (i : ℕ) → own_base eras i ≤ i
base_of-below [] i = omega arith
base_of-below (era ∷ eras) i = go (nat_lt i (length era.actors)) refl (base_of-below eras (i - length era.actors))
  where
    go : (b : Bool) → nat_lt i (length era.actors) ≡ b
        → own_base eras (i - length era.actors) ≤ i - length era.actors → base_of (era ∷ eras)
        (cond b 0 (era_of eras (i - length era.actors) + 1)) ≤ i
    go true w rest = omega arith
    go false w rest =
        let high : length era.actors ≤ i = ltb-false i (length era.actors) w in
        let next : era_of eras (i - length era.actors) + 1 ≡ suc (era_of eras (i - length era.actors)) =
        add-one (era_of eras (i - length era.actors)) in
        let at : base_of (era ∷ eras) (era_of eras (i - length era.actors) + 1) ≡ length era.actors + own_base eras
        (i - length era.actors) = ap (base_of (era ∷ eras)) next in
        omega arith
