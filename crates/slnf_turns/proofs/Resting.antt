-- What a pass has in hand between two calls.
use Rattle.std.proofs.Common.{◌≡◌, ℕ, ◌<◌, true, List, [], ◌∷◌, Option, None, refl, sym, ap, ap₂, ◌∙◌, subst, lt-ltb, ltb-true}
use Rattle.std.proofs.lemmas.Bool.{false≢true}
use Rattle.atomic_table.specs.Seated.{TableId}
use Rattle.atomic_table.specs.declared.shared.Seat.{Seat}
use Rattle.slnf_turns.specs.declared.views.Line.{Line}
use Rattle.slnf_turns.specs.declared.views.View.{View}
use Rattle.slnf_turns.specs.declared.views.Stage.{Stage}
use Rattle.slnf_turns.specs.declared.views.Stage.TheVariants.{Free, Waits, Turn, Open, Spent}
use Rattle.slnf_turns.specs.Rule.{living_at}
use Rattle.slnf_turns.specs.Hands.{is_resting, hand_of, posed}

pub resting_lives : (n : ℕ) (st : Stage) → is_resting n st ≡ true → living_at st ≡ 1
resting_lives n Free e = refl
resting_lives n (Waits k t) e = refl
resting_lives n (Turn k t) e = refl
resting_lives n (Open k t base more) e = refl
resting_lives n Spent e = absurd (false≢true e)

-- the open shard is one of the values'
pub open_inside : (n k t : ℕ) (base : List Line) (st : Stage) → is_resting n st ≡ true → st ≡ Open k t base [] → k < n
open_inside n k t base st e is = ltb-true k n (subst (λ (z : Stage). is_resting n z ≡ true) is e)

module _ {B : Type 0} where
  pub in_hand : (s : Seat (Option B) View) (st : Stage) → s ≡ posed s → s.me.0.stage ≡ st → s.me.1 ≡ hand_of st
  in_hand s st e is = ap (λ (z : Seat (Option B) View). z.me.1) e ∙ ap hand_of is

  abbrev pub Rests : Seat (Option B) View → Type 0
  Rests s = (is_resting s.table_id.slots s.me.0.stage ≡ true) × (s ≡ posed s)

  pub is_posed : (s : Seat (Option B) View) → s.me.1 ≡ hand_of s.me.0.stage → s ≡ posed s
  is_posed s e = λ i. record s { me = (s.me.0, e i) }

  pub rests_again : (old new : Seat (Option B) View)
      → new.table_id ≡ old.table_id → new.me.0.stage ≡ old.me.0.stage → new.me.1 ≡ old.me.1 → Rests old → Rests new
  rests_again old new table stage hand r = (
    ap₂ (λ (z : TableId) (st : Stage). is_resting z.slots st) table stage ∙ r.0,
    is_posed new (hand ∙ (in_hand old old.me.0.stage r.1 refl ∙ ap hand_of (sym stage))),
  )

  pub rests_free : (s : Seat (Option B) View) → s.me.0.stage ≡ Free → s.me.1 ≡ [] → Rests s
  rests_free s stage hand = (ap (is_resting s.table_id.slots) stage, is_posed s (hand ∙ ap hand_of (sym stage)))

  pub rests_open : (s : Seat (Option B) View) (k t : ℕ) (base : List Line)
      → s.me.0.stage ≡ Open k t base [] → s.me.1 ≡ (k, None) ∷ [] → k < s.table_id.slots → Rests s
  rests_open s k t base stage hand inside = (
    ap (is_resting s.table_id.slots) stage
        ∙ lt-ltb k s.table_id.slots inside,
    is_posed s (hand ∙ ap hand_of (sym stage)),
  )
