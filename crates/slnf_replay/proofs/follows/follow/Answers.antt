-- one entry of a run
use Rattle.std.proofs.Common.{◌≡◌, IfOk, sym, ◌∙◌, subst}
use Rattle.std.proofs.lemmas.Option.{slice_get-get_or}
use Rattle.slnf_replay.proofs.AtEntries.{any_entry}
use Rattle.slnf_replay.proofs.OneEntry.{held_or, on_ok, none_taken, unseen_place, unseen_hands, incarnation_small, item_small, epoch_within, hand_there, can, place_is_told, hands_next}
use Rattle.slnf_replay.proofs.follows.follow.Goals as goal

pub returns-in_default-clause-place : goal.returns-in_default-clause-place
returns-in_default-clause-place c =
    unseen_place c.args.plan.now c.args.lanes.now c.args.journal.now c.requires.run c.args.number _
    (slice_get-get_or c.args.journal.now c.args.number any_entry c.requires.number) c.args.seats.now c.requires.seats
    (sym c.sighting_of.ensures ∙ c.in_default.is)

pub returns-in_default-clause-hands : goal.returns-in_default-clause-hands
returns-in_default-clause-hands c =
    unseen_hands c.args.plan.now c.args.lanes.now c.args.journal.now c.requires.run c.args.number _
    (slice_get-get_or c.args.journal.now c.args.number any_entry c.requires.number) c.args.seats.now c.requires.seats
    c.args.hands.now (sym c.sighting_of.ensures ∙ c.in_default.is) c.requires.hands

pub function_of-function-requires : goal.function_of-function-requires
function_of-function-requires c =
    epoch_within c.args.plan.now c.args.lanes.now c.args.journal.now c.requires.run c.args.number _
    (slice_get-get_or c.args.journal.now c.args.number any_entry c.requires.number) c.args.seats.now c.requires.seats
    c.in-Some.sighting (sym c.sighting_of.ensures ∙ c.in-Some.is) c.args.functions.now c.requires.functions

pub hand_at-requires-clause-incarnation : goal.hand_at-requires-clause-incarnation
hand_at-requires-clause-incarnation c =
    incarnation_small c.args.plan.now c.args.lanes.now c.args.journal.now c.requires.run c.args.number _
    (slice_get-get_or c.args.journal.now c.args.number any_entry c.requires.number) c.args.seats.now c.requires.seats
    c.in-Some.sighting (sym c.sighting_of.ensures ∙ c.in-Some.is)

pub hand_at-requires-clause-item : goal.hand_at-requires-clause-item
hand_at-requires-clause-item c =
    item_small c.args.plan.now c.args.lanes.now c.args.journal.now c.requires.run c.args.number _
    (slice_get-get_or c.args.journal.now c.args.number any_entry c.requires.number) c.args.seats.now c.requires.seats
    c.in-Some.sighting (sym c.sighting_of.ensures ∙ c.in-Some.is) c.requires.few

pub returns-in_default-hand_at-clause-place : goal.returns-in_default-hand_at-clause-place
returns-in_default-hand_at-clause-place c =
    absurd (hand_there c.args.plan.now c.args.lanes.now c.args.journal.now c.requires.run c.args.number _
    (slice_get-get_or c.args.journal.now c.args.number any_entry c.requires.number) c.args.seats.now c.requires.seats
    c.in-Some.sighting (sym c.sighting_of.ensures ∙ c.in-Some.is) c.args.functions.now c.requires.functions
    c.function_of-function.result.now c.function_of-function.ensures c.args.hands.now c.take-held.new.self
    c.requires.hands c.take-held.ensures.gone
    (held_or c.take-held.result _ _ c.hand_at.result _ c.take-held.ensures.value c.hand_at.ensures
    c.in_default-hand_at.is))

pub returns-in_default-hand_at-clause-hands : goal.returns-in_default-hand_at-clause-hands
returns-in_default-hand_at-clause-hands c =
    absurd (hand_there c.args.plan.now c.args.lanes.now c.args.journal.now c.requires.run c.args.number _
    (slice_get-get_or c.args.journal.now c.args.number any_entry c.requires.number) c.args.seats.now c.requires.seats
    c.in-Some.sighting (sym c.sighting_of.ensures ∙ c.in-Some.is) c.args.functions.now c.requires.functions
    c.function_of-function.result.now c.function_of-function.ensures c.args.hands.now c.take-held.new.self
    c.requires.hands c.take-held.ensures.gone
    (held_or c.take-held.result _ _ c.hand_at.result _ c.take-held.ensures.value c.hand_at.ensures
    c.in_default-hand_at.is))

pub go_on-requires-clause-can : goal.go_on-requires-clause-can
go_on-requires-clause-can c =
    can c.args.plan.now c.args.lanes.now c.args.journal.now c.requires.run c.args.number _
    (slice_get-get_or c.args.journal.now c.args.number any_entry c.requires.number) c.args.seats.now c.requires.seats
    c.in-Some.sighting (sym c.sighting_of.ensures ∙ c.in-Some.is) c.args.functions.now c.requires.functions
    c.function_of-function.result.now c.function_of-function.ensures c.args.hands.now c.take-held.new.self
    c.requires.hands c.take-held.ensures.gone c.in-Some-hand_at.hand
    (held_or c.take-held.result _ _ c.hand_at.result _ c.take-held.ensures.value c.hand_at.ensures
    c.in-Some-hand_at.is) c.know_packet.ensures

pub go_on-requires-clause-taken : goal.go_on-requires-clause-taken
go_on-requires-clause-taken c = none_taken c.args.hands.now c.take-held.new.self _ _ c.take-held.ensures.gone

pub returns-clause-place : goal.returns-clause-place
returns-clause-place c =
    subst (λ p. IfOk c.go_on.result (λ place. place ≡ p))
    (place_is_told c.args.plan.now c.args.lanes.now c.args.journal.now c.requires.run c.args.number _
    (slice_get-get_or c.args.journal.now c.args.number any_entry c.requires.number) c.args.seats.now c.requires.seats
    c.in-Some.sighting (sym c.sighting_of.ensures ∙ c.in-Some.is) c.args.functions.now c.requires.functions
    c.function_of-function.result.now c.function_of-function.ensures c.args.hands.now c.take-held.new.self
    c.requires.hands c.take-held.ensures.gone c.in-Some-hand_at.hand
    (held_or c.take-held.result _ _ c.hand_at.result _ c.take-held.ensures.value c.hand_at.ensures
    c.in-Some-hand_at.is) c.know_packet.ensures)
    c.go_on.ensures.place

pub returns-clause-hands : goal.returns-clause-hands
returns-clause-hands c =
    on_ok c.go_on.result
    (hands_next c.args.plan.now c.args.lanes.now c.args.journal.now c.requires.run c.args.number _
    (slice_get-get_or c.args.journal.now c.args.number any_entry c.requires.number) c.args.seats.now c.requires.seats
    c.in-Some.sighting (sym c.sighting_of.ensures ∙ c.in-Some.is) c.args.functions.now c.requires.functions
    c.function_of-function.result.now c.function_of-function.ensures c.args.hands.now c.take-held.new.self
    c.requires.hands c.take-held.ensures.gone c.in-Some-hand_at.hand
    (held_or c.take-held.result _ _ c.hand_at.result _ c.take-held.ensures.value c.hand_at.ensures
    c.in-Some-hand_at.is) c.know_packet.ensures c.go_on.new.hands)
    c.go_on.ensures.hands
