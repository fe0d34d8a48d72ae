-- the turn of the actor with this number
use Rattle.std.proofs.Common.{◌≡◌, Some, length, slice_get, refl, ap, ◌∙◌, arith}
use Rattle.std.proofs.lemmas.Option.{slice_get_read}
use Rattle.slnf_instance.specs.Instances.{ask_by}
use Rattle.slnf_orch.specs.Actors.{at_work}
use Rattle.slnf_orch.proofs.Places.{get-set-own, get-set-other}
use Rattle.slnf_orch.proofs.Standing.{turned_at, room_at, room_next}
use Rattle.slnf_orch.proofs.turns.turn_at.Goals as goal

pub turn-requires-clause-room : goal.turn-requires-clause-room
turn-requires-clause-room g c =
    let there : slice_get c.args.instances.now.items c.args.number ≡ Some c.index_mut-instance.result.now =
    slice_get_read c.args.instances.now.items (length c.args.instances.now.items) c.args.number
    c.index_mut-instance.result.now refl c.requires.there c.index_mut-instance.ensures.value in
    let clock : slice_get c.args.clocks.now.items c.args.number ≡ Some c.index_mut-clock.result.now =
    slice_get_read c.args.clocks.now.items (length c.args.clocks.now.items) c.args.number
    c.index_mut-clock.result.now refl (omega (arith, c.requires.there, c.requires.clocks))
    c.index_mut-clock.ensures.value in
    room_at g.T.Items.work
    (at_work c.args.base c.args.shards.now c.args.instances.now.items c.args.clocks.now.items) c.args.number
    c.index_mut-instance.result.now c.index_mut-clock.result.now c.requires.room there clock

pub returns-clause-turned : goal.returns-clause-turned
returns-clause-turned g c stage m h =
    let there : slice_get c.args.instances.now.items c.args.number ≡ Some c.index_mut-instance.result.now =
    slice_get_read c.args.instances.now.items (length c.args.instances.now.items) c.args.number
    c.index_mut-instance.result.now refl c.requires.there c.index_mut-instance.ensures.value in
    let clock : slice_get c.args.clocks.now.items c.args.number ≡ Some c.index_mut-clock.result.now =
    slice_get_read c.args.clocks.now.items (length c.args.clocks.now.items) c.args.number
    c.index_mut-clock.result.now refl (omega (arith, c.requires.there, c.requires.clocks))
    c.index_mut-clock.ensures.value in
    turned_at g.T.Items.work stage m c.args.number c.args.base c.args.shards.now c.turn.new.shards
    c.args.instances.now.items c.args.clocks.now.items c.index_mut-instance.result.now c.turn.new.instance
    c.index_mut-clock.result.now c.turn.new.clock c.in_ok-made.made h there clock
    (λ actor. c.in_ok-made.ensures.turned stage m actor)

pub returns-clause-room : goal.returns-clause-room
returns-clause-room g c =
    room_next g.T.Items.work
    (at_work c.args.base c.args.shards.now c.args.instances.now.items c.args.clocks.now.items) _ c.args.number
    c.in_ok-made.made c.requires.room (returns-clause-turned g c)

pub returns-clause-idle : goal.returns-clause-idle
returns-clause-idle g c still i there =
    ap ask_by (get-set-own c.args.instances.now.items c.args.number c.turn.new.instance i there)
    ∙ c.in_ok-made.ensures.idle still

pub returns-clause-others : goal.returns-clause-others
returns-clause-others g c k apart h i there =
    h i (get-set-other c.args.instances.now.items c.args.number k c.turn.new.instance i apart there)
