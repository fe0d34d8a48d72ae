-- an instance's lane, or a sweep's none
use Rattle.std.proofs.Common.{◌≡◌, ◌∙◌, Some, None, length, slice_get, ap, sym, refl, arith}
use Rattle.std.proofs.lemmas.Option.{slice_get_past, slice_get_read}
use Rattle.slnf_follow.specs.Follows.{come_to}
use Rattle.slnf_follow.proofs.Hands.{place_at, place_is}
use Rattle.slnf_follow.proofs.actors.place_of.Goals as goal

pub returns-in-None-clause-place : goal.returns-in-None-clause-place
returns-in-None-clause-place c actor at =
    let instances = c.args.epoch.now.instances in
    let none : slice_get instances c.args.number ≡ None =
    slice_get_past instances c.args.number (omega (arith, c.in-None.ensures.lookup.3, ap length c.as_slice.ensures)) in
    place_is (come_to c.args.places.now) instances c.args.epoch.now.sweep c.args.number actor at
    ∙ ap (place_at (come_to c.args.places.now)) none

pub returns-in-Some-clause-place : goal.returns-in-Some-clause-place
returns-in-Some-clause-place c actor at =
    let instances = c.args.epoch.now.instances in
    let some : slice_get instances c.args.number ≡ Some c.in-Some.instance.now =
    ap (λ l. slice_get l c.args.number) (sym c.as_slice.ensures)
    ∙ slice_get_read c.as_slice.result.now (length c.as_slice.result.now) c.args.number c.in-Some.instance.now refl
    c.in-Some.ensures.lookup.3.0 c.in-Some.ensures.lookup.1 in
    place_is (come_to c.args.places.now) instances c.args.epoch.now.sweep c.args.number actor at
    ∙ (ap (place_at (come_to c.args.places.now)) some ∙ sym c.come_to.ensures)
