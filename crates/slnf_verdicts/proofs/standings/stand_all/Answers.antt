-- one entry more is followed
use Rattle.std.proofs.Common.{◌≡◌, length, ap, ◌∙◌, refl, arith}
use Rattle.std.specs.Prelude.{Vec}
use Rattle.std.specs.declared.alloc.Global.{Global}
use Rattle.std.proofs.lemmas.List.FromFn.{length-map-range_with_len}
use Rattle.slnf_access.specs.Machines.{machine_of}
use Rattle.slnf_verdicts.specs.declared.standings.Standing.{Standing}
use Rattle.slnf_verdicts.specs.Standings.{begun_of}
use Rattle.slnf_verdicts.proofs.Following.{can_answer, follow_own, follow_other, followed_all}
use Rattle.slnf_verdicts.proofs.Partings.{any_entry}
use Rattle.slnf_verdicts.proofs.standings.stand_all.Goals as goal
use Rattle.slnf_verdicts.proofs.standings.stand_all.Goals.{then-at-item+then-item-at, else-at-item, else-at-item-via-then-at-item+else-item-at, else-at-item-via-else-at-item}

pub index_mut-requires : goal.index_mut-requires
index_mut-requires g c =
    let count : length c.loop-entry.standings.items ≡ c.args.count = ap length c.loop-entry.invariant
    ∙ length-map-range_with_len _ c.args.at c.args.count in
    omega arith

pub answer-requires : goal.answer-requires
answer-requires g c flight some =
    can_answer (machine_of (g.F.Function.behaviour c.args.function.now))
    (begun_of ((g.F.Function.behaviour c.args.function.now).begins c.args.incarnation) c.args.packets.now)
    c.args.entries.now c.loop-entry.entry-index _ c.args.at c.args.count c.loop-entry.standings.items
    c.index_mut.result.now flight
    c.requires.followed (omega arith) (omega arith) (omega arith) c.loop-entry.invariant c.index_mut.ensures.value
    some

pub loop-entry-preserved : goal.loop-entry-preserved
loop-entry-preserved g c =
    let machine = machine_of (g.F.Function.behaviour c.args.function.now) in
    let begun = begun_of ((g.F.Function.behaviour c.args.function.now).begins c.args.incarnation)
    c.args.packets.now in
    elim c.if-at-item.branch [
      | then-at-item+then-item-at w ↦
          ap (λ (v : Vec (Standing _) Global). v.items) w.standings-is
          ∙ follow_own machine begun c.args.entries.now c.loop-entry.entry-index _ c.args.at c.args.count
          c.loop-entry.standings.items w.index_mut.result.now w.answer.new.standing
          (omega arith) (omega (arith, w.if-at-item.true)) (omega (arith, w.if-item-at.true)) c.loop-entry.invariant
          w.index_mut.ensures.value (λ stand is. w.answer.ensures stand _ is refl)
      | else-at-item w ↦
          ap (λ (v : Vec (Standing _) Global). v.items) w.standings-is
          ∙ follow_other machine begun c.args.entries.now c.loop-entry.entry-index any_entry c.args.at c.args.count
          c.loop-entry.standings.items (omega arith)
          (λ m from upto same. elim w.else-at-item.branch [
            | else-at-item-via-then-at-item+else-item-at v ↦ omega (arith, v.if-item-at.false)
            | else-at-item-via-else-at-item v ↦ omega (arith, v.if-at-item.false)
          ])
          c.loop-entry.invariant
    ]

pub returns : goal.returns
returns g c =
    followed_all (machine_of (g.F.Function.behaviour c.args.function.now))
    (begun_of ((g.F.Function.behaviour c.args.function.now).begins c.args.incarnation) c.args.packets.now)
    c.args.entries.now c.loop-entry.entry-index c.args.at c.args.count c.loop-entry.standings.items
    (omega arith) c.loop-entry.invariant
