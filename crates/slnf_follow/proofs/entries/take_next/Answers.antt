-- an entry of an earlier epoch isn't expected
use Rattle.std.proofs.Common.{inl, inr, arith}
use Rattle.std.proofs.lemmas.Bool.{cases_lt}
use Rattle.slnf_follow.proofs.Following.{stuck_before}
use Rattle.slnf_follow.proofs.entries.take_next.Goals as goal

pub returns-in-None-clause-stuck : goal.returns-in-None-clause-stuck
returns-in-None-clause-stuck g c s es number places h none below expected =
    let hands = c.args.hands.now.items in
    let e = c.args.entry.now in
    elim (cases_lt e.incarnation c.args.base) [
      | inl before ↦ stuck_before g.T.Items.work s es number c.args.base places hands h e before expected
      | inr from ↦
          let past = c.number_in.ensures.none c.in-None.is from in
          absurd (omega (arith, past, below, c.len.ensures, c.args.hands.now.ok.0))
    ]

pub returns-in-Some-clause-stuck : goal.returns-in-Some-clause-stuck
returns-in-Some-clause-stuck g c s es number places h none below expected =
    c.take_at.ensures.refused s es number places h none expected
