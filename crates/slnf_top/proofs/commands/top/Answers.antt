use Rattle.std.proofs.Common.{map, sym, subst}
use Rattle.std.specs.Prelude.{string_bytes, Option}
use Rattle.slnf_top.specs.Words.{Command, Run, plan_named, command_of}
use Rattle.slnf_top.specs.Outcome.{Ended}
use Rattle.slnf_top.specs.declared.statuses.Status.{Status}
use Rattle.slnf_top.specs.Served.{IsServed}
use Rattle.slnf_top.proofs.Serving.{served}
use Rattle.slnf_top.proofs.commands.top.Goals as goal

pub returns-in-None : goal.returns-in-None
returns-in-None g c =
    let a = g.S.Shelf.faults c.args.shelf.now in
    let b = g.S.Shelf.faults c.top_plain.new.shelf in
    let held = g.S.Shelf.holds c.args.shelf.now in
    let holds = g.S.Shelf.holds c.top_plain.new.shelf in
    record {
      served = subst (λ (asked : Option Command). IsServed asked c.top_plain.result a b held holds)
          (sym (c.run_words.ensures.plain c.in-None.is)) c.top_plain.ensures.served;
    }

pub returns-in-Some : goal.returns-in-Some
returns-in-Some g c =
    let a = g.S.Shelf.faults c.args.shelf.now in
    let b = g.S.Shelf.faults c.run.new.shelf in
    let held = g.S.Shelf.holds c.args.shelf.now in
    let holds = g.S.Shelf.holds c.run.new.shelf in
    let found = Run (plan_named c.in-Some.words) in
    record {
      served = served (command_of (map string_bytes c.args.words.now)) found c.status_of.result a b held holds
          c.in-Some.ensures.run
          (subst (λ (ended : Status). Ended found ended a b held holds) (sym c.status_of.ensures) c.run.ensures)
          (λ judged. tt);
    }
