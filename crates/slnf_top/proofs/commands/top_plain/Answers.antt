use Rattle.std.proofs.Common.{map, sym}
use Rattle.std.specs.Prelude.{string_bytes}
use Rattle.slnf_top.specs.Words.{plain_command_of, spelled}
use Rattle.slnf_top.proofs.Exact.{judged_exactly}
use Rattle.slnf_top.proofs.Serving.{served, formless}
use Rattle.slnf_top.proofs.commands.top_plain.Goals as goal

pub returns-in-None : goal.returns-in-None
returns-in-None g c =
    record {
      served = formless (plain_command_of (map string_bytes c.args.words.now)) (g.S.Shelf.faults c.args.shelf.now)
          (g.S.Shelf.holds c.args.shelf.now) (sym c.in-None.ensures);
    }

pub returns-in-Some : goal.returns-in-Some
returns-in-Some g c =
    let a = g.S.Shelf.faults c.args.shelf.now in
    let b = g.S.Shelf.faults c.run_command.new.shelf in
    let held = g.S.Shelf.holds c.args.shelf.now in
    let holds = g.S.Shelf.holds c.run_command.new.shelf in
    let ended = c.run_command.result in
    let found = spelled c.in-Some.command in
    record {
      served = served (plain_command_of (map string_bytes c.args.words.now)) found ended a b held holds
          (sym c.in-Some.ensures) c.run_command.ensures
          (judged_exactly c.checks_tell.ensures.apart c.checks_tell.ensures.one_refusal c.follows_tell.ensures.apart
          c.follows_tell.ensures.one_refusal ended held holds found a b c.run_command.ensures);
    }
