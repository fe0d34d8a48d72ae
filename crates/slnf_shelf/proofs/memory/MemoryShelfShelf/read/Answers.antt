use Rattle.std.proofs.Common.{◌≡◌, List, ap, subst}
use Rattle.slnf_shelf.specs.declared.shelf.Call.TheVariants.{Read}
use Rattle.slnf_shelf.specs.declared.shelf.ShelfError.TheVariants.{Failed}
use Rattle.slnf_shelf.specs.declared.faults.Fault.{Fault}
use Rattle.slnf_shelf.specs.Shelf.{Moves, Only, Rose}
use Rattle.slnf_shelf.specs.Calls.{fault_count}
use Rattle.slnf_shelf.specs.Memory.{Memory}
use Rattle.slnf_shelf.proofs.Laws.{Moves-then, Rose-after}
use Rattle.slnf_shelf.proofs.memory.MemoryShelfShelf.read.Goals as goal

pub returns-in-None-clause-counts : goal.returns-in-None-clause-counts
returns-in-None-clause-counts c =
    let moved : List Fault → Type 0 =
    λ faults. Moves (Only Read c.args.name.now) (fault_count faults) (fault_count c.note_fault.new.faults.items) in
    Moves-then _ _ (fault_count c.enter.new.self.faults) _ c.in_ok-enter.ensures.counts
    (subst moved (ap (λ (memory : Memory). memory.faults) c.self.view_is) c.note_fault.ensures.counts)

pub returns-in-None-clause-cause : goal.returns-in-None-clause-cause
returns-in-None-clause-cause c = λ failed.
    let rose : List Fault → Type 0 =
    λ faults. Rose Read c.args.name.now (fault_count faults) (fault_count c.note_fault.new.faults.items) in
    let same : c.note_fault.result ≡ Failed = cc in
    Rose-after _ Read c.args.name.now (fault_count c.args.self.now.faults)
    (fault_count c.enter.new.self.faults) (fault_count c.note_fault.new.faults.items) c.in_ok-enter.ensures.counts
    (subst rose (ap (λ (memory : Memory). memory.faults) c.self.view_is) (c.note_fault.ensures.cause same))
