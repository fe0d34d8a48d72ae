-- a run begins
use Rattle.std.proofs.Common.{refl}
use Rattle.slnf_threads.specs.declared.plans.Run.{Run}
use Rattle.slnf_threads.proofs.Beginning.{under_way_first}
use Rattle.slnf_threads.proofs.plans.Run.make.Goals as goal

pub returns : goal.returns
returns c lanes =
    let run : Run = record {
      store = c.in_ok-store.store;
      root = c.in_ok-store.root;
      ledger = c.in_ok-make.field-0;
      base = 0;
    } in
    let root = c.in_ok-store.ensures.root in
    under_way_first c.args.plan.now lanes run root.0 c.in_ok-store.ensures.shards root.1 root.2 refl
    c.in_ok-make.ensures.count c.in_ok-make.ensures.none
