-- the seats so far, and those of the instances that are left, are all
use Rattle.std.proofs.Common.{◌≡◌, ◌++◌, drop, map}
use Rattle.slnf_replay.specs.Seats.{instance_seat}
use Rattle.slnf_replay.proofs.seats.add_instances.Given as goal

abbrev pub invariant-loop-instance : goal.invariant-loop-instance
invariant-loop-instance l =
    l.seats.items ++ map (instance_seat l.number) (drop l.instance-index l.instances)
    ≡ l.fn.seats.items ++ map (instance_seat l.number) l.instances
