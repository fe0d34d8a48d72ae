-- the seats so far, and those of the epochs that are left, are all
use Rattle.std.proofs.Common.{◌≡◌, ◌++◌, drop}
use Rattle.slnf_replay.specs.Seats.{seats_from}
use Rattle.slnf_replay.proofs.seats.seats_of.Given as goal

abbrev pub invariant-loop-number : goal.invariant-loop-number
invariant-loop-number l = l.seats.items ++ seats_from l.number (drop l.number l.epochs) ≡ seats_from 0 l.epochs
