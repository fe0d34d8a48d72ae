-- Ways of making accesses that are lawful: by the clocks of shards and actors, and by place.
use Rattle.std.proofs.Common.{ℕ, ◌≤◌, List, length, arith}
use Rattle.slnf_run.specs.Setting.{Era, era_of}
use Rattle.slnf_run.specs.Scheduled.{usual_way, place_way, greatest, is_earlier}
use Rattle.slnf_run.specs.Made.{is_before, IsLawful}
use Rattle.slnf_run.proofs.Stamps.{greatest_below}
use Rattle.slnf_run.proofs.Wishes.{rounds_keep}

pub usual_lawful : (eras : List Era) → IsLawful (era_of eras) (usual_way eras)
usual_lawful eras = record {
  before = rounds_keep.0;
  behind = rounds_keep.1;
  above = λ es incarnation shard h. omega arith;
  within = λ es incarnation shard h.
      let low : greatest (is_earlier eras incarnation shard) es ≤ length es =
      greatest_below (is_earlier eras incarnation shard) (length es) es h in omega arith;
}

pub place_lawful : (epoch : ℕ → ℕ) → IsLawful epoch place_way
place_lawful epoch = record {
  before = rounds_keep.0;
  behind = rounds_keep.1;
  above = λ es incarnation shard h.
      let low : greatest (is_before epoch incarnation shard) es ≤ length es =
      greatest_below (is_before epoch incarnation shard) (length es) es h in omega arith;
  within = λ es incarnation shard h. omega arith;
}
