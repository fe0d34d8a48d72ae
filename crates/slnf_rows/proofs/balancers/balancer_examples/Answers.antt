use Rattle.slnf_rows.proofs.BalancerRuns.{usual, packets, frames, two_instances, second_seen, stop, drain, in_batches, shards, returns_back}
use Rattle.slnf_rows.proofs.balancers.balancer_examples.Goals as goal

pub returns : goal.returns
returns c = record {
  usual_case = usual;
  usual_packets = packets;
  usual_frames = frames;
  two_instances_one_flow = two_instances;
  second_is_seen = second_seen;
  stop_after_the_record = stop;
  drain_and_hand_over = drain;
  batches = in_batches;
  two_shards = shards;
  balancer_return = returns_back;
}
