-- The worked runs of a balancer, by computing.
use Rattle.std.proofs.Common.{refl}
use Rattle.slnf_keys.specs.Layout.{pair_number, pair_at, pair_of, key_number, single_number}
use Rattle.slnf_keys.specs.Keys.{pin_key_number}
use Rattle.slnf_keys.specs.Values.{pin_number, pin_of}
use Rattle.slnf_plan.specs.declared.plan.FunctionPlan.TheVariants.{Balancer}
use Rattle.slnf_sum.specs.Sum.{fold_of}
use Rattle.slnf_rows.specs.Files.{usual_packets, usual_frames}
use Rattle.slnf_rows.specs.Rows.{Gives}
use Rattle.slnf_rows.proofs.RowPlans.{given}
use Rattle.slnf_rows.specs.Balancers.{service, IsService, usual_case, two_instances_one_flow, second_is_seen, stop_after_the_record, drain_and_hand_over, batches, two_shards, balancer_return}

pub usual : Gives IsService usual_case
unfolding pin_key_number single_number key_number pair_number pin_number pin_of pair_of pair_at
usual = given IsService usual_case (Balancer service) refl refl _ (3, ((refl, tt), refl)) refl refl

pub packets : usual_packets
packets = refl

pub frames : usual_frames
unfolding fold_of
frames = refl

pub two_instances : Gives IsService two_instances_one_flow
unfolding pin_key_number single_number key_number pair_number pin_number pin_of pair_of pair_at
two_instances =
    given IsService two_instances_one_flow (Balancer service) refl refl _ (0, ((refl, (refl, tt)), refl)) refl refl

pub second_seen : second_is_seen
unfolding pin_key_number single_number key_number pair_number pin_number pin_of pair_of pair_at two_instances
second_seen = (two_instances, refl, refl)

pub stop : Gives IsService stop_after_the_record
unfolding pin_key_number single_number key_number pair_number pin_number pin_of pair_of pair_at
stop =
    given IsService stop_after_the_record (Balancer service) refl refl _
    (2, ((refl, tt), (1, ((refl, tt), refl)))) refl refl

pub drain : Gives IsService drain_and_hand_over
unfolding pin_key_number single_number key_number pair_number pin_number pin_of pair_of pair_at
drain =
    given IsService drain_and_hand_over (Balancer service) refl refl _
    (4, ((refl, tt), (1, ((refl, tt), refl)))) refl refl

pub in_batches : Gives IsService batches
unfolding pin_key_number single_number key_number pair_number pin_number pin_of pair_of pair_at
in_batches = given IsService batches (Balancer service) refl refl _ (5, ((refl, tt), refl)) refl refl

pub shards : Gives IsService two_shards
unfolding pin_key_number single_number key_number pair_number pin_number pin_of pair_of pair_at
shards = given IsService two_shards (Balancer service) refl refl _ (0, ((refl, (refl, tt)), refl)) refl refl

pub returns_back : Gives IsService balancer_return
unfolding pin_key_number single_number key_number pair_number pin_number pin_of pair_of pair_at
returns_back = given IsService balancer_return (Balancer service) refl refl _ (5, ((refl, tt), refl)) refl refl
