-- The worked runs of a NAT, by computing.
use Rattle.std.proofs.Common.{refl, arith}
use Rattle.slnf_keys.specs.Layout.{pair_number, pair_at, pair_of, key_number, single_number}
use Rattle.slnf_keys.specs.Keys.{flow_key_number, port_key_number}
use Rattle.slnf_keys.specs.Values.{flow_to_number, flow_to_of, claim_number, claim_of}
use Rattle.slnf_rows.specs.Rows.{Gives}
use Rattle.slnf_rows.proofs.RowPlans.{nat_given}
use Rattle.slnf_rows.specs.Nats.{IsPoolTo, loser_is_seen, lost_is_seen, unconfirmed_is_seen, out_and_back, race_on_one_flow, stop_after_the_claim, nat_stop_after_the_record, full_pool, pool_of_one, pool_of_one_starves, inbound_to_an_unconfirmed_port, sweep}

pub out : Gives (IsPoolTo 40003) out_and_back
unfolding flow_key_number port_key_number single_number
    key_number pair_number flow_to_number claim_number claim_of pair_at pair_of flow_to_of
out = nat_given 40003 (omega arith) out_and_back refl (0, ((refl, (refl, tt)), refl)) refl refl

pub race : Gives (IsPoolTo 40003) race_on_one_flow
unfolding flow_key_number port_key_number single_number
    key_number pair_number flow_to_number claim_number claim_of pair_at pair_of flow_to_of
race = nat_given 40003 (omega arith) race_on_one_flow refl (0, ((refl, (refl, tt)), refl)) refl refl

pub loser_seen : loser_is_seen
unfolding flow_key_number port_key_number single_number
    key_number pair_number flow_to_number claim_number claim_of pair_at pair_of flow_to_of race
loser_seen = (race, refl, refl)

pub claimed : Gives (IsPoolTo 40003) stop_after_the_claim
unfolding flow_key_number port_key_number single_number
    key_number pair_number flow_to_number claim_number claim_of pair_at pair_of flow_to_of
claimed = nat_given 40003 (omega arith) stop_after_the_claim refl (2, ((refl, tt), refl)) refl refl

pub recorded : Gives (IsPoolTo 40003) nat_stop_after_the_record
unfolding flow_key_number port_key_number single_number
    key_number pair_number flow_to_number claim_number claim_of pair_at pair_of flow_to_of
recorded =
    nat_given 40003 (omega arith) nat_stop_after_the_record refl (3, ((refl, tt), (1, ((refl, tt), refl)))) refl refl

pub lost_seen : lost_is_seen
unfolding flow_key_number port_key_number single_number
    key_number pair_number flow_to_number claim_number claim_of pair_at pair_of flow_to_of recorded
lost_seen = (recorded, refl, refl)

pub full : Gives (IsPoolTo 40000) full_pool
unfolding flow_key_number port_key_number single_number
    key_number pair_number flow_to_number claim_number claim_of pair_at pair_of flow_to_of
full = nat_given 40000 (omega arith) full_pool refl (6, ((refl, tt), refl)) refl refl

pub one : Gives (IsPoolTo 40000) pool_of_one
unfolding flow_key_number port_key_number single_number
    key_number pair_number flow_to_number claim_number claim_of pair_at pair_of flow_to_of
one = nat_given 40000 (omega arith) pool_of_one refl (0, ((refl, (refl, tt)), refl)) refl refl

pub starves : Gives (IsPoolTo 40000) pool_of_one_starves
unfolding flow_key_number port_key_number single_number
    key_number pair_number flow_to_number claim_number claim_of pair_at pair_of flow_to_of
starves = nat_given 40000 (omega arith) pool_of_one_starves refl (0, ((refl, (refl, tt)), refl)) refl refl

pub unconfirmed : Gives (IsPoolTo 40003) inbound_to_an_unconfirmed_port
unfolding flow_key_number port_key_number single_number
    key_number pair_number flow_to_number claim_number claim_of pair_at pair_of flow_to_of
unconfirmed =
    nat_given 40003 (omega arith) inbound_to_an_unconfirmed_port refl (0, ((refl, (refl, tt)), refl)) refl refl

pub unconfirmed_seen : unconfirmed_is_seen
unfolding flow_key_number port_key_number single_number
    key_number pair_number flow_to_number claim_number claim_of pair_at pair_of flow_to_of unconfirmed
unconfirmed_seen = (unconfirmed, refl, refl)

pub swept_away : Gives (IsPoolTo 40001) sweep
unfolding flow_key_number port_key_number single_number
    key_number pair_number flow_to_number claim_number claim_of pair_at pair_of flow_to_of
swept_away = nat_given 40001 (omega arith) sweep refl (2, ((refl, tt), (2, ((refl, (refl, tt)), refl)))) refl refl
