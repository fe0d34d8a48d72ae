-- The worked runs of a firewall, by computing.
use Rattle.std.proofs.Common.{refl}
use Rattle.slnf_keys.specs.Layout.{pair_number, pair_at, pair_of, key_number, single_number}
use Rattle.slnf_keys.specs.Keys.{conn_key_number}
use Rattle.slnf_keys.specs.Values.{conn_number, conn_of}
use Rattle.slnf_rows.specs.Rows.{Gives}
use Rattle.slnf_rows.proofs.RowPlans.{firewall, is_firewall, given}
use Rattle.slnf_rows.specs.Firewalls.{IsFirewall, whole_connection, lone_ack, two_replaces}

pub connection : Gives IsFirewall whole_connection
unfolding conn_key_number single_number key_number pair_number conn_number conn_of pair_of pair_at
connection =
    given IsFirewall whole_connection firewall is_firewall refl _ (0, ((refl, (refl, (refl, tt))), refl)) refl refl

pub lone : Gives IsFirewall lone_ack
unfolding conn_key_number single_number key_number pair_number conn_number conn_of pair_of pair_at
lone = given IsFirewall lone_ack firewall is_firewall refl _ (1, ((refl, tt), refl)) refl refl

pub replaces : Gives IsFirewall two_replaces
unfolding conn_key_number single_number key_number pair_number conn_number conn_of pair_of pair_at
replaces = given IsFirewall two_replaces firewall is_firewall refl _ (0, ((refl, (refl, tt)), refl)) refl refl
