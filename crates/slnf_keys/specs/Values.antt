use Rattle.std.specs.Prelude.{ℕ, ◌≡◌, ◌+◌, ◌*◌, ◌/◌, ◌%◌, ◌^◌, ◌<◌, nat_lt, nat_le, Bool, true, false, if◌then◌else◌, Option, Some, None, option_and_then, refl}
use Rattle.std.specs.Option.{option_map}
use borrow.Author.Tests.{leb-true}
use Rattle.slnf_keys.specs.declared.values.FlowTo.{FlowTo}
use Rattle.slnf_keys.specs.declared.values.Claim.{Claim}
use Rattle.slnf_keys.specs.declared.values.Conn.{Conn}
use Rattle.slnf_keys.specs.declared.values.Pin.{Pin}
use Rattle.slnf_base.specs.Ranges.{IsPair}
use Rattle.slnf_keys.specs.Layout.{pair_number, pair_at, pair_of}
use Rattle.slnf_keys.specs.Flag.{flag_of}

-- the number of a flow's record: its outside pair
unfoldable pub flow_to_number : FlowTo → ℕ
flow_to_number value = pair_number value.outside

-- the number of a claim: the incarnation, and the inside pair in the 48 bits below it
unfoldable pub claim_number : Claim → ℕ
claim_number value = value.incarnation * 2 ^ 48 + pair_number value.inside

-- the number of a connection: 1 where its opener is on the outside and 0 otherwise, and the state in the 8 bits below
unfoldable pub conn_number : Conn → ℕ
conn_number value = (if value.by_outside then 1 else 0) * 2 ^ 8 + value.state

-- the number of a pin: its backend
unfoldable pub pin_number : Pin → ℕ
pin_number value = pair_number value.backend

-- the flow's record with this number
unfoldable pub flow_to_of : ℕ → Option FlowTo
flow_to_of number = option_map (λ pair. record { outside = pair }) (pair_of number)

-- the claim with this number, which is below 2^80
unfoldable pub claim_of : ℕ → Option Claim
claim_of number =
    if nat_lt number (2 ^ 80) then Some (record { incarnation = number / 2 ^ 48; inside = pair_at number }) else None

-- the connection with this opener and this state, by whether the state is 1 to 8
abbrev pub conn_by : (by_outside : Bool) (state : ℕ) (from_one to_eight : Bool)
    → nat_le 1 state ≡ from_one → nat_le state 8 ≡ to_eight → Option Conn
conn_by by_outside state true true low high =
    Some (record { by_outside = by_outside; state = state; from_one = leb-true _ _ low; to_eight = leb-true _ _ high })
conn_by by_outside state true false low high = None
conn_by by_outside state false to_eight low high = None

-- the connection with this opener and this state
abbrev pub conn_with : Bool → ℕ → Option Conn
conn_with by_outside state = conn_by by_outside state _ _ refl refl

-- the connection with this number
unfoldable pub conn_of : ℕ → Option Conn
conn_of number = option_and_then (λ by_outside. conn_with by_outside (number % 2 ^ 8)) (flag_of (number / 2 ^ 8))

-- the pin with this number
unfoldable pub pin_of : ℕ → Option Pin
pin_of number = option_map (λ pair. record { backend = pair }) (pair_of number)

-- a flow's record whose pair is in range
abbrev pub IsFlowTo : FlowTo → Type 0
IsFlowTo value = IsPair value.outside

-- a claim whose incarnation and pair are in range
abbrev pub IsClaim : Claim → Type 0
IsClaim value = (value.incarnation < 2 ^ 32) × IsPair value.inside

-- a pin whose pair is in range
abbrev pub IsPin : Pin → Type 0
IsPin value = IsPair value.backend
