-- The firewall's transitions, after the connection diagram of RFC 793 (figure 6).
use Rattle.std.specs.Prelude.{ℕ, List, [], ◌∷◌, slice_index_or}
use Rattle.slnf_fw_table.specs.declared.connections.State.{State}
use Rattle.slnf_fw_table.specs.declared.connections.State.TheVariants.{SynSent, SynAcked, Opened, FinByOpener, FinByOther, BothFin, Closed, Live}
use Rattle.slnf_fw_table.specs.declared.connections.Side.{Side}
use Rattle.slnf_fw_table.specs.declared.connections.Side.TheVariants.{Opener, Other}
use Rattle.slnf_fw_table.specs.declared.connections.Kind.{Kind}
use Rattle.slnf_fw_table.specs.declared.connections.Kind.TheVariants.{Syn, SynAck, Fin, Rst, Ack, Bare, Datagram}
use Rattle.slnf_fw_table.specs.declared.connections.Move.{Move}
use Rattle.slnf_fw_table.specs.declared.connections.Move.TheVariants.{Stay, To, Reopen, Deny}

-- the move of a packet's side, of the opener's and the other side's
abbrev pub by_side : Side → Move × Move → Move
by_side Opener moves = moves.0
by_side Other moves = moves.1

-- both sides alike
abbrev pub both : Move → Move × Move
both move = (move, move)

-- the table's column for a kind
abbrev pub column_of : Kind → ℕ
column_of Syn = 0
column_of SynAck = 1
column_of Fin = 2
column_of Rst = 3
column_of Ack = 4
column_of Bare = 5
column_of Datagram = 6

-- the table's row for a state: what a Syn, SynAck, Fin, Rst, Ack, Bare and Datagram do
abbrev pub row_of : State → List (Move × Move)
row_of SynSent = (Stay, Deny) ∷ (Deny, To SynAcked) ∷ both Deny ∷ both (To Closed) ∷ both Deny ∷ both Deny ∷ both Deny ∷ []
row_of SynAcked = (Stay, Deny) ∷ (Deny, Stay) ∷ (To FinByOpener, To FinByOther)
    ∷ both (To Closed) ∷ (To Opened, Stay) ∷ both Deny ∷ both Deny ∷ []
row_of Opened = (Stay, Deny) ∷ (Deny, Stay) ∷ (To FinByOpener, To FinByOther)
    ∷ both (To Closed) ∷ both Stay ∷ both Deny ∷ both Deny ∷ []
row_of FinByOpener = both Deny ∷ both Deny ∷ (Stay, To BothFin) ∷ both (To Closed) ∷ both Stay ∷ both Deny ∷ both Deny ∷ []
row_of FinByOther = both Deny ∷ both Deny ∷ (To BothFin, Stay) ∷ both (To Closed) ∷ both Stay ∷ both Deny ∷ both Deny ∷ []
row_of BothFin = both Deny ∷ both Deny ∷ both Stay ∷ both (To Closed) ∷ both (To Closed) ∷ both Deny ∷ both Deny ∷ []
row_of Closed = both Reopen ∷ both Deny ∷ both Stay ∷ both Stay ∷ both Stay ∷ both Deny ∷ both Deny ∷ []
row_of Live = both Deny ∷ both Deny ∷ both Deny ∷ both Deny ∷ both Deny ∷ both Deny ∷ both Stay ∷ []

-- what a kind of packet does, from the opener and from the other side
abbrev pub moves_of : State → Kind → Move × Move
moves_of state kind = slice_index_or (row_of state) (column_of kind) (both Deny)

-- what a packet does to a connection
abbrev pub move_of : State → Side → Kind → Move
move_of state side kind = by_side side (moves_of state kind)
