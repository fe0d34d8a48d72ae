-- What a function owes of its packets and its sweeps' items, so that each setting of it is sound.
use Rattle.std.specs.Prelude.{◌≡◌, ℕ, None, List}
use Rattle.slnf_base.specs.declared.packets.Packet.{Packet}
use Rattle.slnf_access.specs.declared.requests.Entry.{Entry}
use Rattle.slnf_access.specs.declared.functions.Start.{Start}
use Rattle.slnf_access.specs.declared.functions.Start.TheVariants.{Go as StartGo}
use Rattle.slnf_access.specs.Machines.{Machine, Stand, Flies, stand_after, decided_at}
use Rattle.slnf_run.specs.Steady.{IsSteady}
use Rattle.slnf_run.specs.OneBox.{EndsWell}

pub record IsFunction {F : Type 0} (m : Machine F) (starts : ℕ → ℕ → Packet → Start F) (sweeps : ℕ → ℕ →
    Stand F) : Type 0 where
  -- The machine keeps what it has decided, and has decided nothing of a packet that starts.
  pub steady : IsSteady m
  pub undecided : (i k : ℕ) (packet : Packet) (first : F) → starts i k packet ≡ StartGo first → m.decided first ≡ None
  -- A packet ends with an answer, whatever the replies are.
  pub ends_well : (i k : ℕ) (packet : Packet) (first : F) (own : List Entry) → starts i k packet ≡ StartGo first →
      EndsWell (stand_after m (Flies first) own)
  -- A sweep's item decides nothing.
  pub swept : (i k : ℕ) (own : List Entry) → decided_at m (stand_after m (sweeps i k) own) ≡ None
