-- A packet that found every pair that its flow may have taken.
use Rattle.std.specs.Prelude.{◌≡◌, ℕ, true, List, [], ◌∷◌, ◌++◌}
use Rattle.slnf_base.specs.declared.addresses.Pair.{Pair}
use Rattle.slnf_base.specs.declared.packets.Packet.{Packet}
use Rattle.slnf_access.specs.declared.requests.Entry.{Entry}
use Rattle.slnf_access.specs.declared.requests.Request.TheVariants.{PutIfAbsent}
use Rattle.slnf_access.specs.declared.requests.Reply.{Reply}
use Rattle.slnf_access.specs.declared.requests.Reply.TheVariants.{Done, Found, Absent}
use Rattle.slnf_keys.specs.Values.{claim_number}
use Rattle.slnf_box.specs.Nat.{Nat}
use Rattle.slnf_nat.specs.Flights.{Last, Out}
use Rattle.slnf_nat.specs.Machine.{port_key, nat_asks}
use Rattle.slnf_nat.specs.Kept.{SomeEntry}

abbrev pub IsFound : Reply → Type 0
IsFound (Done stamp) = ⊥
IsFound (Found value version) = Unit {0}
IsFound Absent = ⊥

-- one of these entries put the packet's claim on this pair, and found it taken
abbrev pub FoundTaken : ℕ → Packet → List Entry → Pair → Type 0
FoundTaken incarnation packet es port =
    SomeEntry (λ f. (f.request ≡ PutIfAbsent (record { 0 = port_key packet.proto port })
    (record { 0 = claim_number (record { incarnation = incarnation; inside = packet.source }) }))
    × IsFound f.reply) es

-- Each pair that the packet's flow may have was found taken, and then the packet's flow was read, and isn't there.
pub record IsStarved (nat : Nat) (incarnation : ℕ) (packet : Packet) (es : List Entry) : Type 0 where
  pub front : List Entry
  pub last : Entry
  pub split : es ≡ front ++ last ∷ []
  pub tried : (port : Pair) → nat.allows packet.source port ≡ true → FoundTaken incarnation packet front port
  pub looked : last.request ≡ nat_asks nat (Out Last incarnation packet)
  pub absent : last.reply ≡ Absent
