-- The records of a capture: a header of 16 bytes, whose third field is the captured length, and the captured
-- bytes.
use Rattle.std.specs.Prelude.{ℕ, ◌+◌, ◌-◌, zero, suc, List, [], ◌∷◌, length, drop, Bool, Result, Ok, Err, nat_lt, if◌then◌else◌}
use Rattle.slnf_pcap.specs.declared.errors.PcapError.{PcapError}
use Rattle.slnf_pcap.specs.declared.errors.PcapError.TheVariants.{TornRecord, OverSnap, TooMany}
use Rattle.slnf_pcap.specs.declared.capture.Captured.{Captured}
use Rattle.slnf_pcap.specs.Format.{field}

-- a record of this captured length, at the place `at` of the file
abbrev pub record_in : ℕ → List ℕ → ℕ → Result Captured PcapError
record_in at bytes len =
    if nat_lt 262144 len then Err (OverSnap at)
    else if nat_lt (length bytes - 16) len then Err (TornRecord at)
    else Ok (record { at = at; len = len })

-- the record with which these bytes begin, which are the rest of the file from the place `at` on
abbrev pub record_at : Bool → ℕ → List ℕ → Result Captured PcapError
record_at big at bytes =
    if nat_lt (length bytes) 16 then Err (TornRecord at) else record_in at bytes (field big 4 8 bytes)

infixl 10 ◌>>=◌
abbrev pub ◌>>=◌ : {A B : Type 0} → Result A PcapError → (A → Result B PcapError) → Result B PcapError
(Ok x) >>= f = f x
(Err error) >>= f = Err error

-- The records that these bytes are, which are the rest of the file from the place `at` on; no more than `most`
-- may come.
unfoldable pub records_from : Bool → ℕ → ℕ → List ℕ → Result (List Captured) PcapError
records_from big most at [] = Ok []
records_from big zero at (byte ∷ bytes) = Err TooMany
records_from big (suc most) at (byte ∷ bytes) =
    record_at big at (byte ∷ bytes)
    >>= λ packet. records_from big most (at + 16 + packet.len) (drop (16 + packet.len) (byte ∷ bytes))
    >>= λ packets. Ok (packet ∷ packets)
