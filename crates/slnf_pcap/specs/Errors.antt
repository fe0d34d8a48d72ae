-- The numbers of errors.
use Rattle.std.specs.Prelude.{ℕ, Option, Some, None}
use Rattle.slnf_pcap.specs.declared.errors.PcapError.{PcapError}
use Rattle.slnf_pcap.specs.declared.errors.PcapError.TheVariants.{ShortHeader, BadMagic, BadVersion, LinkType, TornRecord, OverSnap, TooMany, NoMemory}

-- an error's number, which want of memory has none of
abbrev pub error_number : PcapError → Option ℕ
error_number ShortHeader = Some 1
error_number BadMagic = Some 2
error_number BadVersion = Some 3
error_number (LinkType link) = Some 4
error_number (TornRecord at) = Some 5
error_number (OverSnap at) = Some 6
error_number TooMany = Some 7
error_number NoMemory = None
