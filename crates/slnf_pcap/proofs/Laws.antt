-- Laws of the headers and the records of a capture. What is written as a header or a record is read as one,
-- whatever follows it.
use Rattle.std.proofs.Common.{◌≡◌, ◌≤◌, ◌<◌, ◌+◌, ◌-◌, ℕ, zero, suc, List, [], ◌∷◌, ◌++◌, Bool, true, false, Result, Ok, Err, cond, length, drop, nat_lt, refl, sym, ◌∙◌, ap, arith, append_assoc, ◌&&◌, ◌==◌, Option, Some, None, length-append}
use Rattle.slnf_pcap.specs.declared.errors.PcapError.{PcapError}
use Rattle.slnf_pcap.specs.declared.errors.PcapError.TheVariants.{TooMany, TornRecord, OverSnap, ShortHeader, BadVersion}
use Rattle.slnf_pcap.specs.declared.capture.Captured.{Captured}
use Rattle.slnf_pcap.specs.Format.{header_of, field, style_of, link_of, with_link, header_in}
use Rattle.slnf_pcap.specs.declared.read.Header.{Header}
use Rattle.slnf_pcap.specs.Records.{record_at, records_from, ◌>>=◌, record_in}
use Rattle.slnf_pcap.specs.Captures.{capture_of, capture_in, records_of}
use Rattle.std.proofs.lemmas.Bool.{le-ltb}
use Rattle.std.proofs.lemmas.List.{drop-append-le, length-drop}
use Rattle.std.proofs.Math.Seq.{drop-append-add, drop-append_seam}
use Rattle.byteorder.specs.Endian.{big_number, little_number}
use Rattle.byteorder.specs.Numbers.{big_from-append, little_from-append}
use Rattle.slnf_pcap.specs.declared.read.Style.{Style}

-- the records of a reading, behind these
abbrev pub with_front : List Captured → Result (List Captured) PcapError → Result (List Captured) PcapError
with_front front (Ok packets) = Ok (front ++ packets)
with_front front (Err error) = Err error

pub with_front-nothing : (r : Result (List Captured) PcapError) → with_front [] r ≡ r
with_front-nothing (Ok packets) = refl
with_front-nothing (Err error) = refl

pub with_front-append : (a b : List Captured) (r : Result (List Captured) PcapError) →
    with_front (a ++ b) r ≡ with_front a (with_front b r)
with_front-append a b (Ok packets) = ap Ok (append_assoc a b packets)
with_front-append a b (Err error) = refl

one-front : (packet : Captured) (r : Result (List Captured) PcapError) →
    (r >>= (λ packets. Ok (packet ∷ packets))) ≡ with_front (packet ∷ []) r
one-front packet (Ok packets) = refl
one-front packet (Err error) = refl

-- no bytes have no records
pub records_from-nothing : (big : Bool) (most at : ℕ) → records_from big most at [] ≡ Ok []
unfolding records_from
records_from-nothing big zero at = refl
records_from-nothing big (suc most) at = refl

-- no more records may come
pub records_from-too_many : (big : Bool) (at : ℕ) (bytes : List ℕ) → 0 < length bytes → records_from big 0 at bytes ≡ Err TooMany
unfolding records_from
records_from-too_many big at [] some = absurd (omega arith)
records_from-too_many big at (byte ∷ bytes) some = refl

-- the first record is no record
pub records_from-broken : (big : Bool) (most at : ℕ) (bytes : List ℕ) (error : PcapError) →
    0 < length bytes → record_at big at bytes ≡ Err error → records_from big (suc most) at bytes ≡ Err error
unfolding records_from
records_from-broken big most at [] error some broken = absurd (omega arith)
records_from-broken big most at (byte ∷ bytes) error some broken =
    ap (λ r. r >>= (λ packet. records_from big most (at + 16 + packet.len) (drop (16 + packet.len) (byte ∷ bytes))
    >>= (λ packets. Ok (packet ∷ packets)))) broken

-- the first record, and those of the bytes behind it
pub records_from-record : (big : Bool) (most at : ℕ) (bytes : List ℕ) (packet : Captured) →
    0 < length bytes → record_at big at bytes ≡ Ok packet →
    records_from big (suc most) at bytes
    ≡ with_front (packet ∷ []) (records_from big most (at + 16 + packet.len) (drop (16 + packet.len) bytes))
unfolding records_from
records_from-record big most at [] packet some whole = absurd (omega arith)
records_from-record big most at (byte ∷ bytes) packet some whole =
    ap (λ r. r >>= (λ packet. records_from big most (at + 16 + packet.len) (drop (16 + packet.len) (byte ∷ bytes))
    >>= (λ packets. Ok (packet ∷ packets)))) whole
    ∙ one-front packet (records_from big most (at + 16 + packet.len) (drop (16 + packet.len) (byte ∷ bytes)))

-- a file whose header is broken
pub capture_of-no_header : (bytes : List ℕ) (error : PcapError) → header_of bytes ≡ Err error → capture_of bytes ≡ Err error
unfolding capture_of
capture_of-no_header bytes error broken = ap (λ r. r >>= records_of bytes) broken

-- a file whose records are broken
pub capture_of-no_records : (bytes : List ℕ) (header : Header) (error : PcapError) → header_of bytes ≡ Ok header →
    records_from header.style.big 1048576 24 (drop 24 bytes) ≡ Err error → capture_of bytes ≡ Err error
unfolding capture_of
capture_of-no_records bytes header error whole broken =
    ap (λ r. r >>= records_of bytes) whole ∙ ap (λ r. r >>= capture_in header) broken

-- a file that is whole
pub capture_of-whole : (bytes : List ℕ) (header : Header) (packets : List Captured) →
    header_of bytes ≡ Ok header → records_from header.style.big 1048576 24 (drop 24 bytes) ≡ Ok packets →
    capture_of bytes ≡ Ok (record { big = header.style.big; nanos = header.style.nanos; link = header.link; packets = packets })
unfolding capture_of
capture_of-whole bytes header packets whole records =
    ap (λ r. r >>= records_of bytes) whole ∙ ap (λ r. r >>= capture_in header) records

-- bytes behind a field don't change it
pub field-front : (big : Bool) (count at : ℕ) (bytes rest : List ℕ) →
    at + count ≤ length bytes → field big count at (bytes ++ rest) ≡ field big count at bytes
field-front true count at bytes rest h =
    ap (big_number count) (drop-append-le at bytes rest (omega arith))
    ∙ big_from-append count (drop at bytes) rest (omega (arith, length-drop at bytes))
field-front false count at bytes rest h =
    ap (little_number count) (drop-append-le at bytes rest (omega arith))
    ∙ little_from-append count (drop at bytes) rest (omega (arith, length-drop at bytes))

header_in-front : (style : Option Style) (bytes rest : List ℕ) →
    24 ≤ length bytes → header_in style (bytes ++ rest) ≡ header_in style bytes
header_in-front None bytes rest h = refl
header_in-front (Some style) bytes rest h =
    let major = field-front style.big 2 4 bytes rest (omega arith) in
    let minor = field-front style.big 2 6 bytes rest (omega arith) in
    let link = field-front style.big 4 20 bytes rest (omega arith) in
    ap (λ n. cond ((n == 2) && (field style.big 2 6 (bytes ++ rest) == 4))
    (with_link style (link_of (field style.big 4 20 (bytes ++ rest)))) (Err BadVersion)) major
    ∙ ap (λ n. cond ((field style.big 2 4 bytes == 2) && (n == 4))
    (with_link style (link_of (field style.big 4 20 (bytes ++ rest)))) (Err BadVersion)) minor
    ∙ ap (λ n. cond ((field style.big 2 4 bytes == 2) && (field style.big 2 6 bytes == 4)) (with_link style (link_of n))
    (Err BadVersion)) link

header_of-long : (bytes : List ℕ) → 24 ≤ length bytes → header_of bytes ≡ header_in (style_of (big_number 4 bytes)) bytes
header_of-long bytes h =
    ap (λ b. cond b (Err ShortHeader) (header_in (style_of (big_number 4 bytes)) bytes)) (le-ltb (length bytes) 24 h)

-- bytes behind a header don't change it
pub header_of-front : (bytes rest : List ℕ) → 24 ≤ length bytes → header_of (bytes ++ rest) ≡ header_of bytes
header_of-front bytes rest h =
    header_of-long (bytes ++ rest) (omega (arith, length-append bytes rest))
    ∙ header_in-front (style_of (big_number 4 (bytes ++ rest))) bytes rest h
    ∙ ap (λ magic. header_in (style_of magic) bytes) (big_from-append 4 bytes rest (omega arith))
    ∙ sym (header_of-long bytes h)

-- a whole header, and its captured bytes
pub record_at-written : (big : Bool) (at : ℕ) (head body rest : List ℕ) →
    length head ≡ 16 → field big 4 8 head ≡ length body → length body ≤ 262144 →
    record_at big at (head ++ (body ++ rest)) ≡ Ok (record { at = at; len = length body })
record_at-written big at head body rest size says short =
    let bytes : List ℕ = head ++ (body ++ rest) in
    let long : 16 + length body ≤ length bytes = omega (arith, length-append head (body ++ rest), length-append body rest) in
    let packet : Captured = record { at = at; len = length body } in
    let len : field big 4 8 bytes ≡ length body = field-front big 4 8 head (body ++ rest) (omega arith) ∙ says in
    ap (λ b. cond b (Err (TornRecord at)) (record_in at bytes (field big 4 8 bytes))) (le-ltb (length bytes) 16 (omega arith))
    ∙ ap (λ n. record_in at bytes n) len
    ∙ ap (λ b. cond b (Err (OverSnap at)) (cond (nat_lt (length bytes - 16) (length body))
    (Err (TornRecord at)) (Ok packet))) (le-ltb 262144 (length body) short)
    ∙ ap (λ b. cond b (Err (TornRecord at)) (Ok packet)) (le-ltb (length bytes - 16) (length body) (omega arith))

-- what follows it
pub drop-record : (head body rest : List ℕ) → length head ≡ 16 → drop (16 + length body) (head ++ (body ++ rest)) ≡ rest
drop-record head body rest size =
    ap (λ n. drop (n + length body) (head ++ (body ++ rest))) (sym size)
    ∙ drop-append-add head (body ++ rest) (length body) ∙ drop-append_seam body rest
