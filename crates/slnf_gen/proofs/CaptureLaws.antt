-- The captures are read whole, and their packets' headers have true checksums.
use Rattle.std.proofs.Common.{◌≡◌, ◌≤◌, ◌<◌, ◌^◌, ℕ, zero, suc, ◌+◌, ◌-◌, ◌*◌, ◌%◌, List, [], ◌∷◌, ◌++◌, Ok, false, length, drop, get_or, map, sum, All, refl, sym, ap, ◌∙◌, append_assoc, length-append, arith}
use Rattle.std.specs.List.{flat_map, range_with_len}
use Rattle.std.proofs.lemmas.List.FromFn.{get_or-map-range_with_len, length-map-range_with_len}
use Rattle.std.proofs.lemmas.List.{length-map, get_or-map}
use Rattle.slnf_base.specs.declared.packets.Link.TheVariants.{Raw}
use Rattle.slnf_sum.specs.Sum.{words_of, fold_of}
use Rattle.slnf_sum.proofs.Folds.{fold_of-le, fold_of-rem}
use Rattle.slnf_sum.proofs.Laws.{Verifies-from}
use Rattle.slnf_pcap.specs.declared.capture.Captured.{Captured}
use Rattle.slnf_pcap.specs.declared.read.Header.{Header}
use Rattle.slnf_pcap.specs.Format.{field, header_of}
use Rattle.slnf_pcap.specs.Records.{record_at, records_from}
use Rattle.slnf_pcap.specs.Captures.{capture_of}
use Rattle.slnf_pcap.proofs.Laws.{with_front, records_from-nothing, records_from-record, capture_of-whole, header_of-front, record_at-written, drop-record}
use Rattle.slnf_gen.specs.Words.{state_after, word_after}
use Rattle.slnf_gen.specs.Packets.{file_header, record_header, header_with, header_checksum, ipv4_header, udp_header, LawOfHeaders}
use Rattle.slnf_gen.specs.Captures.{datagram_of, record_of, drawn_record, capture_from, lane_capture, packet_told, capture_told}

-- what the file header says
abbrev header_told : Header
header_told = record { style = record { big = false; nanos = false }; link = Raw }

header-read : header_of file_header ≡ Ok header_told
unfolding file_header
header-read = refl

record_header-length : (number : ℕ) → length (record_header number) ≡ 16
unfolding record_header
record_header-length number = refl

record_header-says : (number : ℕ) → field false 4 8 (record_header number) ≡ 28
unfolding record_header
record_header-says number = refl

datagram-length : (number word : ℕ) → length (datagram_of number word) ≡ 28
unfolding datagram_of ipv4_header header_with udp_header
datagram-length number word = refl

-- the records from one number on
records-read : (state most number count : ℕ) → count ≤ most →
    records_from false most (24 + 44 * number) (flat_map (drawn_record state) (range_with_len number count))
    ≡ Ok (map packet_told (range_with_len number count))
unfolding record_of
records-read state most number zero few = records_from-nothing false most (24 + 44 * number)
records-read state zero number (suc count) few = absurd (omega arith)
records-read state (suc most) number (suc count) few =
    let at = 24 + 44 * number in
    let head = record_header number in
    let body = datagram_of number (word_after number state) in
    let rest = flat_map (drawn_record state) (range_with_len (number + 1) count) in
    let bytes : List ℕ = head ++ (body ++ rest) in
    let packet : Captured = record { at = at; len = length body } in
    let size = record_header-length number in
    let len = datagram-length number (word_after number state) in
    let read : record_at false at bytes ≡ Ok packet =
    record_at-written false at head body rest size (record_header-says number ∙ sym len) (omega arith) in
    let some : 0 < length bytes = omega (arith, length-append head (body ++ rest)) in
    let next : at + 16 + length body ≡ 24 + 44 * (number + 1) = omega arith in
    ap (λ l. records_from false (suc most) at l) (append_assoc head body rest)
    ∙ records_from-record false most at bytes packet some read
    ∙ ap (λ l. with_front (packet ∷ []) (records_from false most (at + 16 + length body) l)) (drop-record head body rest size)
    ∙ ap (λ p. with_front (packet ∷ []) (records_from false most p rest)) next
    ∙ ap (λ r. with_front (packet ∷ []) r) (records-read state most (number + 1) count (omega arith))
    ∙ ap (λ n. Ok (record { at = at; len = n } ∷ map packet_told (range_with_len (number + 1) count))) len

header-behind : (rest : List ℕ) → drop 24 (file_header ++ rest) ≡ rest
unfolding file_header
header-behind rest = refl

header-length : length file_header ≡ 24
unfolding file_header
header-length = refl

-- a capture is read whole
pub capture-accepted : (state packets : ℕ) → packets ≤ 32768 → capture_of (capture_from state packets) ≡ Ok (capture_told packets)
unfolding capture_from
capture-accepted state packets few =
    let rest = flat_map (drawn_record state) (range_with_len 0 packets) in
    capture_of-whole (file_header ++ rest) header_told (map packet_told (range_with_len 0 packets))
    (header_of-front file_header rest (omega (arith, header-length)) ∙ header-read)
    (ap (λ l. records_from false 1048576 24 l) (header-behind rest) ∙ records-read state 1048576 0 packets (omega arith))

-- the checksum is added to the sum
sum-with : (check number word : ℕ) → check < 2 ^ 16 →
    sum (words_of (header_with check number word)) ≡ sum (words_of (header_with 0 number word)) + check
unfolding header_with
sum-with check number word fits = omega arith

sum-some : (number word : ℕ) → 0 < sum (words_of (header_with 0 number word))
unfolding header_with
sum-some number word = omega arith

full : (blank folded : ℕ) → folded ≤ 65535 → folded % 65535 ≡ blank % 65535 → (blank + (65535 - folded)) % 65535 ≡ 0
full blank folded fits same = omega arith

pub law_of_headers : LawOfHeaders
unfolding ipv4_header header_checksum
law_of_headers number word =
    let blank = sum (words_of (header_with 0 number word)) in
    let low = fold_of-le blank in
    let with = sum-with (65535 - fold_of blank) number word (omega arith) in
    let some = sum-some number word in
    let none = full blank (fold_of blank) low (fold_of-rem blank) in
    Verifies-from (words_of (ipv4_header number word)) (omega (arith, with, some)) (ap (λ n. n % 65535) with ∙ none)

-- each of the captures is read whole
pub captures-accepted : {X : Type 0} (view : X → List ℕ) (number lanes packets : ℕ) (captures : List X) → packets ≤ 32768 →
    map view captures ≡ map (lane_capture number packets) (range_with_len 0 lanes) →
    All (λ (capture : X). capture_of (view capture) ≡ Ok (capture_told packets)) captures
captures-accepted view number lanes packets captures few are k d within =
    let long : length captures ≡ lanes = sym (length-map captures view)
    ∙ ap length are ∙ length-map-range_with_len (lane_capture number packets) 0 lanes in
    let is : view (get_or captures k d) ≡ lane_capture number packets k =
    sym (get_or-map view captures k d (view d) within) ∙ ap (λ l. get_or l k (view d)) are
    ∙ get_or-map-range_with_len (lane_capture number packets) 0 lanes k k (view d) (omega arith) (omega arith) in
    ap capture_of is ∙ capture-accepted (state_after (k * packets) number) packets few
