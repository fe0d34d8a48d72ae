-- What a rewritten frame keeps: its length, and that its checksums verify.
use Rattle.std.proofs.Common.{◌≡◌, ◌≢◌, ℕ, ◌+◌, ◌-◌, ◌*◌, ◌/◌, ◌%◌, ◌<◌, ◌≤◌, ◌^◌, List, length, inl, inr, refl, ap, ◌∙◌, arith}
use Rattle.std.specs.List.{All}
use Rattle.std.proofs.lemmas.Bool.{cases_eq, ne_eqb}
use Rattle.slnf_base.specs.Numbers.{proto_number}
use Rattle.slnf_base.specs.declared.addresses.Pair.{Pair}
use Rattle.slnf_base.specs.declared.packets.Change.{Change}
use Rattle.slnf_base.specs.declared.packets.Change.TheVariants.{Keep, Source, Dest}
use Rattle.slnf_base.specs.declared.packets.Proto.{Proto}
use Rattle.slnf_base.specs.declared.packets.Proto.TheVariants.{Tcp, Udp}
use Rattle.slnf_sum.specs.Sum.{adjusted_over, Verifies}
use Rattle.slnf_view.specs.declared.View.{View}
use Rattle.slnf_view.specs.Field.{word_at}
use Rattle.slnf_view.specs.View.{transport_length, LiesWithin}
use Rattle.slnf_rewrite.specs.Rewritten.{with_word, pair_changes, check_offset, header_check_place, header_check, nonzero, transport_adjusted, transport_check_place, transport_check, with_pair, rewritten}
use Rattle.slnf_base.specs.Ranges.{IsPair}
use Rattle.slnf_rewrite.specs.Verified.{header_words, HasCheck, IsSide, StaysVerified}
use Rattle.slnf_rewrite.proofs.Spans.{length-with_word}
use Rattle.slnf_rewrite.proofs.Written.{Placed}
use Rattle.slnf_rewrite.proofs.Checks.{IsSeal, header-verifies, transport-verifies}

length-with_pair : (frame : List ℕ) (view : View) (address port : ℕ) (pair : Pair)
    → length (with_pair frame view address port pair) ≡ length frame
length-with_pair frame view address port pair =
    let one = with_word frame address (pair.addr / 65536) in
    let two = with_word one (address + 2) (pair.addr % 65536) in
    let three = with_word two port pair.port in
    let four = with_word three (header_check_place view) (header_check frame view address pair) in
    length-with_word four (transport_check_place view) (transport_check frame view address port pair)
    ∙ length-with_word three (header_check_place view) (header_check frame view address pair)
    ∙ length-with_word two port pair.port
    ∙ length-with_word one (address + 2) (pair.addr % 65536)
    ∙ length-with_word frame address (pair.addr / 65536)

-- a rewritten frame is as long as before
pub length-rewritten : (frame : List ℕ) (view : View) (change : Change) → length (rewritten frame view change) ≡ length frame
length-rewritten frame view Keep = refl
length-rewritten frame view (Source pair) =
    length-with_pair frame view (view.ip + 12) view.l4 pair
length-rewritten frame view (Dest pair) =
    length-with_pair frame view (view.ip + 16) (view.l4 + 2) pair

-- the place of a transport checksum among the words of its header
check_word : Proto → ℕ
check_word Tcp = 8
check_word Udp = 3

check_word-twice : (proto : Proto) → check_offset proto ≡ 2 * check_word proto
unfolding check_word
check_word-twice Tcp = refl
check_word-twice Udp = refl

check_word-past : (proto : Proto) → 2 ≤ check_word proto
unfolding check_word
check_word-past Tcp = omega arith
check_word-past Udp = omega arith

check_word-within : (proto : Proto) → 2 * check_word proto + 2 ≤ transport_length proto
unfolding check_word
check_word-within Tcp = omega arith
check_word-within Udp = omega arith

some_proto : (proto : Proto) → proto_number proto ≢ 0
some_proto Tcp = omega arith
some_proto Udp = omega arith

proto_fits : (proto : Proto) → proto_number proto < 2 ^ 16
proto_fits Tcp = omega arith
proto_fits Udp = omega arith

seal-of : (proto : Proto) (check : ℕ) (changes : List (ℕ × ℕ))
    → (proto ≡ Udp → check ≢ 0) → IsSeal (adjusted_over check changes) (transport_adjusted proto check changes)
seal-of Tcp check changes made = inl refl
seal-of Udp check changes made =
    let adjusted = adjusted_over check changes in
    let first : transport_adjusted Udp check changes ≡ nonzero adjusted = rw (ne_eqb check 0 (made refl)) refl in
    elim (cases_eq adjusted 0) [
      | inl zero ↦ inr (zero, first ∙ ap nonzero zero)
      | inr some ↦ inl (first ∙ rw (ne_eqb adjusted 0 some) refl)
    ]

module _ (frame : List ℕ) (view : View) (small : All (λ byte. byte < 256) frame) (lies : LiesWithin frame view)
    (address port : ℕ) (places : IsSide view address port) (pair : Pair) (numbers : IsPair pair) where
  placed : Placed (length frame) view.ip view.l4 places.0 address port (check_word view.packet.proto) (transport_check_place view)
  placed =
      let proto = view.packet.proto in
      let twice = check_word-twice proto in
      let within = check_word-within proto in
      record {
        header = lies.header;
        two = places.1;
        address_at = places.2;
        port_at = places.3;
        place_at = omega arith;
        offset_past = check_word-past proto;
        inside = omega arith;
      }

  -- a header that verified verifies with the pair
  pub pair_header : Verifies (header_words frame view) → Verifies (header_words (with_pair frame view address port pair) view)
  pair_header verified =
      header-verifies frame view.ip view.l4 places.0 address port
      (check_word view.packet.proto) (transport_check_place view) (pair.addr / 65536) (pair.addr % 65536) pair.port
      (header_check frame view address pair) (transport_check frame view address port pair) placed small
      (omega arith) (omega arith) (omega arith) (view.l4 - view.ip) (omega arith) (omega arith) refl verified

  -- a transport checksum that verified verifies with the pair
  pub pair_transport : HasCheck frame view → StaysVerified frame (with_pair frame view address port pair) view
  pair_transport made count covered count_fits verified =
      let proto = view.packet.proto in
      let within = check_word-within proto in
      transport-verifies frame view.ip view.l4 places.0 address port (check_word proto) (transport_check_place view)
      (pair.addr / 65536) (pair.addr % 65536) pair.port (header_check frame view address pair)
      (transport_check frame view address port pair) placed small (omega arith) (omega arith)
      (omega arith) (view.ip + 20 - (view.ip + 12)) (view.l4 + count - view.l4) (proto_number proto) count
      (omega arith) (omega arith) (some_proto proto) (proto_fits proto) count_fits (seal-of proto
      (word_at frame (transport_check_place view)) (pair_changes frame address port pair) made) verified
