-- One step of the reading of records.
use Rattle.std.proofs.Common.{◌≡◌, ◌≤◌, ◌<◌, ◌+◌, ◌-◌, ℕ, suc, Bool, List, [], ◌∷◌, ◌++◌, Result, Ok, Err, length, take, drop, All, sym, ◌∙◌, ap, arith, append_assoc}
use Rattle.std.proofs.Math.Seq.{take-add}
use Rattle.std.proofs.lemmas.List.{append-nil, length-drop}
use Rattle.std.proofs.lemmas.Grind.{common_steps, flat_map-append}
use Rattle.std.specs.List.{flat_map}
use Rattle.slnf_pcap.specs.declared.errors.PcapError.{PcapError}
use Rattle.slnf_pcap.specs.declared.errors.PcapError.TheVariants.{TooMany}
use Rattle.slnf_pcap.specs.declared.capture.Captured.{Captured}
use Rattle.slnf_pcap.specs.Records.{record_at, records_from}
use Rattle.slnf_pcap.specs.Captures.{record_bytes}
use Rattle.slnf_pcap.proofs.Laws.{with_front, with_front-append, records_from-nothing, records_from-too_many, records_from-broken, records_from-record}

-- a slice from a place on
pub rest-slice : (n : ℕ) (bytes : List ℕ) → take (length bytes - n) (drop n bytes) ≡ drop n bytes
rest-slice n bytes = grind (arith, common_steps)

pub drop-place : (at n : ℕ) (bytes : List ℕ) → drop n (drop at bytes) ≡ drop (at + n) bytes
drop-place at n bytes = grind (arith, common_steps)

-- the bytes end here
pub step-end : (big : Bool) (most at : ℕ) (bytes : List ℕ) (packets : List Captured) →
    length bytes ≤ at → with_front packets (records_from big most at (drop at bytes)) ≡ Ok packets
step-end big most at bytes packets past =
    let none : drop at bytes ≡ [] = grind (arith, common_steps) in
    ap (λ rest. with_front packets (records_from big most at rest)) none
    ∙ ap (λ r. with_front packets r) (records_from-nothing big most at)
    ∙ ap Ok (append-nil packets)

-- one more record than may come
pub step-too_many : (big : Bool) (most at : ℕ) (bytes : List ℕ) (packets : List Captured) →
    most ≡ 0 → at < length bytes → with_front packets (records_from big most at (drop at bytes)) ≡ Err TooMany
step-too_many big most at bytes packets none some =
    ap (λ m. with_front packets (records_from big m at (drop at bytes))) none
    ∙ ap (λ r. with_front packets r) (records_from-too_many big at (drop at bytes) (omega (arith, length-drop at bytes)))

-- a record that is broken
pub step-broken : (big : Bool) (most at : ℕ) (bytes : List ℕ) (packets : List Captured) (error : PcapError) →
    0 < most → at < length bytes → record_at big at (take (length bytes - at) (drop at bytes)) ≡ Err error →
    with_front packets (records_from big most at (drop at bytes)) ≡ Err error
step-broken big most at bytes packets error room some broken =
    let same : most ≡ suc (most - 1) = omega arith in
    ap (λ m. with_front packets (records_from big m at (drop at bytes))) same
    ∙ ap (λ r. with_front packets r)
    (records_from-broken big (most - 1) at (drop at bytes) error (omega (arith, length-drop at bytes))
    (ap (λ rest. record_at big at rest) (sym (rest-slice at bytes)) ∙ broken))

-- a record that is whole
pub step-record : (big : Bool) (most left at : ℕ) (bytes : List ℕ) (packets : List Captured) (packet : Captured) →
    most ≡ suc left → at < length bytes →
    record_at big at (take (length bytes - at) (drop at bytes)) ≡ Ok packet →
    with_front (packets ++ packet ∷ []) (records_from big left (at + (16 + packet.len))
    (drop (at + (16 + packet.len)) bytes)) ≡ with_front packets (records_from big most at (drop at bytes))
step-record big most left at bytes packets packet room some whole =
    let rest : ℕ → List ℕ → Result (List Captured) PcapError = λ place bs. records_from big left place bs in
    let place : at + 16 + packet.len ≡ at + (16 + packet.len) = omega arith in
    with_front-append packets (packet ∷ []) (rest (at + (16 + packet.len)) (drop (at + (16 + packet.len)) bytes))
    ∙ ap (λ r. with_front packets (with_front (packet ∷ []) r))
    (ap (λ p. rest p (drop (at + (16 + packet.len)) bytes)) (sym place)
    ∙ ap (λ bs. rest (at + 16 + packet.len) bs) (sym (drop-place at (16 + packet.len) bytes)))
    ∙ ap (λ r. with_front packets r)
    (sym (records_from-record big left at (drop at bytes) packet (omega (arith, length-drop at bytes))
    (ap (λ bs. record_at big at bs) (sym (rest-slice at bytes)) ∙ whole)))
    ∙ ap (λ m. with_front packets (records_from big m at (drop at bytes))) (sym room)

-- its bytes stand behind those of the records before it
pub parts-more : (at : ℕ) (bytes : List ℕ) (packets : List Captured) (packet : Captured) → packet.at ≡ at →
    take at bytes ≡ take 24 bytes ++ flat_map (record_bytes bytes) packets →
    take (at + (16 + packet.len)) bytes ≡ take 24 bytes ++ flat_map (record_bytes bytes) (packets ++ packet ∷ [])
parts-more at bytes packets packet place parts =
    take-add at (16 + packet.len) bytes
    ∙ ap (λ front. front ++ take (16 + packet.len) (drop at bytes)) parts
    ∙ append_assoc (take 24 bytes) (flat_map (record_bytes bytes) packets) (take (16 + packet.len) (drop at bytes))
    ∙ ap (λ text. take 24 bytes ++ text) (sym (flat_map-append (record_bytes bytes) packets (packet ∷ [])
    ∙ ap (λ last. flat_map (record_bytes bytes) packets ++ last)
    (append-nil (record_bytes bytes packet) ∙ ap (λ p. take (16 + packet.len) (drop p bytes)) place)))

-- a list of one
pub All-one : {X : Type 0} (P : X → Type 0) (x : X) → P x → All P (x ∷ [])
All-one P x h k d below = let first : k ≡ 0 = omega arith in rw first h
