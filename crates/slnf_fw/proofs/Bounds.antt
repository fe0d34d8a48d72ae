-- A flight's accesses are at most 2 more than there are other packets on its connection.
use Rattle.std.proofs.Common.{◌≡◌, ℕ, ◌+◌, ◌*◌, ◌≤◌, Bool, true, false, not, cond, ◌&&◌, ◌==◌, Option, None, List, [], ◌∷◌, ◌++◌, length, filter, refl, ap, ap₂, sym, ◌∙◌, subst, subst₂, arith, eqb-true, length-append, append-nil}
use Rattle.std.proofs.lemmas.Bool.{and_parts, and_from}
use Rattle.std.proofs.lemmas.List.Elements.{filter-append}
use Rattle.slnf_base.specs.declared.packets.Packet.{Packet}
use Rattle.slnf_base.specs.declared.packets.Verdict.{Verdict}
use Rattle.slnf_access.specs.declared.requests.Held.{Held}
use Rattle.slnf_access.specs.declared.requests.Entry.{Entry}
use Rattle.slnf_access.specs.declared.requests.Reply.{Reply}
use Rattle.slnf_access.specs.declared.requests.Reply.TheVariants.{Done, Found, Absent}
use Rattle.slnf_access.specs.Map.{key_of, reply_to, cell_after, cell_step, Cells, empty, map_after, IsLegal, is_done}
use Rattle.slnf_access.specs.Machines.{Stand, Flies, Ends, stand_of_step, stand_after, IsPath}
use Rattle.slnf_access.proofs.Cells.{not_done_leaves}
use Rattle.slnf_access.proofs.Elements.{each-weaker}
use Rattle.slnf_access.proofs.Laws.{cell_of-append, legal-back}
use Rattle.slnf_run.specs.Scene.{is_of, own_of}
use Rattle.slnf_run.specs.Keeps.{HasPaths}
use Rattle.slnf_run.specs.Items.{Item, is_item, is_of_items, Covers, is_other_on, items_of}
use Rattle.slnf_run.proofs.DecidedOnce.{is_of-itself}
use Rattle.slnf_run.proofs.NextAccess.{own_split}
use Rattle.slnf_run.proofs.Counting.{prefix_induction, count, count_less, count_by_items, items_cover, filter_and}
use Rattle.slnf_box.specs.declared.policies.Policy.{Policy}
use Rattle.slnf_fw.specs.declared.flights.FwState.{FwState}
use Rattle.slnf_fw.specs.declared.flights.FwState.TheVariants.{Look, Add, Alter}
use Rattle.slnf_fw.specs.Flight.{Flying}
use Rattle.slnf_fw.specs.Machine.{packet_key, goes_in, fw_machine}
use Rattle.slnf_fw.specs.Scene.{fw_scene, BeginsFlights}
use Rattle.slnf_fw.specs.Bound.{IsBounded}
use Rattle.slnf_fw.proofs.Credits.{credit, room, room_below, room_near, own_room, stand_then, cell_then}
use Rattle.slnf_fw.proofs.Standing.{stand_at, cell_at, IsAt, flight_at}

-- the entry is a write on the key, of another item
abbrev writes : (key incarnation item : ℕ) → Entry → Bool
writes key incarnation item e = is_other_on key incarnation item e && is_done e.reply

-- a count after one more entry
count-push : (test : Entry → Bool) (es : List Entry) (e : Entry) →
    count test (es ++ e ∷ []) ≡ count test es + cond (test e) 1 0
count-push test es e =
    ap length (filter-append test es (e ∷ [])) ∙ length-append (filter test es) (cond (test e) (e ∷ []) [])
    ∙ ap (λ n. length (filter test es) + n) (go (test e))
  where
    go : (b : Bool) → length (cond b (e ∷ []) []) ≡ cond b 1 0
    go true = refl
    go false = refl

-- an access of another item takes at most the room that it counts for
other_room : (stand : Stand Flying) (cells : Cells) (key : ℕ) (e : Entry) →
    e.reply ≡ reply_to e.request e.stamp (cells (key_of e.request)) →
    room stand (cells key)
    ≤ room stand (cell_step key (cells key) e) + cond (((key_of e.request == key) && true) && is_done e.reply) 1 0
other_room stand cells key e replied = go (key_of e.request == key) refl (is_done e.reply) refl
  where
    go : (on : Bool) → (key_of e.request == key) ≡ on → (done : Bool) → is_done e.reply ≡ done →
        room stand (cells key)
        ≤ room stand (cond on (cell_after e.request e.stamp (cells key)) (cells key)) + cond ((on && true) && done) 1 0
    go false w done h = omega arith
    go true w true h = room_near stand (cells key) (cell_after e.request e.stamp (cells key))
    go true w false h =
        let same : key_of e.request ≡ key = eqb-true (key_of e.request) key w in
        let failed : is_done (reply_to e.request e.stamp (cells key)) ≡ false =
        subst (λ n. is_done (reply_to e.request e.stamp (cells n)) ≡ false) same (ap is_done (sym replied) ∙ h) in
        let leaves : cell_after e.request e.stamp (cells key) ≡ cells key =
        not_done_leaves e.request e.stamp (cells key) failed in
        let equal : room stand (cell_after e.request e.stamp (cells key)) ≡ room stand (cells key) =
        ap (room stand) leaves in
        omega arith

-- what an item has made is at most its room and the others' writes
abbrev Within : Policy → (ℕ → ℕ → Stand Flying) → (incarnation item : ℕ) → Flying → List Entry → Type 0
Within policy begins i k first es =
    length (own_of i k es)
    ≤ room (stand_at policy begins i k es) (cell_at policy first es)
    + count (writes (packet_key policy first.packet) i k) es

own_sum : (n n' c r r' w w' : ℕ) → n ≤ c + w → n' ≡ n + 1 → c + 1 ≤ r → r' ≡ r → w' ≡ w → n' ≤ r' + w'
own_sum n n' c r r' w w' a b d e f = omega arith

other_sum : (n n' r x r' w w' b : ℕ) → n ≤ r + w → r ≤ x + b → n' ≡ n → r' ≡ x → w' ≡ w + b → n' ≤ r' + w'
other_sum n n' r x r' w w' b a c d e f = omega arith

not_own : (on own done : Bool) → own ≡ true → ◌≡◌ {A = ℕ} (cond ((on && not own) && done) 1 0) 0
not_own true true done h = refl
not_own false true done h = refl
not_own true false done h = cc
not_own false false done h = cc

-- a done access ends its item
done_ends : (policy : Policy) (state : FwState) (packet : Packet) (reply : Reply) → is_done reply ≡ true →
    (verdict : Option Verdict) × (stand_of_step (goes_in policy state packet reply) ≡ Ends verdict)
done_ends policy Look packet (Done version) h = (_, refl)
done_ends policy (Add tracked) packet (Done version) h = (_, refl)
done_ends policy (Alter found tracked) packet (Done version) h = (_, refl)
done_ends policy state packet (Found value version) h = absurd (let no : false ≡ true = h in cc)
done_ends policy state packet Absent h = absurd (let no : false ≡ true = h in cc)

-- an item that has ended makes none
ended_none : (policy : Policy) (verdict : Option Verdict) (es : List Entry) →
    IsPath (fw_machine policy) (Ends verdict) es → length es ≤ 0
ended_none policy verdict [] h = omega arith
ended_none policy verdict (e ∷ es) h = absurd h.0

filter_none : (test : Entry → Bool) (es : List Entry) → length es ≤ 0 → length (filter test es) ≤ 0
filter_none test [] h = h
filter_none test (e ∷ es) h = absurd (omega arith)

-- so a path has at most one that is done
done_once : (policy : Policy) (stand : Stand Flying) (es : List Entry) → IsPath (fw_machine policy) stand es →
    length (filter (λ e. is_done e.reply) es) ≤ 1
done_once policy stand [] h = omega arith
done_once policy (Ends verdict) (e ∷ es) h = absurd h.0
done_once policy (Flies flight) (e ∷ es) h =
    go (is_done e.reply) refl
    (done_once policy (stand_of_step (goes_in policy flight.state flight.packet e.reply)) es h.1)
  where
    go : (b : Bool) → is_done e.reply ≡ b → length (filter (λ x. is_done x.reply) es) ≤ 1 →
        length (cond b (e ∷ filter (λ x. is_done x.reply) es) (filter (λ x. is_done x.reply) es)) ≤ 1
    go false w rest = rest
    go true w rest =
        let ends : (verdict : Option Verdict)
        × (stand_of_step (goes_in policy flight.state flight.packet e.reply) ≡ Ends verdict) =
        done_ends policy flight.state flight.packet e.reply w in
        let none : length es ≤ 0 =
        ended_none policy ends.0 es (subst (λ stand. IsPath (fw_machine policy) stand es) ends.1 h.1) in
        let few : length (filter (λ x. is_done x.reply) es) ≤ 0 = filter_none (λ x. is_done x.reply) es none in
        omega arith

all_pass : (es : List Entry) → filter (λ e. true) es ≡ es
all_pass [] = refl
all_pass (e ∷ es) = ap (λ xs. e ∷ xs) (all_pass es)

module _ (policy : Policy) (begins : ℕ → ℕ → Stand Flying) (es : List Entry) (flights : BeginsFlights policy begins)
    (legal : IsLegal es) (paths : HasPaths (fw_scene policy begins) es) where
  own_step : (before later : List Entry) (e : Entry) (first : Flying) → es ≡ before ++ e ∷ later →
      begins e.incarnation e.item ≡ Flies first → Within policy begins e.incarnation e.item first before →
      Within policy begins e.incarnation e.item first (before ++ e ∷ [])
  own_step before later e first split begun earlier =
      let i : ℕ = e.incarnation in
      let k : ℕ = e.item in
      let key : ℕ = packet_key policy first.packet in
      let cell : Option Held = cell_at policy first before in
      let test : Entry → Bool = writes (packet_key policy first.packet) e.incarnation e.item in
      let at : IsAt policy begins before e first =
      flight_at policy begins es flights legal paths before later e first split begun in
      let size : length (own_of i k (before ++ e ∷ [])) ≡ length (own_of i k before) + 1 =
      ap length (own_split before [] e) ∙ length-append (own_of i k before) (e ∷ []) in
      let written : count test (before ++ e ∷ []) ≡ count test before =
      count-push test before e
      ∙ ap (λ n. count test before + n)
      (not_own (key_of e.request == key) (is_of i k e) (is_done e.reply) (is_of-itself e))
      ∙ plus_zero (count test before) in
      own_sum (length (own_of i k before)) (length (own_of i k (before ++ e ∷ []))) (credit at.flight.state cell)
      (room (stand_then policy at.flight.state first.packet e.stamp cell)
      (cell_then policy at.flight.state first.packet e.stamp cell))
      (room (stand_at policy begins i k (before ++ e ∷ [])) (cell_at policy first (before ++ e ∷ [])))
      (count test before) (count test (before ++ e ∷ []))
      (subst (λ stand. length (own_of i k before) ≤ room stand cell + count test before) at.stands earlier) size
      (own_room policy first.packet at.flight.state cell e.stamp) (ap₂ room at.goes at.leaves) written
    where
      plus_zero : (n : ℕ) → n + 0 ≡ n
      plus_zero n = omega arith

  other_step : (before later : List Entry) (e : Entry) (i k : ℕ) (first : Flying) → es ≡ before ++ e ∷ later →
      is_of i k e ≡ false → Within policy begins i k first before → Within policy begins i k first (before ++ e ∷ [])
  other_step before later e i k first split other earlier =
      let key : ℕ = packet_key policy first.packet in
      let test : Entry → Bool = writes (packet_key policy first.packet) i k in
      let cells : Cells = map_after empty before in
      let stand : Stand Flying = stand_at policy begins i k before in
      let replied : e.reply ≡ reply_to e.request e.stamp (map_after empty before (key_of e.request)) =
      (legal-back empty before (e ∷ later) (subst IsLegal split legal)).0 in
      let same : own_of i k (before ++ e ∷ []) ≡ own_of i k before =
      filter-append (is_of i k) before (e ∷ []) ∙ ap (λ b. own_of i k before ++ cond b (e ∷ []) []) other
      ∙ append-nil (own_of i k before) in
      let stands : stand_at policy begins i k (before ++ e ∷ []) ≡ stand =
      ap (stand_after (fw_machine policy) (begins i k)) same in
      let bit : ℕ = cond (((key_of e.request == key) && true) && is_done e.reply) 1 0 in
      let written : count test (before ++ e ∷ []) ≡ count test before + bit =
      count-push test before e
      ∙ ap (λ b. count test before + cond (((key_of e.request == key) && not b) && is_done e.reply) 1 0) other in
      other_sum (length (own_of i k before)) (length (own_of i k (before ++ e ∷ []))) (room stand (cells key))
      (room stand (cell_step key (cells key) e))
      (room (stand_at policy begins i k (before ++ e ∷ [])) (cell_at policy first (before ++ e ∷ [])))
      (count test before) (count test (before ++ e ∷ [])) bit
      earlier (other_room stand cells key e replied) (ap length same)
      (ap₂ room stands (cell_of-append key None before (e ∷ []))) written

  within : (i k : ℕ) (first : Flying) → begins i k ≡ Flies first → Within policy begins i k first es
  within i k first begun = prefix_induction (Within policy begins i k first) es (omega arith) step
    where
      step : (before later : List Entry) (e : Entry) → es ≡ before ++ e ∷ later →
          Within policy begins i k first before → Within policy begins i k first (before ++ e ∷ [])
      step before later e split earlier = go (is_of i k e) refl
        where
          go : (b : Bool) → is_of i k e ≡ b → Within policy begins i k first (before ++ e ∷ [])
          go true w =
              let parts : ((e.incarnation == i) ≡ true) × ((e.item == k) ≡ true) =
              and_parts (e.incarnation == i) (e.item == k) w in
              subst₂
              (λ i k. begins i k ≡ Flies first → Within policy begins i k first before →
              Within policy begins i k first (before ++ e ∷ []))
              (eqb-true e.incarnation i parts.0) (eqb-true e.item k parts.1)
              (λ begun earlier. own_step before later e first split begun earlier) begun earlier
          go false w = other_step before later e i k first split w earlier

  -- the others' writes are at most as many as the others
  writes_below : (key i k : ℕ) (others : List Item) → Covers (is_other_on key i k) others es →
      count (writes key i k) es ≤ length others * 1
  writes_below key i k others covers =
      count_by_items 1 others (writes key i k) es
      (each-weaker (λ e. is_other_on key i k e ≡ true → is_of_items others e ≡ true)
      (λ e. writes key i k e ≡ true → is_of_items others e ≡ true)
      (λ e h t. h (and_parts (is_other_on key i k e) (is_done e.reply) t).0) es covers)
      each
    where
      le_trans_nat : (a b c : ℕ) → a ≤ b → b ≤ c → a ≤ c
      le_trans_nat a b c h k = omega arith

      each : (item : Item) → count (λ e. writes key i k e && is_item item e) es ≤ 1
      each item =
          let own : List Entry = own_of item.incarnation item.number es in
          let fewer : count (λ e. writes key i k e && is_item item e) es
          ≤ count (λ e. is_done e.reply && is_item item e) es =
          count_less (λ e. writes key i k e && is_item item e) (λ e. is_done e.reply && is_item item e)
          (λ e h. let parts = and_parts (writes key i k e) (is_item item e) h in
          and_from (is_done e.reply) (is_item item e)
          (and_parts (is_other_on key i k e) (is_done e.reply) parts.0).1 parts.1)
          es in
          let once : length (filter (λ e. is_done e.reply) own) ≤ 1 =
          done_once policy (begins item.incarnation item.number) own (paths item.incarnation item.number) in
          let same : length (filter (λ e. is_done e.reply) own) ≡ count (λ e. is_done e.reply && is_item item e) es =
          ap length (filter_and (λ e. is_done e.reply) (is_item item) es) in
          le_trans_nat (count (λ e. writes key i k e && is_item item e) es)
          (count (λ e. is_done e.reply && is_item item e) es) 1 fewer (subst (λ n. n ≤ 1) same once)

  -- A flight makes at most 2 accesses more than there are others on its key, by any list that has them all.
  bounded_by : (i k : ℕ) (first : Flying) → begins i k ≡ Flies first → (others : List Item) →
      Covers (is_other_on (packet_key policy first.packet) i k) others es →
      length (own_of i k es) ≤ 2 + length others
  bounded_by i k first begun others covers =
      sum (length (own_of i k es)) (room (stand_at policy begins i k es) (cell_at policy first es))
      (count (writes (packet_key policy first.packet) i k) es) (length others)
      (within i k first begun) (room_below (stand_at policy begins i k es) (cell_at policy first es))
      (writes_below (packet_key policy first.packet) i k others covers)
    where
      sum : (n r w m : ℕ) → n ≤ r + w → r ≤ 2 → w ≤ m * 1 → n ≤ 2 + m
      sum n r w m a b c = omega arith

  own_below : (items : List Item) → Covers (λ e. true) items es → (item : Item) →
      length (own_of item.incarnation item.number es) ≤ 2 + length items
  own_below items covers item = go (begins item.incarnation item.number) refl
    where
      go : (stand : Stand Flying) → begins item.incarnation item.number ≡ stand →
          length (own_of item.incarnation item.number es) ≤ 2 + length items
      go (Flies first) w =
          let other : Entry → Bool =
          is_other_on (packet_key policy first.packet) item.incarnation item.number in
          bounded_by item.incarnation item.number first w items
          (each-weaker (λ e. true ≡ true → is_of_items items e ≡ true)
          (λ e. other e ≡ true → is_of_items items e ≡ true) (λ e h t. h refl) es covers)
      go (Ends verdict) w =
          let own : List Entry = own_of item.incarnation item.number es in
          let none : length (own_of item.incarnation item.number es) ≤ 0 =
          ended_none policy verdict own
          (subst (λ stand. IsPath (fw_machine policy) stand own) w (paths item.incarnation item.number)) in
          omega arith

  -- The accesses of a firewall's packets are bounded.
  pub fw_bounded : IsBounded policy begins es
  fw_bounded = record {
    each = λ i k first begun.
        let other : Entry → Bool = is_other_on (packet_key policy first.packet) i k in
        bounded_by i k first begun (items_of other es) (items_cover other es);
    total = λ items among.
        let covers : Covers (λ e. true) items es =
        each-weaker (λ e. is_of_items items e ≡ true) (λ e. true ≡ true → is_of_items items e ≡ true) (λ e h t. h) es
        among in
        subst (λ n. n ≤ length items * (2 + length items)) (ap length (all_pass es))
        (count_by_items (2 + length items) items (λ e. true) es covers (own_below items covers));
  }
