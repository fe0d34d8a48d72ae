-- A flight's failed write shows another packet's since its access before.
use Rattle.std.proofs.Common.{◌≡◌, ◌⊎◌, inl, inr, ℕ, ◌+◌, ◌≤◌, Bool, true, false, cond, ◌==◌, None, List, [], ◌∷◌, ◌++◌, refl, ap, ap₂, sym, ◌∙◌, subst, subst₂, arith, eqb-true, append_assoc, append-nil}
use Rattle.std.proofs.lemmas.List.Elements.{filter-append}
use Rattle.slnf_access.specs.declared.requests.Entry.{Entry}
use Rattle.slnf_access.specs.Map.{key_of, reply_to, cell_after, cell_step, cell_of, Cells, empty, map_after, IsLegal, IsLegalFrom, is_done}
use Rattle.slnf_access.specs.Machines.{Stand, Flies, stand_after}
use Rattle.slnf_access.proofs.Cells.{not_done_leaves}
use Rattle.slnf_access.proofs.Laws.{cell_of-append, legal-back, legal-front}
use Rattle.slnf_run.specs.Scene.{is_of, own_of}
use Rattle.slnf_run.specs.Keeps.{HasPaths, IsNext}
use Rattle.slnf_run.proofs.NextAccess.{is_next}
use Rattle.slnf_box.specs.declared.policies.Policy.{Policy}
use Rattle.slnf_fw.specs.Flight.{Flying}
use Rattle.slnf_fw.specs.Machine.{packet_key, fw_machine}
use Rattle.slnf_fw.specs.Scene.{fw_scene, BeginsFlights}
use Rattle.slnf_fw.specs.Bound.{IsWritten, FailuresShow}
use Rattle.slnf_fw.proofs.Credits.{credit, room, own_room, credit_done}
use Rattle.slnf_fw.proofs.Standing.{stand_at, cell_at, IsAt, flight_at}

-- where none is an item's own, the first isn't, and the rest has none
none_own : (i k : ℕ) (e : Entry) (es : List Entry) → own_of i k (e ∷ es) ≡ [] →
    (is_of i k e ≡ false) × (own_of i k es ≡ [])
none_own i k e es h = go (is_of i k e) h
  where
    go : (b : Bool) → cond b (e ∷ own_of i k es) (own_of i k es) ≡ [] → (b ≡ false) × (own_of i k es ≡ [])
    go true h = absurd (cc)
    go false h = (refl, h)

-- among entries of others one writes on a key, or the key keeps what it has
written_or_same : (key i k : ℕ) (cells : Cells) (es : List Entry) → own_of i k es ≡ [] → IsLegalFrom cells es →
    IsWritten key i k es ⊎ (cell_of key (cells key) es ≡ cells key)
written_or_same key i k cells [] none legal = inr refl
written_or_same key i k cells (e ∷ es) none legal =
    go (key_of e.request == key) refl (is_done e.reply) refl
    (written_or_same key i k (map_after cells (e ∷ [])) es (none_own i k e es none).1 legal.1)
  where
    later : cell_step key (cells key) e ≡ cells key →
        IsWritten key i k es ⊎ (cell_of key (cell_step key (cells key) e) es ≡ cell_step key (cells key) e) →
        IsWritten key i k (e ∷ es) ⊎ (cell_of key (cell_step key (cells key) e) es ≡ cells key)
    later same (inl r) = inl (record {
      before = e ∷ r.before;
      later = r.later;
      e = r.e;
      split = ap (λ xs. e ∷ xs) r.split;
      on_key = r.on_key;
      other = r.other;
      done = r.done;
    })
    later same (inr h) = inr (h ∙ same)

    go : (on : Bool) → (key_of e.request == key) ≡ on → (done : Bool) → is_done e.reply ≡ done →
        IsWritten key i k es ⊎ (cell_of key (cell_step key (cells key) e) es ≡ cell_step key (cells key) e) →
        IsWritten key i k (e ∷ es) ⊎ (cell_of key (cell_step key (cells key) e) es ≡ cells key)
    go true w true h rest = inl (record {
      before = [];
      later = es;
      e = e;
      split = refl;
      on_key = eqb-true (key_of e.request) key w;
      other = (none_own i k e es none).0;
      done = h;
    })
    go false w done h rest = later (ap (λ b. cond b (cell_after e.request e.stamp (cells key)) (cells key)) w) rest
    go true w false h rest =
        let same : key_of e.request ≡ key = eqb-true (key_of e.request) key w in
        let failed : is_done (reply_to e.request e.stamp (cells key)) ≡ false =
        subst (λ n. is_done (reply_to e.request e.stamp (cells n)) ≡ false) same (ap is_done (sym legal.0) ∙ h) in
        later
        (ap (λ b. cond b (cell_after e.request e.stamp (cells key)) (cells key)) w
        ∙ not_done_leaves e.request e.stamp (cells key) failed)
        rest

-- so what made room has left a credit
above : (c r q d : ℕ) → c + 1 ≤ r → q ≡ r → q ≡ d → 1 ≤ d
above c r q d a b h = omega arith

module _ (policy : Policy) (begins : ℕ → ℕ → Stand Flying) (es : List Entry) (flights : BeginsFlights policy begins)
    (legal : IsLegal es) (paths : HasPaths (fw_scene policy begins) es) where
  -- of an item that began so
  shown : (before middle later : List Entry) (e f : Entry) (first : Flying) →
      es ≡ before ++ e ∷ (middle ++ f ∷ later) → f.incarnation ≡ e.incarnation → f.item ≡ e.item →
      own_of e.incarnation e.item middle ≡ [] → is_done f.reply ≡ false →
      begins e.incarnation e.item ≡ Flies first →
      IsWritten (key_of f.request) e.incarnation e.item middle
  shown before middle later e f first split same_i same_k none failed begun =
      by (written_or_same key e.incarnation e.item (map_after empty (before ++ e ∷ [])) middle none legal_middle)
    where
      key : ℕ
      key = packet_key policy first.packet

      split_f : es ≡ (before ++ e ∷ middle) ++ f ∷ later
      split_f = split ∙ sym (append_assoc before (e ∷ middle) (f ∷ later))

      join : before ++ e ∷ middle ≡ (before ++ e ∷ []) ++ middle
      join = sym (append_assoc before (e ∷ []) middle)

      legal_middle : IsLegalFrom (map_after empty (before ++ e ∷ [])) middle
      legal_middle =
          legal-front (map_after empty (before ++ e ∷ [])) middle (f ∷ later)
          (legal-back empty (before ++ e ∷ []) (middle ++ f ∷ later)
          (subst IsLegal (split ∙ sym (append_assoc before (e ∷ []) (middle ++ f ∷ later))) legal))

      at_e : IsAt policy begins before e first
      at_e = flight_at policy begins es flights legal paths before (middle ++ f ∷ later) e first split begun

      begun_f : begins f.incarnation f.item ≡ Flies first
      begun_f = subst₂ (λ i k. begins i k ≡ Flies first) (sym same_i) (sym same_k) begun

      at_f : IsAt policy begins (before ++ e ∷ middle) f first
      at_f = flight_at policy begins es flights legal paths (before ++ e ∷ middle) later f first split_f begun_f

      -- the item stands at f as it stands after e
      own : own_of e.incarnation e.item (before ++ e ∷ middle) ≡ own_of e.incarnation e.item (before ++ e ∷ [])
      own = ap (own_of e.incarnation e.item) join
          ∙ filter-append (is_of e.incarnation e.item) (before ++ e ∷ []) middle
          ∙ ap (λ xs. own_of e.incarnation e.item (before ++ e ∷ []) ++ xs) none
          ∙ append-nil (own_of e.incarnation e.item (before ++ e ∷ []))

      stands : stand_at policy begins e.incarnation e.item (before ++ e ∷ []) ≡ Flies at_f.flight
      stands = ap (stand_after (fw_machine policy) (begins e.incarnation e.item)) (sym own)
          ∙ subst₂ (λ i k. stand_at policy begins i k (before ++ e ∷ middle) ≡ Flies at_f.flight) same_i same_k
          at_f.stands

      -- so its next access writes where the key has what it had then
      one : 1 ≤ credit at_f.flight.state (cell_at policy first (before ++ e ∷ []))
      one =
          above _ _ _ _
          (own_room policy first.packet at_e.flight.state (cell_at policy first before) e.stamp)
          (ap₂ room at_e.goes at_e.leaves)
          (ap (λ stand. room stand (cell_at policy first (before ++ e ∷ []))) stands)

      by : IsWritten key e.incarnation e.item middle
          ⊎ (cell_of key (cell_at policy first (before ++ e ∷ [])) middle ≡ cell_at policy first (before ++ e ∷ [])) →
          IsWritten (key_of f.request) e.incarnation e.item middle
      by (inl r) = subst (λ n. IsWritten n e.incarnation e.item middle) (sym at_f.on_key) r
      by (inr h) =
          let cell : cell_at policy first (before ++ e ∷ middle) ≡ cell_at policy first (before ++ e ∷ []) =
          ap (cell_of key None) join ∙ cell_of-append key None (before ++ e ∷ []) middle ∙ h in
          let done : is_done f.reply ≡ true =
          ap is_done at_f.reply
          ∙ credit_done policy first.packet at_f.flight.state (cell_at policy first (before ++ e ∷ middle)) f.stamp
          (subst (λ c. 1 ≤ credit at_f.flight.state c) (sym cell) one) in
          absurd (let no : false ≡ true = sym failed ∙ done in cc)

  -- A flight's put or replace that failed shows another packet's write on its key since the flight's access before.
  pub fw_failures : FailuresShow es
  fw_failures before middle later e f split same_i same_k none failed =
      let r : (first : Flying) × (flight : Flying)
      × IsNext (fw_scene policy begins) (map_after empty before) (own_of e.incarnation e.item before) e first
      flight =
      is_next (fw_scene policy begins) es legal paths before (middle ++ f ∷ later) e split in
      shown before middle later e f r.0 split same_i same_k none failed r.2.begins
