-- Each claim was put by a packet on its way out, whose source it names.
use Rattle.std.proofs.Common.{◌≡◌, inl, inr, ℕ, zero, suc, ◌≤◌, Some, None, List, [], ◌∷◌, ◌++◌, length, take, drop, ap, sym, ◌∙◌, subst, arith}
use Rattle.std.proofs.lemmas.Option.{same_Some}
use Rattle.slnf_base.specs.declared.addresses.Pair.{Pair}
use Rattle.slnf_base.specs.declared.packets.Proto.{Proto}
use Rattle.slnf_base.specs.declared.packets.Packet.{Packet}
use Rattle.slnf_access.specs.declared.requests.Held.{Held}
use Rattle.slnf_access.specs.declared.requests.Entry.{Entry}
use Rattle.slnf_access.specs.Map.{empty, map_after}
use Rattle.slnf_access.specs.Machines.{Stand, Flies, Ends}
use Rattle.slnf_access.proofs.Laws.{cell_of-append}
use Rattle.slnf_keys.specs.declared.values.Claim.{Claim}
use Rattle.slnf_run.proofs.Splits.{IsSplit, split_at}
use Rattle.slnf_box.specs.Nat.{Nat}
use Rattle.slnf_nat.specs.Flights.{Look, Try, Confirm, Release, Last, NatFlight, Out, In, Sweep, first_of}
use Rattle.slnf_nat.specs.Machine.{port_key, nat_goes}
use Rattle.slnf_nat.specs.Laws.{HasSource, HaveSources}
use Rattle.slnf_nat.specs.Leaks.{Hangs}
use Rattle.slnf_nat.specs.Given.{IsNat, IsNatList}
use Rattle.slnf_nat.proofs.Effects.{after}
use Rattle.slnf_nat.proofs.Flying.{BeganSo, began_so}
use Rattle.slnf_nat.proofs.Nexts.{IsNextOf, next_of}
use Rattle.slnf_nat.proofs.Hangs.{Left, left_after}

-- an item that hangs on a claim is a packet on its way out with that source
hangs_packet : (nat : Nat) (proto : Proto) (port inside : Pair) (since : ℕ) (first : NatFlight)
    (st : Stand NatFlight) → BeganSo first st → Hangs nat proto port inside since st
    → (i : ℕ) × (packet : Packet) × (first ≡ Out Look i packet) × (packet.proto ≡ proto) × (packet.source ≡ inside)
hangs_packet nat proto port inside since first (Flies (Out Look i packet)) b h = absurd h
hangs_packet nat proto port inside since first (Flies (Out (Try number) i packet)) b h = absurd h
hangs_packet nat proto port inside since first (Flies (Out (Confirm number version) i packet)) b h = (i, packet, sym b, h.0, h.1)
hangs_packet nat proto port inside since first (Flies (Out (Release number version to) i packet)) b h =
    (i, packet, sym b, h.0, h.1)
hangs_packet nat proto port inside since first (Flies (Out Last i packet)) b h = absurd h
hangs_packet nat proto port inside since first (Flies (In state packet)) b h = absurd h
hangs_packet nat proto port inside since first (Flies (Sweep state q p base)) b h = absurd h
hangs_packet nat proto port inside since first (Ends end) b h = absurd h

module _ (nat : Nat) (is_nat : IsNat nat) (base_at : ℕ → ℕ) (begins : ℕ → ℕ → Stand NatFlight)
    (es : List Entry) (given : IsNatList nat base_at begins es) where
  step : (before later : List Entry) (e : Entry) → es ≡ before ++ e ∷ later
      → HaveSources begins (map_after empty before) → HaveSources begins (map_after empty (before ++ e ∷ []))
  step before later e split all = subst (HaveSources begins) (sym push) next_all
    where
      push : map_after empty (before ++ e ∷ []) ≡ after (map_after empty before) e
      push = λ j key. cell_of-append key None before (e ∷ []) j

      next : (flight : NatFlight) × IsNextOf nat base_at begins before e flight
      next = next_of nat is_nat base_at begins es given before later e split

      next_all : HaveSources begins (after (map_after empty before) e)
      next_all proto port claim held fits there reads = go (left_after nat is_nat base_at e
          (map_after empty before) next.0 proto port held next.1.asked next.1.replied next.1.ranged fits there)
        where
          go : Left nat is_nat base_at e (map_after empty before) next.0 proto port
              (map_after empty before (port_key proto port)) held
              → HasSource begins proto claim.inside
          go (inl was) = all proto port claim held fits was reads
          go (inr new) =
              let same : (let c : Claim = record { incarnation = e.incarnation; inside = new.0 } in c) ≡ claim =
              same_Some _ claim (sym new.1 ∙ reads) in
              let r : (i : ℕ) × (packet : Packet) × (first_of next.0 ≡ Out Look i packet)
              × (packet.proto ≡ proto) × (packet.source ≡ new.0) = hangs_packet nat proto port new.0 held.version
              (first_of next.0) (nat_goes nat next.0 e.reply) (began_so nat next.0 e.reply) new.2 in (
                e.incarnation,
                e.item,
                r.0,
                r.1,
                next.1.began
                    ∙ ap (λ f. Flies f) r.2,
                r.3,
                r.4 ∙ ap (λ (c : Claim). c.inside) same,
              )

  -- After each prefix each claim was put by a packet on its way out, of the claim's protocol, whose source the claim names.
  pub claims_made : (t : ℕ) → t ≤ length es → HaveSources begins (map_after empty (take t es))
  claims_made zero h = λ proto port claim held fits there reads. absurd (nothing held there)
    where
      nothing : (held : Held) → None ≡ Some held → ⊥
      nothing held q = cc
  claims_made (suc t) h =
      let r : (e : Entry) × IsSplit es t e = split_at es t h in
      subst (λ l. HaveSources begins (map_after empty l))
      (sym r.1.front) (step (take t es) (drop (suc t) es) r.0 r.1.whole (claims_made t (omega arith)))
