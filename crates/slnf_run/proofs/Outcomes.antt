-- What becomes of each packet in a run that one box explains.
use Rattle.std.proofs.Common.{◌≡◌, inl, inr, ℕ, suc, zero, ◌+◌, ◌<◌, ◌≤◌, cond, ◌==◌, if◌then◌else◌, Option, Some, None, List, [], ◌∷◌, ◌++◌, length, map, filter_map, slice_get, refl, ap, sym, ◌∙◌, subst, append_assoc, eq-eqb, arith}
use Rattle.std.proofs.Math.Nat.{eq-or-lt_of_le}
use Rattle.std.specs.List.{range_with_len, cons_option}
use Rattle.std.specs.Option.{option_and_then}
use Rattle.std.proofs.lemmas.Option.{slice_get_within, same_Some}
use Rattle.slnf_base.specs.declared.packets.Verdict.{Verdict}
use Rattle.slnf_base.specs.declared.packets.Verdict.TheVariants.{Dropped}
use Rattle.slnf_access.specs.declared.requests.Entry.{Entry}
use Rattle.slnf_access.specs.Map.{Cells}
use Rattle.slnf_access.specs.Machines.{Flies, Ends}
use Rattle.slnf_run.specs.Scene.{Scene}
use Rattle.slnf_run.specs.Visits.{Decision, decision_at, Visit, removal, visit_by, visits_of}
use Rattle.slnf_run.specs.Boxes.{Box, content_through, content_after, Fits, Agrees, IsExplained}
use Rattle.slnf_run.specs.Setting.{Setting}
use Rattle.slnf_run.specs.Run.{IsRun}
use Rattle.slnf_run.proofs.Splits.{IsSplit, split_at}
use Rattle.slnf_run.proofs.DecidedOnce.{IsDecision, is_decision, once}
use Rattle.slnf_run.specs.OneBox.{IsSound, IsOn, Took, NobodyTook, IsDecided, NeverReachesBox, ReachesBoxOnce, IsWithin, HasPlaces, IsSeen, Fate}
use Rattle.slnf_run.specs.OneBox.Fate.{Untaken, Begun, WithInstance, Placed}
use Rattle.slnf_run.proofs.Offered.{all_stopped_before, was_offered}
use Rattle.slnf_run.proofs.OneBoxOfRun.{one_taker, left_of_nobody, taken_by_entry, given_to, took_or_not}
use Rattle.slnf_run.proofs.Offering.{offering_of_run}

range_split : (a n d : ℕ) → a ≤ d → d < a + n → (xs : List ℕ) × (ys : List ℕ) × (range_with_len a n ≡ xs ++ d ∷ ys)
range_split a zero d h l = absurd (omega arith)
range_split a (suc n) d h l = elim (eq-or-lt_of_le h) [
  | inl same ↦ ([], range_with_len (a + 1) n, ap (λ x. x ∷ range_with_len (a + 1) n) same)
  | inr less ↦
      let r : (xs : List ℕ) × (ys : List ℕ) × (range_with_len (a + 1) n ≡ xs ++ d ∷ ys) =
      range_split (a + 1) n d (omega arith) (omega arith) in
      (a ∷ r.0, r.1, ap (λ l. a ∷ l) r.2)
]

cons_option-append : {Y : Type 0} (o : Option Y) (xs ys : List Y) → cons_option o (xs ++ ys) ≡ cons_option o xs ++ ys
cons_option-append None xs ys = refl
cons_option-append (Some x) xs ys = refl

picks_split : {Y : Type 0} (f : ℕ → Option Y) (xs ys : List ℕ) (d : ℕ) (y : Y) → f d ≡ Some y →
    filter_map f (xs ++ d ∷ ys) ≡ filter_map f xs ++ y ∷ filter_map f ys
picks_split f [] ys d y h = ap (λ o. cons_option o (filter_map f ys)) h
picks_split f (x ∷ xs) ys d y h = ap (cons_option (f x)) (picks_split f xs ys d y h)
    ∙ cons_option-append (f x) (filter_map f xs) (y ∷ filter_map f ys)

-- a box that agrees with visits gives each its verdict, after those before it
agrees_at : {A C : Type 0} (box : Box A C) (c : C) (earlier later : List (Visit A)) (v : Visit A) →
    Agrees box c (earlier ++ v ∷ later) → Fits v.verdict (box.verdict (content_through box c earlier) v.arrival)
agrees_at box c [] later v h = h.0
agrees_at box c (w ∷ earlier) later v h = agrees_at box (box.next c w.arrival) earlier later v h.1

-- A box that explains a list sees each packet that is decided there, at its place.
pub seen : {F A C : Type 0} (s : Scene F A) (box : Box A C) (Same : C → Cells → Type 0) (es : List Entry) (d : ℕ)
    (e : Entry) (decision : Decision F) → HasPlaces s es → IsExplained s box Same es → slice_get es d ≡ Some e →
    decision_at s es d ≡ Some decision → IsSeen s box es d decision
seen {F = F} {A = A} s box Same es d e decision places explained at decided =
    let t : ℕ = s.place es d decision.first decision.verdict in
    let w : IsWithin es d e (s.place es d decision.first decision.verdict) = places d e decision at decided in
    let size : d < length es = slice_get_within es d e at in
    let upto : s.place es d decision.first decision.verdict ≤ d = w.upto in
    let p : (f : Entry) × IsSplit es (s.place es d decision.first decision.verdict) f =
    split_at es (s.place es d decision.first decision.verdict) (omega arith) in
    let there : (f : Entry) × (slice_get es (s.place es d decision.first decision.verdict) ≡ Some f) =
    (p.0, p.1.at) in
    let visit : Visit A = record { arrival = s.arrival decision.first there.0; verdict = Some decision.verdict } in
    let by : visit_by s es t there.0 d ≡ Some visit =
    ap (option_and_then (λ (x : Decision F). if s.place es d x.first x.verdict == t then Some
    (record { arrival = s.arrival x.first there.0; verdict = Some x.verdict }) else None)) decided
    ∙ ap (λ b. cond b (Some visit) None) (eq-eqb t t refl) in
    let r = range_split 0 (length es) d (omega arith) (let l : d < length es = slice_get_within es d e at in
    omega arith) in
    let f : ℕ → Option (Visit A) = visit_by s es t there.0 in
    let visits : visits_of s es t there.0 ≡ (map removal (s.removals there.0) ++ filter_map f r.0)
    ++ visit ∷ filter_map f r.1 =
    ap (λ l. map removal (s.removals there.0) ++ filter_map f l) r.2
    ∙ ap (λ l. map removal (s.removals there.0) ++ l) (picks_split f r.0 r.1 d visit by)
    ∙ sym (append_assoc (map removal (s.removals there.0)) (filter_map f r.0) (visit ∷ filter_map f r.1)) in
    record {
      e = there.0;
      earlier = map removal (s.removals there.0) ++ filter_map f r.0;
      later = filter_map f r.1;
      at = there.1;
      visits = visits;
      answer = agrees_at box (content_after s box es t) (map removal (s.removals there.0) ++ filter_map f r.0)
          (filter_map f r.1) visit (subst (Agrees box (content_after s box es t)) visits
          (explained.verdicts t there.0 there.1));
    }

module _ {F A : Type 0} (s : Setting F A) (j : List Entry) (sound : IsSound s) (run : IsRun s j) where
  -- a packet that comes was taken by the incarnation of its entries
  pub comes_taken : (lane number i d : ℕ) (decision : Decision F) → IsOn s j lane i →
      IsDecided s j i number d decision → Took s j lane number i
  comes_taken lane number i d decision on h =
      subst (λ k. Took s j lane k i) h.of
      (subst (λ n. IsOn s j lane n → Took s j lane h.e.item n) h.by
      (taken_by_entry s j (offering_of_run s j run) lane d h.e h.at) on)

  -- a decision begins with a flight
  pub begins_flying : (i k d : ℕ) (decision : Decision F) → IsDecided s j i k d decision → s.scene.begins i k
      ≡ Flies decision.first
  begins_flying i k d decision h =
      let r : (e : Entry) × IsDecision s.scene j d decision e = is_decision s.scene j d decision h.decided in
      let same : r.0 ≡ h.e = same_Some r.0 h.e (sym r.1.at ∙ h.at) in
      ap (s.scene.begins i) (sym (ap (λ (e : Entry). e.item) same ∙ h.of))
      ∙ ap (λ n. s.scene.begins n r.0.item) (sym (ap (λ (e : Entry). e.incarnation) same ∙ h.by))
      ∙ r.1.begins

  -- an item is decided at one entry
  pub decided_once : (i k c d : ℕ) (x y : Decision F) → IsDecided s j i k c x → IsDecided s j i k d y → c ≡ d
  decided_once i k c d x y h g =
      let r : (e : Entry) × IsDecision s.scene j c x e = is_decision s.scene j c x h.decided in
      let q : (e : Entry) × IsDecision s.scene j d y e = is_decision s.scene j d y g.decided in
      let a : r.0 ≡ h.e = same_Some r.0 h.e (sym r.1.at ∙ h.at) in
      let b : q.0 ≡ g.e = same_Some q.0 g.e (sym q.1.at ∙ g.at) in
      once s.scene j d c y x q.0 r.0 sound.steady q.1 r.1
      (ap (λ (e : Entry). e.incarnation) a ∙ h.by ∙ sym (ap (λ (e : Entry). e.incarnation) b ∙ g.by))
      (ap (λ (e : Entry). e.item) a ∙ h.of ∙ sym (ap (λ (e : Entry). e.item) b ∙ g.of))

  pub comes_once : (lane number : ℕ) → ReachesBoxOnce s j lane number
  comes_once lane number c d h g =
      let same : g.0 ≡ h.0 = one_taker s j sound lane number g.0 h.0 (comes_taken lane number g.0 d g.1 g.2 g.3)
      (comes_taken lane number h.0 c h.1 h.2 h.3) in
      decided_once h.0 number c d h.1 g.1 h.3 (subst (λ i. IsDecided s j i number d g.1) same g.3)

  never_untaken : (lane number : ℕ) → NobodyTook s j lane number → NeverReachesBox s j lane number
  never_untaken lane number none d h = none h.0 (comes_taken lane number h.0 d h.1 h.2 h.3)

  never_begun : (lane number i : ℕ) (v : Option Verdict) → Took s j lane number i → s.scene.begins i number ≡ Ends v →
      NeverReachesBox s j lane number
  never_begun lane number i v took begins d h =
      let same : h.0 ≡ i = one_taker s j sound lane number h.0 i (comes_taken lane number h.0 d h.1 h.2 h.3) took in
      let flies : s.scene.begins i number ≡ Flies h.1.first =
      begins_flying i number d h.1 (subst (λ i. IsDecided s j i number d h.1) same h.3) in
      cc

  -- What becomes of each packet, where the boxes have seen each decision.
  pub outcome : (Seen : ℕ → Decision F → Type 0) →
      ((d : ℕ) (e : Entry) (decision : Decision F) → slice_get j d ≡ Some e → decision_at s.scene j d
      ≡ Some decision → Seen d decision) → (lane number : ℕ) → Fate s Seen j lane number
  outcome Seen see lane number = elim (took_or_not s j lane number) [
    | inr none ↦ Untaken none (all_stopped_before s j lane number none)
        (left_of_nobody s j lane number none) (never_untaken lane number none)
    | inl r ↦ elim (given_to s j sound run lane number r.0 r.1) [
      | inl begins ↦ Begun r.0 begins.0 r.1 (was_offered s j lane number r.0 r.1) begins.1 begins.2
          (never_begun lane number r.0 (Some (Dropped begins.0)) r.1 begins.1)
      | inr (inl lost) ↦ WithInstance r.0 r.1 lost.1 lost.0 (λ d x h. see d h.e x h.at h.decided)
          (comes_once lane number)
      | inr (inr placed) ↦ Placed r.0 placed.0 placed.1 r.1 placed.2
          (see placed.0 placed.2.e placed.1 placed.2.at placed.2.decided) placed.3 placed.4 placed.5
          (comes_once lane number)
    ]
  ]
