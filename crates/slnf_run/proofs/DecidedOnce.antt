-- A packet is decided once, and so no two packets with places of their own have one place.
use Rattle.std.proofs.Common.{◌≡◌, ℕ, suc, ◌<◌, ◌≤◌, ◌⊎◌, inl, inr, true, cond, Option, Some, None, List, [], ◌∷◌, ◌++◌, take, drop, slice_get, refl, ap, sym, ◌∙◌, subst, arith, take-append-drop}
use Rattle.std.proofs.lemmas.List.{take-take}
use Rattle.std.proofs.lemmas.List.Elements.{filter-append}
use Rattle.std.proofs.lemmas.Bool.{eq-eqb, cases_order}
use Rattle.std.proofs.lemmas.Option.{slice_get_within, same_Some}
use Rattle.slnf_base.specs.declared.packets.Verdict.{Verdict}
use Rattle.slnf_access.specs.declared.requests.Entry.{Entry}
use Rattle.slnf_access.specs.Machines.{Machine, Stand, Flies, Ends, stand_step, stand_after, decided_at}
use Rattle.slnf_access.proofs.Laws.{stand_after-append}
use Rattle.slnf_run.specs.Scene.{Scene, is_of, own_of, stand_of}
use Rattle.slnf_run.specs.Visits.{Decision, newly, decided_by, decision_of, decision_at}
use Rattle.slnf_run.specs.Steady.{IsSteady}
use Rattle.slnf_run.proofs.Splits.{IsSplit, split_at}

-- what is decided stays so
pub steady_step : {F : Type 0} (m : Machine F) → IsSteady m → (st : Stand F) (e : Entry) (v : Verdict) →
    decided_at m st ≡ Some v → decided_at m (stand_step m st e) ≡ Some v
steady_step m steady (Flies f) e v h = steady f e.reply v h
steady_step m steady (Ends o) e v h = h

pub steady_after : {F : Type 0} (m : Machine F) → IsSteady m → (st : Stand F) (es : List Entry) (v : Verdict) →
    decided_at m st ≡ Some v → decided_at m (stand_after m st es) ≡ Some v
steady_after m steady st [] v h = h
steady_after m steady st (e ∷ es) v h = steady_after m steady (stand_step m st e) es v (steady_step m steady st e v h)

-- A decision, with its entry.
pub record IsDecision {F A : Type 0} (s : Scene F A) (es : List Entry) (d : ℕ) (decision : Decision F)
    (e : Entry) : Type 0 where
  pub at : slice_get es d ≡ Some e
  pub begins : s.begins e.incarnation e.item ≡ Flies decision.first
  pub before : decided_at (s.machine e.incarnation) (stand_of s e.incarnation e.item (take d es)) ≡ None
  pub after : decided_at (s.machine e.incarnation)
      (stand_step (s.machine e.incarnation) (stand_of s e.incarnation e.item (take d es)) e) ≡ Some decision.verdict

pub newly_parts : (earlier now : Option Verdict) (v : Verdict) → newly earlier now ≡ Some v → (earlier ≡ None)
    × (now ≡ Some v)
newly_parts None now v h = (refl, h)
newly_parts (Some u) now v h = cc

pub decision_of_parts : {F : Type 0} (st : Stand F) (o : Option Verdict) (decision : Decision F) → decision_of st o
    ≡ Some decision → (st ≡ Flies decision.first) × (o ≡ Some decision.verdict)
decision_of_parts (Ends end) o decision h = cc
decision_of_parts (Flies first) None decision h = cc
decision_of_parts {F = F} (Flies first) (Some v) decision h =
    let same : record { first = first; verdict = v } ≡ decision = same_Some _ decision h in
    (ap (λ (r : Decision F). Flies r.first) same, ap (λ (r : Decision F). Some r.verdict) same)

pub is_decision : {F A : Type 0} (s : Scene F A) (es : List Entry) (d : ℕ) (decision : Decision F) →
    decision_at s es d ≡ Some decision → (e : Entry) × IsDecision s es d decision e
is_decision {F = F} {A = A} s es d decision h = go (slice_get es d) refl h
  where
    go : (o : Option Entry) → slice_get es d ≡ o →
        Rattle.std.specs.Option.option_and_then (λ e.
        decision_of (s.begins e.incarnation e.item) (decided_by s (take d es) e)) o ≡ Some decision → (e : Entry)
        × IsDecision s es d decision e
    go None w h = cc
    go (Some e) w h =
        let parts : (s.begins e.incarnation e.item ≡ Flies decision.first)
        × (decided_by s (take d es) e ≡ Some decision.verdict) =
        decision_of_parts (s.begins e.incarnation e.item) (decided_by s (take d es) e) decision h in
        let both : (decided_at (s.machine e.incarnation) (stand_of s e.incarnation e.item (take d es)) ≡ None)
        × (decided_at (s.machine e.incarnation) (stand_step (s.machine e.incarnation)
        (stand_of s e.incarnation e.item (take d es)) e) ≡ Some decision.verdict) =
        newly_parts _ _ decision.verdict parts.1 in
        (e, record { at = w; begins = parts.0; before = both.0; after = both.1 })

pub is_of-itself : (e : Entry) → is_of e.incarnation e.item e ≡ true
is_of-itself e = rw (eq-eqb e.incarnation e.incarnation refl, eq-eqb e.item e.item refl) refl

-- where an item stands after more entries
pub stand_of-append : {F A : Type 0} (s : Scene F A) (i k : ℕ) (xs ys : List Entry) → stand_of s i k (xs ++ ys)
    ≡ stand_after (s.machine i) (stand_of s i k xs) (own_of i k ys)
stand_of-append s i k xs ys =
    ap (stand_after (s.machine i) (s.begins i k)) (filter-append (is_of i k) xs ys)
    ∙ stand_after-append (s.machine i) (s.begins i k) (own_of i k xs) (own_of i k ys)

-- where an item stands after one more entry of its own
pub stand_of-own : {F A : Type 0} (s : Scene F A) (xs : List Entry) (e : Entry) →
    stand_of s e.incarnation e.item (xs ++ e ∷ [])
    ≡ stand_step (s.machine e.incarnation) (stand_of s e.incarnation e.item xs) e
stand_of-own s xs e =
    stand_of-append s e.incarnation e.item xs (e ∷ [])
    ∙ ap (λ b. stand_after (s.machine e.incarnation) (stand_of s e.incarnation e.item xs) (cond b (e ∷ []) []))
    (is_of-itself e)

-- a longer front goes on from a shorter one
pub take_further : {X : Type 0} (n m : ℕ) (xs : List X) → n ≤ m → take m xs ≡ take n xs ++ drop n (take m xs)
take_further n m xs h =
    sym (take-append-drop n (take m xs)) ∙ ap (λ ys. ys ++ drop n (take m xs)) (take-take n m xs h)

-- behind its deciding entry a packet is decided
pub decided_behind : {F A : Type 0} (s : Scene F A) (es : List Entry) (d b : ℕ) (decision : Decision F) (e : Entry) →
    IsDecision s es d decision e → IsSteady (s.machine e.incarnation) → d < b →
    decided_at (s.machine e.incarnation) (stand_of s e.incarnation e.item (take b es)) ≡ Some decision.verdict
decided_behind s es d b decision e r steady h =
    let split : (f : Entry) × IsSplit es d f = split_at es d (slice_get_within es d e r.at) in
    let same : split.0 ≡ e = same_Some split.0 e (sym split.1.at ∙ r.at) in
    let front : take (suc d) es ≡ take d es ++ e ∷ [] = split.1.front ∙ ap (λ f. take d es ++ f ∷ []) same in
    let whole : take b es ≡ (take d es ++ e ∷ []) ++ drop (suc d) (take b es) =
    take_further (suc d) b es (omega arith) ∙ ap (λ ys. ys ++ drop (suc d) (take b es)) front in
    let m : Machine _ = s.machine e.incarnation in
    let here : decided_at m (stand_of s e.incarnation e.item (take d es ++ e ∷ [])) ≡ Some decision.verdict =
    ap (decided_at m) (stand_of-own s (take d es) e) ∙ r.after in
    ap (decided_at m) (ap (stand_of s e.incarnation e.item) whole
    ∙ stand_of-append s e.incarnation e.item (take d es ++ e ∷ []) (drop (suc d) (take b es)))
    ∙ steady_after m steady (stand_of s e.incarnation e.item (take d es ++ e ∷ []))
    (own_of e.incarnation e.item (drop (suc d) (take b es))) decision.verdict here

-- so no later entry decides it
not_later : {F A : Type 0} (s : Scene F A) (es : List Entry) (d b : ℕ) (x y : Decision F) (e f : Entry) →
    IsDecision s es d x e → IsDecision s es b y f → IsSteady (s.machine e.incarnation) → f.incarnation
    ≡ e.incarnation → f.item ≡ e.item → d < b → ⊥
not_later s es d b x y e f r q steady own_i own_k h =
    let Undecided : ℕ → ℕ → Type 0 = λ i k. decided_at (s.machine i) (stand_of s i k (take b es)) ≡ None in
    let none : Undecided e.incarnation e.item = subst (λ i. Undecided i e.item) own_i
    (subst (λ k. Undecided f.incarnation k) own_k q.before) in
    let some : decided_at (s.machine e.incarnation) (stand_of s e.incarnation e.item (take b es)) ≡ Some x.verdict =
    decided_behind s es d b x e r steady h in
    cc

-- An item is decided at one entry.
pub once : {F A : Type 0} (s : Scene F A) (es : List Entry) (d b : ℕ) (x y : Decision F) (e f : Entry) →
    ((i : ℕ) → IsSteady (s.machine i)) → IsDecision s es d x e → IsDecision s es b y f → f.incarnation
    ≡ e.incarnation → f.item ≡ e.item → b ≡ d
once s es d b x y e f steady r q own_i own_k = go (cases_order b d)
  where
    go : (b ≡ d) ⊎ ((b < d) ⊎ (d < b)) → b ≡ d
    go (inl same) = same
    go (inr (inl less)) = absurd (not_later s es b d y x f e q r (steady f.incarnation) (sym own_i) (sym own_k) less)
    go (inr (inr more)) = absurd (not_later s es d b x y e f r q (steady e.incarnation) own_i own_k more)
