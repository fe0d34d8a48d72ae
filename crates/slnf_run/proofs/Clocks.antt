-- The stamp of an access by what its shard and its actor keep: the shard's last stamp and the actor's clock.
use Rattle.std.proofs.Common.{◌≡◌, inl, inr, ℕ, ◌≤◌, ◌<◌, ◌==◌, ◌||◌, max, Bool, true, false, cond, IsTrue, List, [], ◌∷◌, ◌++◌, filter, refl, sym, ap, ap₂, ◌∙◌, subst, arith, le_trans, le_refl, le_of_lt, ltb-true, lt-ltb, le-ltb, eqb-true, eq-eqb, ne_eqb}
use Rattle.std.proofs.Math.Nat.{max-le, max-zero}
use Rattle.std.proofs.lemmas.Bool.{cases_eq, cond-false, cond_both}
use Rattle.slnf_access.specs.declared.requests.Entry.{Entry}
use Rattle.slnf_run.specs.Parts.{part_of}
use Rattle.slnf_run.specs.Scheduled.{greatest}
use Rattle.slnf_run.specs.Made.{Grown, Pairs, IsLaid, IsAbove, Rises, is_before, of_shard, last_stamp, is_of_earlier, clock_of, clock}
use Rattle.slnf_run.proofs.Pairing.{each-weaker, pairs-both}
use Rattle.slnf_run.proofs.Stamps.{each_below_greatest, stamps_above, epochs_rise, shard_stamps_rise, incarnation_stamps_rise, epoch_stamps_rise}
use Rattle.slnf_run.proofs.Rising.{rises_of_number}
use Rattle.slnf_run.proofs.Sorting.{precedes_stamp}
use Rattle.slnf_run.proofs.Parting.{part_of-other}
use Rattle.std.specs.List.{AllByRecursion}

-- the greatest of two tests
pub greatest-or : (p q : Entry → Bool) (es : List Entry) → greatest (λ e. p e || q e) es
    ≡ max (greatest p es) (greatest q es)
greatest-or p q [] = refl
greatest-or p q (e ∷ es) = go (p e) (q e) (greatest-or p q es)
  where
    go : (a b : Bool) → greatest (λ f. p f || q f) es ≡ max (greatest p es) (greatest q es) →
        cond (a || b) (max e.stamp (greatest (λ f. p f || q f) es)) (greatest (λ f. p f || q f) es)
        ≡ max (cond a (max e.stamp (greatest p es)) (greatest p es))
        (cond b (max e.stamp (greatest q es)) (greatest q es))
    go true true h = rw h (omega arith)
    go true false h = rw h (omega arith)
    go false true h = rw h (omega arith)
    go false false h = h

-- the greatest of two lists
pub greatest-append : (test : Entry → Bool) (xs ys : List Entry) → greatest test (xs ++ ys)
    ≡ max (greatest test xs) (greatest test ys)
greatest-append test [] ys = omega arith
greatest-append test (x ∷ xs) ys = go (test x) (greatest-append test xs ys)
  where
    go : (b : Bool) → greatest test (xs ++ ys) ≡ max (greatest test xs) (greatest test ys) →
        cond b (max x.stamp (greatest test (xs ++ ys))) (greatest test (xs ++ ys))
        ≡ max (cond b (max x.stamp (greatest test xs)) (greatest test xs)) (greatest test ys)
    go true h = rw h (omega arith)
    go false h = h

-- tests that agree on each entry have one greatest
pub greatest-same : (p q : Entry → Bool) (es : List Entry) → AllByRecursion (λ e. p e ≡ q e) es → greatest p es
    ≡ greatest q es
greatest-same p q [] h = refl
greatest-same p q (e ∷ es) h = ap₂ (λ b n. cond b (max e.stamp n) n) h.0 (greatest-same p q es h.1)

-- of none it is 0
pub greatest-none : (test : Entry → Bool) (es : List Entry) → AllByRecursion (λ e. test e ≡ false) es →
    greatest test es ≡ 0
greatest-none test [] h = refl
greatest-none test (e ∷ es) h = rw h.0 (greatest-none test es h.1)

-- it is within a bound of those that pass, and above a bound of them where there are some
pub greatest_within : (test : Entry → Bool) (bound : ℕ) (es : List Entry) →
    AllByRecursion (λ e. IsTrue (test e) → e.stamp ≤ bound) es → greatest test es ≤ bound
greatest_within test bound [] h = omega arith
greatest_within test bound (e ∷ es) h = go (test e) h.0 (greatest_within test bound es h.1)
  where
    go : (b : Bool) → (IsTrue b → e.stamp ≤ bound) → greatest test es ≤ bound →
        cond b (max e.stamp (greatest test es)) (greatest test es) ≤ bound
    go true k r = let l : e.stamp ≤ bound = k refl in omega arith
    go false k r = r

pub within_greatest : (test : Entry → Bool) (bound : ℕ) (e : Entry) (rest es : List Entry) → filter test es
    ≡ e ∷ rest → AllByRecursion (λ f. IsTrue (test f) → bound ≤ f.stamp) es → bound ≤ greatest test es
within_greatest test bound e rest [] w h = absurd (cc)
within_greatest test bound e rest (f ∷ es) w h = go (test f) h.0 w (λ v. within_greatest test bound e rest es v h.1)
  where
    go : (b : Bool) → (IsTrue b → bound ≤ f.stamp) → cond b (f ∷ filter test es) (filter test es) ≡ e ∷ rest →
        (filter test es ≡ e ∷ rest → bound ≤ greatest test es) →
        bound ≤ cond b (max f.stamp (greatest test es)) (greatest test es)
    go true k v r = let l : bound ≤ f.stamp = k refl in omega arith
    go false k v r = r v

last_above : (bound : ℕ) (e : Entry) (es : List Entry) → AllByRecursion (λ f. bound ≤ f.stamp) (e ∷ es) →
    bound ≤ last_stamp (e ∷ es)
last_above bound e [] h = h.0
last_above bound e (f ∷ es) h = last_above bound f es h.1

max_of_last : (e : Entry) (es : List Entry) → AllByRecursion (λ f. e.stamp ≤ f.stamp) es → max e.stamp (last_stamp es)
    ≡ last_stamp (e ∷ es)
max_of_last e [] h = omega arith
max_of_last e (f ∷ es) h = let l : e.stamp ≤ last_stamp (f ∷ es) = last_above e.stamp f es h in omega arith

-- where those that pass rise, the greatest stamp is the last
pub greatest_is_last : (test : Entry → Bool) (es : List Entry) → Pairs (Rises test) es → greatest test es
    ≡ last_stamp (filter test es)
greatest_is_last test [] h = refl
greatest_is_last test (e ∷ es) h = go (test e) refl (greatest_is_last test es h.1)
  where
    above : (b : Bool) → test e ≡ b → IsTrue b → (fs : List Entry) → AllByRecursion (Rises test e) fs →
        AllByRecursion (λ f. e.stamp ≤ f.stamp) (filter test fs)
    above b w t [] k = tt
    above b w t (f ∷ fs) k = choose (test f) refl (above b w t fs k.1)
      where
        choose : (c : Bool) → test f ≡ c → AllByRecursion (λ g. e.stamp ≤ g.stamp) (filter test fs) →
            AllByRecursion (λ g. e.stamp ≤ g.stamp) (cond c (f ∷ filter test fs) (filter test fs))
        choose true v r = (precedes_stamp e f (k.0 (w ∙ t) v), r)
        choose false v r = r

    go : (b : Bool) → test e ≡ b → greatest test es ≡ last_stamp (filter test es) →
        cond b (max e.stamp (greatest test es)) (greatest test es)
        ≡ last_stamp (cond b (e ∷ filter test es) (filter test es))
    go true w r = ap (max e.stamp) r ∙ max_of_last e (filter test es) (above true w refl es h.0)
    go false w r = r

-- the last stamp after one more entry
pub last_stamp-push : (es : List Entry) (e : Entry) → last_stamp (es ++ e ∷ []) ≡ e.stamp
last_stamp-push [] e = refl
last_stamp-push (f ∷ []) e = refl
last_stamp-push (f ∷ g ∷ es) e = last_stamp-push (g ∷ es) e

-- of two entries in either order, one of an earlier epoch has the lower stamp
abbrev pub IsUp : (ℕ → ℕ) → Entry → Entry → Type 0
IsUp epoch e f = (epoch e.incarnation < epoch f.incarnation → e.stamp < f.stamp)
    × (epoch f.incarnation < epoch e.incarnation → f.stamp < e.stamp)

pub up_of_rises : (epoch : ℕ → ℕ) (es : List Entry) → Pairs (λ e f. epoch e.incarnation ≤ epoch f.incarnation) es →
    Pairs (λ e f. epoch e.incarnation < epoch f.incarnation → e.stamp < f.stamp) es → Pairs (IsUp epoch) es
up_of_rises epoch es rise above =
    pairs-both (λ e f. epoch e.incarnation ≤ epoch f.incarnation) (λ e f. epoch e.incarnation < epoch f.incarnation →
    e.stamp < f.stamp) (IsUp epoch)
    (λ e f l u. (u, λ m. absurd (clash e f l m))) es rise above
  where
    clash : (e f : Entry) → epoch e.incarnation ≤ epoch f.incarnation → epoch f.incarnation < epoch e.incarnation → ⊥
    clash e f l m = omega arith

-- an actor with entries has stamps above those of earlier epochs
earlier_below_own : (epoch : ℕ → ℕ) (incarnation : ℕ) (es : List Entry) → Pairs (IsUp epoch) es →
    (e : Entry) (rest : List Entry) → part_of incarnation es ≡ e ∷ rest →
    greatest (is_of_earlier epoch incarnation) es ≤ greatest (λ f. f.incarnation == incarnation) es
earlier_below_own epoch incarnation [] h e rest w = absurd (cc)
earlier_below_own epoch incarnation (f ∷ es) h e rest w =
    elim (cases_eq f.incarnation incarnation) [
      | inl own ↦
          le_trans
          (greatest_within (is_of_earlier epoch incarnation) f.stamp (f ∷ es) (
            λ t. le_refl f.stamp,
            each-weaker (IsUp epoch f) (λ g. IsTrue (is_of_earlier epoch incarnation g) → g.stamp ≤ f.stamp)
                (λ g u t. let l : g.stamp < f.stamp = u.1
                (subst (λ n. epoch g.incarnation < epoch n) (sym own)
                (ltb-true (epoch g.incarnation) (epoch incarnation) t)) in omega arith) es h.0,
          ))
          ((each_below_greatest (λ g. g.incarnation == incarnation) (f ∷ es)).0
          (eq-eqb f.incarnation incarnation own))
      | inr n ↦
          let some : part_of incarnation es ≡ e ∷ rest = sym (part_of-other incarnation f es n) ∙ w in
          let same : greatest (λ g. g.incarnation == incarnation) (f ∷ es)
          ≡ greatest (λ g. g.incarnation == incarnation) es =
          cond-false (f.incarnation == incarnation) (max f.stamp (greatest (λ g. g.incarnation == incarnation) es))
          (greatest (λ g. g.incarnation == incarnation) es) (ne_eqb f.incarnation incarnation n) in
          subst (λ n. greatest (is_of_earlier epoch incarnation) (f ∷ es) ≤ n) (sym same)
          (cond_both (is_of_earlier epoch incarnation f) (max f.stamp (greatest (is_of_earlier epoch incarnation) es))
          (greatest (is_of_earlier epoch incarnation) es)
          (λ n. n ≤ greatest (λ g. g.incarnation == incarnation) es)
          (λ t. max-le (within_greatest (λ g. g.incarnation == incarnation) f.stamp e rest es some
          (each-weaker (IsUp epoch f) (λ g. IsTrue (g.incarnation == incarnation) → f.stamp ≤ g.stamp)
          (λ g u i. le_of_lt (u.0 (subst (λ n. epoch f.incarnation < epoch n)
          (sym (eqb-true g.incarnation incarnation i)) (ltb-true (epoch f.incarnation) (epoch incarnation) t))))
          es h.0))
          (earlier_below_own epoch incarnation es h.1 e rest some))
          (λ _. earlier_below_own epoch incarnation es h.1 e rest some))
    ]

-- the greatest of the own stamps and of those of earlier epochs is the actor's clock
pub clock_is_greatest : (epoch : ℕ → ℕ) (incarnation : ℕ) (es : List Entry) → Pairs (IsUp epoch) es →
    Pairs (λ e f. e.incarnation ≡ f.incarnation → e.stamp < f.stamp) es →
    max (greatest (λ e. e.incarnation == incarnation) es) (greatest (is_of_earlier epoch incarnation) es)
    ≡ clock epoch es incarnation
clock_is_greatest epoch incarnation es up rise = go (part_of incarnation es) refl
  where
    last : greatest (λ e. e.incarnation == incarnation) es ≡ last_stamp (part_of incarnation es)
    last = greatest_is_last (λ e. e.incarnation == incarnation) es
        (rises_of_number (λ e. e.incarnation) incarnation es rise)

    go : (part : List Entry) → part_of incarnation es ≡ part →
        max (greatest (λ e. e.incarnation == incarnation) es) (greatest (is_of_earlier epoch incarnation) es)
        ≡ clock_of epoch es incarnation part
    go [] w = let none : greatest (λ e. e.incarnation == incarnation) es ≡ 0 = last ∙ ap last_stamp w in
        rw none (omega arith)
    go (e ∷ part) w =
        let low : greatest (is_of_earlier epoch incarnation) es ≤ greatest (λ f. f.incarnation == incarnation) es =
        earlier_below_own epoch incarnation es up e part w in
        let all : max (greatest (λ f. f.incarnation == incarnation) es)
        (greatest (is_of_earlier epoch incarnation) es) ≡ greatest (λ f. f.incarnation == incarnation) es =
        omega arith in
        all ∙ (last ∙ ap last_stamp w)

-- the stamp of an access is one more than the greater of its shard's last stamp and its actor's clock
pub stamp_by_clock : (epoch : ℕ → ℕ) (shards : ℕ) (es : List Entry) (incarnation shard : ℕ) →
    Grown (IsLaid epoch shards) [] es → greatest (is_before epoch incarnation shard) es
    ≡ max (last_stamp (of_shard shard es)) (clock epoch es incarnation)
stamp_by_clock epoch shards es incarnation shard h =
    let above : Pairs (IsAbove epoch) es = stamps_above epoch shards es h in
    greatest-or (λ e. e.shard == shard || e.incarnation == incarnation) (is_of_earlier epoch incarnation) es
    ∙ (ap (λ n. max n (greatest (is_of_earlier epoch incarnation) es))
    (greatest-or (λ e. e.shard == shard) (λ e. e.incarnation == incarnation) es)
    ∙ (max-swap (greatest (λ e. e.shard == shard) es) (greatest (λ e. e.incarnation == incarnation) es)
    (greatest (is_of_earlier epoch incarnation) es)
    ∙ ap₂ max
    (greatest_is_last (λ e. e.shard == shard) es
    (rises_of_number (λ e. e.shard) shard es (shard_stamps_rise epoch es above)))
    (clock_is_greatest epoch incarnation es (up_of_rises epoch es (epochs_rise epoch shards es h)
    (epoch_stamps_rise epoch es above)) (incarnation_stamps_rise epoch es above))))
  where
    max-swap : (a b c : ℕ) → max (max a b) c ≡ max a (max b c)
    max-swap a b c = omega arith

-- within an epoch the greatest stamp of all earlier epochs is that of all entries at its start
pub earlier_at_start : (epoch : ℕ → ℕ) (incarnation : ℕ) (es tail : List Entry) →
    AllByRecursion (λ e. epoch e.incarnation < epoch incarnation) es →
    AllByRecursion (λ e. epoch incarnation ≤ epoch e.incarnation) tail →
    greatest (is_of_earlier epoch incarnation) (es ++ tail) ≡ greatest (λ _. true) es
earlier_at_start epoch incarnation es tail h k =
    greatest-append (is_of_earlier epoch incarnation) es tail
    ∙ (ap₂ max
    (greatest-same (is_of_earlier epoch incarnation) (λ _. true) es
    (each-weaker (λ e. epoch e.incarnation < epoch incarnation) (λ e. is_of_earlier epoch incarnation e ≡ true)
    (λ e l. lt-ltb (epoch e.incarnation) (epoch incarnation) l) es h))
    (greatest-none (is_of_earlier epoch incarnation) tail
    (each-weaker (λ e. epoch incarnation ≤ epoch e.incarnation) (λ e. is_of_earlier epoch incarnation e ≡ false)
    (λ e l. le-ltb (epoch e.incarnation) (epoch incarnation) l) tail k))
    ∙ max-zero (greatest (λ _. true) es))
