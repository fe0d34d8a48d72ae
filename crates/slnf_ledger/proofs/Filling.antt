-- The ledger's lanes, as they are made, added to and filled.
use Rattle.std.proofs.Common.{◌≡◌, ℕ, zero, suc, ◌+◌, ◌-◌, ◌<◌, List, [], ◌∷◌, ◌++◌, Vec, Global, drop, get_or, set, length, map, refl, sym, ap, ◌∙◌, arith}
use Rattle.std.specs.Prelude.{replicate}
use Rattle.std.proofs.Math.Seq.{drop-cons}
use Rattle.std.proofs.lemmas.List.{append_assoc, length_push}
use Rattle.slnf_base.specs.declared.packets.Verdict.{Verdict}
use Rattle.slnf_base.specs.declared.packets.Verdict.TheVariants.{Left}
use Rattle.slnf_flight.specs.declared.lanes.Lane.{Lane}
use Rattle.slnf_ledger.specs.Ledger.{verdicts_at, filled, filled_from}

-- the lists of vectors
abbrev pub lists : List (Vec Verdict Global) → List (List Verdict)
lists vs = map (λ (v : Vec Verdict Global). v.items) vs

-- one lane more without a verdict
pub none_more : (vs : List (Vec Verdict Global)) (v : Vec Verdict Global) (lane : ℕ) → v.items ≡ [] →
    ((k : ℕ) → verdicts_at (lists vs) k ≡ []) → verdicts_at (lists (vs ++ v ∷ [])) lane ≡ []
none_more [] v zero is h = is
none_more [] v (suc lane) is h = refl
none_more (x ∷ vs) v zero is h = h 0
none_more (x ∷ vs) v (suc lane) is h = none_more vs v lane is (λ k. h (suc k))

-- a lane with more verdicts
pub lists-set : (vs : List (Vec Verdict Global)) (lane : ℕ) (v : Vec Verdict Global) →
    lists (set vs lane v) ≡ set (lists vs) lane v.items
lists-set [] lane v = refl
lists-set (x ∷ vs) zero v = refl
lists-set (x ∷ vs) (suc lane) v = ap (λ l. x.items ∷ l) (lists-set vs lane v)

pub lists_at : (vs : List (Vec Verdict Global)) (lane : ℕ) (d : Vec Verdict Global) → lane < length vs →
    verdicts_at (lists vs) lane ≡ (get_or vs lane d).items
lists_at [] lane d l = absurd (omega arith)
lists_at (x ∷ vs) zero d l = refl
lists_at (x ∷ vs) (suc lane) d l = lists_at vs lane d (omega arith)

-- one left packet more
pub fill_step : (verdicts all : List Verdict) (count : ℕ) (more : List Verdict) → length all < count →
    more ≡ all ++ Left ∷ [] → all ++ replicate (count - length all) Left ≡ filled verdicts count →
    more ++ replicate (count - length more) Left ≡ filled verdicts count
fill_step verdicts all count more l is h =
    let n : length more ≡ length all + 1 = ap length is ∙ length_push all Left in
    let k : count - length all ≡ suc (count - length more) = omega arith in
    ap (λ l. l ++ replicate (count - length more) Left) is
    ∙ (append_assoc all (Left ∷ []) (replicate (count - length more) Left)
    ∙ (ap (λ n. all ++ replicate n Left) (sym k) ∙ h))

-- one lane less is left to fill
pub filled_step : (ledger : List (List Verdict)) (lanes : List Lane) (number : ℕ) (there : Lane)
    (rows more : List (List Verdict)) (row : List Verdict) (total : List (List Verdict)) → number < length lanes →
    there ≡ get_or lanes number there → row ≡ filled (verdicts_at ledger number) (length there.packets) →
    more ≡ rows ++ row ∷ [] → rows ++ filled_from ledger number (drop number lanes) ≡ total →
    more ++ filled_from ledger (number + 1) (drop (number + 1) lanes) ≡ total
filled_step ledger lanes number there rows more row total l at is push h =
    let next : suc number ≡ number + 1 = omega arith in
    let front : drop number lanes ≡ there ∷ drop (number + 1) lanes =
    drop-cons lanes number there l ∙ (ap (λ x. x ∷ drop (suc number) lanes) (sym at)
    ∙ ap (λ k. there ∷ drop k lanes) next) in
    ap (λ l. l ++ filled_from ledger (number + 1) (drop (number + 1) lanes)) push
    ∙ (append_assoc rows (row ∷ []) (filled_from ledger (number + 1) (drop (number + 1) lanes))
    ∙ (ap (λ x. rows ++ x ∷ filled_from ledger (number + 1) (drop (number + 1) lanes)) is
    ∙ (ap (λ l. rows ++ filled_from ledger number l) (sym front) ∙ h)))
