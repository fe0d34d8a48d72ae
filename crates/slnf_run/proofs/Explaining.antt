-- A box that keeps up with each entry explains the list.
use Rattle.std.proofs.Common.{◌≡◌, ℕ, zero, suc, ◌<◌, ◌≤◌, Some, List, [], ◌∷◌, ◌++◌, length, take, drop, slice_get, sym, ◌∙◌, subst, arith}
use Rattle.std.proofs.lemmas.Option.{slice_get_within, same_Some}
use Rattle.slnf_access.specs.declared.requests.Entry.{Entry}
use Rattle.slnf_access.specs.Map.{Cells, empty, map_after}
use Rattle.slnf_run.specs.Scene.{Scene}
use Rattle.slnf_run.specs.Visits.{visits_of}
use Rattle.slnf_run.specs.Boxes.{Box, content_through, content_after, Agrees, IsExplained}
use Rattle.slnf_run.proofs.Splits.{IsSplit, split_at}

-- What holds of what the box keeps at first, and after each entry if it did before, holds after each prefix.
module _ {F A C : Type 0} (s : Scene F A) (box : Box A C) (es : List Entry) (Inv : List Entry → C → Type 0)
    (first : Inv [] box.empty) (step : (before later : List Entry) (e : Entry) (c : C) → es ≡ before ++ e ∷ later →
    Inv before c → Agrees box c (visits_of s es (length before) e)
    × Inv (before ++ e ∷ []) (content_through box c (visits_of s es (length before) e))) where
  pub keeps : (t : ℕ) → t ≤ length es → Inv (take t es) (content_after s box es t)
  keeps zero h = first
  keeps (suc t) h =
      let r : (e : Entry) × IsSplit es t e = split_at es t h in
      let earlier : Inv (take t es) (content_after s box es t) = keeps t (omega arith) in
      let now : Inv (take t es ++ r.0 ∷ []) (content_through box (content_after s box es t)
      (visits_of s es (length (take t es)) r.0)) =
      (step (take t es) (drop (suc t) es) r.0 (content_after s box es t) r.1.whole earlier).1 in
      rw (r.1.front, r.1.at) (subst (λ n. Inv (take t es ++ r.0 ∷ [])
      (content_through box (content_after s box es t) (visits_of s es n r.0))) r.1.size now)

  pub agrees : (t : ℕ) (e : Entry) → slice_get es t ≡ Some e →
      Agrees box (content_after s box es t) (visits_of s es t e)
  agrees t e at =
      let h : t < length es = slice_get_within es t e at in
      let r : (f : Entry) × IsSplit es t f = split_at es t h in
      let same : r.0 ≡ e = same_Some r.0 e (sym r.1.at ∙ at) in
      let now : Agrees box (content_after s box es t) (visits_of s es (length (take t es)) r.0) =
      (step (take t es) (drop (suc t) es) r.0 (content_after s box es t) r.1.whole (keeps t (omega arith))).0 in
      subst (λ f. Agrees box (content_after s box es t) (visits_of s es t f)) same
      (subst (λ n. Agrees box (content_after s box es t) (visits_of s es n r.0)) r.1.size now)

  pub explained : (Same : C → Cells → Type 0) →
      ((before : List Entry) (c : C) → Inv before c → Same c (map_after empty before)) → IsExplained s box Same es
  explained Same same = record {
    verdicts = agrees;
    maps =
        λ t h. same (take t es) (content_after s box es t) (keeps t h);
  }
