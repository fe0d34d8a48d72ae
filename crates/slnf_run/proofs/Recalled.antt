-- In a list in order a version names one value of its key, so what an item found is what stands there while its
-- version does.
use Rattle.std.proofs.Common.{◌≡◌, List, ◌∷◌, ◌++◌, sym, subst}
use Rattle.slnf_access.specs.declared.requests.Entry.{Entry}
use Rattle.slnf_access.specs.Map.{empty, map_after, IsLegal}
use Rattle.slnf_access.specs.Order.{RisesOnKeys}
use Rattle.slnf_access.proofs.Laws.{legal-front}
use Rattle.slnf_access.proofs.Elements.{each-filter, each-splits}
use Rattle.slnf_access.proofs.Orders.{rises-front}
use Rattle.slnf_access.proofs.Versions.{found_stays}
use Rattle.slnf_run.specs.Scene.{is_of, own_of}
use Rattle.slnf_run.specs.Keeps.{IsRecalled, Recalled}

-- At an entry of a legal list with stamps that rise on each key, what its item found earlier is what the key has,
-- where it has that version still.
pub recalled : (es : List Entry) → RisesOnKeys es → IsLegal es → (before later : List Entry) (e : Entry) →
    es ≡ before ++ e ∷ later → Recalled (map_after empty before) (own_of e.incarnation e.item before) e
recalled es rises legal before later e split =
    let P : Entry → Type 0 = IsRecalled (map_after empty before) in
    each-filter P (is_of e.incarnation e.item) before (each-splits P before at)
  where
    at : (xs ys : List Entry) (f : Entry) → before ≡ xs ++ f ∷ ys → IsRecalled (map_after empty before) f
    at xs ys f w =
        let front : RisesOnKeys before = rises-front before (e ∷ later) (subst RisesOnKeys split rises) in
        let law : IsLegal before = legal-front empty before (e ∷ later) (subst IsLegal split legal) in
        let here : IsRecalled (map_after empty (xs ++ f ∷ ys)) f =
        λ value version held reply cells same.
        found_stays xs ys f value version held (subst RisesOnKeys w front) (subst IsLegal w law) reply cells same in
        subst (λ zs. IsRecalled (map_after empty zs) f) (sym w) here
