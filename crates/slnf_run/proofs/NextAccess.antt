-- An entry of a legal list of paths is the next access of its item.
use Rattle.std.proofs.Common.{◌≡◌, ℕ, Option, None, cond, List, [], ◌∷◌, ◌++◌, refl, ap, ◌∙◌, subst, append_assoc, append-nil}
use mathlib.Core.Path.{fun_ext}
use Rattle.std.proofs.lemmas.List.Elements.{filter-append}
use Rattle.slnf_base.specs.declared.packets.Verdict.{Verdict}
use Rattle.slnf_access.specs.declared.requests.Entry.{Entry}
use Rattle.slnf_access.specs.Map.{key_of, reply_to, empty, map_after, IsLegal}
use Rattle.slnf_access.specs.Machines.{Machine, Stand, Flies, Ends, stand_after, IsAsked, IsPath}
use Rattle.slnf_access.proofs.Laws.{cell_of-append, legal-back, path-front, path-back}
use Rattle.slnf_run.specs.Scene.{Scene, is_of, own_of}
use Rattle.slnf_run.specs.Keeps.{HasPaths, IsNext}
use Rattle.slnf_run.proofs.DecidedOnce.{is_of-itself}

-- equal stands have equal flights
pub same_flight : {F : Type 0} (f g : F) → ◌≡◌ {A = Stand F} (Flies f) (Flies g) → f ≡ g
same_flight f g h = cc

-- an item that has ended stays so
pub stand_after-ended : {F : Type 0} (m : Machine F) (v : Option Verdict) (es : List Entry) →
    stand_after m (Ends v) es ≡ Ends v
stand_after-ended m v [] = refl
stand_after-ended m v (e ∷ es) = stand_after-ended m v es

-- an item's entries, split at one of them
pub own_split : (before later : List Entry) (e : Entry) → own_of e.incarnation e.item (before ++ e ∷ later)
    ≡ own_of e.incarnation e.item before ++ e ∷ own_of e.incarnation e.item later
own_split before later e =
    filter-append (is_of e.incarnation e.item) before (e ∷ later)
    ∙ ap (λ b. own_of e.incarnation e.item before
    ++ cond b (e ∷ own_of e.incarnation e.item later) (own_of e.incarnation e.item later)) (is_of-itself e)

-- the map after one more entry
pub map_after-push : (es : List Entry) (e : Entry) → map_after empty (es ++ e ∷ [])
    ≡ map_after (map_after empty es) (e ∷ [])
map_after-push es e = fun_ext (λ key. cell_of-append key None es (e ∷ []))

-- an entry of a legal list of paths is the next of its item
pub is_next : {F A : Type 0} (s : Scene F A) (es : List Entry) → IsLegal es → HasPaths s es →
    (before later : List Entry) (e : Entry) → es ≡ before ++ e ∷ later → (first : F) × (flight : F)
    × IsNext s (map_after empty before) (own_of e.incarnation e.item before) e first flight
is_next {F = F} s es legal paths before later e split =
    go (s.begins i k) refl (stand_after m (s.begins i k) own) refl
    (path-back m (s.begins i k) own (e ∷ own_of i k later) path).0
  where
    i : ℕ
    i = e.incarnation

    k : ℕ
    k = e.item

    m : Machine F
    m = s.machine i

    own : List Entry
    own = own_of i k before

    path : IsPath m (s.begins i k) (own ++ e ∷ own_of i k later)
    path = subst (IsPath m (s.begins i k)) (ap (own_of i k) split ∙ own_split before later e) (paths i k)

    front : IsPath m (s.begins i k) own
    front = path-front m (s.begins i k) own (e ∷ own_of i k later) path

    replied : e.reply ≡ reply_to e.request e.stamp (map_after empty before (key_of e.request))
    replied = (legal-back empty before (e ∷ later) (subst IsLegal split legal)).0

    go : (first : Stand F) → s.begins i k ≡ first → (now : Stand F) → stand_after m (s.begins i k) own ≡ now →
        IsAsked m now e → (first : F) × (flight : F) × IsNext s (map_after empty before) own e first flight
    go (Flies first) b (Flies flight) w asked = (
      first,
      flight,
      record {
        begins = b;
        path = subst (λ st. IsPath m st own) b front;
        stands = subst (λ st. stand_after m st own ≡ Flies flight) b w;
        asked = asked;
        replied = replied;
      },
    )
    go (Ends v) b (Flies flight) w asked = absurd (cc (stand_after-ended m v own))
    go first b (Ends v) w asked = absurd asked

-- What holds of the flight with which an item begins, and from one of its entries to the next while it flies, holds
-- of the flight that it is.
pub flight_induction : {F : Type 0} (m : Machine F) (P : List Entry → F → Type 0) (first : F) → P [] first →
    ((own : List Entry) (f : F) (e : Entry) (g : F) → P own f → e.request ≡ m.asks f → m.goes f e.reply ≡ Flies g →
    P (own ++ e ∷ []) g) → (own : List Entry) (flight : F) → IsPath m (Flies first) own →
    stand_after m (Flies first) own ≡ Flies flight → P own flight
flight_induction {F = F} m P first begins step own flight path stands = go [] own first begins path stands
  where
    go : (before own : List Entry) (f : F) → P before f → IsPath m (Flies f) own → stand_after m (Flies f) own
        ≡ Flies flight → P (before ++ own) flight
    go before [] f p path stands = rw append-nil (subst (P before) (same_flight f flight stands) p)
    go before (e ∷ es) f p path stands = on (m.goes f e.reply) refl path.1 stands
        (λ g q way later. go (before ++ e ∷ []) es g q way later)
      where
        on : (st : Stand F) → m.goes f e.reply ≡ st → IsPath m st es → stand_after m st es ≡ Flies flight →
            ((g : F) → P (before ++ e ∷ []) g → IsPath m (Flies g) es → stand_after m (Flies g) es ≡ Flies flight →
            P (before ++ e ∷ [] ++ es) flight) → P (before ++ e ∷ es) flight
        on (Flies g) w way later next = rw (← append_assoc before (e ∷ []) es)
            (next g (step before f e g p path.0 w) way later)
        on (Ends v) w way later next = cc (stand_after-ended m v es)
