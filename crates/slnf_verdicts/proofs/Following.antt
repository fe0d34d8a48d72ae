-- Where packets stand, as their incarnation's entries are followed one after another.
use Rattle.std.proofs.Common.{◌≡◌, ℕ, suc, zero, ◌+◌, ◌-◌, ◌<◌, ◌≤◌, ◌==◌, Bool, true, false, slice_get, Some, List, [], ◌∷◌, ◌++◌, take, drop, get_or, set, length, map, refl, sym, ap, ◌∙◌, subst, arith}
use Rattle.std.specs.List.{range_with_len}
use Rattle.std.proofs.Math.Seq.{drop-cons}
use Rattle.std.proofs.lemmas.List.{take-append-drop, take_all}
use Rattle.std.proofs.lemmas.List.Elements.{filter-append}
use Rattle.std.proofs.lemmas.List.FromFn.{get_or-map-range_with_len}
use Rattle.std.proofs.lemmas.Option.{same_Some, slice_get-get_or}
use Rattle.slnf_access.specs.declared.requests.Entry.{Entry}
use Rattle.slnf_access.specs.Map.{CanReply}
use Rattle.slnf_access.specs.Machines.{Machine, Stand, Flies, Ends, stand_step, stand_after, IsAsked, IsPath}
use Rattle.slnf_access.proofs.Laws.{stand_after-append, path-front, path-back}
use Rattle.slnf_verdicts.specs.declared.standings.Standing.{Standing}
use Rattle.slnf_run.specs.Jobs.{of_item, counted}
use Rattle.slnf_verdicts.specs.Standings.{flight_at, standing_at, stood, IsFollowed}
use Rattle.slnf_run.specs.Jobs.{verdict_at}
use Rattle.slnf_run.proofs.Lists.{slice_get-append_left}
use Rattle.slnf_run.proofs.AddedEntries.{of_item-own, of_item-other}
use Rattle.slnf_verdicts.proofs.Numbers.{map_same, set_map}
use Rattle.slnf_verdicts.proofs.Partings.{take_next}

-- the entries of an item in two lists, one after the other
pub of_item-append : (item : ℕ) (xs ys : List Entry) → of_item item (xs ++ ys) ≡ of_item item xs ++ of_item item ys
of_item-append item xs ys = filter-append (λ e. e.item == item) xs ys

-- one entry more of a packet's own
own_next : {F : Type 0} (machine : Machine F) (begun : ℕ → Stand F) (es : List Entry) (i : ℕ) (d : Entry) →
    i < length es → stood machine begun (take (i + 1) es) (get_or es i d).item
    ≡ stand_step machine (stood machine begun (take i es) (get_or es i d).item) (get_or es i d)
own_next machine begun es i d l =
    let e : Entry = get_or es i d in
    ap (λ l. stand_after machine (begun e.item) (of_item e.item l)) (take_next es i d l)
    ∙ (ap (stand_after machine (begun e.item))
    (of_item-append e.item (take i es) (e ∷ []) ∙ ap (λ l. of_item e.item (take i es) ++ l)
    (of_item-own e.item e [] refl))
    ∙ stand_after-append machine (begun e.item) (of_item e.item (take i es)) (e ∷ []))

-- and of another's
other_next : {F : Type 0} (machine : Machine F) (begun : ℕ → Stand F) (es : List Entry) (i : ℕ) (d : Entry)
    (item : ℕ) → i < length es → ((get_or es i d).item ≡ item → ⊥) →
    stood machine begun (take i es) item ≡ stood machine begun (take (i + 1) es) item
other_next machine begun es i d item l h =
    let e : Entry = get_or es i d in
    sym (ap (λ l. stand_after machine (begun item) (of_item item l)) (take_next es i d l)
    ∙ (ap (stand_after machine (begun item)) (of_item-append item (take i es) (e ∷ [])
    ∙ ap (λ l. of_item item (take i es) ++ l) (of_item-other item e [] h))
    ∙ stand_after-append machine (begun item) (of_item item (take i es)) []))

asked_at : {F : Type 0} (machine : Machine F) (stand : Stand F) (flight : F) (e : Entry) →
    flight_at stand ≡ Some flight → IsAsked machine stand e → e.request ≡ machine.asks flight
asked_at machine (Flies flies) flight e is asked = asked ∙ ap machine.asks (same_Some flies flight is)
asked_at machine (Ends verdict) flight e is asked = absurd asked

-- the standing at a place
standing_there : {F : Type 0} (machine : Machine F) (begun : ℕ → Stand F) (es : List Entry) (at n item : ℕ)
    (standings : List (Standing F)) (standing : Standing F) → at ≤ item → item - at < n →
    standings ≡ map (λ number. standing_at (stood machine begun es number)) (range_with_len at n) →
    standing ≡ get_or standings (item - at) standing → standing ≡ standing_at (stood machine begun es item)
standing_there machine begun es at n item standings standing l u are is =
    let q : at + (item - at) ≡ item = omega arith in
    is ∙ (ap (λ l. get_or l (item - at) standing) are ∙ get_or-map-range_with_len
    (λ number. standing_at (stood machine begun es number)) at n (item - at) item standing u q)

-- A packet that is under way asks what the next entry of its own asks.
pub can_answer : {F : Type 0} (machine : Machine F) (begun : ℕ → Stand F) (es : List Entry) (i : ℕ) (d : Entry)
    (at n : ℕ) (standings : List (Standing F)) (standing : Standing F) (flight : F) → IsFollowed machine begun es →
    i < length es → at ≤ (get_or es i d).item → (get_or es i d).item - at < n →
    standings ≡ map (λ number. standing_at (stood machine begun (take i es) number)) (range_with_len at n) →
    standing ≡ get_or standings ((get_or es i d).item - at) standing → standing.flight ≡ Some flight →
    CanReply (machine.asks flight) (get_or es i d).reply
can_answer machine begun es i d at n standings standing flight h l from upto are is some =
    let e : Entry = get_or es i d in
    let whole : take i es ++ e ∷ drop (suc i) es ≡ es = ap (λ l. take i es ++ l) (sym (drop-cons es i d l))
    ∙ take-append-drop i es in
    let own : of_item e.item es ≡ of_item e.item (take i es) ++ e ∷ of_item e.item (drop (suc i) es) =
    ap (of_item e.item) (sym whole) ∙ (of_item-append e.item (take i es) (e ∷ drop (suc i) es)
    ∙ ap (λ l. of_item e.item (take i es) ++ l) (of_item-own e.item e (drop (suc i) es) refl)) in
    let path : IsPath machine (stood machine begun (take i es) e.item) (e ∷ of_item e.item (drop (suc i) es)) =
    path-back machine (begun e.item) (of_item e.item (take i es)) (e ∷ of_item e.item (drop (suc i) es))
    (subst (IsPath machine (begun e.item)) own (h.paths e.item)) in
    let flies : flight_at (stood machine begun (take i es) e.item) ≡ Some flight =
    ap (λ (s : Standing _). s.flight) (sym (standing_there machine begun (take i es) at n e.item standings standing
    from upto are is)) ∙ some in
    subst (λ r. CanReply r e.reply) (asked_at machine (stood machine begun (take i es) e.item) flight e flies path.0)
    (h.replies i e (slice_get-get_or es i d l))

-- one entry of a packet that is followed
pub follow_own : {F : Type 0} (machine : Machine F) (begun : ℕ → Stand F) (es : List Entry) (i : ℕ) (d : Entry)
    (at n : ℕ) (standings : List (Standing F)) (standing new : Standing F) → i < length es →
    at ≤ (get_or es i d).item → (get_or es i d).item - at < n →
    standings ≡ map (λ number. standing_at (stood machine begun (take i es) number)) (range_with_len at n) →
    standing ≡ get_or standings ((get_or es i d).item - at) standing →
    ((stand : Stand F) → standing ≡ standing_at stand → new ≡ standing_at
    (stand_step machine stand (get_or es i d))) → set standings ((get_or es i d).item - at) new
    ≡ map (λ number. standing_at (stood machine begun (take (i + 1) es) number)) (range_with_len at n)
follow_own machine begun es i d at n standings standing new l from upto are is goes =
    let e : Entry = get_or es i d in
    let q : at + (e.item - at) ≡ e.item = omega arith in
    let there : standing ≡ standing_at (stood machine begun (take i es) e.item) =
    standing_there machine begun (take i es) at n e.item standings standing from upto are is in
    ap (λ l. set l (e.item - at) new) are
    ∙ set_map (λ number. standing_at (stood machine begun (take i es) number))
    (λ number. standing_at (stood machine begun (take (i + 1) es) number)) at n (e.item - at) new upto
    (goes (stood machine begun (take i es) e.item) there
    ∙ (ap standing_at (sym (own_next machine begun es i d l))
    ∙ ap (λ m. standing_at (stood machine begun (take (i + 1) es) m)) (sym q)))
    (λ m other. ap standing_at (other_next machine begun es i d m l (λ same. other (sym same ∙ sym q))))

-- and of one that isn't
pub follow_other : {F : Type 0} (machine : Machine F) (begun : ℕ → Stand F) (es : List Entry) (i : ℕ) (d : Entry)
    (at n : ℕ) (standings : List (Standing F)) → i < length es →
    ((m : ℕ) → at ≤ m → m < at + n → (get_or es i d).item ≡ m → ⊥) →
    standings ≡ map (λ number. standing_at (stood machine begun (take i es) number)) (range_with_len at n) →
    standings ≡ map (λ number. standing_at (stood machine begun (take (i + 1) es) number)) (range_with_len at n)
follow_other machine begun es i d at n standings l other are =
    are ∙ map_same (λ number. standing_at (stood machine begun (take i es) number))
    (λ number. standing_at (stood machine begun (take (i + 1) es) number)) at n
    (λ m from upto. ap standing_at (other_next machine begun es i d m l (other m from upto)))

-- all entries are followed
pub followed_all : {F : Type 0} (machine : Machine F) (begun : ℕ → Stand F) (es : List Entry) (i at n : ℕ)
    (standings : List (Standing F)) → length es ≤ i → standings
    ≡ map (λ number. standing_at (stood machine begun (take i es) number)) (range_with_len at n) →
    standings ≡ map (λ number. standing_at (stood machine begun es number)) (range_with_len at n)
followed_all machine begun es i at n standings l are =
    are ∙ ap (λ l. map (λ number. standing_at (stood machine begun l number)) (range_with_len at n)) (take_all i es l)

-- and the verdicts are those that were reached
pub verdicts_are : {F : Type 0} (stand : ℕ → Stand F) (at n : ℕ) →
    map (λ (s : Standing F). s.verdict) (map (λ number. standing_at (stand number)) (range_with_len at n))
    ≡ map (λ number. verdict_at (stand number)) (range_with_len at n)
verdicts_are stand at zero = refl
verdicts_are stand at (suc n) = ap (λ l. verdict_at (stand at) ∷ l) (verdicts_are stand (at + 1) n)

-- the front of a list that can be followed can be
followed_take : {F : Type 0} (machine : Machine F) (begun : ℕ → Stand F) (es : List Entry) (n : ℕ) →
    IsFollowed machine begun es → IsFollowed machine begun (take n es)
followed_take machine begun es n h = record {
  paths = λ item.
      path-front machine (begun item) (of_item item (take n es)) (of_item item (drop n es))
      (subst (λ l. IsPath machine (begun item) l) (ap (of_item item) (sym (take-append-drop n es))
      ∙ of_item-append item (take n es) (drop n es)) (h.paths item));
  replies = λ k e at.
      h.replies k e (ap (λ l. slice_get l k) (sym (take-append-drop n es))
      ∙ slice_get-append_left (take n es) (drop n es) k e at);
}

-- and so can the entries that count
pub followed_counted : {F : Type 0} (machine : Machine F) (begun : ℕ → Stand F) (es own : List Entry)
    (stopped : Bool) →
    own ≡ counted stopped es → IsFollowed machine begun es → IsFollowed machine begun own
followed_counted machine begun es own stopped is h =
    subst (IsFollowed machine begun) (sym is) (go stopped)
  where
    go : (b : Bool) → IsFollowed machine begun (counted b es)
    go true = followed_take machine begun es (length es - 1) h
    go false = h
