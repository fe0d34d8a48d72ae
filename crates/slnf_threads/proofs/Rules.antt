-- The rules of runs on the part of an actor that has worked.
use Rattle.std.proofs.Common.{◌≡◌, inl, inr, ℕ, zero, suc, ◌<◌, ◌≤◌, Bool, true, false, List, [], ◌∷◌, ◌++◌, Option, Some, None, length, slice_get, refl, sym, ap, ◌∙◌, subst, subst₂, append_assoc, append-nil, arith}
use Rattle.std.proofs.lemmas.Bool.{cases_eq, cases_lt}
use Rattle.std.specs.List.{AllByRecursion}
use Rattle.slnf_access.specs.declared.requests.Entry.{Entry}
use Rattle.slnf_access.specs.declared.requests.Ask.{Ask}
use Rattle.slnf_access.specs.Machines.{IsAsked, IsPath}
use Rattle.slnf_run.specs.Setting.{Actor, Setting}
use Rattle.slnf_run.specs.Scene.{stand_of}
use Rattle.slnf_run.specs.Parts.{part_of, of_item, batch_of, is_stopped, Post, posts_of, offers_of, offers_at}
use Rattle.slnf_run.specs.Run.{IsDone, IsOffered, EarlierEnded}
use Rattle.slnf_run.specs.Jobs.{Job, by_rounds, wanted_in, job_of}
use Rattle.slnf_run.proofs.Parting.{part_of-append, part_of-own, part_of-other, part_of-part_of, part_at, earlier_ended-same}
use Rattle.slnf_run.proofs.AddedEntries.{of_item-own, of_item-other, stand_of-own, stand_of-other_item, each_before}
use Rattle.slnf_run.proofs.Stops.{IsWithinStop, within_stop-none, within_stop-more, below_stop}
use Rattle.slnf_run.proofs.Wishes.{IsNextAccess, rounds_keep, wanted_tells, wants_nothing}
use Rattle.slnf_run.proofs.Runs.{own_in_part}
use Rattle.slnf_run.proofs.Offering.{IsOffering}
use Rattle.slnf_run.proofs.OwnParts.{IsOwnRun}
use Rattle.slnf_instance.specs.Instances.{IsAnswer}
use Rattle.slnf_threads.specs.Worked.{IsWorked, HasWorked}

-- The entry is an actor's next access after these of its own.
record IsNextOf {F A : Type 0} (s : Setting F A) (i at : ℕ) (actor : Actor) (own : List Entry) (e : Entry) : Type 0
  where
    pub ask : Ask
    pub next : IsNextAccess s own i at actor ask
    pub item : e.item ≡ ask.item
    pub request : e.request ≡ ask.request

-- all these are of one incarnation
abbrev AreAll : ℕ → List Entry → Type 0
AreAll i es = AllByRecursion (λ e. e.incarnation ≡ i) es

of_part : (i : ℕ) (es : List Entry) → AreAll i (part_of i es)
of_part i [] = tt
of_part i (e ∷ es) = elim (cases_eq e.incarnation i) [
  | inl q ↦ subst (AreAll i) (sym (part_of-own i e es q)) (q, of_part i es)
  | inr n ↦ subst (AreAll i) (sym (part_of-other i e es n)) (of_part i es)
]

pub some_at : {X : Type 0} (xs : List X) (k : ℕ) → k < length xs → (x : X) × (slice_get xs k ≡ Some x)
some_at [] k l = absurd (omega arith)
some_at (x ∷ xs) zero l = (x, refl)
some_at (x ∷ xs) (suc k) l = some_at xs k (omega arith)

worked_at : {F : Type 0} (job : Job F) (own xs rest : List Entry) (e : Entry) → IsWorked job own (xs ++ e ∷ rest) →
    IsAnswer (wanted_in by_rounds job (own ++ xs)) e.reply e
worked_at job own [] rest e h =
    subst (λ l. IsAnswer (wanted_in by_rounds job l) e.reply e) (sym (append-nil own)) h.0
worked_at job own (x ∷ xs) rest e h =
    subst (λ l. IsAnswer (wanted_in by_rounds job l) e.reply e) (append_assoc own (x ∷ []) xs)
    (worked_at job (own ++ x ∷ []) xs rest e h.1)

module _ {F A : Type 0} (s : Setting F A) (i at : ℕ) (actor : Actor) where
  next_is : (own : List Entry) (e : Entry) → part_of i own ≡ own →
      IsAnswer (wanted_in by_rounds (job_of s i at actor) own) e.reply e → IsNextOf s i at actor own e
  next_is own e whole h = go (wanted_in by_rounds (job_of s i at actor) own) refl h
    where
      go : (o : Option Ask) → wanted_in by_rounds (job_of s i at actor) own ≡ o → IsAnswer o e.reply e →
          IsNextOf s i at actor own e
      go None q a = absurd a
      go (Some ask) q a = record {
        ask = ask;
        next = wanted_tells s by_rounds rounds_keep own i at actor ask
            (ap (wanted_in by_rounds (job_of s i at actor)) whole ∙ q);
        item = a.0;
        request = a.1;
      }

  whole_more : (own : List Entry) (e : Entry) → part_of i own ≡ own → e.incarnation ≡ i →
      part_of i (own ++ e ∷ []) ≡ own ++ e ∷ []
  whole_more own e whole mine =
      part_of-append i own (e ∷ [])
      ∙ (ap (λ l. l ++ part_of i (e ∷ [])) whole ∙ ap (λ l. own ++ l) (part_of-own i e [] mine))

  asked : (own : List Entry) (e : Entry) → IsNextOf s i at actor own e →
      IsAsked (s.scene.machine i) (stand_of s.scene i e.item own) e
  asked own e n =
      subst (λ stand. IsAsked (s.scene.machine i) stand e)
      (sym (ap (λ item. stand_of s.scene i item own) n.item ∙ n.next.flies))
      (n.request ∙ n.next.request)

  -- each item goes on by a path
  worked_path : (item : ℕ) (own tail : List Entry) → part_of i own ≡ own → AreAll i tail →
      IsWorked (job_of s i at actor) own tail →
      IsPath (s.scene.machine i) (stand_of s.scene i item own) (of_item item tail)
  worked_path item own [] whole mine h = tt
  worked_path item own (e ∷ tail) whole mine h =
      let rest : IsPath (s.scene.machine i) (stand_of s.scene i item (own ++ e ∷ [])) (of_item item tail) =
      worked_path item (own ++ e ∷ []) tail (whole_more own e whole mine.0) mine.1 h.1 in
      elim (cases_eq e.item item) [
        | inr n ↦
            subst₂ (λ stand es. IsPath (s.scene.machine i) stand es) (stand_of-other_item s i item own e mine.0 n)
            (sym (of_item-other item e tail n)) rest
        | inl k ↦
            subst (λ es. IsPath (s.scene.machine i) (stand_of s.scene i item own) es)
            (sym (of_item-own item e tail k)) (
              subst (λ number. IsAsked (s.scene.machine i) (stand_of s.scene i number own) e) k
                  (asked own e (next_is own e whole h.0)),
              subst (λ stand. IsPath (s.scene.machine i) stand (of_item item tail))
                  (stand_of-own s i item own e mine.0 k) rest,
            )
      ]

  -- each entry is of an item that is offered
  worked_offered : (own tail : List Entry) → part_of i own ≡ own → AreAll i tail →
      IsWorked (job_of s i at actor) own tail →
      AllByRecursion (λ e. IsOffered e.item (offers_of s i at actor)) tail
  worked_offered own [] whole mine h = tt
  worked_offered own (e ∷ tail) whole mine h =
      let n : IsNextOf s i at actor own e = next_is own e whole h.0 in (
        subst (λ item. IsOffered item (offers_of s i at actor)) (sym n.item) n.next.offered,
        worked_offered (own ++ e ∷ []) tail (whole_more own e whole mine.0) mine.1 h.1,
      )

  -- no part passes its stop
  worked_within : (own tail : List Entry) → part_of i own ≡ own → AreAll i tail → IsWithinStop actor own →
      IsWorked (job_of s i at actor) own tail → IsWithinStop actor (own ++ tail)
  worked_within own [] whole mine l h = subst (IsWithinStop actor) (sym (append-nil own)) l
  worked_within own (e ∷ tail) whole mine l h =
      let n : IsNextOf s i at actor own e = next_is own e whole h.0 in
      let runs : is_stopped actor own ≡ false = ap (is_stopped actor) (sym whole) ∙ n.next.running in
      subst (IsWithinStop actor) (append_assoc own (e ∷ []) tail)
      (worked_within (own ++ e ∷ []) tail (whole_more own e whole mine.0) mine.1
      (within_stop-more actor own e (below_stop actor own runs l)) h.1)

  mine_before : (own rest : List Entry) (e : Entry) → AreAll i (own ++ e ∷ rest) → part_of i own ≡ own
  mine_before [] rest e h = refl
  mine_before (x ∷ own) rest e h = part_of-own i x own h.0 ∙ ap (λ l. x ∷ l) (mine_before own rest e h.1)

  -- behind these entries an entry stands only where all offers of earlier batches have ended
  worked_by_batch : (own rest : List Entry) (e : Entry) → AreAll i (own ++ e ∷ rest) →
      IsWorked (job_of s i at actor) [] (own ++ e ∷ rest) →
      EarlierEnded s i own (batch_of e.item (offers_of s i at actor)) (offers_of s i at actor)
  worked_by_batch own rest e mine h =
      let n : IsNextOf s i at actor own e =
      next_is own e (mine_before own rest e mine) (worked_at (job_of s i at actor) [] own rest e h) in
      subst (λ item. EarlierEnded s i own (batch_of item (offers_of s i at actor)) (offers_of s i at actor))
      (sym n.item) n.next.earlier

-- an actor that has worked to its end is done
worked_done : {F A : Type 0} (s : Setting F A) (i : ℕ) (post : Post) (m : List Entry) →
    HasWorked (job_of s i post.at post.actor) (part_of i m) → IsDone s m i post
worked_done s i post m h = go (is_stopped post.actor (part_of i m)) refl
  where
    within : IsWithinStop post.actor (part_of i m)
    within = worked_within s i post.at post.actor [] (part_of i m) refl (of_part i m) (within_stop-none post.actor) h.0

    go : (b : Bool) → is_stopped post.actor (part_of i m) ≡ b → IsDone s m i post
    go true e = inl e
    go false e = elim (wants_nothing s by_rounds m i post.at post.actor h.1) [
      | inl t ↦ absurd (let k : false ≡ true = sym e ∙ t in cc)
      | inr ended ↦ inr (below_stop post.actor (part_of i m) e within, ended)
    ]

module _ {F A : Type 0} (s : Setting F A) (posts : List Post) (m : List Entry)
    (nobody : (i : ℕ) → length posts ≤ i → part_of i m ≡ [])
    (worked : (i : ℕ) (post : Post) → slice_get posts i ≡ Some post →
    IsWorked (job_of s i post.at post.actor) [] (part_of i m)) where
  paths : (i item : ℕ) → IsPath (s.scene.machine i) (s.scene.begins i item) (of_item item (part_of i m))
  paths i item = elim (cases_lt i (length posts)) [
    | inl l ↦
        let p : (post : Post) × (slice_get posts i ≡ Some post) = some_at posts i l in
        worked_path s i (p.0).at (p.0).actor item [] (part_of i m) refl (of_part i m) (worked i p.0 p.1)
    | inr l ↦
        subst (λ es. IsPath (s.scene.machine i) (s.scene.begins i item) (of_item item es)) (sym (nobody i l)) tt
  ]

  offered : (i : ℕ) (post : Post) → slice_get posts i ≡ Some post →
      AllByRecursion (λ e. IsOffered e.item (offers_at s i post)) (part_of i m)
  offered i post at = worked_offered s i post.at post.actor [] (part_of i m) refl (of_part i m) (worked i post at)

  by_batch : (i : ℕ) (post : Post) (own rest : List Entry) (e : Entry) → slice_get posts i ≡ Some post →
      part_of i m ≡ own ++ e ∷ rest →
      EarlierEnded s i own (batch_of e.item (offers_at s i post)) (offers_at s i post)
  by_batch i post own rest e at h =
      worked_by_batch s i post.at post.actor own rest e (subst (AreAll i) h (of_part i m))
      (subst (IsWorked (job_of s i post.at post.actor) []) h (worked i post at))

-- where each actor has worked to its end, the parts keep the rules
pub own_run_of_worked : {F A : Type 0} (s : Setting F A) (posts : List Post) (m : List Entry) →
    ((i : ℕ) → length posts ≤ i → part_of i m ≡ []) →
    ((i : ℕ) (post : Post) → slice_get posts i ≡ Some post →
    HasWorked (job_of s i post.at post.actor) (part_of i m)) → IsOwnRun s posts m
own_run_of_worked s posts m nobody worked =
    let so_far : (i : ℕ) (post : Post) → slice_get posts i ≡ Some post →
    IsWorked (job_of s i post.at post.actor) [] (part_of i m) = λ i post at. (worked i post at).0 in
    record {
      of_actors = nobody;
      paths = paths s posts m nobody so_far;
      done = λ i post at. worked_done s i post m (worked i post at);
      offered = offered s posts m nobody so_far;
      by_batch = by_batch s posts m nobody so_far;
    }

-- where each has worked so far, the entries are of what is offered
pub offering_of_worked : {F A : Type 0} (s : Setting F A) (m : List Entry) →
    ((i : ℕ) → length (posts_of s m) ≤ i → part_of i m ≡ []) →
    ((i : ℕ) (post : Post) → slice_get (posts_of s m) i ≡ Some post →
    IsWorked (job_of s i post.at post.actor) [] (part_of i m)) → IsOffering s m
offering_of_worked s m nobody worked = record {
  of_actors = each_before (length (posts_of s m)) m nobody;
  paths = λ i k. subst (IsPath (s.scene.machine i) (s.scene.begins i k)) (own_in_part i k m)
      (paths s (posts_of s m) m nobody worked i k);
  offered = offered s (posts_of s m) m nobody worked;
  by_batch = λ before later e post h at.
      earlier_ended-same s e.incarnation (part_of e.incarnation before) before
      (batch_of e.item (offers_at s e.incarnation post)) (offers_at s e.incarnation post)
      (part_of-part_of e.incarnation before)
      (by_batch s (posts_of s m) m nobody worked e.incarnation post (part_of e.incarnation before)
      (part_of e.incarnation later) e at
      (part_at before later e m h));
}
