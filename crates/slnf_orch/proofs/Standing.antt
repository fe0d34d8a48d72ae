-- The turn of one actor among those of its epoch, and the room that is left after it.
use Rattle.std.proofs.Common.{◌≡◌, inl, inr, ℕ, ◌+◌, ◌<◌, Bool, Option, Some, None, List, [], ◌∷◌, ◌++◌, length, set, length-set, slice_get, append-nil, sym, ap, ◌∙◌, subst, arith, le_of_eq}
use Rattle.std.proofs.lemmas.Bool.{cases_eq}
use Rattle.std.proofs.lemmas.Option.{same_Some, slice_get_within}
use Rattle.slnf_access.specs.declared.requests.Entry.{Entry}
use Rattle.slnf_access.specs.declared.requests.Ask.{Ask}
use Rattle.slnf_run.specs.Setting.{Actor}
use Rattle.slnf_run.specs.Jobs.{by_rounds, wanted_in}
use Rattle.slnf_run.specs.Parts.{part_of}
use Rattle.slnf_run.specs.Scheduled.{entry_after, with_access, turn_of}
use Rattle.slnf_run.proofs.Parting.{part_of-append, part_of-other}
use Rattle.slnf_shards.proofs.Laws.{clock-other}
use Rattle.slnf_instance.specs.Items.{Workload}
use Rattle.slnf_instance.specs.Instances.{Acting, StandsBy}
use Rattle.slnf_orch.specs.Actors.{Stage, AtWork, at_work, epoch_in, way_in, job_at, wanted_at, after_turn, turn_in, IsEnded, HasHistories, IsAt, IsTurn, AreStanding, IsTurnAt, HasRoomAt, HasRoom}
use Rattle.slnf_orch.proofs.Places.{get-set-own, get-set-other, some_at}

-- the part of an incarnation with one entry more of another
part_still : (incarnation : ℕ) (m : List Entry) (e : Entry) → (e.incarnation ≡ incarnation → ⊥) →
    part_of incarnation (m ++ e ∷ []) ≡ part_of incarnation m
part_still incarnation m e apart =
    part_of-append incarnation m (e ∷ [])
    ∙ (ap (λ part. part_of incarnation m ++ part) (part_of-other incarnation e [] apart)
    ∙ append-nil (part_of incarnation m))

-- an actor that wants nothing wants nothing after another's turn
pub ended_still : {F : Type 0} (stage : Stage F) (m : List Entry) (number other : ℕ) → (number ≡ other → ⊥) →
    IsEnded stage m number → IsEnded stage (turn_in stage m other) number
ended_still {F} stage m number other apart h actor at = go (slice_get stage.era.actors other)
  where
    after_access : (o : Option Ask) →
        wanted_at stage (with_access stage.setting (way_in stage) m (stage.base + other) o) number actor ≡ None
    after_access None = h actor at
    after_access (Some ask) =
        let own : ℕ = stage.base + number in
        let e : Entry = entry_after stage.setting (way_in stage) m (stage.base + other) ask in
        let others : e.incarnation ≡ own → ⊥ = λ q. apart (omega arith) in
        ap (wanted_in by_rounds (job_at stage number actor)) (part_still own m e others) ∙ h actor at

    go : (o : Option Actor) →
        wanted_at stage (turn_of stage.setting (way_in stage) stage.base stage.places m other o) number actor ≡ None
    go None = h actor at
    go (Some a) = after_access (wanted_at stage m other a)

module _ {G F : Type 0} (work : G → Workload F) (stage : Stage F) (m : List Entry) where
  -- an actor that stands still stands after another's access of its epoch
  other_still : (number other : ℕ) (actor : Actor) (i : Acting G F) (now : ℕ) (o : Option Ask) →
      epoch_in stage (stage.base + other) ≡ stage.number → (other ≡ number → ⊥) →
      IsAt work stage m number actor i now →
      IsAt work stage (with_access stage.setting (way_in stage) m (stage.base + other) o) number actor i now
  other_still number other actor i now None there apart at = at
  other_still number other actor i now (Some ask) there apart at =
      let own : ℕ = stage.base + number in
      let e : Entry = entry_after stage.setting (way_in stage) m (stage.base + other) ask in
      let others : e.incarnation ≡ own → ⊥ = λ q. apart (omega arith) in
      let same : epoch_in stage own ≡ epoch_in stage (stage.base + other) = at.epoch_is ∙ sym there in
      record {
        epoch_is = at.epoch_is;
        stands = subst (λ part. StandsBy work (job_at stage number actor) part i) (sym (part_still own m e others))
            at.stands;
        clock_is = at.clock_is ∙ sym (clock-other (epoch_in stage) own m e others (le_of_eq same));
      }

  module _ (number base : ℕ) (histories after : List (List Entry)) (instances : List (Acting G F)) (clocks : List ℕ)
      (old new : Acting G F) (now next : ℕ) (made : Bool) where
    -- the actor with this number has had its turn, and all others are as they were
    abbrev before : AtWork G F
    before = at_work base histories instances clocks

    abbrev turned : AtWork G F
    turned = at_work base after (set instances number new) (set clocks number next)

    each_after : (actor : Actor) → slice_get stage.era.actors number ≡ Some actor → AreStanding work stage m before →
        IsAt work stage m number actor old now → IsTurn work stage m number actor after new next made →
        (k : ℕ) (a : Actor) (i : Acting G F) (c : ℕ) → slice_get stage.era.actors k ≡ Some a →
        slice_get (set instances number new) k ≡ Some i → slice_get (set clocks number next) k ≡ Some c →
        IsAt work stage (after_turn stage m number actor) k a i c
    each_after actor there h here one k a i c a_at i_at c_at = elim (cases_eq k number) [
      | inl q ↦
          let i_is : i ≡ new = get-set-own instances number new i
          (subst (λ j. slice_get (set instances number new) j ≡ Some i) q i_at) in
          let c_is : c ≡ next = get-set-own clocks number next c
          (subst (λ j. slice_get (set clocks number next) j ≡ Some c) q c_at) in
          let a_is : actor ≡ a = same_Some actor a
          (sym there ∙ subst (λ j. slice_get stage.era.actors j ≡ Some a) q a_at) in
          subst (λ j. IsAt work stage (after_turn stage m number actor) j a i c) (sym q)
          (subst (λ x. IsAt work stage (after_turn stage m number actor) number a x c) (sym i_is)
          (subst (λ x. IsAt work stage (after_turn stage m number actor) number a new x) (sym c_is)
          (subst (λ x. IsAt work stage (after_turn stage m number actor) number x new next) a_is one.at)))
      | inr apart ↦
          other_still k number a i c (wanted_at stage m number actor) here.epoch_is (λ q. apart (sym q))
          (h.each k a i c a_at (get-set-other instances number k new i apart i_at)
          (get-set-other clocks number k next c apart c_at))
    ]

    -- the turn of one is that of its epoch
    pub turned_at : AreStanding work stage m before → slice_get instances number ≡ Some old →
        slice_get clocks number ≡ Some now →
        ((actor : Actor) → stage.base ≡ base → HasHistories stage m histories →
        IsAt work stage m number actor old now → IsTurn work stage m number actor after new next made) →
        IsTurnAt work stage m number turned made
    turned_at h old_at clock_at turn =
        let inside : number < length instances = slice_get_within instances number old old_at in
        let there = some_at stage.era.actors number (subst (λ n. number < n) h.count inside) in
        let actor : Actor = there.0 in
        let here : IsAt work stage m number actor old now = h.each number actor old now there.1 old_at clock_at in
        let one : IsTurn work stage m number actor after new next made = turn actor h.base_is h.kept here in
        let list : after_turn stage m number actor ≡ turn_in stage m number =
        ap (turn_of stage.setting (way_in stage) stage.base stage.places m number) (sym there.1) in
        record {
          idle = λ not a is.
              subst (λ x. wanted_at stage m number x ≡ None) (same_Some actor a (sym there.1 ∙ is)) (one.idle not);
          stands = subst (λ l. AreStanding work stage l turned) list (record {
            base_is = h.base_is;
            kept = one.kept;
            count = length-set instances number new ∙ h.count;
            clocks_are = length-set clocks number next ∙ h.clocks_are;
            each = each_after actor there.1 h here one;
          });
        }

module _ {G F : Type 0} (work : G → Workload F) where
  -- where room is left for turns, it is for the next one,
  pub room_at : (w : AtWork G F) (number : ℕ) (i : Acting G F) (now : ℕ) → HasRoom work w →
      slice_get w.instances number ≡ Some i → slice_get w.clocks number ≡ Some now →
      HasRoomAt work w.base number w.histories i now
  room_at w number i now r i_at now_at =
      let inside : number < length w.instances = slice_get_within w.instances number i i_at in
      let there = some_at r.stage.era.actors number (subst (λ n. number < n) r.stands.count inside) in
      record {
        stage = r.stage;
        list = r.list;
        actor = there.0;
        base_is = r.stands.base_is;
        kept = r.stands.kept;
        at = r.stands.each number there.0 i now there.1 i_at now_at;
        few = r.few [];
      }

  -- and after it
  pub room_next : (w after : AtWork G F) (number : ℕ) (made : Bool) → HasRoom work w →
      ((stage : Stage F) (m : List Entry) → AreStanding work stage m w → IsTurnAt work stage m number after made) →
      HasRoom work after
  room_next w after number made r turn = record {
    stage = r.stage;
    list = turn_in r.stage r.list number;
    stands = (turn r.stage r.list r.stands).stands;
    few = λ numbers. r.few (number ∷ numbers);
  }
