-- One turn of one actor: its access is the schedule's, and a stamp is left for it.
use Rattle.std.proofs.Common.{◌≡◌, ℕ, ◌+◌, ◌-◌, ◌%◌, ◌≤◌, ◌<◌, ◌^◌, true, false, Option, Some, None, List, [], ◌∷◌, ◌++◌, length, refl, sym, ap, ◌∙◌, subst, arith, le_of_eq, length-append, length-set, get_or}
use Rattle.slnf_access.specs.declared.requests.Entry.{Entry}
use Rattle.slnf_access.specs.declared.requests.Ask.{Ask}
use Rattle.slnf_access.specs.declared.requests.Reply.{Reply}
use Rattle.slnf_access.specs.Map.{key_of}
use Rattle.slnf_run.specs.Setting.{Actor}
use Rattle.slnf_run.specs.Jobs.{Job}
use Rattle.slnf_run.specs.Parts.{part_of}
use Rattle.slnf_run.specs.Scheduled.{entry_after, with_access}
use Rattle.slnf_run.specs.Made.{IsLaid, clock}
use Rattle.slnf_run.proofs.Pairing.{each-push, each-weaker}
use Rattle.slnf_run.proofs.Parting.{part_of-append, part_of-own}
use Rattle.slnf_run.proofs.Ways.{usual_lawful}
use Rattle.slnf_shards.specs.Shards.{entry_on, with_entry_on, latest_on}
use Rattle.slnf_shards.proofs.Laws.{stay_parts, makes_as_scheduled, clock-own}
use Rattle.slnf_instance.specs.Items.{Workload}
use Rattle.slnf_instance.specs.Instances.{Acting, StandsBy, IsAnswer, ask_by}
use Rattle.slnf_orch.specs.Actors.{Stage, epoch_in, way_in, wanted_at, after_turn, job_at, HasHistories, IsAt, IsTurn}

-- the part of an incarnation with one entry more of its own
part_more : (incarnation : ℕ) (m : List Entry) (e : Entry) → e.incarnation ≡ incarnation →
    part_of incarnation (m ++ e ∷ []) ≡ part_of incarnation m ++ e ∷ []
part_more incarnation m e own =
    part_of-append incarnation m (e ∷ [])
    ∙ ap (λ part. part_of incarnation m ++ part) (part_of-own incarnation e [] own)

module _ {F : Type 0} (stage : Stage F) (m : List Entry) (number now : ℕ) (histories : List (List Entry)) (ask : Ask)
  where
    -- the actor's incarnation, and the schedule's entry
    abbrev own : ℕ
    own = stage.base + number

    abbrev next : Entry
    next = entry_after stage.setting (way_in stage) m own ask

    -- the entry that the shards make by the actor's clock is that one
    pub entry_is : HasHistories stage m histories → now ≡ clock (epoch_in stage) m own →
        entry_on histories now own ask.item ask.request ≡ next
    entry_is h time =
        ap (λ n. entry_on histories n own ask.item ask.request) time
        ∙ makes_as_scheduled stage.setting m histories own ask h.parts h.count

    stamp_within : HasHistories stage m histories → next.stamp ≤ length m + 1
    stamp_within h = (usual_lawful stage.setting.eras).within m own next.shard h.within

    -- after few accesses a stamp is left for it
    pub room_left : HasHistories stage m histories → now ≡ clock (epoch_in stage) m own → length m < 2 ^ 41 →
        latest_on histories now ask.request < 2 ^ 62 - 1
    room_left h time few =
        let stamp : latest_on histories now ask.request + 1 ≡ next.stamp =
        ap (λ (e : Entry). e.stamp) (entry_is h time) in
        let within : next.stamp ≤ length m + 1 = stamp_within h in
        omega arith

    -- the histories with it are those of the list with it
    pub histories_more : HasHistories stage m histories → epoch_in stage own ≡ stage.number →
        HasHistories stage (m ++ next ∷ []) (with_entry_on histories next)
    histories_more h here =
        let laid : IsLaid (epoch_in stage) (length histories) m next =
        record {
          above = (usual_lawful stage.setting.eras).above m own next.shard h.within;
          shard = ap (λ n. key_of ask.request % n) (sym h.count);
          reply = refl;
          epochs = each-weaker (λ f. epoch_in stage f.incarnation ≤ stage.number)
              (λ f. epoch_in stage f.incarnation ≤ epoch_in stage own)
              (λ f l. subst (λ n. epoch_in stage f.incarnation ≤ n) (sym here) l) m h.latest;
        } in
        let size : length (m ++ next ∷ []) ≡ length m + 1 = length-append m (next ∷ []) in
        let within : next.stamp ≤ length m + 1 = stamp_within h in
        record {
          count = length-set histories next.shard (get_or histories next.shard [] ++ next ∷ []) ∙ h.count;
          parts = stay_parts (epoch_in stage) m histories next h.parts laid;
          within = each-push (λ e. e.stamp ≤ length (m ++ next ∷ [])) m next
              (each-weaker (λ e. e.stamp ≤ length m) (λ e. e.stamp ≤ length (m ++ next ∷ []))
              (λ e l. let low : e.stamp ≤ length m = l in omega arith) m h.within) (omega arith);
          latest = each-push (λ f. epoch_in stage f.incarnation ≤ stage.number) m next h.latest (le_of_eq here);
        }

-- What the shards answer to an access of an incarnation with this clock: its reply and its stamp.
pub record IsAnswered (histories after : List (List Entry)) (now incarnation : ℕ) (ask : Ask) (reply : Reply)
    (stamp : ℕ) : Type 0 where
  pub made : after ≡ with_entry_on histories (entry_on histories now incarnation ask.item ask.request)
  pub reply_is : reply ≡ (entry_on histories now incarnation ask.item ask.request).reply
  pub stamp_is : stamp ≡ (entry_on histories now incarnation ask.item ask.request).stamp

module _ {G F : Type 0} (work : G → Workload F) (stage : Stage F) (m : List Entry) (number : ℕ) (actor : Actor) where
  -- a turn that makes the access that is wanted
  pub turn_made : (histories after : List (List Entry)) (old new : Acting G F) (now stamp incarnation : ℕ) (ask : Ask)
      (reply : Reply) → HasHistories stage m histories → IsAt work stage m number actor old now →
      ask_by old ≡ Some ask → wanted_at stage m number actor ≡ Some ask → incarnation ≡ stage.base + number →
      IsAnswered histories after now incarnation ask reply stamp →
      ((job : Job F) (own : List Entry) (e : Entry) → StandsBy work job own old → IsAnswer (ask_by old) reply e →
      StandsBy work job (own ++ e ∷ []) new) → IsTurn work stage m number actor after new stamp true
  turn_made histories after old new now stamp incarnation ask reply h at asks wants inc answered stands =
      let own : ℕ = stage.base + number in
      let e : Entry = entry_after stage.setting (way_in stage) m own ask in
      let is : entry_on histories now incarnation ask.item ask.request ≡ e =
      ap (λ i. entry_on histories now i ask.item ask.request) inc
      ∙ entry_is stage m number now histories ask h at.clock_is in
      let list : m ++ e ∷ [] ≡ after_turn stage m number actor =
      ap (with_access stage.setting (way_in stage) m own) (sym wants) in
      let whole : with_entry_on histories e ≡ after = ap (with_entry_on histories) (sym is) ∙ sym answered.made in
      let answer : IsAnswer (ask_by old) reply e =
      subst (λ o. IsAnswer o reply e) (sym asks)
      (refl, refl, sym (answered.reply_is ∙ ap (λ (f : Entry). f.reply) is)) in
      record {
        idle = λ not. absurd (cc);
        kept = subst (λ l. HasHistories stage l after) list
            (subst (HasHistories stage (m ++ e ∷ [])) whole
            (histories_more stage m number now histories ask h at.epoch_is));
        at = subst (λ l. IsAt work stage l number actor new stamp) list (record {
          epoch_is = at.epoch_is;
          stands = subst (λ part. StandsBy work (job_at stage number actor) part new) (sym (part_more own m e refl))
              (stands (job_at stage number actor) (part_of own m) e at.stands answer);
          clock_is = answered.stamp_is
              ∙ (ap (λ (f : Entry). f.stamp) is ∙ sym (clock-own (epoch_in stage) m e));
        });
      }

  -- a turn that makes none
  pub turn_none : (histories : List (List Entry)) (i : Acting G F) (now : ℕ) → HasHistories stage m histories →
      IsAt work stage m number actor i now → wanted_at stage m number actor ≡ None →
      IsTurn work stage m number actor histories i now false
  turn_none histories i now h at wants =
      let list : m ≡ after_turn stage m number actor =
      ap (with_access stage.setting (way_in stage) m (stage.base + number)) (sym wants) in
      record {
        idle = λ _. wants;
        kept = subst (λ l. HasHistories stage l histories) list h;
        at = subst (λ l. IsAt work stage l number actor i now) list at;
      }

-- an option that has nothing
pub none_there : {X : Type 0} (o : Option X) → ((x : X) → o ≡ Some x → ⊥) → o ≡ None
none_there None h = refl
none_there (Some x) h = absurd (h x refl)
