-- At each entry of a run its item flies, and asks what the entry asks.
use Rattle.std.proofs.Common.{◌≡◌, ℕ, suc, Some, List, ◌∷◌, ◌++◌, drop, take, slice_get, sym, ap, ◌∙◌, subst}
use Rattle.std.proofs.lemmas.Option.{slice_get_within, same_Some}
use Rattle.slnf_access.specs.declared.requests.Entry.{Entry}
use Rattle.slnf_access.specs.declared.requests.Request.TheVariants.{Read}
use Rattle.slnf_access.specs.declared.requests.Reply.TheVariants.{Done}
use Rattle.slnf_access.specs.Map.{empty, key_of, map_after, CanReply}
use Rattle.slnf_access.specs.Machines.{Flies, stand_after}
use Rattle.slnf_access.proofs.Laws.{can_reply_to}
use Rattle.slnf_run.specs.Keeps.{IsNext}
use Rattle.slnf_run.specs.Scene.{Scene, own_of, stand_of}
use Rattle.slnf_run.specs.Setting.{Setting}
use Rattle.slnf_run.specs.Run.{IsRun}
use Rattle.slnf_run.proofs.NextAccess.{is_next}
use Rattle.slnf_run.proofs.Runs.{paths_of_run}
use Rattle.slnf_run.proofs.Splits.{IsSplit, split_at}

-- The entry with the number n is the next access of its item, which began as `first` and flies as `flight`.
pub record IsAtEntry {F A : Type 0} (s : Scene F A) (j : List Entry) (n : ℕ) (e : Entry) : Type 0 where
  pub first : F
  pub flight : F
  pub begins : s.begins e.incarnation e.item ≡ Flies first
  pub stands : stand_of s e.incarnation e.item (take n j) ≡ Flies flight
  pub asked : e.request ≡ (s.machine e.incarnation).asks flight
  pub can : CanReply e.request e.reply

pub at_entry : {F A : Type 0} (s : Setting F A) (j : List Entry) → IsRun s j → (n : ℕ) (e : Entry) →
    slice_get j n ≡ Some e → IsAtEntry s.scene j n e
at_entry {F = F} s j run n e at =
    let r : (f : Entry) × IsSplit j n f = split_at j n (slice_get_within j n e at) in
    let same : r.0 ≡ e = same_Some r.0 e (sym r.1.at ∙ at) in
    let whole : j ≡ take n j ++ e ∷ drop (suc n) j =
    r.1.whole ∙ ap (λ f. take n j ++ f ∷ drop (suc n) j) same in
    let next : (first : F) × (flight : F) × IsNext s.scene (map_after empty (take n j))
    (own_of e.incarnation e.item (take n j)) e first flight =
    is_next s.scene j run.legal (paths_of_run s j run) (take n j) (drop (suc n) j) e whole in
    record {
      first = next.0;
      flight = next.1;
      begins = next.2.begins;
      stands = ap (λ st. stand_after (s.scene.machine e.incarnation) st (own_of e.incarnation e.item (take n j)))
          next.2.begins ∙ next.2.stands;
      asked = next.2.asked;
      can = subst (CanReply e.request) (sym next.2.replied)
          (can_reply_to e.request e.stamp (map_after empty (take n j) (key_of e.request)));
    }

-- the entry that the code reads where there is none
abbrev pub any_entry : Entry
any_entry = record {
  stamp = 0;
  shard = 0;
  incarnation = 0;
  item = 0;
  request = Read (record { 0 = 0 });
  reply = Done 0;
}
