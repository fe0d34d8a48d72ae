-- One turn with several accesses: what the bucket did, and what the pass knows of it.
use Rattle.std.proofs.Common.{◌≡◌, ℕ, ◌+◌, ◌-◌, ◌%◌, ◌<◌, ◌^◌, ◌↔◌, max, List, [], ◌∷◌, ◌++◌, map, length, get_or, Result, Ok, Err, OnOk, OnErr, IfOk, IfErr, MatchResult, refl, sym, ap, subst, arith}
use Rattle.slnf_access.specs.declared.requests.Entry.{Entry}
use Rattle.slnf_access.specs.declared.requests.Reply.{Reply}
use Rattle.slnf_access.specs.declared.requests.Ask.{Ask}
use Rattle.slnf_access.specs.Map.{IsLegal, key_of}
use Rattle.slnf_bucket.specs.Bucket.{Kept, last_stamp}
use Rattle.slnf_bucket.specs.declared.errors.BucketError.{BucketError}
use Rattle.slnf_bucket.specs.declared.errors.BucketError.TheVariants.{StampsSpent}
use Rattle.slnf_turns.specs.declared.views.View.{View}
use Rattle.slnf_turns.specs.Views.{AllOf}
use Rattle.slnf_store.specs.Lines.{line_of}
use Rattle.slnf_store.specs.Passes.{PassState}
use Rattle.slnf_store.specs.Accesses.{entry_after, entries_after, IsRefusal, TakesTurn, MakesAccesses, first_shard}
use Rattle.slnf_store.proofs.Batched.{reply_in}
use Rattle.slnf_store.proofs.Gives.{made_with}
use Rattle.slnf_store.proofs.Grown.{makes_entries}

abbrev Count : Type 0
Count = Result ℕ BucketError

pub entries_unchanged : (r : Count) (old new : Kept) (was now : List Reply) → OnErr r ((new ≡ old) × (now ≡ was))
    → OnErr r (new.entries ≡ old.entries)
entries_unchanged (Ok a) old new was now h = tt
entries_unchanged (Err x) old new was now h = ap (λ (k : Kept). k.entries) h.0

-- the entries of these accesses are of the caller's number
pub after_number : (number : ℕ) (earlier : List Entry) (shard incarnation clock : ℕ) (asks : List Ask)
    → incarnation + 1 ≡ number → AllOf number (map line_of (entries_after earlier shard incarnation clock asks))
after_number number earlier shard incarnation clock [] is = tt
after_number number earlier shard incarnation clock (a ∷ asks) is = (
  is,
  after_number number (earlier ++ entry_after earlier shard incarnation clock a.item a.request ∷ []) shard
      incarnation (max (last_stamp 0 earlier) clock + 1) asks is,
)

-- so many accesses, the first of which met this greater clock, have no stamps
abbrev pub SpendsStamps : ℕ → ℕ → BucketError → Type 0
SpendsStamps count greater refusal =
    (last : ℕ) → (refusal ≡ StampsSpent last) ↔ ((last ≡ 2 ^ 62 - 1) × (2 ^ 62 - 1 < greater + count))

refusal_from_sum : (count greater : ℕ) (refusal : BucketError) → greater < 2 ^ 62
    → SpendsStamps count greater refusal → IsRefusal count greater refusal
refusal_from_sum count greater refusal below spent = λ last. (
  (λ same.
      let h = (spent last).0 same in
      let most = h.0 in
      let over = h.1 in
      (h.0, last - greater, omega arith, omega arith)),
  (λ h.
      let most = h.0 in
      let within = h.2 in
      let met = h.3 in
      (spent last).1 (h.0, omega arith)),
)

module _ (shard incarnation clock : ℕ) (asks : List Ask) (v w : View) (was now : List Reply) where
  -- what one turn answers, where the shard had this history
  abbrev AnsweredAll : Count → List Entry → Type 0
  AnsweredAll r earlier = IsLegal earlier × MatchResult r
      (λ (last : ℕ). TakesTurn shard earlier (entries_after earlier shard incarnation clock asks) v w
      × (now ≡ map reply_in (entries_after earlier shard incarnation clock asks))
      × (last ≡ last_stamp clock (entries_after earlier shard incarnation clock asks)) × (last < 2 ^ 62))
      (λ (refusal : BucketError). TakesTurn shard earlier [] v w × (now ≡ was)
      × IsRefusal (length asks) (max (last_stamp 0 earlier) clock) refusal)

  pub answered_all : (kept new : Kept) (r : Count) → IsLegal kept.entries → kept.clock ≡ last_stamp 0 kept.entries
      → TakesTurn shard kept.entries (made_with (entries_after kept.entries shard incarnation clock asks) r) v w
      → OnOk r (now ≡ map reply_in (entries_after kept.entries shard incarnation clock asks))
      → IfOk r (λ (last : ℕ). last ≡ last_stamp clock (entries_after kept.entries shard incarnation clock asks))
      → IfOk r (λ (last : ℕ). last < 2 ^ 62)
      → OnErr r ((new ≡ kept) × (now ≡ was))
      → kept.clock < 2 ^ 62 → clock < 2 ^ 62
      → IfErr r (SpendsStamps (length asks) (max kept.clock clock))
      → AnsweredAll r kept.entries
  answered_all kept new (Ok a) legal c t replies stamp below same near far spent = (legal, (t, replies, stamp, below))
  answered_all kept new (Err x) legal c t replies stamp below same near far spent = (
    legal,
    (
      t,
      same.1,
      refusal_from_sum (length asks) (max (last_stamp 0 kept.entries) clock) x (omega arith)
          (subst (λ (n : ℕ). SpendsStamps (length asks) (max n clock) x) c spent),
    ),
  )

pub makes_accesses : (shard : ℕ) (earlier : List Entry) (old new : PassState) (number : ℕ) (asks : List Ask)
    (replies : List Reply)
    → number ≡ old.known.number
    → TakesTurn shard earlier (entries_after earlier shard (number - 1) old.clock asks) old.known new.known
    → new.table_id ≡ old.table_id
    → new.clock ≡ last_stamp old.clock (entries_after earlier shard (number - 1) old.clock asks)
    → new.clock < 2 ^ 62
    → replies ≡ map reply_in (entries_after earlier shard (number - 1) old.clock asks)
    → MakesAccesses shard earlier old new asks replies
makes_accesses shard earlier old new number asks replies is t table clock below same =
    subst (λ (n : ℕ). TakesTurn shard earlier (entries_after earlier shard (n - 1) old.clock asks) old.known new.known
    → new.clock ≡ last_stamp old.clock (entries_after earlier shard (n - 1) old.clock asks)
    → replies ≡ map reply_in (entries_after earlier shard (n - 1) old.clock asks)
    → MakesAccesses shard earlier old new asks replies)
    (sym is) (λ turn last told. (
      makes_entries shard earlier
          (entries_after earlier shard (old.known.number - 1) old.clock asks) old new turn table last below,
      told,
    )) t clock same

pub first_key : (shards : ℕ) (asks : List Ask) (d : Ask) → 0 < length asks
    → key_of (get_or asks 0 d).request % shards ≡ first_shard shards asks
first_key shards [] d some = absurd (omega arith)
first_key shards (a ∷ asks) d some = refl
