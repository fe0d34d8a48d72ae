-- One turn: what the bucket did, and what the pass knows of it.
use Rattle.std.proofs.Common.{◌≡◌, ℕ, ◌+◌, ◌-◌, ◌<◌, ◌^◌, ◌==◌, ◌↔◌, if◌then◌else◌, max, Bool, true, false, List, [], ◌∷◌, ◌++◌, map, Result, Ok, Err, OnOk, OnErr, IfOk, MatchResult, refl, sym, ap, ◌∙◌, subst, append-nil, arith}
use Rattle.slnf_access.specs.declared.requests.Entry.{Entry}
use Rattle.slnf_access.specs.declared.requests.Request.{Request}
use Rattle.slnf_access.specs.declared.requests.Reply.{Reply}
use Rattle.slnf_access.specs.Map.{IsLegal, CanReply, key_of, reply_to, cell_of}
use Rattle.slnf_bucket.specs.Bucket.{Kept, next_entry, with_entry, last_stamp}
use Rattle.slnf_bucket.specs.declared.errors.BucketError.{BucketError}
use Rattle.slnf_bucket.specs.declared.errors.BucketError.TheVariants.{StampsSpent}
use Rattle.slnf_turns.specs.declared.views.Line.{Line}
use Rattle.slnf_turns.specs.declared.views.View.{View}
use Rattle.slnf_turns.specs.Views.{Begins, seen_of, noted, AllOf}
use Rattle.slnf_turns.specs.Passes.{HasNoTurn, HasTurn, KeepsKin}
use Rattle.slnf_store.specs.Lines.{line_of}
use Rattle.slnf_store.specs.Accesses.{entry_after, IsRefusal, TakesTurn}
use Rattle.slnf_store.proofs.Written.{lines_append}

abbrev Answer : Type 0
Answer = Result (Reply × ℕ) BucketError

module _ {A : Type 0} where
  -- the entries that were made, with this answer
  abbrev pub made_with : List Entry → Result A BucketError → List Entry
  made_with es (Ok a) = es
  made_with es (Err x) = []

  -- the history grew by them
  pub grown_with : (es old new : List Entry) (r : Result A BucketError) → OnOk r (new ≡ old ++ es)
      → OnErr r (new ≡ old) → new ≡ old ++ made_with es r
  grown_with es old new (Ok a) ok err = ok
  grown_with es old new (Err x) ok err = err ∙ sym (append-nil old)

  pub grown_one : (e : Entry) (old new : Kept) (r : Result A BucketError) → OnOk r (new ≡ with_entry old e)
      → OnErr r (new ≡ old) → new.entries ≡ old.entries ++ made_with (e ∷ []) r
  grown_one e old new (Ok a) ok err = ap (λ (k : Kept). k.entries) ok
  grown_one e old new (Err x) ok err = ap (λ (k : Kept). k.entries) err ∙ sym (append-nil old.entries)

  -- they are of the caller's number
  pub number_with : (number : ℕ) (es : List Entry) (r : Result A BucketError) → AllOf number (map line_of es)
      → AllOf number (map line_of (made_with es r))
  number_with number es (Ok a) h = h
  number_with number es (Err x) h = tt

-- what the turns ask of a value that is given back: it grew by lines of the pass's number
pub gives : (held shard : ℕ) (old more new : List Entry) (m : View) → held ≡ shard → new ≡ old ++ more
    → AllOf m.number (map line_of more) → HasTurn m shard (map line_of old)
    → (base lines : List Line) × HasTurn m held base × (map line_of new ≡ base ++ lines) × AllOf m.number lines
gives held shard old more new m same is own turn = (
  map line_of old,
  map line_of more,
  subst (λ (k : ℕ). HasTurn m k (map line_of old)) (sym same) turn,
  ap (map line_of) is ∙ lines_append old more,
  own,
)

seen_pick : (b : Bool) (w m new base was : List Line) → m ≡ (if b then base else was) → w ≡ (if b then new else m)
    → w ≡ (if b then new else was)
seen_pick true w m new base was hm hw = hw
seen_pick false w m new base was hm hw = hw ∙ hm

kin_trans : (u v w : View) → KeepsKin u v → KeepsKin v w → KeepsKin u w
kin_trans u v w a b = (b.0 ∙ a.0, b.1 ∙ a.1, b.2 ∙ a.2, b.3 ∙ a.3)

-- what the pass knows after it took the turn (m) and gave it back (w)
pub turned : (shard held : ℕ) (earlier more after : List Entry) (v m w : View)
    → held ≡ shard
    → after ≡ earlier ++ more
    → Begins (seen_of shard v.seen) (map line_of earlier)
    → ((k : ℕ) → seen_of k m.seen ≡ (if k == shard then map line_of earlier else seen_of k v.seen))
    → HasTurn m shard (map line_of earlier) → m.own ≡ v.own → KeepsKin v m
    → ((base new : List Line) → HasTurn m held base → map line_of after ≡ base ++ new
    → w.own ≡ m.own ++ noted held new)
    → ((k : ℕ) → seen_of k w.seen ≡ (if k == held then map line_of after else seen_of k m.seen))
    → HasNoTurn w → KeepsKin m w
    → TakesTurn shard earlier more v w
turned shard held earlier more after v m w same is grown seen turn own kin own' seen' free kin' =
    let here = subst (λ (k : ℕ). HasTurn m k (map line_of earlier)) (sym same) turn in
    let added =
    own' (map line_of earlier) (map line_of more) here (ap (map line_of) is ∙ lines_append earlier more) in
    record {
      grown = grown;
      seen = λ k.
          let now =
          subst (λ (n : ℕ). seen_of k w.seen ≡ (if k == n then map line_of after else seen_of k m.seen)) same (seen' k) in
          subst (λ (es : List Entry). seen_of k w.seen ≡ (if k == shard then map line_of es else seen_of k v.seen)) is
          (seen_pick (k == shard) (seen_of k w.seen) (seen_of k m.seen) (map line_of after) (map line_of earlier)
          (seen_of k v.seen) (seen k) now);
      own = subst (λ (n : ℕ). w.own ≡ m.own ++ noted n (map line_of more)) same added
          ∙ ap (λ xs. xs ++ noted shard (map line_of more)) own;
      free = free;
      kin = kin_trans v m w kin kin';
    }

-- the bucket's entry, by its history
pub same_entry : (kept : Kept) (shard incarnation clock item : ℕ) (request : Request) → kept.shard ≡ shard
    → kept.clock ≡ last_stamp 0 kept.entries
    → next_entry kept incarnation item clock request ≡ entry_after kept.entries shard incarnation clock item request
same_entry kept shard incarnation clock item request s c = λ i. record {
  stamp = max (c i) clock + 1;
  shard = s i;
  incarnation = incarnation;
  item = item;
  request = request;
  reply = reply_to request (max (c i) clock + 1) (cell_of
      (key_of request) Rattle.std.proofs.Common.None kept.entries);
}

abbrev error_or : BucketError → Answer → BucketError
error_or x (Ok a) = x
error_or x (Err y) = y

module _ (shard incarnation clock item : ℕ) (request : Request) (v w : View) where
  -- what one turn answers, where the shard had this history
  abbrev pub Answered : Answer → List Entry → Type 0
  Answered r earlier = IsLegal earlier × MatchResult r
      (λ (made : Reply × ℕ). TakesTurn shard earlier
      (entry_after earlier shard incarnation clock item request ∷ []) v w
      × (made.0 ≡ (entry_after earlier shard incarnation clock item request).reply)
      × (made.1 ≡ max (last_stamp 0 earlier) clock + 1) × (made.1 < 2 ^ 62) × CanReply request made.0)
      (λ (refusal : BucketError). TakesTurn shard earlier [] v w
      × IsRefusal 1 (max (last_stamp 0 earlier) clock) refusal)

  pub answered : (kept : Kept) (r : Answer) → IsLegal kept.entries → kept.clock ≡ last_stamp 0 kept.entries
      → TakesTurn shard kept.entries (made_with (entry_after kept.entries shard incarnation clock item request ∷ []) r) v w
      → IfOk r (λ (a : Reply × ℕ). a.0 ≡ (entry_after kept.entries shard incarnation clock item request).reply)
      → IfOk r (λ (a : Reply × ℕ). a.1 ≡ max kept.clock clock + 1)
      → IfOk r (λ (a : Reply × ℕ). a.1 < 2 ^ 62)
      → IfOk r (λ (a : Reply × ℕ). CanReply request a.0)
      → ((last : ℕ) → (r ≡ Err (StampsSpent last)) ↔ ((last ≡ max kept.clock clock) × (last ≡ 2 ^ 62 - 1)))
      → Answered r kept.entries
  answered kept (Ok a) legal c t reply stamp below can spent =
      (legal, (t, reply, stamp ∙ ap (λ (n : ℕ). max n clock + 1) c, below, can))
  answered kept (Err x) legal c t reply stamp below can spent = (
    legal,
    (
      t,
      λ last. (
        (λ same.
            let h = (spent last).0 (ap (λ (y : BucketError). Err y) same) in
            let greater : max (last_stamp 0 kept.entries) clock + 0 ≡ last = (let most = h.0 in omega arith) in
            (h.1, 0, omega arith, greater)),
        (λ h.
            let greater : last ≡ max kept.clock clock = (let none = h.2 in let met = h.3 in omega arith) in
            ap (error_or x) ((spent last).1 (greater, h.0))),
      ),
    ),
  )
