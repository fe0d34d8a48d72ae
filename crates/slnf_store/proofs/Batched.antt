-- Several accesses of one bucket: what is made so far, and what is still to come.
use Rattle.std.proofs.Common.{◌≡◌, ℕ, zero, suc, ◌+◌, ◌<◌, ◌≤◌, ◌^◌, max, List, [], ◌∷◌, ◌++◌, map, length, take, drop, set, get_or, length-set, refl, sym, ap, ◌∙◌, subst, arith, append_assoc, append-nil}
use Rattle.std.specs.List.{AllByRecursion}
use Rattle.std.proofs.lemmas.List.{drop_more, drop_all, take_all, take_more_set}
use Rattle.slnf_access.specs.declared.requests.Entry.{Entry}
use Rattle.slnf_access.specs.declared.requests.Reply.{Reply}
use Rattle.slnf_access.specs.declared.requests.Ask.{Ask}
use Rattle.slnf_access.specs.declared.requests.Request.TheVariants.{Read}
use Rattle.slnf_bucket.specs.Bucket.{Kept, next_entry, with_entry, last_stamp}
use Rattle.slnf_bucket.proofs.Laws.{last_stamp-push}
use Rattle.slnf_store.specs.Accesses.{entry_after, entries_after}
use Rattle.slnf_store.proofs.Gives.{same_entry}
use Rattle.slnf_store.proofs.Grown.{AreMade}

-- what the code reads where there is no access
abbrev pub any_ask : Ask
any_ask = record { item = 0; request = Read (record { 0 = 0 }) }

abbrev pub reply_in : Entry → Reply
reply_in e = e.reply

-- after i of these accesses: what is made so far and then those still to come is all
pub record SoFar (incarnation clock : ℕ) (old : Kept) (asks : List Ask) (i now spare : ℕ) (kept : Kept)
    (replies : List Reply) : Type 0 where
  pub shard : kept.shard ≡ old.shard
  pub shards : kept.shards ≡ old.shards
  pub last : kept.clock ≡ last_stamp 0 kept.entries
  pub room : length asks ≤ spare + i
  pub stamps : max kept.clock now + length asks < 2 ^ 62 + i
  pub count : length asks ≡ length replies
  pub within : i ≤ length asks
  pub entries : kept.entries ++ entries_after kept.entries old.shard incarnation now (drop i asks)
      ≡ old.entries ++ entries_after old.entries old.shard incarnation clock asks
  pub replied : take i replies ++ map reply_in (entries_after kept.entries old.shard incarnation now (drop i asks))
      ≡ map reply_in (entries_after old.entries old.shard incarnation clock asks)
  pub stamp : last_stamp now (entries_after kept.entries old.shard incarnation now (drop i asks))
      ≡ last_stamp clock (entries_after old.entries old.shard incarnation clock asks)

pub so_far_none : (incarnation clock : ℕ) (old : Kept) (asks : List Ask) (spare : ℕ) (replies : List Reply)
    → old.clock ≡ last_stamp 0 old.entries → max old.clock clock + length asks < 2 ^ 62 → length asks ≤ spare
    → length asks ≡ length replies
    → SoFar incarnation clock old asks 0 clock spare old replies
so_far_none incarnation clock old asks spare replies last stamps room count =
    record {
      shard = refl;
      shards = refl;
      last = last;
      room = omega arith;
      stamps = omega arith;
      count = count;
      within = omega arith;
      entries = refl;
      replied = refl;
      stamp = refl;
    }

-- one access more, whose entry is e
more_with : (incarnation clock : ℕ) (old : Kept) (asks : List Ask) (i now spare spare' : ℕ) (kept : Kept)
    (replies : List Reply) (a : Ask) (r : Reply) → SoFar incarnation clock old asks i now spare kept replies
    → i < length asks → drop i asks ≡ a ∷ drop (i + 1) asks → spare ≤ spare' + 1
    → r ≡ (entry_after kept.entries old.shard incarnation now a.item a.request).reply
    → SoFar incarnation clock old asks (i + 1)
    (max (last_stamp 0 kept.entries) now + 1) spare'
    (with_entry kept (entry_after kept.entries old.shard incarnation now a.item a.request))
    (set replies i r)
more_with incarnation clock old asks i now spare spare' kept replies a r s inside d less is =
    let e = entry_after kept.entries old.shard incarnation now a.item a.request in
    let rest = entries_after (kept.entries ++ e ∷ []) old.shard incarnation (max (last_stamp 0 kept.entries) now + 1)
    (drop (i + 1) asks) in
    let all : kept.entries ++ e ∷ rest ≡ old.entries ++ entries_after old.entries old.shard incarnation clock asks =
    subst (λ (ds : List Ask). kept.entries ++ entries_after kept.entries old.shard incarnation now ds
    ≡ old.entries ++ entries_after old.entries old.shard incarnation clock asks) d s.entries in
    let told : take i replies ++ e.reply ∷ map reply_in rest
    ≡ map reply_in (entries_after old.entries old.shard incarnation clock asks) =
    subst (λ (ds : List Ask). take i replies ++ map reply_in (entries_after kept.entries old.shard incarnation now ds)
    ≡ map reply_in (entries_after old.entries old.shard incarnation clock asks)) d s.replied in
    let grew : take (i + 1) (set replies i r) ≡ take i replies ++ e.reply ∷ [] = take_more_set replies i r
    (let c = s.count in omega arith) ∙ ap (λ (x : Reply). take i replies ++ x ∷ []) is in
    let many : length (set replies i r) ≡ length replies = length-set replies i r in
    record {
      shard = s.shard;
      shards = s.shards;
      last = sym (last_stamp-push 0 kept.entries e);
      room = let room = s.room in omega arith;
      stamps = let last = s.last in let stamps = s.stamps in omega arith;
      count = s.count ∙ sym many;
      within = omega arith;
      entries = append_assoc kept.entries (e ∷ []) rest ∙ all;
      replied = ap (λ (rs : List Reply). rs ++ map reply_in rest) grew
          ∙ append_assoc (take i replies) (e.reply ∷ []) (map reply_in rest) ∙ told;
      stamp = subst (λ (ds : List Ask). last_stamp now (entries_after kept.entries old.shard incarnation now ds)
          ≡ last_stamp clock (entries_after old.entries old.shard incarnation clock asks)) d s.stamp;
    }

pub so_far_more : (incarnation clock : ℕ) (old : Kept) (asks : List Ask) (i now next spare spare' : ℕ)
    (kept kept' : Kept) (replies : List Reply) (a d : Ask) (r : Reply)
    → SoFar incarnation clock old asks i now spare kept replies → i < length asks → a ≡ get_or asks i d
    → kept' ≡ with_entry kept (next_entry kept incarnation a.item now a.request) → next ≡ max kept.clock now + 1
    → spare ≤ spare' + 1 → r ≡ (next_entry kept incarnation a.item now a.request).reply
    → SoFar incarnation clock old asks (i + 1) next spare' kept' (set replies i r)
so_far_more incarnation clock old asks i now next spare spare' kept kept' replies a d r s inside at made stamp less is =
    let same = same_entry kept old.shard incarnation now a.item a.request s.shard s.last in
    let rest : drop i asks ≡ a ∷ drop (i + 1) asks = drop_more asks i d inside
    ∙ ap (λ (x : Ask). x ∷ drop (i + 1) asks) (sym at) in
    let m = more_with incarnation clock old asks i now spare spare' kept replies a r s inside rest less
    (is ∙ ap reply_in same) in
    let clock' : max (last_stamp 0 kept.entries) now + 1
    ≡ next = sym (stamp ∙ ap (λ (n : ℕ). max n now + 1) s.last) in
    let kept'' : with_entry kept (entry_after kept.entries old.shard incarnation now a.item a.request)
    ≡ kept' = sym (made ∙ ap (with_entry kept) same) in
    subst (λ (x : ℕ × Kept). SoFar incarnation clock old asks (i + 1) x.0 spare' x.1 (set replies i r))
    (λ j. (clock' j, kept'' j)) m

-- all of them
abbrev pub Done : ℕ → ℕ → Kept → List Ask → ℕ → Kept → List Reply → Type 0
Done incarnation clock old asks now kept replies =
    (kept.entries ≡ old.entries ++ entries_after old.entries old.shard incarnation clock asks)
    × (replies ≡ map reply_in (entries_after old.entries old.shard incarnation clock asks))
    × (now ≡ last_stamp clock (entries_after old.entries old.shard incarnation clock asks))

pub so_far_all : (incarnation clock : ℕ) (old : Kept) (asks : List Ask) (i now spare : ℕ) (kept : Kept)
    (replies : List Reply) → SoFar incarnation clock old asks i now spare kept replies → length asks ≤ i
    → Done incarnation clock old asks now kept replies
so_far_all incarnation clock old asks i now spare kept replies s all =
    let none : drop i asks ≡ [] = drop_all i asks all in
    let whole : take i replies ≡ replies = take_all i replies (let c = s.count in omega arith) in
    let e = subst (λ (ds : List Ask). kept.entries ++ entries_after kept.entries old.shard incarnation now ds
    ≡ old.entries ++ entries_after old.entries old.shard incarnation clock asks) none s.entries in
    let r = subst (λ (ds : List Ask). take i replies ++ map reply_in
    (entries_after kept.entries old.shard incarnation now ds)
    ≡ map reply_in (entries_after old.entries old.shard incarnation clock asks)) none s.replied in
    let t = subst (λ (ds : List Ask). last_stamp now (entries_after kept.entries old.shard incarnation now ds)
    ≡ last_stamp clock (entries_after old.entries old.shard incarnation clock asks)) none s.stamp in
    (sym (append-nil kept.entries) ∙ e, sym whole ∙ (sym (append-nil (take i replies)) ∙ r), t)

pub all_at : (P : Ask → Type 0) (xs : List Ask) (i : ℕ) (d : Ask) → AllByRecursion P xs → i < length xs
    → P (get_or xs i d)
all_at P [] i d h inside = absurd (omega arith)
all_at P (x ∷ xs) zero d h inside = h.0
all_at P (x ∷ xs) (suc i) d h inside = all_at P xs i d h.1 (omega arith)

-- the entries of these accesses were made in one turn
pub all_made : (shard number : ℕ) (earlier : List Entry) (incarnation clock : ℕ) (asks : List Ask)
    → incarnation + 1 ≡ number
    → AreMade shard number earlier clock (entries_after earlier shard incarnation clock asks)
all_made shard number earlier incarnation clock [] is = tt
all_made shard number earlier incarnation clock (a ∷ asks) is = (
  refl,
  refl,
  is,
  all_made shard number (earlier ++ entry_after earlier shard incarnation clock a.item a.request
      ∷ []) incarnation (max (last_stamp 0 earlier) clock + 1) asks is,
)
