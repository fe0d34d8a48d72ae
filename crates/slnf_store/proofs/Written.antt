-- Entries that are written as lines and read back.
use Rattle.std.proofs.Common.{◌≡◌, ℕ, List, [], ◌∷◌, ◌++◌, map, refl, sym, ap, ◌∙◌}
use mathlib.Core.List.{map-append}
use Rattle.std.specs.List.{AllByRecursion}
use Rattle.slnf_access.specs.declared.requests.Entry.{Entry}
use Rattle.slnf_access.specs.declared.requests.Request.{Request}
use Rattle.slnf_access.specs.declared.requests.Request.TheVariants.{Read, PutIfAbsent, ReplaceIf, DeleteIf}
use Rattle.slnf_access.specs.declared.requests.Reply.{Reply}
use Rattle.slnf_access.specs.declared.requests.Reply.TheVariants.{Done, Found, Absent}
use Rattle.slnf_access.specs.Map.{key_of}
use Rattle.slnf_turns.specs.declared.views.Line.{Line}
use Rattle.slnf_turns.specs.declared.views.Noted.{Noted}
use Rattle.slnf_turns.specs.Views.{Begins, noted}
use Rattle.slnf_store.specs.Lines.{request_kind, request_version, request_value, reply_kind, reply_number, reply_value, line_of, noted_of, request_from, reply_from, entry_of}
use Rattle.slnf_store.specs.Passes.{entries_of}

request_back : (r : Request) → request_from (request_kind r) (key_of r) (request_version r) (request_value r) ≡ r
request_back (Read key) = refl
request_back (PutIfAbsent key value) = refl
request_back (ReplaceIf key version value) = refl
request_back (DeleteIf key version) = refl

reply_back : (r : Reply) → reply_from (reply_kind r) (reply_number r) (reply_value r) ≡ r
reply_back (Done stamp) = refl
reply_back (Found value version) = refl
reply_back Absent = refl

pub entry_back : (e : Entry) → entry_of (line_of e) ≡ e
entry_back e = λ i. record {
  stamp = e.stamp;
  shard = e.shard;
  incarnation = e.incarnation;
  item = e.item;
  request = request_back e.request i;
  reply = reply_back e.reply i;
}

pub entries_back : (es : List Entry) → map entry_of (map line_of es) ≡ es
entries_back [] = refl
entries_back (e ∷ es) = λ i. entry_back e i ∷ entries_back es i

pub begins_back : (ls : List Line) (es : List Entry) → Begins ls (map line_of es) → Begins (map entry_of ls) es
begins_back ls es b = (map entry_of b.0, sym (entries_back es) ∙ ap (map entry_of) b.1 ∙ map-append entry_of ls b.0)

pub own_append : (xs ys : List Noted) → entries_of (xs ++ ys) ≡ entries_of xs ++ entries_of ys
own_append xs ys = map-append (λ (x : Noted). entry_of x.line) xs ys

pub own_noted : (shard : ℕ) (es : List Entry) → entries_of (noted shard (map line_of es)) ≡ es
own_noted shard [] = refl
own_noted shard (e ∷ es) = λ i. entry_back e i ∷ own_noted shard es i

pub own_more : (xs : List Noted) (shard : ℕ) (es : List Entry)
    → entries_of (xs ++ noted shard (map line_of es)) ≡ entries_of xs ++ es
own_more xs shard es = own_append xs (noted shard (map line_of es))
    ∙ ap (λ (ys : List Entry). entries_of xs ++ ys) (own_noted shard es)

-- entries of one shard, noted there
pub noted_same : (shard : ℕ) (es : List Entry) → AllByRecursion (λ (e : Entry). e.shard ≡ shard) es
    → noted shard (map line_of es) ≡ map noted_of es
noted_same shard [] h = refl
noted_same shard (e ∷ es) h = λ i. record { shard = sym h.0 i; line = line_of e } ∷ noted_same shard es h.1 i

pub lines_append : (xs ys : List Entry) → map line_of (xs ++ ys) ≡ map line_of xs ++ map line_of ys
lines_append xs ys = map-append line_of xs ys
