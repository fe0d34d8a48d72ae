-- The readings of requests, replies and entries are exact.
use Rattle.std.proofs.Common.{◌≡◌, ◌≢◌, ◌≤◌, ◌<◌, ◌+◌, ◌^◌, ◌&&◌, ◌⊎◌, ℕ, suc, Bool, true, false, cond, List, [], ◌∷◌, ◌++◌, Option, Some, None, Result, Ok, Err, length, take, drop, nat_le, nat_lt, codes, decimal, refl, sym, ◌∙◌, ap, subst, arith, inl, inr}
use Rattle.std.proofs.lemmas.Bool.{and_parts, and_from, lt-ltb, ltb-true, leb-true, le-leb}
use Rattle.std.proofs.lemmas.Slice.Eq.{bytes_eq-Decides}
use Rattle.std.specs.Str.{bytes_eq}
use Rattle.slnf_access.specs.declared.requests.Entry.{Entry}
use Rattle.slnf_access.specs.declared.requests.Request.{Request}
use Rattle.slnf_access.specs.declared.requests.Request.TheVariants.{Read, PutIfAbsent, ReplaceIf, DeleteIf}
use Rattle.slnf_access.specs.declared.requests.Reply.{Reply}
use Rattle.slnf_access.specs.declared.requests.Reply.TheVariants.{Done, Found, Absent}
use Rattle.slnf_journal.specs.declared.parts.Verb.{Verb}
use Rattle.slnf_journal.specs.declared.parts.Verb.TheVariants as verb
use Rattle.slnf_journal.specs.declared.parts.Answer.{Answer}
use Rattle.slnf_journal.specs.declared.parts.Answer.TheVariants as answer
use Rattle.slnf_journal.specs.Words.{hex_text}
use Rattle.slnf_journal.specs.Fields.{Fields, ◌>>=◌, field_in, is_decimal, decimal_value, within, number_of, hex_number, verb_of, answer_of, stamp_in, request_of, request_in, reply_of, reply_in, parts_in}
use Rattle.slnf_journal.specs.Ranges.{IsStamp, IsWord, FitsRequest, FitsReply, Fits, request_fields, reply_fields, entry_fields}
use Rattle.slnf_journal.proofs.Numbers.{decimal_is, decimal_again, value_again}
use Rattle.slnf_journal.proofs.Hex.{hex_gives, hex_back}
use Rattle.slnf_journal.proofs.Exact.{IsExact, IsValue, FailsAt, exact_field, exact_done, exact_then, exact_as, exact_spelled}
use Rattle.std.proofs.lemmas.List.{append-nil}

-- ---- numbers

abbrev InRange : ℕ → ℕ → ℕ → Type 0
InRange least end n = (least ≤ n) × (n < end)

within_some : (least end n m : ℕ) → within least end n ≡ Some m → InRange least end n × (n ≡ m)
within_some least end n m h = split (nat_le least n) (nat_lt n end) refl refl h
  where
    split : (a b : Bool) → nat_le least n ≡ a → nat_lt n end ≡ b
        → cond (a && b) (Some n) None ≡ Some m → InRange least end n × (n ≡ m)
    split true true ha hb e = ((leb-true _ _ ha, ltb-true _ _ hb), cc)
    split true false ha hb e = absurd cc
    split false true ha hb e = absurd cc
    split false false ha hb e = absurd cc

within_in : (least end n : ℕ) → InRange least end n → within least end n ≡ Some n
within_in least end n h = ap (λ b. cond b (Some n) None) (and_from _ _ (le-leb _ _ h.0) (lt-ltb _ _ h.1))

number_gives : (least end : ℕ) → end ≤ 2 ^ 62 → (field : List ℕ) (n : ℕ)
    → number_of least end field ≡ Some n → InRange least end n × (field ≡ decimal n)
unfolding number_of
number_gives least end high field n h = split (is_decimal field) refl h
  where
    split : (b : Bool) → is_decimal field ≡ b → cond b (within least end (decimal_value 0 field)) None ≡ Some n
        → InRange least end n × (field ≡ decimal n)
    split false is e = absurd cc
    split true is e =
        let w = within_some least end (decimal_value 0 field) n e in
        let small : decimal_value 0 field < 2 ^ 64 = omega (arith, w.0.1) in
        (subst (λ m. InRange least end m) w.1 w.0, sym (decimal_is field is small) ∙ ap decimal w.1)

number_back : (least end : ℕ) → end ≤ 2 ^ 62 → (n : ℕ) → InRange least end n → number_of least end (decimal n) ≡ Some n
unfolding number_of
number_back least end high n h =
    let small : n < 2 ^ 64 = omega (arith, h.1) in
    ap (λ b. cond b (within least end (decimal_value 0 (decimal n))) None) (decimal_again n small)
    ∙ ap (λ m. within least end m) (value_again n small)
    ∙ within_in least end n h

exact_number : (least end : ℕ) → least < end → end ≤ 2 ^ 62
    → IsExact (InRange least end) (λ n. decimal n ∷ []) (field_in (number_of least end))
exact_number least end some high =
    exact_field (InRange least end) decimal (number_of least end)
    (record { gives = number_gives least end high; back = number_back least end high; some = (least, (omega arith, some)) })

pub exact_stamp : IsExact IsStamp (λ n. decimal n ∷ []) stamp_in
exact_stamp = exact_number 1 (2 ^ 62) (omega arith) (omega arith)

pub exact_below : (end : ℕ) → 0 < end → end ≤ 2 ^ 62 → IsExact (λ n. n < end) (λ n. decimal n ∷ []) (field_in (number_of 0 end))
exact_below end some high =
    exact_as (InRange 0 end) (λ n. n < end) (λ n. decimal n ∷ []) (field_in (number_of 0 end))
    (λ n p. p.1) (λ n p. (omega arith, p)) (exact_number 0 end some high)

pub exact_hex : IsExact IsWord (λ n. hex_text 32 n ∷ []) (field_in hex_number)
exact_hex = exact_field IsWord (hex_text 32) hex_number (record { gives = hex_gives; back = hex_back; some = (0, omega arith) })

-- ---- words

abbrev verb_text : Verb → List ℕ
verb_text verb.Read = codes "read"
verb_text verb.Put = codes "put"
verb_text verb.Replace = codes "replace"
verb_text verb.Delete = codes "delete"

abbrev answer_text : Answer → List ℕ
answer_text answer.Done = codes "done"
answer_text answer.Found = codes "found"
answer_text answer.Absent = codes "absent"

-- the first word that a field is, of a choice
chosen : {A : Type 0} (field word : List ℕ) (a : A) (other : Option A) (b : A)
    → cond (bytes_eq field word) (Some a) other ≡ Some b → ((field ≡ word) × (b ≡ a)) ⊎ (other ≡ Some b)
chosen {A} field word a other b h = split (bytes_eq field word) refl h
  where
    split : (t : Bool) → bytes_eq field word ≡ t → cond t (Some a) other ≡ Some b → ((field ≡ word) × (b ≡ a)) ⊎ (other ≡ Some b)
    split true is e = inl ((bytes_eq-Decides field word).0 is, cc)
    split false is e = inr e

verb_gives : (field : List ℕ) (v : Verb) → verb_of field ≡ Some v → Unit {0} × (field ≡ verb_text v)
unfolding verb_of
verb_gives field v h =
    elim (chosen field (codes "read") verb.Read _ v h) [
      | inl p ↦ (tt, p.0 ∙ ap verb_text (sym p.1))
      | inr h ↦ elim (chosen field (codes "put") verb.Put _ v h) [
        | inl p ↦ (tt, p.0 ∙ ap verb_text (sym p.1))
        | inr h ↦ elim (chosen field (codes "replace") verb.Replace _ v h) [
          | inl p ↦ (tt, p.0 ∙ ap verb_text (sym p.1))
          | inr h ↦ elim (chosen field (codes "delete") verb.Delete _ v h) [
            | inl p ↦ (tt, p.0 ∙ ap verb_text (sym p.1))
            | inr h ↦ absurd (none_is v h)
          ]
        ]
      ]
    ]
  where
    none_is : (v : Verb) → None ≡ Some v → ⊥
    none_is v e = cc

verb_back : (v : Verb) → Unit {0} → verb_of (verb_text v) ≡ Some v
unfolding verb_of
verb_back verb.Read t = refl
verb_back verb.Put t = refl
verb_back verb.Replace t = refl
verb_back verb.Delete t = refl

answer_gives : (field : List ℕ) (v : Answer) → answer_of field ≡ Some v → Unit {0} × (field ≡ answer_text v)
unfolding answer_of
answer_gives field v h =
    elim (chosen field (codes "done") answer.Done _ v h) [
      | inl p ↦ (tt, p.0 ∙ ap answer_text (sym p.1))
      | inr h ↦ elim (chosen field (codes "found") answer.Found _ v h) [
        | inl p ↦ (tt, p.0 ∙ ap answer_text (sym p.1))
        | inr h ↦ elim (chosen field (codes "absent") answer.Absent _ v h) [
          | inl p ↦ (tt, p.0 ∙ ap answer_text (sym p.1))
          | inr h ↦ absurd (none_is v h)
        ]
      ]
    ]
  where
    none_is : (v : Answer) → None ≡ Some v → ⊥
    none_is v e = cc

answer_back : (v : Answer) → Unit {0} → answer_of (answer_text v) ≡ Some v
unfolding answer_of
answer_back answer.Done t = refl
answer_back answer.Found t = refl
answer_back answer.Absent t = refl

abbrev Any : {A : Type 0} → A → Type 0
Any a = Unit {0}

exact_verb : IsExact Any (λ v. verb_text v ∷ []) (field_in verb_of)
exact_verb = exact_field Any verb_text verb_of (record { gives = verb_gives; back = verb_back; some = (verb.Read, tt) })

exact_answer : IsExact Any (λ v. answer_text v ∷ []) (field_in answer_of)
exact_answer = exact_field Any answer_text answer_of
    (record { gives = answer_gives; back = answer_back; some = (answer.Absent, tt) })

-- ---- requests

abbrev verb_in : Request → Verb
verb_in (Read key) = verb.Read
verb_in (PutIfAbsent key value) = verb.Put
verb_in (ReplaceIf key version value) = verb.Replace
verb_in (DeleteIf key version) = verb.Delete

-- the fields behind the first word
abbrev arguments : Request → List (List ℕ)
arguments request = drop 1 (request_fields request)

abbrev HasVerb : Verb → Request → Type 0
HasVerb v request = (verb_in request ≡ v) × FitsRequest request

abbrev a_read : ℕ → Request
a_read key = Read (record { 0 = key })

abbrev a_put : ℕ → ℕ → Request
a_put key value = PutIfAbsent (record { 0 = key }) (record { 0 = value })

abbrev a_replace : ℕ → ℕ → ℕ → Request
a_replace key version value = ReplaceIf (record { 0 = key }) version (record { 0 = value })

abbrev a_delete : ℕ → ℕ → Request
a_delete key version = DeleteIf (record { 0 = key }) version

abbrev IsRead : ℕ → Request → Type 0
IsRead key r = r ≡ a_read key

exact_read : IsExact (HasVerb verb.Read) arguments (request_of verb.Read)
unfolding request_of
exact_read =
    exact_as (λ r. (key : ℕ) × IsWord key × IsRead key r)
    (HasVerb verb.Read) arguments (λ fields. field_in hex_number fields >>= (λ key. Ok (a_read key.0, key.1)))
    (λ r p. subst (HasVerb verb.Read) (sym p.2) (refl, p.1)) back
    (exact_then IsWord (λ n. hex_text 32 n ∷ []) (field_in hex_number) IsRead
    (λ key r. []) (λ key fields. Ok (a_read key, fields)) arguments
    exact_hex (λ key p. exact_done (a_read key)) (λ key r p e. ap arguments e))
  where
    back : (r : Request) → HasVerb verb.Read r → (key : ℕ) × IsWord key × IsRead key r
    back (Read key) h = (key.0, h.1, refl)
    back (PutIfAbsent key value) h = absurd (let wrong = h.0 in let no : ⊥ = cc in no)
    back (ReplaceIf key version value) h = absurd (let wrong = h.0 in let no : ⊥ = cc in no)
    back (DeleteIf key version) h = absurd (let wrong = h.0 in let no : ⊥ = cc in no)

abbrev IsPut : ℕ → ℕ → Request → Type 0
IsPut key value r = r ≡ a_put key value

abbrev IsPutOf : ℕ → Request → Type 0
IsPutOf key r = (value : ℕ) × IsWord value × IsPut key value r

exact_put : IsExact (HasVerb verb.Put) arguments (request_of verb.Put)
unfolding request_of
exact_put =
    exact_as (λ r. (key : ℕ) × IsWord key × IsPutOf key r)
    (HasVerb verb.Put) arguments (λ fields. field_in hex_number fields >>= (λ key. rest key.0 key.1))
    (λ r p. subst (HasVerb verb.Put) (sym p.2.2) (refl, (p.1, p.2.1))) back
    (exact_then IsWord (λ n. hex_text 32 n ∷ []) (field_in hex_number) IsPutOf (λ key r. drop 1 (arguments r)) rest arguments
    exact_hex
    (λ key p. exact_then IsWord (λ n. hex_text 32 n ∷ []) (field_in hex_number)
    (IsPut key) (λ value r. []) (λ value fields. Ok (a_put key value, fields)) (λ r. drop 1 (arguments r))
    exact_hex (λ value q. exact_done (a_put key value)) (λ value r q e. ap (λ x. drop 1 (arguments x)) e))
    (λ key r p q. subst (λ x. arguments x ≡ hex_text 32 key ∷ drop 1 (arguments x)) (sym q.2) refl))
  where
    rest : ℕ → Fields → Result (Request × Fields) ℕ
    rest key fields = field_in hex_number fields >>= (λ value. Ok (a_put key value.0, value.1))

    back : (r : Request) → HasVerb verb.Put r → (key : ℕ) × IsWord key × IsPutOf key r
    back (PutIfAbsent key value) h = (key.0, h.1.0, (value.0, h.1.1, refl))
    back (Read key) h = absurd (let wrong = h.0 in let no : ⊥ = cc in no)
    back (ReplaceIf key version value) h = absurd (let wrong = h.0 in let no : ⊥ = cc in no)
    back (DeleteIf key version) h = absurd (let wrong = h.0 in let no : ⊥ = cc in no)

abbrev IsDelete : ℕ → ℕ → Request → Type 0
IsDelete key version r = r ≡ a_delete key version

abbrev IsDeleteOf : ℕ → Request → Type 0
IsDeleteOf key r = (version : ℕ) × IsStamp version × IsDelete key version r

exact_delete : IsExact (HasVerb verb.Delete) arguments (request_of verb.Delete)
unfolding request_of
exact_delete =
    exact_as (λ r. (key : ℕ) × IsWord key × IsDeleteOf key r)
    (HasVerb verb.Delete) arguments (λ fields. field_in hex_number fields >>= (λ key. rest key.0 key.1))
    (λ r p. subst (HasVerb verb.Delete) (sym p.2.2) (refl, (p.1, p.2.1))) back
    (exact_then IsWord (λ n. hex_text 32 n ∷ []) (field_in hex_number) IsDeleteOf (λ key r. drop 1 (arguments r)) rest arguments
    exact_hex
    (λ key p. exact_then IsStamp (λ n. decimal n ∷ []) stamp_in
    (IsDelete key) (λ version r. []) (λ version fields. Ok (a_delete key version, fields)) (λ r. drop 1 (arguments r))
    exact_stamp (λ version q. exact_done (a_delete key version)) (λ version r q e. ap (λ x. drop 1 (arguments x)) e))
    (λ key r p q. subst (λ x. arguments x ≡ hex_text 32 key ∷ drop 1 (arguments x)) (sym q.2) refl))
  where
    rest : ℕ → Fields → Result (Request × Fields) ℕ
    rest key fields = stamp_in fields >>= (λ version. Ok (a_delete key version.0, version.1))

    back : (r : Request) → HasVerb verb.Delete r → (key : ℕ) × IsWord key × IsDeleteOf key r
    back (DeleteIf key version) h = (key.0, h.1.0, (version, h.1.1, refl))
    back (Read key) h = absurd (let wrong = h.0 in let no : ⊥ = cc in no)
    back (PutIfAbsent key value) h = absurd (let wrong = h.0 in let no : ⊥ = cc in no)
    back (ReplaceIf key version value) h = absurd (let wrong = h.0 in let no : ⊥ = cc in no)

abbrev IsReplace : ℕ → ℕ → ℕ → Request → Type 0
IsReplace key version value r = r ≡ a_replace key version value

abbrev IsReplaceAt : ℕ → ℕ → Request → Type 0
IsReplaceAt key version r = (value : ℕ) × IsWord value × IsReplace key version value r

abbrev IsReplaceOf : ℕ → Request → Type 0
IsReplaceOf key r = (version : ℕ) × IsStamp version × IsReplaceAt key version r

exact_replace : IsExact (HasVerb verb.Replace) arguments (request_of verb.Replace)
unfolding request_of
exact_replace =
    exact_as (λ r. (key : ℕ) × IsWord key × IsReplaceOf key r)
    (HasVerb verb.Replace) arguments (λ fields. field_in hex_number fields >>= (λ key. rest key.0 key.1))
    (λ r p. subst (HasVerb verb.Replace) (sym p.2.2.2) (refl, (p.1, p.2.1, p.2.2.1))) back
    (exact_then IsWord (λ n. hex_text 32 n ∷ []) (field_in hex_number) IsReplaceOf (λ key r. drop 1 (arguments r)) rest arguments
    exact_hex
    (λ key p. exact_then IsStamp (λ n. decimal n ∷ []) stamp_in
    (IsReplaceAt key) (λ version r. drop 2 (arguments r)) (last key) (λ r. drop 1 (arguments r))
    exact_stamp
    (λ version q. exact_then IsWord (λ n. hex_text 32 n ∷ []) (field_in hex_number) (IsReplace key version)
    (λ value r. []) (λ value fields. Ok (a_replace key version value, fields)) (λ r. drop 2 (arguments r))
    exact_hex (λ value u. exact_done (a_replace key version value)) (λ value r u e. ap (λ x. drop 2 (arguments x)) e))
    (λ version r q u. subst (λ x. drop 1 (arguments x) ≡ decimal version ∷ drop 2 (arguments x)) (sym u.2) refl))
    (λ key r p q. subst (λ x. arguments x ≡ hex_text 32 key ∷ drop 1 (arguments x)) (sym q.2.2) refl))
  where
    last : ℕ → ℕ → Fields → Result (Request × Fields) ℕ
    last key version fields = field_in hex_number fields >>= (λ value. Ok (a_replace key version value.0, value.1))

    rest : ℕ → Fields → Result (Request × Fields) ℕ
    rest key fields = stamp_in fields >>= (λ version. last key version.0 version.1)

    back : (r : Request) → HasVerb verb.Replace r → (key : ℕ) × IsWord key × IsReplaceOf key r
    back (ReplaceIf key version value) h = (key.0, h.1.0, (version, h.1.1, (value.0, h.1.2, refl)))
    back (Read key) h = absurd (let wrong = h.0 in let no : ⊥ = cc in no)
    back (PutIfAbsent key value) h = absurd (let wrong = h.0 in let no : ⊥ = cc in no)
    back (DeleteIf key version) h = absurd (let wrong = h.0 in let no : ⊥ = cc in no)

exact_request_of : (v : Verb) → IsExact (HasVerb v) arguments (request_of v)
exact_request_of verb.Read = exact_read
exact_request_of verb.Put = exact_put
exact_request_of verb.Replace = exact_replace
exact_request_of verb.Delete = exact_delete

verb_first : (v : Verb) (r : Request) → Unit {0} → HasVerb v r → request_fields r ≡ verb_text v ∷ arguments r
verb_first v r t h = first r ∙ ap (λ u. verb_text u ∷ arguments r) h.0
  where
    first : (r : Request) → request_fields r ≡ verb_text (verb_in r) ∷ arguments r
    first (Read key) = refl
    first (PutIfAbsent key value) = refl
    first (ReplaceIf key version value) = refl
    first (DeleteIf key version) = refl

pub exact_request : IsExact FitsRequest request_fields request_in
unfolding request_in
exact_request =
    exact_as (λ r. (v : Verb) × Unit {0} × HasVerb v r) FitsRequest request_fields
    (λ fields. field_in verb_of fields >>= (λ word. request_of word.0 word.1))
    (λ r p. p.2.1) (λ r p. (verb_in r, tt, (refl, p)))
    (exact_then Any (λ v. verb_text v ∷ []) (field_in verb_of) HasVerb
    (λ v r. arguments r) request_of request_fields exact_verb (λ v t. exact_request_of v) verb_first)

-- ---- replies

abbrev answer_in : Reply → Answer
answer_in (Done version) = answer.Done
answer_in (Found value version) = answer.Found
answer_in Absent = answer.Absent

abbrev results : Reply → List (List ℕ)
results reply = drop 1 (reply_fields reply)

abbrev HasAnswer : Answer → Reply → Type 0
HasAnswer v reply = (answer_in reply ≡ v) × FitsReply reply

abbrev IsDone : ℕ → Reply → Type 0
IsDone version r = r ≡ Done version

exact_done_reply : IsExact (HasAnswer answer.Done) results (reply_of answer.Done)
unfolding reply_of
exact_done_reply =
    exact_as (λ r. (version : ℕ) × IsStamp version × IsDone version r)
    (HasAnswer answer.Done) results (λ fields. stamp_in fields >>= (λ version. Ok (Done version.0, version.1)))
    (λ r p. subst (HasAnswer answer.Done) (sym p.2) (refl, p.1)) back
    (exact_then IsStamp (λ n. decimal n ∷ []) stamp_in IsDone
    (λ version r. []) (λ version fields. Ok (Done version, fields)) results
    exact_stamp (λ version p. exact_done (Done version)) (λ version r p e. ap results e))
  where
    back : (r : Reply) → HasAnswer answer.Done r → (version : ℕ) × IsStamp version × IsDone version r
    back (Done version) h = (version, h.1, refl)
    back (Found value version) h = absurd (let wrong = h.0 in let no : ⊥ = cc in no)
    back Absent h = absurd (let wrong = h.0 in let no : ⊥ = cc in no)

abbrev a_found : ℕ → ℕ → Reply
a_found value version = Found (record { 0 = value }) version

abbrev IsFound : ℕ → ℕ → Reply → Type 0
IsFound value version r = r ≡ a_found value version

abbrev IsFoundOf : ℕ → Reply → Type 0
IsFoundOf value r = (version : ℕ) × IsStamp version × IsFound value version r

exact_found : IsExact (HasAnswer answer.Found) results (reply_of answer.Found)
unfolding reply_of
exact_found =
    exact_as (λ r. (value : ℕ) × IsWord value × IsFoundOf value r)
    (HasAnswer answer.Found) results (λ fields. field_in hex_number fields >>= (λ value. rest value.0 value.1))
    (λ r p. subst (HasAnswer answer.Found) (sym p.2.2) (refl, (p.1, p.2.1))) back
    (exact_then IsWord (λ n. hex_text 32 n ∷ []) (field_in hex_number) IsFoundOf (λ value r. drop 1 (results r)) rest results
    exact_hex
    (λ value p. exact_then IsStamp (λ n. decimal n ∷ []) stamp_in
    (IsFound value) (λ version r. []) (λ version fields. Ok (a_found value version, fields)) (λ r. drop 1 (results r))
    exact_stamp (λ version q. exact_done (a_found value version)) (λ version r q e. ap (λ x. drop 1 (results x)) e))
    (λ value r p q. subst (λ x. results x ≡ hex_text 32 value ∷ drop 1 (results x)) (sym q.2) refl))
  where
    rest : ℕ → Fields → Result (Reply × Fields) ℕ
    rest value fields = stamp_in fields >>= (λ version. Ok (a_found value version.0, version.1))

    back : (r : Reply) → HasAnswer answer.Found r → (value : ℕ) × IsWord value × IsFoundOf value r
    back (Found value version) h = (value.0, h.1.0, (version, h.1.1, refl))
    back (Done version) h = absurd (let wrong = h.0 in let no : ⊥ = cc in no)
    back Absent h = absurd (let wrong = h.0 in let no : ⊥ = cc in no)

abbrev absent : Reply
absent = Absent

exact_absent : IsExact (HasAnswer answer.Absent) results (reply_of answer.Absent)
unfolding reply_of
exact_absent = named (exact_done absent)
  where
    back : (r : Reply) → HasAnswer answer.Absent r → r ≡ absent
    back Absent h = refl
    back (Done version) h = absurd (let wrong = h.0 in let no : ⊥ = cc in no)
    back (Found value version) h = absurd (let wrong = h.0 in let no : ⊥ = cc in no)

    named : IsExact (λ r. r ≡ absent) (λ r. []) (λ fields. Ok (absent, fields))
        → IsExact (HasAnswer answer.Absent) results (λ fields. Ok (absent, fields))
    named e = exact_spelled (λ r. r ≡ absent) (HasAnswer answer.Absent) (λ r. []) results (λ fields. Ok (absent, fields))
        (λ r p. subst (HasAnswer answer.Absent) (sym p) (refl, tt)) back (λ r p. ap results p) e

exact_reply_of : (v : Answer) → IsExact (HasAnswer v) results (reply_of v)
exact_reply_of answer.Done = exact_done_reply
exact_reply_of answer.Found = exact_found
exact_reply_of answer.Absent = exact_absent

answer_first : (v : Answer) (r : Reply) → Unit {0} → HasAnswer v r → reply_fields r ≡ answer_text v ∷ results r
answer_first v r t h = first r ∙ ap (λ u. answer_text u ∷ results r) h.0
  where
    first : (r : Reply) → reply_fields r ≡ answer_text (answer_in r) ∷ results r
    first (Done version) = refl
    first (Found value version) = refl
    first Absent = refl

pub exact_reply : IsExact FitsReply reply_fields reply_in
unfolding reply_in
exact_reply =
    exact_as (λ r. (v : Answer) × Unit {0} × HasAnswer v r) FitsReply reply_fields
    (λ fields. field_in answer_of fields >>= (λ word. reply_of word.0 word.1))
    (λ r p. p.2.1) (λ r p. (answer_in r, tt, (refl, p)))
    (exact_then Any (λ v. answer_text v ∷ []) (field_in answer_of) HasAnswer
    (λ v r. results r) reply_of reply_fields exact_answer (λ v t. exact_reply_of v) answer_first)

-- ---- entries

abbrev made : ℕ → ℕ → ℕ → ℕ → Request → Reply → Entry
made stamp shard incarnation item request reply = record {
  stamp = stamp;
  shard = shard;
  incarnation = incarnation;
  item = item;
  request = request;
  reply = reply;
}

abbrev IsWhole : ℕ → ℕ → ℕ → ℕ → Request → Reply → Entry → Type 0
IsWhole stamp shard incarnation item request reply e = e ≡ made stamp shard incarnation item request reply

abbrev IsFromReply : ℕ → ℕ → ℕ → ℕ → Request → Entry → Type 0
IsFromReply stamp shard incarnation item request e =
    (reply : Reply) × FitsReply reply × IsWhole stamp shard incarnation item request reply e

abbrev IsFromRequest : ℕ → ℕ → ℕ → ℕ → Entry → Type 0
IsFromRequest stamp shard incarnation item e =
    (request : Request) × FitsRequest request × IsFromReply stamp shard incarnation item request e

abbrev IsFromItem : ℕ → ℕ → ℕ → Entry → Type 0
IsFromItem stamp shard incarnation e = (item : ℕ) × (item < 2 ^ 32) × IsFromRequest stamp shard incarnation item e

abbrev IsFromIncarnation : ℕ → ℕ → Entry → Type 0
IsFromIncarnation stamp shard e = (incarnation : ℕ) × (incarnation < 2 ^ 32) × IsFromItem stamp shard incarnation e

abbrev IsFromShard : ℕ → Entry → Type 0
IsFromShard stamp e = (shard : ℕ) × (shard < 64) × IsFromIncarnation stamp shard e

abbrev after_request : Entry → List (List ℕ)
after_request e = reply_fields e.reply

abbrev after_item : Entry → List (List ℕ)
after_item e = request_fields e.request ++ after_request e

abbrev after_incarnation : Entry → List (List ℕ)
after_incarnation e = decimal e.item ∷ after_item e

abbrev after_shard : Entry → List (List ℕ)
after_shard e = decimal e.incarnation ∷ after_incarnation e

abbrev after_stamp : Entry → List (List ℕ)
after_stamp e = decimal e.shard ∷ after_shard e

abbrev read_from_reply : ℕ → ℕ → ℕ → ℕ → Request → Fields → Result (Entry × Fields) ℕ
read_from_reply stamp shard incarnation item request fields =
    reply_in fields >>= (λ reply. Ok (made stamp shard incarnation item request reply.0, reply.1))

abbrev read_from_request : ℕ → ℕ → ℕ → ℕ → Fields → Result (Entry × Fields) ℕ
read_from_request stamp shard incarnation item fields =
    request_in fields >>= (λ request. read_from_reply stamp shard incarnation item request.0 request.1)

abbrev read_from_item : ℕ → ℕ → ℕ → Fields → Result (Entry × Fields) ℕ
read_from_item stamp shard incarnation fields =
    field_in (number_of 0 (2 ^ 32)) fields >>= (λ item. read_from_request stamp shard incarnation item.0 item.1)

abbrev read_from_incarnation : ℕ → ℕ → Fields → Result (Entry × Fields) ℕ
read_from_incarnation stamp shard fields =
    field_in (number_of 0 (2 ^ 32)) fields >>= (λ incarnation. read_from_item stamp shard incarnation.0 incarnation.1)

abbrev read_from_shard : ℕ → Fields → Result (Entry × Fields) ℕ
read_from_shard stamp fields = field_in (number_of 0 64) fields >>= (λ shard. read_from_incarnation stamp shard.0 shard.1)

exact_from_reply : (stamp shard incarnation item : ℕ) (request : Request)
    → IsExact (IsFromReply stamp shard incarnation item request) after_request
    (read_from_reply stamp shard incarnation item request)
exact_from_reply stamp shard incarnation item request =
    exact_then FitsReply reply_fields reply_in (IsWhole stamp shard incarnation item request)
    (λ reply e. []) (λ reply fields. Ok (made stamp shard incarnation item request reply, fields)) after_request
    exact_reply (λ reply p. exact_done (made stamp shard incarnation item request reply))
    (λ reply e p h. ap after_request h ∙ sym (append-nil (reply_fields reply)))

exact_from_request : (stamp shard incarnation item : ℕ)
    → IsExact (IsFromRequest stamp shard incarnation item) after_item (read_from_request stamp shard incarnation item)
exact_from_request stamp shard incarnation item =
    exact_then FitsRequest request_fields request_in (IsFromReply stamp shard incarnation item)
    (λ request e. after_request e) (read_from_reply stamp shard incarnation item) after_item
    exact_request (λ request p. exact_from_reply stamp shard incarnation item request)
    (λ request e p h. ap (λ x. request_fields x ++ after_request e) (ap (λ (x : Entry). x.request) h.2))

abbrev Below : ℕ → ℕ → Type 0
Below end n = n < end

exact_from_item : (stamp shard incarnation : ℕ)
    → IsExact (IsFromItem stamp shard incarnation) after_incarnation (read_from_item stamp shard incarnation)
exact_from_item stamp shard incarnation =
    exact_then (Below (2 ^ 32)) (λ n. decimal n ∷ [])
    (field_in (number_of 0 (2 ^ 32))) (IsFromRequest stamp shard incarnation)
    (λ item e. after_item e) (read_from_request stamp shard incarnation) after_incarnation
    (exact_below (2 ^ 32) (omega arith) (omega arith)) (λ item p. exact_from_request stamp shard incarnation item)
    (λ item e p h. ap (λ x. decimal x ∷ after_item e) (ap (λ (x : Entry). x.item) h.2.2))

exact_from_incarnation : (stamp shard : ℕ)
    → IsExact (IsFromIncarnation stamp shard) after_shard (read_from_incarnation stamp shard)
exact_from_incarnation stamp shard =
    exact_then (Below (2 ^ 32)) (λ n. decimal n ∷ []) (field_in (number_of 0 (2 ^ 32))) (IsFromItem stamp shard)
    (λ incarnation e. after_incarnation e) (read_from_item stamp shard) after_shard
    (exact_below (2 ^ 32) (omega arith) (omega arith)) (λ incarnation p. exact_from_item stamp shard incarnation)
    (λ incarnation e p h. ap (λ x. decimal x ∷ after_incarnation e) (ap (λ (x : Entry). x.incarnation) h.2.2.2))

exact_from_shard : (stamp : ℕ) → IsExact (IsFromShard stamp) after_stamp (read_from_shard stamp)
exact_from_shard stamp =
    exact_then (Below 64) (λ n. decimal n ∷ []) (field_in (number_of 0 64))
    (IsFromIncarnation stamp) (λ shard e. after_shard e) (read_from_incarnation stamp) after_stamp
    (exact_below 64 (omega arith) (omega arith)) (λ shard p. exact_from_incarnation stamp shard)
    (λ shard e p h. ap (λ x. decimal x ∷ after_shard e) (ap (λ (x : Entry). x.shard) h.2.2.2.2))

fits_as : (e : Entry) → (stamp : ℕ) × IsStamp stamp × IsFromShard stamp e → Fits e
fits_as e p =
    subst Fits (sym p.2.2.2.2.2.2)
    (record { stamp = p.1; shard = p.2.1; incarnation = p.2.2.1; item = p.2.2.2.1; request = p.2.2.2.2.1; reply = p.2.2.2.2.2.1 })

as_fits : (e : Entry) → Fits e → (stamp : ℕ) × IsStamp stamp × IsFromShard stamp e
as_fits e f = (
  e.stamp,
  f.stamp,
  (
    e.shard,
    f.shard,
    (e.incarnation, f.incarnation, (e.item, f.item, (e.request, f.request, (e.reply, f.reply, refl)))),
  ),
)

pub exact_parts : IsExact Fits entry_fields parts_in
unfolding parts_in
exact_parts =
    exact_as (λ e. (stamp : ℕ) × IsStamp stamp × IsFromShard stamp e) Fits entry_fields
    (λ fields. stamp_in fields >>= (λ stamp. read_from_shard stamp.0 stamp.1))
    fits_as as_fits
    (exact_then IsStamp (λ n. decimal n ∷ []) stamp_in IsFromShard (λ stamp e. after_stamp e) read_from_shard entry_fields
    exact_stamp (λ stamp p. exact_from_shard stamp)
    (λ stamp e p h. ap (λ x. decimal x ∷ after_stamp e) (ap (λ (x : Entry). x.stamp) h.2.2.2.2.2)))
