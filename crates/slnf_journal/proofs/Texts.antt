-- The line of an entry and its fields: the one is the other, and a reading of it names the first bad field.
use Rattle.std.proofs.Common.{◌≡◌, ◌≢◌, ◌≤◌, ◌<◌, ◌+◌, ◌^◌, ◌==◌, ◌&&◌, ◌⊎◌, ℕ, zero, suc, Bool, true, false, List, [], ◌∷◌, ◌++◌, Result, Ok, Err, All, length, take, nat_lt, codes, decimal, refl, sym, ◌∙◌, ap, subst, append_assoc, arith, inl, inr}
use Rattle.std.proofs.Math.Seq.{take-append_seam}
use Rattle.std.proofs.lemmas.Bool.{and_parts, and_from, ltb-true, lt-ltb, ne_eqb, cases_order, leb-true}
use Rattle.std.proofs.lemmas.Bool.Decides.{nat_tests}
use Rattle.std.proofs.lemmas.Fmt.{digits_decimal}
use Rattle.std.proofs.lemmas.List.{append-nil, take-take, length-append}
use Rattle.std.proofs.lemmas.List.Elements.{All-from_recursion, All-cons, All-append}
use Rattle.std.proofs.lemmas.List.Splits.{slice_split_none, slice_split_at, join_with_byte-slice_split}
use Rattle.std.specs.Char.{is_ascii_digit}
use Rattle.std.specs.List.{AllByRecursion, join_with_byte}
use Rattle.std.specs.Str.{all_ascii_digits}
use Rattle.slnf_access.specs.declared.requests.Entry.{Entry}
use Rattle.slnf_access.specs.declared.requests.Request.{Request}
use Rattle.slnf_access.specs.declared.requests.Request.TheVariants.{Read, PutIfAbsent, ReplaceIf, DeleteIf}
use Rattle.slnf_access.specs.declared.requests.Reply.{Reply}
use Rattle.slnf_access.specs.declared.requests.Reply.TheVariants.{Done, Found, Absent}
use Rattle.slnf_journal.specs.Words.{hex_text}
use Rattle.slnf_journal.specs.Journal.{request_text, reply_text, entry_text}
use Rattle.slnf_journal.specs.Fields.{Fields, ◌>>=◌, parts_at, is_hex_digit, are_hex_digits, parts_in, ending_at, entry_in}
use Rattle.slnf_journal.specs.Ranges.{IsStamp, Fits, FitsRequest, FitsReply, request_fields, reply_fields, entry_fields, IsFirstBad, IsOneLine}
use Rattle.slnf_journal.proofs.Numbers.{own}
use Rattle.slnf_journal.proofs.Hex.{hex_text-digits}
use Rattle.slnf_journal.proofs.Exact.{IsExact, FailsAt, bind_ok, bind_err, ok_is, begins_so}
use Rattle.slnf_journal.proofs.Forms.{exact_parts}

-- ---- a line's fields and its entry

ended : (entry : Entry) (number : ℕ) (left : List (List ℕ)) (e : Entry) →
    ending_at entry number left ≡ Ok e → (left ≡ []) × (entry ≡ e)
ended entry number [] e h = (refl, cc)
ended entry number (field ∷ left) e h = absurd cc

not_ended : (entry : Entry) (number : ℕ) (left : List (List ℕ)) (bad : ℕ) →
    ending_at entry number left ≡ Err bad → (left ≢ []) × (bad ≡ number)
not_ended entry number [] bad h = absurd cc
not_ended entry number (field ∷ left) bad h = (λ none. cons_nil field left none, cc)
  where
    cons_nil : (x : List ℕ) (xs : List (List ℕ)) → x ∷ xs ≡ [] → ⊥
    cons_nil x xs e = cc

abbrev all_of : List (List ℕ) → Fields
all_of left = record { number = 1; left = left }

pub line_ok : (left : List (List ℕ)) (e : Entry) → entry_in (all_of left) ≡ Ok e → Fits e × (left ≡ entry_fields e)
unfolding entry_in
line_ok left e h =
    let o = bind_ok (parts_in (all_of left)) (λ x. ending_at x.0 x.1.number x.1.left) e h in
    let t = exact_parts.takes (all_of left) o.0 o.1 in
    let end = ended o.0.0 o.0.1.number o.0.1.left e o.2 in
    subst (λ x. Fits x × (left ≡ entry_fields x)) end.1
    (t.0, t.1 ∙ ap (λ l. entry_fields o.0.0 ++ l) end.0 ∙ append-nil (entry_fields o.0.0))

parts_again : (e : Entry) (more : List (List ℕ)) → Fits e →
    parts_in (all_of (entry_fields e ++ more)) ≡ Ok (e, record { number = 1 + length (entry_fields e); left = more })
parts_again e more fits = exact_parts.again 1 e more fits

pub line_again : (e : Entry) → Fits e → entry_in (all_of (entry_fields e)) ≡ Ok e
unfolding entry_in
line_again e fits =
    ap (λ l. parts_in (all_of l) >>= (λ x. ending_at x.0 x.1.number x.1.left)) (sym (append-nil (entry_fields e)))
    ∙ ap (λ r. r >>= (λ x. ending_at x.0 x.1.number x.1.left)) (parts_again e [] fits)

-- behind a whole line's fields stands one more, and so it is no beginning of another's
alone : (e f : Entry) (left : List (List ℕ)) → Fits e → Fits f → left ≢ [] → take
    (length (entry_fields e) + 1) (entry_fields f) ≡ take (length (entry_fields e) + 1) (entry_fields e ++ left) → ⊥
alone e f left fe ff some h =
    let cut = begins_so 1 (entry_fields f) (entry_fields e) left h in
    let here = ap (λ l. parts_in (all_of l)) (append-nil (entry_fields f)) in
    let there : parts_in (all_of (entry_fields f)) ≡ Ok (
      e,
      record {
        number = 1 + length (entry_fields e);
        left = cut.0;
      },
    ) = ap (λ l. parts_in (all_of l)) cut.1 ∙ parts_again e cut.0 fe in
    let pair : (f, record { number = 1 + length (entry_fields f); left = [] })
    ≡ (e, record { number = 1 + length (entry_fields e); left = cut.0 }) =
    ok_is _ _ (sym (parts_again f [] ff) ∙ here ∙ there) in
    let none : [] ≡ cut.0 = ap (λ (y : Entry × Fields). y.1.left) pair in
    some (no_first left (ap (λ l. take 1 l) none ∙ cut.2))
  where
    no_first : (xs : List (List ℕ)) → take 1 [] ≡ take 1 xs → xs ≡ []
    no_first [] e = refl
    no_first (x ∷ xs) e = absurd cc

pub line_bad : (left : List (List ℕ)) (bad : ℕ) → entry_in (all_of left) ≡ Err bad → IsFirstBad left bad
unfolding entry_in
line_bad left bad h =
    elim (bind_err (parts_in (all_of left)) (λ x. ending_at x.0 x.1.number x.1.left) bad h) [
      | inl e ↦ within left bad (exact_parts.fails (all_of left) bad e)
      | inr o ↦ behind left bad o.0 o.1 o.2
    ]
  where
    within : (left : List (List ℕ)) (bad : ℕ) → FailsAt Fits entry_fields (all_of left) bad → IsFirstBad left bad
    within left bad f =
        let more : f.before + 1 ≡ suc f.before = omega arith in
        record {
          before = f.before;
          counts = omega (arith, f.place);
          some = (f.one, f.fits, f.same);
          none = λ e fits same. f.none e [] fits (ap (λ l. take (suc f.before) l) (append-nil (entry_fields e))
              ∙ ap (λ n. take n (entry_fields e)) (sym more) ∙ same ∙ ap (λ n. take n left) more);
        }

    behind : (left : List (List ℕ)) (bad : ℕ) (x : Entry × Fields) →
        parts_in (all_of left) ≡ Ok x → ending_at x.0 x.1.number x.1.left ≡ Err bad → IsFirstBad left bad
    behind left bad x e1 e2 =
        let t = exact_parts.takes (all_of left) x e1 in
        let n = not_ended x.0 x.1.number x.1.left bad e2 in
        let len = length (entry_fields x.0) in
        record {
          before = len;
          counts = omega (arith, n.1, t.2);
          some = (x.0, t.0, take_alls (entry_fields x.0) x.1.left ∙ ap (λ l. take len l) (sym t.1));
          none = λ e fits same. alone x.0 e x.1.left t.0 fits n.0 (same ∙ ap (λ l. take (len + 1) l) t.1);
        }
      where
        take_alls : (xs ys : List (List ℕ)) → take (length xs) xs ≡ take (length xs) (xs ++ ys)
        take_alls xs ys = ap (λ l. take (length xs) l) (sym (append-nil xs))
            ∙ take-append_seam xs [] ∙ sym (take-append_seam xs ys)

earlier : (left : List (List ℕ)) (j k : ℕ) (f : IsFirstBad left j) (g : IsFirstBad left k) → f.before < g.before → ⊥
earlier left j k f g less =
    let le : f.before + 1 ≤ g.before = omega arith in
    f.none g.some.0 g.some.1 (sym (take-take (f.before + 1) g.before (entry_fields g.some.0) le)
    ∙ ap (λ l. take (f.before + 1) l) g.some.2 ∙ take-take (f.before + 1) g.before left le)

one_first : (left : List (List ℕ)) (j k : ℕ) → IsFirstBad left j → IsFirstBad left k → j ≡ k
one_first left j k f g =
    elim (cases_order f.before g.before) [
      | inl same ↦ omega (arith, f.counts, g.counts)
      | inr o ↦ elim o [ inl less ↦ absurd (earlier left j k f g less) | inr more ↦ absurd (earlier left k j g f more) ]
    ]

pub line_bad_back : (left : List (List ℕ)) (bad : ℕ) → IsFirstBad left bad → entry_in (all_of left) ≡ Err bad
line_bad_back left bad f = split (entry_in (all_of left)) refl
  where
    split : (r : Result Entry ℕ) → entry_in (all_of left) ≡ r → r ≡ Err bad
    split (Ok e) is = let o = line_ok left e is in absurd (f.none e o.0 (ap (λ l. take (f.before + 1) l) (sym o.1)))
    split (Err j) is = ap Err (one_first left j bad (line_bad left j is) f)

-- ---- bytes that part nothing

-- each byte is above the blank
abbrev pub is_plain : List ℕ → Bool
is_plain [] = true
is_plain (byte ∷ bytes) = nat_lt 32 byte && is_plain bytes

-- the byte isn't among the bytes
abbrev pub Lacks : ℕ → List ℕ → Type 0
Lacks byte bytes = All (λ b. (b == byte) ≡ false) bytes

pub plain_lacks : (byte : ℕ) (bytes : List ℕ) → byte ≤ 32 → is_plain bytes ≡ true → Lacks byte bytes
plain_lacks byte bytes low h = All-from_recursion (λ b. (b == byte) ≡ false) bytes (each bytes h)
  where
    each : (bytes : List ℕ) → is_plain bytes ≡ true → AllByRecursion (λ b. (b == byte) ≡ false) bytes
    each [] h = tt
    each (b ∷ bytes) h =
        let p = and_parts (nat_lt 32 b) (is_plain bytes) h in
        let high : 32 < b = ltb-true _ _ p.0 in
        (ne_eqb b byte (λ e. omega (arith, high, e)), each bytes p.1)

hex_plain : (bytes : List ℕ) → are_hex_digits bytes ≡ true → is_plain bytes ≡ true
hex_plain [] h = refl
hex_plain (b ∷ bytes) h =
    let p = and_parts (is_hex_digit b) (are_hex_digits bytes) h in
    and_from _ _ (lt-ltb _ _ (hex_high b p.0)) (hex_plain bytes p.1)
  where
    hex_high : (b : ℕ) → is_hex_digit b ≡ true → 32 < b
    hex_high b h = grind (arith, nat_tests)

digits_plain : (bytes : List ℕ) → all_ascii_digits bytes ≡ true → is_plain bytes ≡ true
digits_plain [] h = refl
digits_plain (b ∷ bytes) h =
    let p = and_parts (is_ascii_digit b) (all_ascii_digits bytes) h in
    and_from _ _ (lt-ltb _ _ (digit_high b p.0)) (digits_plain bytes p.1)
  where
    digit_high : (b : ℕ) → is_ascii_digit b ≡ true → 32 < b
    digit_high b h = grind (arith, nat_tests)

abbrev pub ArePlain : List (List ℕ) → Type 0
ArePlain fields = AllByRecursion (λ field. is_plain field ≡ true) fields

plain_decimal : (n : ℕ) → n < 2 ^ 64 → is_plain (decimal n) ≡ true
plain_decimal n small = digits_plain (decimal n) (digits_decimal own n small)

plain_stamp : (n : ℕ) → IsStamp n → is_plain (decimal n) ≡ true
plain_stamp n h = plain_decimal n (omega (arith, h.1))

plain_hex : (n : ℕ) → is_plain (hex_text 32 n) ≡ true
plain_hex n = hex_plain (hex_text 32 n) (hex_text-digits 32 n)

reply_plain : (r : Reply) → FitsReply r → ArePlain (reply_fields r)
reply_plain (Done version) h = (refl, (plain_stamp version h, tt))
reply_plain (Found value version) h = (refl, (plain_hex value.0, (plain_stamp version h.1, tt)))
reply_plain Absent h = (refl, tt)

fields_plain : (r : Request) (q : Reply) → FitsRequest r → FitsReply q → ArePlain (request_fields r ++ reply_fields q)
fields_plain (Read key) q h g = (refl, (plain_hex key.0, reply_plain q g))
fields_plain (PutIfAbsent key value) q h g = (refl, (plain_hex key.0, (plain_hex value.0, reply_plain q g)))
fields_plain (ReplaceIf key version value) q h g =
    (refl, (plain_hex key.0, (plain_stamp version h.1, (plain_hex value.0, reply_plain q g))))
fields_plain (DeleteIf key version) q h g = (refl, (plain_hex key.0, (plain_stamp version h.1, reply_plain q g)))

entry_plain : (e : Entry) → Fits e → ArePlain (entry_fields e)
entry_plain e f = (
  plain_stamp e.stamp f.stamp,
  (
    plain_decimal e.shard (omega (arith, f.shard)),
    (
      plain_decimal e.incarnation (omega (arith, f.incarnation)),
      (
        plain_decimal e.item (omega (arith, f.item)),
        fields_plain e.request e.reply f.request f.reply,
      ),
    ),
  ),
)

-- ---- the line of fields

join_split : (field : List ℕ) (fields : List (List ℕ)) →
    ArePlain (field ∷ fields) → parts_at 32 (join_with_byte 32 (field ∷ fields)) ≡ field ∷ fields
join_split field [] p = slice_split_none (λ b. b == 32) field (plain_lacks 32 field (omega arith) p.0)
join_split field (next ∷ fields) p =
    slice_split_at (λ b. b == 32) field 32 (join_with_byte 32 (next ∷ fields)) (plain_lacks 32 field (omega arith) p.0) refl
    ∙ ap (λ l. field ∷ l) (join_split next fields p.1)

join_one_line : (field : List ℕ) (fields : List (List ℕ)) →
    ArePlain (field ∷ fields) → Lacks 10 (join_with_byte 32 (field ∷ fields))
join_one_line field [] p = plain_lacks 10 field (omega arith) p.0
join_one_line field (next ∷ fields) p =
    All-append (λ b. (b == 10) ≡ false) field (32 ∷ join_with_byte 32 (next ∷ fields)) (plain_lacks 10 field (omega arith) p.0)
    (All-cons (λ b. (b == 10) ≡ false) 32 (join_with_byte 32 (next ∷ fields)) refl (join_one_line next fields p.1))

-- an entry's line without its line feed
abbrev pub bare_line : Entry → List ℕ
bare_line e = join_with_byte 32 (entry_fields e)

pub bare_fields : (e : Entry) → Fits e → parts_at 32 (bare_line e) ≡ entry_fields e
bare_fields e f = join_split (decimal e.stamp)
    (decimal e.shard ∷ decimal e.incarnation ∷ decimal e.item ∷ (request_fields e.request ++ reply_fields e.reply))
    (entry_plain e f)

pub bare_one_line : (e : Entry) → Fits e → Lacks 10 (bare_line e)
bare_one_line e f = join_one_line (decimal e.stamp)
    (decimal e.shard ∷ decimal e.incarnation ∷ decimal e.item ∷ (request_fields e.request ++ reply_fields e.reply))
    (entry_plain e f)

-- what is read as an entry is its line
pub line_is : (text : List ℕ) (e : Entry) → parts_at 32 text ≡ entry_fields e → text ≡ bare_line e
line_is text e h = sym (join_with_byte-slice_split 32 text) ∙ ap (λ l. join_with_byte 32 l) h

joined_two : (a b : List ℕ) → a ++ 32 ∷ [] ++ b ≡ a ++ (32 ∷ b)
joined_two a b = append_assoc a (32 ∷ []) b

joined_three : (a b c : List ℕ) → a ++ 32 ∷ [] ++ b ++ 32 ∷ [] ++ c ≡ a ++ (32 ∷ (b ++ (32 ∷ c)))
joined_three a b c = simp append_assoc

request_line : (r : Request) → request_text r ≡ join_with_byte 32 (request_fields r)
unfolding request_text
request_line (Read key) = refl
request_line (PutIfAbsent key value) = ap (λ l. codes "put " ++ l) (joined_two (hex_text 32 key.0) (hex_text 32 value.0))
request_line (ReplaceIf key version value) =
    ap (λ l. codes "replace " ++ l) (joined_three (hex_text 32 key.0) (decimal version) (hex_text 32 value.0))
request_line (DeleteIf key version) = ap (λ l. codes "delete " ++ l) (joined_two (hex_text 32 key.0) (decimal version))

reply_line : (r : Reply) → reply_text r ≡ join_with_byte 32 (reply_fields r)
unfolding reply_text
reply_line (Done version) = refl
reply_line (Found value version) = ap (λ l. codes "found " ++ l) (joined_two (hex_text 32 value.0) (decimal version))
reply_line Absent = refl

join_cons : (field : List ℕ) (fields : List (List ℕ)) →
    0 < length fields → join_with_byte 32 (field ∷ fields) ≡ field ++ (32 ∷ join_with_byte 32 fields)
join_cons field [] some = absurd (omega arith)
join_cons field (next ∷ fields) some = refl

join_both : (xs ys : List (List ℕ)) → 0 < length xs →
    0 < length ys → join_with_byte 32 (xs ++ ys) ≡ join_with_byte 32 xs ++ (32 ∷ join_with_byte 32 ys)
join_both [] ys some more = absurd (omega arith)
join_both (x ∷ []) ys some more = join_cons x ys more
join_both (x ∷ y ∷ xs) ys some more =
    ap (λ l. x ++ (32 ∷ l)) (join_both (y ∷ xs) ys (omega arith) more)
    ∙ sym (append_assoc x (32 ∷ join_with_byte 32 (y ∷ xs)) (32 ∷ join_with_byte 32 ys))

some_request : (r : Request) → 0 < length (request_fields r)
some_request (Read key) = omega arith
some_request (PutIfAbsent key value) = omega arith
some_request (ReplaceIf key version value) = omega arith
some_request (DeleteIf key version) = omega arith

some_reply : (r : Reply) → 0 < length (reply_fields r)
some_reply (Done version) = omega arith
some_reply (Found value version) = omega arith
some_reply Absent = omega arith

pub entry_line : (e : Entry) → entry_text e ≡ bare_line e ++ 10 ∷ []
unfolding entry_text
entry_line e =
    let both = request_fields e.request ++ reply_fields e.reply in
    let some : 0 < length both =
    omega (arith, length-append (request_fields e.request) (reply_fields e.reply), some_request e.request) in
    let words : request_text e.request ++ (32 ∷ reply_text e.reply) ≡ join_with_byte 32 both =
    ap (λ l. l ++ (32 ∷ reply_text e.reply)) (request_line e.request)
    ∙ ap (λ l. join_with_byte 32 (request_fields e.request) ++ (32 ∷ l)) (reply_line e.reply)
    ∙ sym (join_both (request_fields e.request) (reply_fields e.reply) (some_request e.request) (some_reply e.reply)) in
    let last : decimal e.item ++ (32 ∷ join_with_byte 32 both) ≡ join_with_byte 32 (decimal e.item ∷ both) =
    sym (join_cons (decimal e.item) both some) in
    regroup (decimal e.stamp) (decimal e.shard) (decimal e.incarnation)
    (decimal e.item) (request_text e.request) (reply_text e.reply)
    ∙ ap (λ t. (decimal e.stamp ++ (32 ∷ (decimal e.shard
    ++ (32 ∷ (decimal e.incarnation ++ (32 ∷ (decimal e.item ++ (32 ∷ t)))))))) ++ 10 ∷ []) words
    ∙ ap (λ l. (decimal e.stamp ++ (32 ∷ (decimal e.shard ++ (32 ∷ (decimal e.incarnation ++ (32 ∷ l)))))) ++ 10 ∷ []) last
  where
    regroup : (a b c d r q : List ℕ) →
        a ++ 32 ∷ [] ++ b ++ 32 ∷ [] ++ c ++ 32 ∷ [] ++ d ++ 32 ∷ [] ++ r
        ++ 32 ∷ [] ++ q ++ 10 ∷ [] ≡ (a ++ (32 ∷ (b ++ (32 ∷ (c ++ (32 ∷ (d ++ (32 ∷ (r ++ (32 ∷ q)))))))))) ++ 10 ∷ []
    regroup a b c d r q = simp append_assoc
