-- What a reader gave, by the steps that it took.
use Rattle.std.proofs.Common.{◌≡◌, ℕ, zero, suc, ◌+◌, ◌<◌, ◌≤◌, Bool, true, false, ◌&&◌, cond, ltb, leb, nat_lt, nat_le, ℤ, pos, negsuc, List, [], ◌∷◌, ◌++◌, length, map, Option, Some, None, Result, Ok, Err, refl, ap, ◌∙◌, subst, arith}
use Rattle.std.specs.Prelude.{IfOk, decimal}
use Rattle.std.proofs.lemmas.Bool.{and_parts, ltb-false, ltb-true, leb-true, lt-ltb, le-leb}
use Rattle.std.specs.Str.{bytes_eq}
use Rattle.std.specs.List.{list_all}
use Rattle.std.proofs.lemmas.List.{length-append}
use Rattle.toml.specs.Data.{Data, Items, no_items, item, Members, get_member, as_array, as_integer, as_str}
use Rattle.slnf_plan.specs.declared.count.Count.{Count}
use Rattle.slnf_plan.specs.declared.refusal.Cause.{Cause}
use Rattle.slnf_plan.specs.declared.refusal.Cause.TheVariants.{OutOfRange}
use Rattle.slnf_plan.specs.declared.refusal.Refusal.{Refusal}
use Rattle.slnf_plan.specs.declared.refusal.Fault.{Fault}
use Rattle.slnf_plan.specs.Refusals.{◌>>=◌, refuse, under, Gives}
use Rattle.slnf_plan.specs.Tables.{of_kind, taken, text, meaning_in, one_of, ranged, number, there, demanded, or_else, defaulted, if_there, optional, item_count, is_over, if_empty, counted, counted_items, elements, list_after, as_members, checked, known, table}

-- the step before gave a value
pub bind_ok : {A B : Type 0} (r : Result A Refusal) (f : A → Result B Refusal) (y : B)
    → (r >>= f) ≡ Ok y → (x : A) × (r ≡ Ok x) × (f x ≡ Ok y)
bind_ok (Ok x) f y e = (x, refl, e)
bind_ok (Err r) f y e = absurd cc

pub under_ok : {A : Type 0} (step : List ℕ) (r : Result A Refusal) (x : A) → under step r ≡ Ok x → r ≡ Ok x
under_ok step (Ok y) x e = e
under_ok step (Err r) x e = absurd cc

pub kind_ok : {X A : Type 0} (o : Option X) (rule : X → Result A Refusal) (y : A)
    → of_kind o rule ≡ Ok y → (x : X) × (o ≡ Some x) × (rule x ≡ Ok y)
kind_ok None rule y e = absurd cc
kind_ok (Some x) rule y e = (x, refl, e)

there_ok : {A : Type 0} (absent : Cause) (kind : Data → Result A Refusal) (o : Option Data) (x : A)
    → there absent kind o ≡ Ok x → (d : Data) × (kind d ≡ Ok x)
there_ok absent kind None x e = absurd cc
there_ok absent kind (Some d) x e = (d, e)

-- a key that was there
pub demanded_ok : {A : Type 0} (absent : Cause) (key : List ℕ) (kind : Data → Result A Refusal) (ms : Members) (x : A)
    → demanded absent key kind ms ≡ Ok x → (d : Data) × (kind d ≡ Ok x)
demanded_ok absent key kind ms x e =
    there_ok absent kind (get_member key ms) x (under_ok key (there absent kind (get_member key ms)) x e)

-- what holds of what a kind reads, as a test
abbrev pub Reads : {A : Type 0} → (A → Bool) → (Data → Result A Refusal) → Type 0
Reads {A} test kind = (d : Data) (x : A) → kind d ≡ Ok x → test x ≡ true

pub demanded_reads : {A : Type 0} (test : A → Bool) (absent : Cause) (key : List ℕ) (kind : Data → Result A Refusal)
    (ms : Members) (x : A) → Reads test kind → demanded absent key kind ms ≡ Ok x → test x ≡ true
demanded_reads test absent key kind ms x h e = let p = demanded_ok absent key kind ms x e in h p.0 x p.1

or_else_reads : {A : Type 0} (test : A → Bool) (default : A) (kind : Data → Result A Refusal) (o : Option Data) (x : A)
    → Reads test kind → test default ≡ true → or_else default kind o ≡ Ok x → test x ≡ true
or_else_reads test default kind None x h d e = let same : default ≡ x = cc in subst (λ y. test y ≡ true) same d
or_else_reads test default kind (Some v) x h d e = h v x e

pub defaulted_reads : {A : Type 0} (test : A → Bool) (default : A)
    (key : List ℕ) (kind : Data → Result A Refusal) (ms : Members) (x : A)
    → Reads test kind → test default ≡ true → defaulted default key kind ms ≡ Ok x → test x ≡ true
defaulted_reads test default key kind ms x h d e = or_else_reads test default kind
    (get_member key ms) x h d (under_ok key (or_else default kind (get_member key ms)) x e)

-- the value of an optional key, as a test
abbrev pub if_some : {A : Type 0} → (A → Bool) → Option A → Bool
if_some test None = true
if_some test (Some x) = test x

if_there_reads : {A : Type 0} (test : A → Bool) (kind : Data → Result A Refusal) (o : Option Data) (x : Option A)
    → Reads test kind → if_there kind o ≡ Ok x → if_some test x ≡ true
if_there_reads test kind None x h e = let same : None ≡ x = cc in subst (λ y. if_some test y ≡ true) same refl
if_there_reads {A} test kind (Some d) x h e =
    let p = bind_ok (kind d) (λ y. Ok (Some y)) x e in
    let same : Some p.0 ≡ x = let q = p.2 in cc in
    subst (λ (y : Option A). if_some test y ≡ true) same (h d p.0 p.1)

pub optional_reads : {A : Type 0} (test : A → Bool) (key : List ℕ) (kind : Data → Result A Refusal)
    (ms : Members) (x : Option A) → Reads test kind → optional key kind ms ≡ Ok x → if_some test x ≡ true
optional_reads test key kind ms x h e =
    if_there_reads test kind (get_member key ms) x h (under_ok key (if_there kind (get_member key ms)) x e)

-- the rows of a table that was read
pub table_ok : {A : Type 0} (listed : List (List ℕ)) (rows : Members → Result A Refusal) (d : Data) (x : A)
    → table listed rows d ≡ Ok x → (ms : Members) × (rows ms ≡ Ok x)
table_ok listed rows d x e =
    let a = bind_ok (as_members d) (checked listed rows) x e in
    let b = bind_ok (known listed a.0) (λ _. rows a.0) x a.2 in
    (a.0, b.2)

-- ---- lists

-- a list and the items that it was read from
pub list_ok : {A : Type 0} (count : Count) (f : List A → Data → Result A Refusal) (d : Data) (xs : List A)
    → list_after count f d ≡ Ok xs → (ds : Items) × (counted count (item_count ds) ≡ Ok tt) × (elements f [] ds ≡ Ok xs)
list_ok count f d xs e =
    let a = bind_ok (counted_items count d) (elements f []) xs e in
    let b = kind_ok (as_array d) (λ ds. counted count (item_count ds) >>= λ _. Ok ds) a.0 a.1 in
    let c = bind_ok (counted count (item_count b.0)) (λ _. Ok b.0) a.0 b.2 in
    let same : b.0 ≡ a.0 = let q = c.2 in cc in
    (b.0, c.1, rw same a.2)

pub elements_length : {A : Type 0} (f : List A → Data → Result A Refusal) (earlier : List A) (ds : Items) (xs : List A)
    → elements f earlier ds ≡ Ok xs → length xs ≡ length earlier + item_count ds
elements_length f earlier no_items xs e = let same : earlier ≡ xs = cc in rw same (omega arith)
elements_length f earlier (item d ds) xs e =
    let a = bind_ok (under (decimal (length earlier)) (f earlier d)) (λ x. elements f (earlier ++ x ∷ []) ds) xs e in
    omega (arith, elements_length f (earlier ++ a.0 ∷ []) ds xs a.2, length-append earlier (a.0 ∷ []))

allowed : {A : Type 0} (b : Bool) (cause : Cause) (x y : A) → cond b (refuse cause) (Ok x) ≡ Ok y → (b ≡ false) × (x ≡ y)
allowed true cause x y e = absurd cc
allowed false cause x y e = (refl, cc)

is_within : (o : Option ℕ) (most n : ℕ) → o ≡ Some most → is_over o n ≡ false → n ≤ most
is_within None most n m e = absurd cc
is_within (Some k) most n m e = let same : k ≡ most = cc in rw (← same) (ltb-false _ _ e)

pub counted_most : (count : Count) (most n : ℕ) → count.most ≡ Some most → counted count n ≡ Ok tt → n ≤ most
counted_most count most zero m e = omega arith
counted_most count most (suc n) m e =
    is_within count.most most (suc n) m (allowed (is_over count.most (suc n)) OutOfRange tt tt e).0

not_empty : (o : Option Cause) (cause : Cause) → o ≡ Some cause → if_empty o ≡ Ok tt → ⊥
not_empty None cause s e = cc
not_empty (Some c) cause s e = cc

pub counted_some : (count : Count) (cause : Cause) (n : ℕ) → count.empty ≡ Some cause → counted count n ≡ Ok tt → 1 ≤ n
counted_some count cause zero s e = absurd (not_empty count.empty cause s e)
counted_some count cause (suc n) s e = omega arith

-- the length of a list that was read
pub list_most : {A : Type 0} (count : Count) (f : List A → Data → Result A Refusal) (most : ℕ) (d : Data) (xs : List A)
    → count.most ≡ Some most → list_after count f d ≡ Ok xs → length xs ≤ most
list_most count f most d xs m e =
    let a = list_ok count f d xs e in
    let n = counted_most count most (item_count a.0) m a.1 in
    let l = elements_length f [] a.0 xs a.2 in
    omega (arith, n, l)

pub list_some : {A : Type 0} (count : Count) (f : List A → Data → Result A Refusal)
    (cause : Cause) (d : Data) (xs : List A) → count.empty ≡ Some cause → list_after count f d ≡ Ok xs → 1 ≤ length xs
list_some count f cause d xs s e =
    let a = list_ok count f d xs e in
    let n = counted_some count cause (item_count a.0) s a.1 in
    let l = elements_length f [] a.0 xs a.2 in
    omega (arith, n, l)

list_all-last : {A : Type 0} (test : A → Bool) (xs : List A) (x : A)
    → list_all test xs ≡ true → test x ≡ true → list_all test (xs ++ x ∷ []) ≡ true
list_all-last test [] x all here = rw here refl
list_all-last test (y ∷ ys) x all here =
    let p = and_parts (test y) (list_all test ys) all in
    rw (p.0, list_all-last test ys x p.1 here) refl

-- a test that each element passes as it is read
pub elements_reads : {A : Type 0} (test : A → Bool) (f : List A → Data → Result A Refusal)
    (earlier : List A) (ds : Items) (xs : List A) → ((ys : List A) → Reads test (f ys))
    → list_all test earlier ≡ true → elements f earlier ds ≡ Ok xs → list_all test xs ≡ true
elements_reads test f earlier no_items xs h all e = let same : earlier ≡ xs = cc in subst (λ ys. list_all test ys ≡ true) same all
elements_reads test f earlier (item d ds) xs h all e =
    let a = bind_ok (under (decimal (length earlier)) (f earlier d)) (λ x. elements f (earlier ++ x ∷ []) ds) xs e in
    let here = h earlier d a.0 (under_ok (decimal (length earlier)) (f earlier d) a.0 a.1) in
    elements_reads test f (earlier ++ a.0 ∷ []) ds xs h (list_all-last test earlier a.0 all here) a.2

pub list_reads : {A : Type 0} (test : A → Bool) (count : Count) (f : List A → Data → Result A Refusal) (d : Data)
    (xs : List A) → ((ys : List A) → Reads test (f ys)) → list_after count f d ≡ Ok xs → list_all test xs ≡ true
list_reads test count f d xs h e =
    let a = list_ok count f d xs e in
    elements_reads test f [] a.0 xs h refl a.2

-- what a call gave, where the value that it stands for has P
pub given_ok : {X A : Type 0} (view : X → A) (P : X → Type 0) (r : Result X Fault) (read : Result A Refusal)
    → ((x : X) → read ≡ Ok (view x) → P x) → Gives view r read → IfOk r P
given_ok view P (Ok x) read h e = h x e
given_ok view P (Err fault) read h e = tt

abbrev okay : {A : Type 0} → A → Result A Refusal
okay x = Ok x

pub ok_is : {A : Type 0} (x y : A) → okay x ≡ okay y → x ≡ y
ok_is x y e = cc

-- ---- numbers

taken_ok : {A : Type 0} (cause : Cause) (o : Option A) (x : A) → taken cause o ≡ Ok x → o ≡ Some x
taken_ok cause None x e = absurd cc
taken_ok cause (Some y) x e = let same : y ≡ x = cc in ap Some same

chosen_some : {A : Type 0} (b : Bool) (x y : A) → cond b (Some x) None ≡ Some y → (b ≡ true) × (x ≡ y)
chosen_some true x y e = (refl, cc)
chosen_some false x y e = absurd cc

ranged_ok : (low end : ℕ) (z : ℤ) (x : ℕ) → ranged low end z ≡ Some x → (low ≤ x) × (x < end)
ranged_ok low end (pos n) x e =
    let p = chosen_some (leb low n && ltb n end) n x e in
    let q = and_parts (leb low n) (ltb n end) p.0 in
    rw (← p.1) (leb-true low n q.0, ltb-true n end q.1)
ranged_ok low end (negsuc n) x e = absurd cc

pub number_within : (cause : Cause) (low end : ℕ) (d : Data) (x : ℕ) → number cause low end d ≡ Ok x → (low ≤ x) × (x < end)
number_within cause low end d x e =
    let a = kind_ok (as_integer d) (λ z. taken cause (ranged low end z)) x e in
    ranged_ok low end a.0 x (taken_ok cause (ranged low end a.0) x a.2)

pub below_reads : (cause : Cause) (low end : ℕ) → Reads (λ n. nat_lt n end) (number cause low end)
below_reads cause low end d x e = lt-ltb x end (number_within cause low end d x e).1

pub most_reads : (cause : Cause) (low most end : ℕ) → end ≤ most + 1 → Reads (λ n. nat_le n most) (number cause low end)
most_reads cause low most end h d x e = let w = number_within cause low end d x e in le-leb x most (omega (arith, w.1))

text_ok : {A : Type 0} (cause : Cause) (meaning : List ℕ → Option A) (d : Data) (x : A)
    → text cause meaning d ≡ Ok x → (s : List ℕ) × (meaning s ≡ Some x)
text_ok cause meaning d x e =
    let a = kind_ok (as_str d) (λ s. taken cause (meaning s)) x e in
    (a.0, taken_ok cause (meaning a.0) x a.2)

pub text_reads : {A : Type 0} (test : A → Bool) (cause : Cause) (meaning : List ℕ → Option A)
    → ((s : List ℕ) (x : A) → meaning s ≡ Some x → test x ≡ true) → Reads test (text cause meaning)
text_reads test cause meaning h d x e = let p = text_ok cause meaning d x e in h p.0 x p.1

meaning_ok : {A : Type 0} (test : A → Bool) (words : List (List ℕ × A)) (word : List ℕ) (x : A)
    → list_all (λ w. test w.1) words ≡ true → meaning_in words word ≡ Some x → test x ≡ true
meaning_ok test [] word x all e = absurd cc
meaning_ok test (w ∷ ws) word x all e =
    let p = and_parts (test w.1) (list_all (λ w. test w.1) ws) all in
    cond_word (bytes_eq w.0 word) test w.1 (meaning_in ws word) x p.0 (λ m. meaning_ok test ws word x p.1 m) e
  where
    cond_word : {A : Type 0} (b : Bool) (test : A → Bool) (y : A) (rest : Option A) (x : A)
        → test y ≡ true → (rest ≡ Some x → test x ≡ true) → cond b (Some y) rest ≡ Some x → test x ≡ true
    cond_word true test y rest x here later e = let same : y ≡ x = cc in subst (λ z. test z ≡ true) same here
    cond_word false test y rest x here later e = later e

-- each word's meaning passes
pub words_read : {A : Type 0} (test : A → Bool) (words : List (List ℕ × A))
    → list_all (λ w. test w.1) words ≡ true → Reads test (one_of words)
words_read test words all = text_reads test OutOfRange (meaning_in words) (λ s x m. meaning_ok test words s x all m)

map_same : {X : Type 0} (xs : List X) → map (λ x. x) xs ≡ xs
map_same [] = refl
map_same (x ∷ xs) = ap (λ ys. x ∷ ys) (map_same xs)

-- items that a clause sees as they are
pub gives_same : {X : Type 0} (r : Result (List X) Fault) (read : Result (List X) Refusal)
    → Gives (map (λ x. x)) r read → Gives (λ xs. xs) r read
gives_same (Ok xs) read h = h ∙ ap Ok (map_same xs)
gives_same (Err fault) read h = h
