-- The generator's words one after the other, and lists that grow by what a number gives.
use Rattle.std.proofs.Common.{◌≡◌, ◌≤◌, ℕ, zero, suc, ◌+◌, ◌-◌, ◌*◌, List, [], ◌∷◌, ◌++◌, map, codes, sym, ap, ◌∙◌, append_assoc, arith}
use Rattle.std.specs.List.{flat_map, range_with_len}
use Rattle.std.proofs.lemmas.List.{flat_map_more, map-append}
use Rattle.std.proofs.lemmas.List.FromFn.{map-range_with_len_more}
use Rattle.rand_xoshiro.specs.SplitMix64.{mix_u64, next_state}
use Rattle.slnf_gen.specs.Words.{state_after, word_after}
use Rattle.slnf_gen.specs.Packets.{file_header}
use Rattle.slnf_gen.specs.Captures.{record_of, drawn_record}
use Rattle.slnf_gen.specs.Plan.{instance_text, next_text}

-- no word was drawn
pub state_after-none : (count state : ℕ) → count ≡ 0 → state ≡ state_after count state
unfolding state_after
state_after-none count state none = ap (λ n. state_after n state) (sym none)

-- one word more
pub state_after-next : (count start state : ℕ) → state ≡ state_after count start →
    next_state state ≡ state_after (count + 1) start
unfolding state_after
state_after-next count start state drawn =
    let one : suc count ≡ count + 1 = omega arith in
    ap next_state drawn ∙ ap (λ n. state_after n start) one

-- the words after others
state_after-add : (a b state : ℕ) → state_after b (state_after a state) ≡ state_after (a + b) state
unfolding state_after
state_after-add a zero state = let same : a ≡ a + 0 = omega arith in ap (λ n. state_after n state) same
state_after-add a (suc b) state =
    let one : suc (a + b) ≡ a + suc b = omega arith in
    ap next_state (state_after-add a b state) ∙ ap (λ n. state_after n state) one

-- the words of one lane more
pub state_after-lane : (lane packets start state next : ℕ) → state ≡ state_after (lane * packets) start →
    next ≡ state_after packets state → next ≡ state_after ((lane + 1) * packets) start
state_after-lane lane packets start state next drawn more =
    let all : lane * packets + packets ≡ (lane + 1) * packets = omega arith in
    more ∙ ap (λ s. state_after packets s) drawn
    ∙ state_after-add (lane * packets) packets start ∙ ap (λ n. state_after n start) all

-- one number more
range-more : (a n j : ℕ) → a + n ≡ j → range_with_len a n ++ j ∷ [] ≡ range_with_len a (n + 1)
range-more a zero j is = let same : j ≡ a = omega arith in ap (λ x. x ∷ []) same
range-more a (suc n) j is =
    let one : suc (n + 1) ≡ suc n + 1 = omega arith in
    ap (λ l. a ∷ l) (range-more (a + 1) n j (omega arith)) ∙ ap (λ m. range_with_len a m) one

-- what one number more gives
pieces-more : (front : List ℕ) (f : ℕ → List ℕ) (a n j : ℕ) →
    a + n ≡ j → (front ++ flat_map f (range_with_len a n)) ++ f j ≡ front ++ flat_map f (range_with_len a (n + 1))
pieces-more front f a n j is =
    flat_map_more f front (range_with_len a n) j ∙ ap (λ l. front ++ flat_map f l) (range-more a n j is)

-- one record more
pub records-more : (start number word state : ℕ) (old new : List ℕ) →
    state ≡ state_after number start → word ≡ (mix_u64 state).0 →
    old ≡ file_header ++ flat_map (drawn_record start) (range_with_len 0 number) → new ≡ old ++ record_of number word →
    new ≡ file_header ++ flat_map (drawn_record start) (range_with_len 0 (number + 1))
unfolding word_after
records-more start number word state old new drawn is so more =
    let next : word ≡ word_after number start = is ∙ ap (λ s. (mix_u64 s).0) drawn in
    more ∙ ap (λ w. old ++ record_of number w) next
    ∙ ap (λ l. l ++ drawn_record start number) so
    ∙ pieces-more file_header (drawn_record start) 0 number number (omega arith)

-- one capture more
pub captures-more : {X : Type 0} (view : X → List ℕ) (f : ℕ → List ℕ) (lane : ℕ) (old new : List X) (x : X) →
    map view old ≡ map f (range_with_len 0 lane) →
    view x ≡ f lane → new ≡ old ++ x ∷ [] → map view new ≡ map f (range_with_len 0 (lane + 1))
captures-more view f lane old new x so is more =
    ap (λ l. map view l) more ∙ map-append view old (x ∷ [])
    ∙ ap (λ l. l ++ view x ∷ []) so
    ∙ ap (λ y. map f (range_with_len 0 lane) ++ y ∷ []) is
    ∙ sym (map-range_with_len_more f 0 lane lane (omega arith))

-- one instance more
pub instances-more : (lane : ℕ) (front old parted new : List ℕ) →
    1 ≤ lane → old ≡ front ++ flat_map next_text (range_with_len 1 (lane - 1)) →
    parted ≡ old ++ codes ", " → new ≡ parted ++ instance_text lane →
    new ≡ front ++ flat_map next_text (range_with_len 1 (lane + 1 - 1))
instances-more lane front old parted new some so comma more =
    let one : lane - 1 + 1 ≡ lane + 1 - 1 = omega arith in
    more ∙ ap (λ l. l ++ instance_text lane) comma
    ∙ append_assoc old (codes ", ") (instance_text lane)
    ∙ ap (λ l. l ++ next_text lane) so
    ∙ pieces-more front next_text 1 (lane - 1) lane (omega arith)
    ∙ ap (λ n. front ++ flat_map next_text (range_with_len 1 n)) one
