-- A list is legal exactly where each key's own entries are.
use Rattle.std.proofs.Common.{◌≡◌, ℕ, ◌%◌, ◌==◌, inl, inr, Option, List, [], ◌∷◌, refl, sym, ap, ◌∙◌, subst, eq-eqb, ne_eqb}
use Rattle.std.proofs.lemmas.Bool.{cases_eq, cond-true, cond-false}
use Rattle.slnf_access.specs.declared.requests.Entry.{Entry}
use Rattle.slnf_access.specs.declared.requests.Held.{Held}
use Rattle.slnf_access.specs.Map.{key_of, reply_to, cell_after, cell_step, cell_of, Cells, map_after, IsLegalFrom}
use Rattle.slnf_run.specs.Made.{of_key, of_shard}
use Rattle.slnf_run.proofs.Merged.{of_shard-own, of_shard-other}
use Rattle.std.specs.List.{AllByRecursion}

of_key-own : (key : ℕ) (e : Entry) (es : List Entry) → key_of e.request ≡ key → of_key key (e ∷ es)
    ≡ e ∷ of_key key es
of_key-own key e es h = cond-true (key_of e.request == key) (e ∷ of_key key es) (of_key key es)
    (eq-eqb (key_of e.request) key h)

of_key-other : (key : ℕ) (e : Entry) (es : List Entry) → (key_of e.request ≡ key → ⊥) → of_key key (e ∷ es)
    ≡ of_key key es
of_key-other key e es h = cond-false (key_of e.request == key) (e ∷ of_key key es) (of_key key es)
    (ne_eqb (key_of e.request) key h)

cell_step-other : (key : ℕ) (held : Option Held) (e : Entry) → (key_of e.request ≡ key → ⊥) → cell_step key held e
    ≡ held
cell_step-other key held e h = cond-false (key_of e.request == key) (cell_after e.request e.stamp held) held
    (ne_eqb (key_of e.request) key h)

-- what a key has comes of its own entries alone
pub cell_of-of_key : (key : ℕ) (held : Option Held) (es : List Entry) → cell_of key held es
    ≡ cell_of key held (of_key key es)
cell_of-of_key key held [] = refl
cell_of-of_key key held (e ∷ es) =
    elim (cases_eq (key_of e.request) key) [
      | inl own ↦ cell_of-of_key key (cell_step key held e) es ∙ sym (ap (cell_of key held) (of_key-own key e es own))
      | inr other ↦
          ap (λ c. cell_of key c es) (cell_step-other key held e other)
          ∙ (cell_of-of_key key held es ∙ sym (ap (cell_of key held) (of_key-other key e es other)))
    ]

-- so the same entries of each key make the same map
pub map_after-same : (cells : Cells) (es fs : List Entry) → ((key : ℕ) → of_key key es ≡ of_key key fs) →
    map_after cells es ≡ map_after cells fs
map_after-same cells es fs same =
    λ i key. (cell_of-of_key key (cells key) es ∙ (ap (cell_of key (cells key)) (same key)
    ∙ sym (cell_of-of_key key (cells key) fs))) i

-- a key's own entries are legal on each map that agrees at the key
legal_key-agree : (key : ℕ) (one other : Cells) (es : List Entry) → one key ≡ other key →
    IsLegalFrom one (of_key key es) → IsLegalFrom other (of_key key es)
legal_key-agree key one other [] agree h = tt
legal_key-agree key one other (e ∷ es) agree h =
    elim (cases_eq (key_of e.request) key) [
      | inr n ↦
          subst (IsLegalFrom other) (sym (of_key-other key e es n))
          (legal_key-agree key one other es agree (subst (IsLegalFrom one) (of_key-other key e es n) h))
      | inl own ↦
          let k : (e.reply ≡ reply_to e.request e.stamp (one (key_of e.request)))
          × IsLegalFrom (map_after one (e ∷ [])) (of_key key es) =
          subst (IsLegalFrom one) (of_key-own key e es own) h in
          let here : one (key_of e.request) ≡ other (key_of e.request) = ap one own ∙ (agree ∙ sym (ap other own)) in
          subst (IsLegalFrom other) (sym (of_key-own key e es own)) (
            k.0 ∙ ap (reply_to e.request e.stamp) here,
            legal_key-agree key (map_after one (e ∷ [])) (map_after other (e ∷ [])) es
                (ap (λ c. cell_step key c e) agree) k.1,
          )
    ]

-- of a legal list each key's own entries are legal
pub legal_key : (key : ℕ) (cells : Cells) (es : List Entry) → IsLegalFrom cells es → IsLegalFrom cells (of_key key es)
legal_key key cells [] h = tt
legal_key key cells (e ∷ es) h =
    elim (cases_eq (key_of e.request) key) [
      | inl own ↦ subst (IsLegalFrom cells) (sym (of_key-own key e es own))
          (h.0, legal_key key (map_after cells (e ∷ [])) es h.1)
      | inr n ↦
          subst (IsLegalFrom cells) (sym (of_key-other key e es n))
          (legal_key-agree key (map_after cells (e ∷ [])) cells es (cell_step-other key (cells key) e n)
          (legal_key key (map_after cells (e ∷ [])) es h.1))
    ]

-- and a list is legal where each key's own entries are
pub legal_of_keys : (cells : Cells) (es : List Entry) → ((key : ℕ) → IsLegalFrom cells (of_key key es)) →
    IsLegalFrom cells es
legal_of_keys cells [] h = tt
legal_of_keys cells (e ∷ es) h =
    let own : (e.reply ≡ reply_to e.request e.stamp (cells (key_of e.request)))
    × IsLegalFrom (map_after cells (e ∷ [])) (of_key (key_of e.request) es) =
    subst (IsLegalFrom cells) (of_key-own (key_of e.request) e es refl) (h (key_of e.request)) in (
      own.0,
      legal_of_keys (map_after cells (e ∷ [])) es (λ key.
          elim (cases_eq (key_of e.request) key) [
            | inl same ↦ subst (λ k. IsLegalFrom (map_after cells (e ∷ [])) (of_key k es)) same own.1
            | inr n ↦
                legal_key-agree key cells (map_after cells (e ∷ [])) es (sym (cell_step-other key (cells key) e n))
                (subst (IsLegalFrom cells) (of_key-other key e es n) (h key))
          ]),
    )

-- a list with the same entries of each key is as legal
pub legal-same : (cells : Cells) (es fs : List Entry) → ((key : ℕ) → of_key key es ≡ of_key key fs) →
    IsLegalFrom cells es → IsLegalFrom cells fs
legal-same cells es fs same h = legal_of_keys cells fs
    (λ key. subst (IsLegalFrom cells) (same key) (legal_key key cells es h))

-- what a key of a shard has comes of the shard's entries alone
pub cell_of-of_shard : (shards shard key : ℕ) (held : Option Held) (es : List Entry) →
    AllByRecursion (λ e. e.shard ≡ key_of e.request % shards) es → key % shards ≡ shard → cell_of key held es
    ≡ cell_of key held (of_shard shard es)
cell_of-of_shard shards shard key held [] own h = refl
cell_of-of_shard shards shard key held (e ∷ es) own h =
    elim (cases_eq e.shard shard) [
      | inl mine ↦ cell_of-of_shard shards shard key (cell_step key held e) es own.1 h
          ∙ sym (ap (cell_of key held) (of_shard-own shard e es mine))
      | inr n ↦
          ap (λ c. cell_of key c es) (cell_step-other key held e (λ q. n (own.0 ∙ (ap (λ k. k % shards) q ∙ h))))
          ∙ (cell_of-of_shard shards shard key held es own.1 h
          ∙ sym (ap (cell_of key held) (of_shard-other shard e es n)))
    ]
