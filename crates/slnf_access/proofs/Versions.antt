-- Versions are stamps: each version in the map is the stamp of an earlier entry on its key, and under rising stamps none
-- comes again.
use Rattle.std.proofs.Common.{◌≡◌, ◌⊎◌, ℕ, ◌<◌, Bool, true, false, cond, ◌==◌, Option, Some, None, List, [], ◌∷◌, ◌++◌, refl, ap, sym, ◌∙◌, ap₂, inl, inr, arith, append_assoc, eqb-true}
use Rattle.std.proofs.lemmas.Option.{same_Some}
use Rattle.slnf_access.specs.declared.requests.Value.{Value}
use Rattle.slnf_access.specs.declared.requests.Held.{Held}
use Rattle.slnf_access.specs.declared.requests.Entry.{Entry}
use Rattle.slnf_access.specs.declared.requests.Request.{Request}
use Rattle.slnf_access.specs.declared.requests.Request.TheVariants.{Read, PutIfAbsent, ReplaceIf, DeleteIf}
use Rattle.slnf_access.specs.declared.requests.Reply.TheVariants.{Done, Found}
use Rattle.slnf_access.specs.Map.{key_of, conditional_reply, reply_to, cell_after, cell_step, cell_of, empty, map_after, IsLegal}
use Rattle.slnf_access.specs.Order.{RisesOnKeys}
use Rattle.slnf_access.proofs.Laws.{cell_of-append, legal-back}

-- the cell has this value with this version
abbrev pub IsThere : Option Held → Value → ℕ → Type 0
IsThere cell value version = (held : Held) × (cell ≡ Some held) × (held.value ≡ value) × (held.version ≡ version)

-- what an access found that acts only at one version stood there
found_conditional : (old stamp : ℕ) (cell : Option Held) (value : Value) (version : ℕ) →
    conditional_reply old stamp cell ≡ Found value version → IsThere cell value version
found_conditional old stamp None value version h = absurd (cc)
found_conditional old stamp (Some held) value version h = go (held.version == old) h
  where
    go : (b : Bool) → cond b (Done stamp) (Found held.value held.version) ≡ Found value version →
        IsThere (Some held) value version
    go true h = absurd (cc)
    go false h = (held, refl, cc, cc)

-- what a reply found stood there
pub found_there : (request : Request) (stamp : ℕ) (cell : Option Held) (value : Value) (version : ℕ) →
    reply_to request stamp cell ≡ Found value version → IsThere cell value version
found_there (Read key) stamp None value version h = absurd (cc)
found_there (Read key) stamp (Some held) value version h = (held, refl, cc, cc)
found_there (PutIfAbsent key put) stamp None value version h = absurd (cc)
found_there (PutIfAbsent key put) stamp (Some held) value version h = (held, refl, cc, cc)
found_there (ReplaceIf key old put) stamp cell value version h = found_conditional old stamp cell value version h
found_there (DeleteIf key old) stamp cell value version h = found_conditional old stamp cell value version h

-- equal cells have equal versions
version_same : {a b : Held} → ◌≡◌ {A = Option Held} (Some a) (Some b) → a.version ≡ b.version
version_same {a = a} {b = b} h = ap (λ (c : Held). c.version) (same_Some a b h)

-- what stands there after an access stood there before, or has the access's stamp as its version
pub kept_or_written : (request : Request) (stamp : ℕ) (cell : Option Held) (held : Held) →
    cell_after request stamp cell ≡ Some held → (cell ≡ Some held) ⊎ (held.version ≡ stamp)
kept_or_written (Read key) stamp cell held h = inl h
kept_or_written (PutIfAbsent key value) stamp None held h = inr (sym (version_same h))
kept_or_written (PutIfAbsent key value) stamp (Some there) held h = inl h
kept_or_written (ReplaceIf key version value) stamp None held h = inl h
kept_or_written (ReplaceIf key version value) stamp (Some there) held h = go (there.version == version) h
  where
    go : (b : Bool) → Some (cond b (record { value = value; version = stamp }) there) ≡ Some held →
        (Some there ≡ Some held) ⊎ (held.version ≡ stamp)
    go true h = inr (sym (version_same h))
    go false h = inl h
kept_or_written (DeleteIf key version) stamp None held h = inl h
kept_or_written (DeleteIf key version) stamp (Some there) held h = go (there.version == version) h
  where
    go : (b : Bool) → cond b None (Some there) ≡ Some held → (Some there ≡ Some held) ⊎ (held.version ≡ stamp)
    go true h = absurd (cc)
    go false h = inl h

-- one of these entries on the key has this stamp
pub record IsStamped (key stamp : ℕ) (es : List Entry) : Type 0 where
  pub before : List Entry
  pub later : List Entry
  pub e : Entry
  pub split : es ≡ before ++ e ∷ later
  pub on_key : key_of e.request ≡ key
  pub stamped : e.stamp ≡ stamp

-- what stands there after entries stood there before, or one of them on the key has its version as its stamp
pub kept_or_stamped : (key : ℕ) (cell : Option Held) (es : List Entry) (held : Held) →
    cell_of key cell es ≡ Some held → (cell ≡ Some held) ⊎ IsStamped key held.version es
kept_or_stamped key cell [] held h = inl h
kept_or_stamped key cell (e ∷ es) held h = later (kept_or_stamped key (cell_step key cell e) es held h)
  where
    here : (b : Bool) → (key_of e.request == key) ≡ b → cond b (cell_after e.request e.stamp cell) cell ≡ Some held →
        (cell ≡ Some held) ⊎ IsStamped key held.version (e ∷ es)
    here true w h =
        elim (kept_or_written e.request e.stamp cell held h) [
          | inl kept ↦ inl kept
          | inr written ↦ inr (record {
            before = [];
            later = es;
            e = e;
            split = refl;
            on_key = eqb-true (key_of e.request) key w;
            stamped = sym written;
          })
        ]
    here false w h = inl h

    later : (cell_step key cell e ≡ Some held) ⊎ IsStamped key held.version es →
        (cell ≡ Some held) ⊎ IsStamped key held.version (e ∷ es)
    later (inl kept) = here (key_of e.request == key) refl kept
    later (inr r) = inr (record {
      before = e ∷ r.before;
      later = r.later;
      e = r.e;
      split = ap (λ xs. e ∷ xs) r.split;
      on_key = r.on_key;
      stamped = r.stamped;
    })

-- a version that the map has is the stamp of an entry on its key
pub version_is_stamp : (key : ℕ) (es : List Entry) (held : Held) → map_after empty es key ≡ Some held →
    IsStamped key held.version es
version_is_stamp key es held h = go (kept_or_stamped key None es held h)
  where
    go : (None ≡ Some held) ⊎ IsStamped key held.version es → IsStamped key held.version es
    go (inl none) = absurd (cc)
    go (inr stamped) = stamped

-- Where stamps rise on each key, what an entry found is what its key has after later entries, if it has that version still:
-- no version comes again.
pub found_stays : (xs ys : List Entry) (f : Entry) (value : Value) (version : ℕ) (held : Held) →
    RisesOnKeys (xs ++ f ∷ ys) → IsLegal (xs ++ f ∷ ys) → f.reply ≡ Found value version →
    map_after empty (xs ++ f ∷ ys) (key_of f.request) ≡ Some held → held.version ≡ version → held.value ≡ value
found_stays xs ys f value version held rises legal reply cells same =
    let k : ℕ = key_of f.request in
    let replied : f.reply ≡ reply_to f.request f.stamp (cell_of k None xs) = (legal-back empty xs (f ∷ ys) legal).0 in
    let there : IsThere (cell_of k None xs) value version =
    found_there f.request f.stamp (cell_of k None xs) value version (sym replied ∙ reply) in
    let now : cell_of k (Some there.0) (f ∷ ys) ≡ Some held =
    ap (λ c. cell_of k c (f ∷ ys)) (sym there.1) ∙ sym (cell_of-append k None xs (f ∷ ys)) ∙ cells in
    go k there.0 there.2 there.3 (kept_or_stamped k None xs there.0 there.1) (kept_or_stamped k (Some there.0) (f ∷ ys) held now)
  where
    go : (k : ℕ) (there : Held) → there.value ≡ value → there.version ≡ version →
        (None ≡ Some there) ⊎ IsStamped k there.version xs →
        (Some there ≡ Some held) ⊎ IsStamped k held.version (f ∷ ys) → held.value ≡ value
    go k there v w (inl none) later = absurd (cc)
    go k there v w (inr a) (inl kept) = ap (λ (c : Held). c.value) (sym (same_Some there held kept)) ∙ v
    go k there v w (inr a) (inr b) =
        let whole : xs ++ f ∷ ys ≡ a.before ++ a.e ∷ ((a.later ++ b.before) ++ b.e ∷ b.later) =
        ap₂ (λ us vs. us ++ vs) a.split b.split
        ∙ append_assoc a.before (a.e ∷ a.later) (b.before ++ b.e ∷ b.later)
        ∙ ap (λ zs. a.before ++ a.e ∷ zs) (sym (append_assoc a.later b.before (b.e ∷ b.later))) in
        let rise : a.e.stamp < b.e.stamp =
        rises a.before (a.later ++ b.before) b.later a.e b.e whole (a.on_key ∙ sym b.on_key) in
        let one : a.e.stamp ≡ there.version = a.stamped in
        let two : b.e.stamp ≡ held.version = b.stamped in
        absurd (omega arith)
