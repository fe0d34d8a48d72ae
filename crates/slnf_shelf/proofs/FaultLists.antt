-- A list of faults counts one more of the kind and name that it gains, and no other.
use Rattle.std.proofs.Common.{◌≡◌, ◌+◌, ◌&&◌, ℕ, List, [], ◌∷◌, ◌++◌, Bool, true, false, cond, refl, sym, ◌∙◌, ap, arith}
use Rattle.std.specs.Str.{bytes_eq}
use Rattle.std.proofs.lemmas.Slice.Eq.{bytes_eq-Decides}
use Rattle.std.proofs.lemmas.List.Sums.{sum_by-append}
use Rattle.slnf_shelf.specs.declared.shelf.Call.{Call}
use Rattle.slnf_shelf.specs.declared.shelf.Call.TheVariants.{Read, Begin, Append}
use Rattle.slnf_shelf.specs.declared.faults.Fault.{Fault}
use Rattle.slnf_shelf.specs.Calls.{same_call, is_fault_at, fault_count}
use Rattle.slnf_shelf.specs.Shelf.{Moves, Only, Rose}

pub same_call-equal : (a b : Call) → same_call a b ≡ true → a ≡ b
same_call-equal Read Read e = refl
same_call-equal Read Begin e = cc
same_call-equal Read Append e = cc
same_call-equal Begin Read e = cc
same_call-equal Begin Begin e = refl
same_call-equal Begin Append e = cc
same_call-equal Append Read e = cc
same_call-equal Append Begin e = cc
same_call-equal Append Append e = refl

pub same_call-itself : (a : Call) → same_call a a ≡ true
same_call-itself Read = refl
same_call-itself Begin = refl
same_call-itself Append = refl

both-true : (a b : Bool) → (a && b) ≡ true → (a ≡ true) × (b ≡ true)
both-true true b e = (refl, e)
both-true false b e = cc

pub is_false : (b : Bool) → (b ≡ true → ⊥) → b ≡ false
is_false true h = absurd (h refl)
is_false false h = refl

-- the fault is counted at its own kind and name
at-itself : (call : Call) (name : List ℕ) → is_fault_at call name (record { call = call; name = name }) ≡ true
at-itself call name = rw (same_call-itself call) ((bytes_eq-Decides name name).1 refl)

-- and at no other
at-others : (call call' : Call) (name name' : List ℕ)
    → ¬ Only call name call' name' → is_fault_at call' name' (record { call = call; name = name }) ≡ false
at-others call call' name name' other = is_false (same_call call call' && bytes_eq name name')
    (λ e. let p = both-true (same_call call call') (bytes_eq name name') e in
    other (sym (same_call-equal call call' p.0), sym ((bytes_eq-Decides name name').0 p.1)))

one-more : (faults : List Fault) (fault : Fault) (call : Call) (name : List ℕ) → fault_count
    (faults ++ fault ∷ []) call name ≡ fault_count faults call name + (0 + cond (is_fault_at call name fault) 1 0)
one-more faults fault call name = sum_by-append (λ f. cond (is_fault_at call name f) 1 0) faults (fault ∷ [])

pub Moves-noted : (faults now : List Fault) (call : Call) (name : List ℕ) → now ≡ faults
    ++ record { call = call; name = name } ∷ [] → Moves (Only call name) (fault_count faults) (fault_count now)
Moves-noted faults now call name e = record {
  later = λ call' name'. rw e (let p = one-more faults (record { call = call; name = name }) call' name' in omega arith);
  others = λ call' name' other. rw e (one-more faults (record { call = call; name = name }) call' name'
      ∙ ap (λ b. fault_count faults call' name' + (0 + cond b 1 0)) (at-others call call' name name' other) ∙ omega arith);
}

pub Rose-noted : (faults now : List Fault) (call : Call) (name : List ℕ)
    → now ≡ faults ++ record { call = call; name = name } ∷ [] → Rose call name (fault_count faults) (fault_count now)
Rose-noted faults now call name e = rw e (let p = one-more faults (record { call = call; name = name }) call name
    ∙ ap (λ b. fault_count faults call name + (0 + cond b 1 0)) (at-itself call name) in omega arith)
