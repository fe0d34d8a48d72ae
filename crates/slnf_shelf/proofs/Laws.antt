-- Laws by which the clauses of several calls of a shelf make those of one.
use Rattle.std.proofs.Common.{◌≡◌, ◌+◌, ℕ, List, [], ◌++◌, Option, Some, None, take, drop, refl, sym, ◌∙◌, ap, arith, append_assoc}
use Rattle.std.proofs.lemmas.List.{append-nil}
use Rattle.std.proofs.Math.Seq.{take-add}
use Rattle.slnf_shelf.specs.declared.shelf.Call.{Call}
use Rattle.slnf_shelf.specs.Shelf.{Faults, Moves, Rose, set_to, with_more}

-- no call was made
pub Moves-still : (may : Call → List ℕ → Type 0) (now : Faults) → Moves may now now
Moves-still may now = record { later = λ call name. omega arith; others = λ call name not. refl }

-- one call after the other
pub Moves-then : (may : Call → List ℕ → Type 0) (a b c : Faults) → Moves may a b → Moves may b c → Moves may a c
Moves-then may a b c m n = record {
  later = λ call name. let p = m.later call name in let q = n.later call name in omega arith;
  others = λ call name not. n.others call name not ∙ m.others call name not;
}

-- more calls may be made than were
pub Moves-wider : (may wider : Call → List ℕ → Type 0) (a b : Faults)
    → ((call : Call) (name : List ℕ) → may call name → wider call name) → Moves may a b → Moves wider a b
Moves-wider may wider a b w m = record {
  later = m.later;
  others = λ call name not. m.others call name (λ h. not (w call name h));
}

-- a number that rose stays above what it was
pub Rose-then : (may : Call → List ℕ → Type 0) (call : Call) (name : List ℕ) (a b c : Faults)
    → Rose call name a b → Moves may b c → Rose call name a c
Rose-then may call name a b c r m = let p = m.later call name in omega arith

pub Rose-after : (may : Call → List ℕ → Type 0) (call : Call) (name : List ℕ) (a b c : Faults)
    → Moves may a b → Rose call name b c → Rose call name a c
Rose-after may call name a b c m r = let p = m.later call name in omega arith

-- what was added after what was added
pub with_more-with_more : (p q : List ℕ) (o : Option (List ℕ)) → with_more q (with_more p o) ≡ with_more (p ++ q) o
with_more-with_more p q None = refl
with_more-with_more p q (Some held) = ap Some (append_assoc held p q)

pub with_more-nothing : (o : Option (List ℕ)) → with_more [] o ≡ o
with_more-nothing None = refl
with_more-nothing (Some held) = ap Some (append-nil held)

-- what was added to what holds nothing
pub with_more-set_to : (p q : List ℕ) (o : Option (List ℕ)) → with_more q (set_to p o) ≡ set_to (p ++ q) o
with_more-set_to p q None = refl
with_more-set_to p q (Some held) = refl

pub set_to-set_to : (p q : List ℕ) (o : Option (List ℕ)) → set_to q (set_to p o) ≡ set_to q o
set_to-set_to p q None = refl
set_to-set_to p q (Some held) = refl

-- a front of a text, and then the front of its rest
pub with_more-front : (m n : ℕ) (text : List ℕ) (o : Option (List ℕ))
    → with_more (take n (drop m text)) (with_more (take m text) o) ≡ with_more (take (m + n) text) o
with_more-front m n text o = with_more-with_more _ _ o ∙ ap (λ piece. with_more piece o) (sym (take-add m n text))
