-- What the kind of a status says of it.
use Rattle.std.proofs.Common.{◌≡◌, refl, sym, subst}
use Rattle.slnf_top.specs.declared.statuses.Status.{Status}
use Rattle.slnf_top.specs.declared.statuses.Status.TheVariants as status
use Rattle.slnf_top.specs.Kinds.{Kind, Whole, Formless, Refusing, Broken, Unread, Unwritten, Wanting, kind_of, HasRead, MayWrite}
use Rattle.slnf_top.specs.Refused.{RefusesBy, Refuses, StopsBy, StopsWriting}

-- a kind that has but one status has this one
abbrev IsOne : Kind → Status → Type 0
IsOne Whole s = Unit {0}
IsOne Formless s = s ≡ status.Usage
IsOne Refusing s = Unit {0}
IsOne Broken s = Unit {0}
IsOne Unread s = s ≡ status.ReadFault
IsOne Unwritten s = s ≡ status.WriteFault
IsOne Wanting s = s ≡ status.NoMemory

only : (s : Status) → IsOne (kind_of s) s
only status.Ok = tt
only status.Left = tt
only status.Usage = refl
only (status.PlanBad error) = tt
only (status.CaptureBad lane error) = tt
only status.ReadFault = refl
only status.WriteFault = refl
only status.NoMemory = refl
only (status.Refused refusal) = tt
only (status.OverLimit limit count) = tt

pub formless_is : (s : Status) → kind_of s ≡ Formless → s ≡ status.Usage
formless_is s e = let h : IsOne Formless s = subst (λ (k : Kind). IsOne k s) e (only s) in h

pub unread_is : (s : Status) → kind_of s ≡ Unread → s ≡ status.ReadFault
unread_is s e = let h : IsOne Unread s = subst (λ (k : Kind). IsOne k s) e (only s) in h

pub unwritten_is : (s : Status) → kind_of s ≡ Unwritten → s ≡ status.WriteFault
unwritten_is s e = let h : IsOne Unwritten s = subst (λ (k : Kind). IsOne k s) e (only s) in h

pub wanting_is : (s : Status) → kind_of s ≡ Wanting → s ≡ status.NoMemory
wanting_is s e = let h : IsOne Wanting s = subst (λ (k : Kind). IsOne k s) e (only s) in h

-- a command that reads to the end, or may write, by its kind
pub has_read_at : (s : Status) (k : Kind) → kind_of s ≡ k → HasRead k → HasRead (kind_of s)
has_read_at s k e h = subst HasRead (sym e) h

-- what a refused read says at a kind
pub refuses_at : (P : Type 0) (F : Status → Type 0) (s : Status) (k : Kind) → kind_of s ≡ k → Refuses P F s →
    RefusesBy P (F s) k
refuses_at P F s k e h = subst (λ (x : Kind). RefusesBy P (F s) x) e h

-- a refused read didn't read to the end, and begins nothing
refused_reads : (P F : Type 0) (k : Kind) → RefusesBy P F k → HasRead k → ⊥
refused_reads P F Whole h r = h
refused_reads P F Formless h r = h
refused_reads P F Refusing h r = r
refused_reads P F Broken h r = h
refused_reads P F Unread h r = r
refused_reads P F Unwritten h r = h
refused_reads P F Wanting h r = r

pub refuses_reads : (P : Type 0) (F : Status → Type 0) (s : Status) → Refuses P F s → HasRead (kind_of s) → ⊥
refuses_reads P F s h r = refused_reads P (F s) (kind_of s) h r

-- what stopped writing says at a kind
pub stops_at : (P : Type 0) (s : Status) (k : Kind) → kind_of s ≡ k → StopsWriting P s → StopsBy P k
stops_at P s k e h = subst (λ (x : Kind). StopsBy P x) e h

-- who stopped writing may write
stopped_writes : (P : Type 0) (k : Kind) → StopsBy P k → ¬ MayWrite k → ⊥
stopped_writes P Whole h not = h
stopped_writes P Formless h not = h
stopped_writes P Refusing h not = h
stopped_writes P Broken h not = h
stopped_writes P Unread h not = h
stopped_writes P Unwritten h not = not tt
stopped_writes P Wanting h not = not tt

pub stops_writes : (P : Type 0) (s : Status) → StopsWriting P s → ¬ MayWrite (kind_of s) → ⊥
stops_writes P s h not = stopped_writes P (kind_of s) h not
