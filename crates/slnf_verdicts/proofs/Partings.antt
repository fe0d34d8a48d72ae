-- The parts of all incarnations, as entries are put into them.
use Rattle.std.proofs.Common.{◌≡◌, ℕ, suc, ◌+◌, ◌<◌, ◌==◌, if◌then◌else◌, List, [], ◌∷◌, ◌++◌, take, get_or, set, length, sym, ap, ◌∙◌, arith}
use Rattle.std.specs.Prelude.{Vec}
use Rattle.std.specs.declared.alloc.Global.{Global}
use Rattle.std.proofs.Math.Seq.{take-suc}
use Rattle.slnf_access.specs.declared.requests.Entry.{Entry}
use Rattle.slnf_access.specs.declared.requests.Request.TheVariants.{Read}
use Rattle.slnf_access.specs.declared.requests.Reply.TheVariants.{Done}
use Rattle.slnf_run.specs.Parts.{part_of}
use Rattle.slnf_verdicts.specs.Tables.{lists, list_at}
use Rattle.slnf_run.proofs.Parting.{part_of-append}
use Rattle.slnf_verdicts.proofs.Tables.{added}

-- the entry that the code reads where there is none
abbrev pub any_entry : Entry
any_entry = record {
  stamp = 0;
  shard = 0;
  incarnation = 0;
  item = 0;
  request = Read (record { 0 = 0 });
  reply =
      Done 0;
}

-- the entries up to the next one
pub take_next : (es : List Entry) (i : ℕ) (d : Entry) → i < length es →
    take (i + 1) es ≡ take i es ++ get_or es i d ∷ []
take_next es i d l =
    let next : suc i ≡ i + 1 = omega arith in
    ap (λ k. take k es) (sym next) ∙ take-suc es i d l

-- one entry more
pub part_next : (es : List Entry) (index i : ℕ) (d : Entry) (parts : List (Vec Entry Global))
    (old new : Vec Entry Global) → index < length es → (get_or es index d).incarnation < length parts →
    old ≡ get_or parts (get_or es index d).incarnation old → new.items ≡ old.items ++ get_or es index d ∷ [] →
    list_at (lists parts) i ≡ part_of i (take index es) → list_at
    (lists (set parts (get_or es index d).incarnation new)) i ≡ part_of i (take (index + 1) es)
part_next es index i d parts old new l inside own more h =
    let e : Entry = get_or es index d in
    added parts e.incarnation i old new (e ∷ []) inside own more
    ∙ (ap (λ l. l ++ (if e.incarnation == i then e ∷ [] else [])) h
    ∙ (sym (part_of-append i (take index es) (e ∷ []))
    ∙ ap (part_of i) (sym (take_next es index d l))))
