-- Files that are written one after another.
use Rattle.std.proofs.Common.{◌≡◌, ◌⊎◌, inl, inr, ℕ, Option, List, [], ◌∷◌, refl, ap, sym, ◌∙◌, subst}
use Rattle.slnf_shelf.specs.declared.shelf.Call.{Call}
use Rattle.slnf_shelf.specs.declared.shelf.Call.TheVariants.{Read, Begin, Append}
use Rattle.slnf_shelf.specs.Shelf.{Faults, Moves, Rose, SameFiles, SameOthers, Writes, WritesFront, WritesSome, set_to}
use Rattle.slnf_shelf.proofs.Laws.{Moves-still, Moves-then, Moves-wider, Rose-after}
use Rattle.slnf_top.specs.declared.statuses.Status.{Status}
use Rattle.slnf_top.specs.declared.outputs.File.{File}
use Rattle.slnf_top.specs.Kinds.{Kind, Whole, Formless, Refusing, Broken, Unread, Unwritten, Wanting, kind_of}
use Rattle.slnf_top.specs.Reached.{Holds}
use Rattle.slnf_top.specs.Effects.{RoseAt}
use Rattle.slnf_top.specs.Files.{HoldFiles, names_of, IsNamed, WritesFiles, Wrote, WroteOne, WroteSome, StoppedAt}
use Rattle.slnf_top.specs.Refused.{StopsBy, StopsWriting, StopsWithin, StopsAt}
use Rattle.slnf_top.proofs.Apart.{AreApart}

-- a name that none of them has holds what it held
pub wrote_others : (files : List File) (h k : Holds) → Wrote files h k → (name : List ℕ) → ¬ IsNamed files name →
    k name ≡ h name
wrote_others [] h k w name apart = w name
wrote_others (file ∷ files) h k w name apart =
    wrote_others files w.0 k w.2 name (λ n. apart (inr n)) ∙ w.1.others name (λ e. apart (inl e))

-- what held before another file was written
hold_before : (files : List File) (name : List ℕ) (h m k : Holds) → ¬ IsNamed files name → SameOthers name h m →
    HoldFiles files m k → HoldFiles files h k
hold_before [] name h m k apart others held = tt
hold_before (file ∷ files) name h m k apart others held = (
  held.0 ∙ ap (set_to file.text) (others file.name (λ e. apart (inl (sym e)))),
  hold_before files name h m k (λ n. apart (inr n)) others held.1,
)

-- files with names that differ hold their texts
pub wrote_holds : (files : List File) (h k : Holds) → AreApart files → Wrote files h k → HoldFiles files h k
wrote_holds [] h k apart w = tt
wrote_holds (file ∷ files) h k apart w = (
  wrote_others files w.0 k w.2 file.name apart.0 ∙ w.1.text,
  hold_before files file.name h w.0 k apart.0 w.1.others (wrote_holds files w.0 k apart.1 w.2),
)

-- the same from what another name held
pub hold_since : (files : List File) (h m k : Holds) → SameFiles h m → HoldFiles files m k → HoldFiles files h k
hold_since [] h m k same held = tt
hold_since (file ∷ files) h m k same held =
    (held.0 ∙ ap (set_to file.text) (same file.name), hold_since files h m k same held.1)

-- How far the writing has come: these files are left to write.
pub record WritesSoFar (files rest : List File) (a b : Faults) (h m : Holds) : Type 0 where
  pub moves : Moves (WritesFiles files) a b
  pub still : b ≡ a
  pub others : (other : List ℕ) → ¬ IsNamed files other → m other ≡ h other
  pub written : (k : Holds) → Wrote rest m k → Wrote files h k
  pub stopped : (c : Faults) (k : Holds) → StoppedAt rest a c m k → StoppedAt files a c h k
  pub among : (name : List ℕ) → IsNamed rest name → IsNamed files name

pub writes_start : (files : List File) (a : Faults) (h : Holds) → WritesSoFar files files a a h h
writes_start files a h =
    record {
      moves = Moves-still (WritesFiles files) a;
      still = refl;
      others = λ other apart. refl;
      written = λ k w.
          w;
      stopped = λ c k w. w;
      among = λ name n. n;
    }

-- the writes of one are among those of all
one_of : (files rest : List File) (file : File) →
    ((name : List ℕ) → IsNamed (file ∷ rest) name → IsNamed files name) → (call : Call) (name : List ℕ) →
    Writes file.name call name → WritesFiles files call name
one_of files rest file among Read name h = h
one_of files rest file among Begin name h = among name (inl h)
one_of files rest file among Append name h = among name (inl h)

pub moves_next : (files rest : List File) (file : File) (a b c : Faults) (h m : Holds) →
    WritesSoFar files (file ∷ rest) a b h m → Moves (Writes file.name) b c → Moves (WritesFiles files) a c
moves_next files rest file a b c h m far moved =
    Moves-then (WritesFiles files) a b c far.moves
    (Moves-wider (Writes file.name) (WritesFiles files) b c (one_of files rest file far.among) moved)

pub others_next : (files rest : List File) (file : File) (a b : Faults) (h m k : Holds) →
    WritesSoFar files (file ∷ rest) a b h m → SameOthers file.name m k → (other : List ℕ) → ¬ IsNamed files other →
    k other ≡ h other
others_next files rest file a b h m k far others other apart =
    others other (λ e. apart (far.among other (inl e))) ∙ far.others other apart

pub writes_next : (files rest : List File) (file : File) (a b c : Faults) (h m k : Holds) →
    WritesSoFar files (file ∷ rest) a b h m → Moves (Writes file.name) b c → c ≡ b → SameOthers file.name m k →
    WroteOne file m k → WritesSoFar files rest a c h k
writes_next files rest file a b c h m k far moved same others one = record {
  moves = moves_next files rest file a b c h m far moved;
  still = same ∙ far.still;
  others = others_next files rest file a b h m k far others;
  written = λ last w. far.written last (k, one, w);
  stopped = λ now last w. far.stopped now last (inr (k, one, w));
  among = λ name n. far.among name (inr n);
}

pub writes_end : (files : List File) (a b : Faults) (h m : Holds) → WritesSoFar files [] a b h m → Wrote files h m
writes_end files a b h m far = far.written m (λ name. refl)

-- what stops the writing, by a weaker fact
stops_by : (P Q : Type 0) (kind : Kind) → (P → Q) → StopsBy P kind → StopsBy Q kind
stops_by P Q Whole f h = h
stops_by P Q Formless f h = h
stops_by P Q Refusing f h = h
stops_by P Q Broken f h = h
stops_by P Q Unread f h = h
stops_by P Q Unwritten f h = f h
stops_by P Q Wanting f h = h

pub stops_weaker : (P Q : Type 0) (ended : Status) → (P → Q) → StopsWriting P ended → StopsWriting Q ended
stops_weaker P Q ended f h = stops_by P Q (kind_of ended) f h

-- a fault of one file is one of all
pub stopped_next : (files rest : List File) (file : File) (a b c : Faults) (h m : Holds) (ended : Status) →
    WritesSoFar files (file ∷ rest) a b h m → StopsWriting (Rose Begin file.name b c ⊎ Rose Append file.name b c)
    ended → StopsWriting (RoseAt (names_of files) a c) ended
stopped_next files rest file a b c h m ended far stopped =
    let name : List ℕ = file.name in
    stops_weaker (Rose Begin name b c ⊎ Rose Append name b c) (RoseAt (names_of files) a c) ended
    (λ rose. (
      name,
      far.among name (inl refl),
      elim rose [
        | inl begins ↦ inl (Rose-after (WritesFiles files) Begin name a b c far.moves begins)
        | inr appends ↦ inr (Rose-after (WritesFiles files) Append name a b c far.moves appends)
      ],
    ))
    stopped

-- and it stopped at that file
pub stops_next : (files rest : List File) (file : File) (a b c : Faults) (h m k : Holds) (ended : Status) →
    WritesSoFar files (file ∷ rest) a b h m → StopsWithin file b c m k ended → StopsAt files a c h k ended
stops_next files rest file a b c h m k ended far within e =
    far.stopped c k (inl (subst (λ (f : Faults). WroteSome file f c m k) far.still (within e)))

-- the same from what another name held
pub stopped_since : (files : List File) (a c : Faults) (h m k : Holds) → SameFiles h m → StoppedAt files a c m k →
    StoppedAt files a c h k
stopped_since [] a c h m k same w = absurd w
stopped_since (file ∷ files) a c h m k same (inl some) = inl (record {
  text = subst (λ (o : Option (List ℕ)). WritesSome file.text o (k file.name)) (same file.name) some.text;
  front =
      λ not. subst (λ (o : Option (List ℕ)). WritesFront file.text o (k file.name)) (same file.name) (some.front not);
  others = λ other apart. some.others other apart ∙ same other;
})
stopped_since (file ∷ files) a c h m k same (inr w) = inr (
  w.0,
  record {
    text = w.1.text ∙ ap (set_to file.text) (same file.name);
    others = λ other apart. w.1.others other apart
        ∙ same other;
  },
  w.2,
)
