-- The kinds of answers: what is said of a command that ended goes by them, and not by each status.
use Rattle.slnf_top.specs.declared.statuses.Status.{Status}
use Rattle.slnf_top.specs.declared.statuses.Status.TheVariants as status

pub data Kind : Type 0 where
  -- The command did all that it has to do.
  Whole : Kind
  -- The words are of no form.
  Formless : Kind
  -- The bytes of an input are refused.
  Refusing : Kind
  -- The files that a run made break a rule.
  Broken : Kind
  -- A file couldn't be read, or written.
  Unread : Kind
  Unwritten : Kind
  -- Memory was wanting.
  Wanting : Kind

abbrev pub kind_of : Status → Kind
kind_of status.Ok = Whole
kind_of status.Left = Whole
kind_of status.Usage = Formless
kind_of (status.PlanBad error) = Refusing
kind_of (status.CaptureBad lane error) = Refusing
kind_of status.ReadFault = Unread
kind_of status.WriteFault = Unwritten
kind_of status.NoMemory = Wanting
kind_of (status.Refused refusal) = Broken
kind_of (status.OverLimit limit count) = Refusing

-- all inputs of the command were read before it ended so
abbrev pub HasRead : Kind → Type 0
HasRead Whole = Unit {0}
HasRead Formless = ⊥
HasRead Refusing = ⊥
HasRead Broken = Unit {0}
HasRead Unread = ⊥
HasRead Unwritten = Unit {0}
HasRead Wanting = ⊥

-- the command may have begun to write
abbrev pub MayWrite : Kind → Type 0
MayWrite Whole = Unit {0}
MayWrite Formless = ⊥
MayWrite Refusing = ⊥
MayWrite Broken = ⊥
MayWrite Unread = ⊥
MayWrite Unwritten = Unit {0}
MayWrite Wanting = Unit {0}

-- the command did all, or named a rule
abbrev pub HasJudged : Kind → Type 0
HasJudged Whole = Unit {0}
HasJudged Formless = ⊥
HasJudged Refusing = ⊥
HasJudged Broken = Unit {0}
HasJudged Unread = ⊥
HasJudged Unwritten = ⊥
HasJudged Wanting = ⊥
