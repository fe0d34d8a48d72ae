-- How much a run reads.
use Rattle.std.specs.Prelude.{ℕ}

-- limit 1: the bytes of a plan
abbrev pub plan_limit : ℕ
plan_limit = 1048576

-- limit 2: the bytes of one capture
abbrev pub capture_limit : ℕ
capture_limit = 67108864

-- limit 3: the bytes of all captures of a run
abbrev pub captures_limit : ℕ
captures_limit = 268435456

-- limit 4: the packets of a run
abbrev pub packets_limit : ℕ
packets_limit = 1048576

-- limit 5: the bytes of a journal that is read back
abbrev pub journal_limit : ℕ
journal_limit = 2147483648

-- limit 6: the bytes of verdicts that are read back
abbrev pub verdicts_limit : ℕ
verdicts_limit = 67108864
