use Rattle.std.specs.Prelude.{ℕ, ◌==◌, Bool, true, false, if◌then◌else◌, Option, Some, None}

-- the truth value with this number: 0 is false and 1 is true
abbrev pub flag_of : ℕ → Option Bool
flag_of number = if number == 0 then Some false else (if number == 1 then Some true else None)
