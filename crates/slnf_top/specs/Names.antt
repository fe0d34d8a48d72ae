-- The names of the files that a command writes.
use Rattle.std.specs.Prelude.{ℕ, ◌+◌, List, [], ◌∷◌, ◌++◌, codes, decimal}
use Rattle.slnf_top.specs.Words.{PlanWords, Command, Run, Step, Check, Box, Load}

-- the output capture of a lane
abbrev pub capture_name : List ℕ → ℕ → List ℕ
capture_name out lane = out ++ codes "." ++ decimal lane ++ codes ".pcap"

-- the verdicts
abbrev pub verdicts_name : List ℕ → List ℕ
verdicts_name out = out ++ codes ".verdicts"

-- the journal
abbrev pub journal_name : List ℕ → List ℕ
journal_name out = out ++ codes ".journal"

-- what a command says goes to standard output
abbrev pub standard_output : List ℕ
standard_output = codes "-"

-- the output captures of the lanes of these captures, of which the first has this number
abbrev pub capture_names : List ℕ → ℕ → List (List ℕ) → List (List ℕ)
capture_names out lane [] = []
capture_names out lane (capture ∷ captures) = capture_name out lane ∷ capture_names out (lane + 1) captures

-- the files that a run writes, in order
abbrev pub run_names : PlanWords → List (List ℕ)
run_names words =
    capture_names words.out 0 words.captures
    ++ verdicts_name words.out ∷ journal_name words.out ∷ standard_output ∷ []

-- the files that a command writes, in order
abbrev pub outputs_of : Command → List (List ℕ)
outputs_of (Run words) = run_names words
outputs_of (Step words) = run_names words
outputs_of (Check words) = standard_output ∷ []
outputs_of (Box words) = standard_output ∷ []
outputs_of (Load words) = standard_output ∷ []
