use Rattle.std.proofs.Common.{◌≡◌, map, drop}
use Rattle.slnf_plan.specs.Tables.{meaning_in}
use Rattle.slnf_plan.proofs.values.meaning_in.Given as goal

abbrev pub invariant-loop-listed : goal.invariant-loop-listed
invariant-loop-listed g l = meaning_in (map (λ w. (w.0.now, w.1)) (drop l.listed-index l.words)) l.word
    ≡ meaning_in (map (λ w. (w.0.now, w.1)) l.words) l.word
