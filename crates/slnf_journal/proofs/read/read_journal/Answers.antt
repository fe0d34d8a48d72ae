use Rattle.std.proofs.Common.{Ok, Err, ap, subst, ◌∙◌}
use Rattle.slnf_journal.specs.Versions.{One}
use Rattle.slnf_journal.specs.Reading.{journal_in, Answers}
use Rattle.slnf_journal.proofs.Journals.{answers, answers_text, answers_place, journal_again, journal_refuses}
use Rattle.slnf_journal.proofs.read.read_journal.Goals as goal

pub returns-clause-value : goal.returns-clause-value
returns-clause-value c = answers c.read_all.result (journal_in One c.args.bytes.now) c.read_all.ensures.ok c.read_all.ensures.err

pub returns-clause-text : goal.returns-clause-text
returns-clause-text c = answers_text c.read_all.result c.args.bytes.now c.read_all.ensures.ok

pub returns-clause-entries : goal.returns-clause-entries
returns-clause-entries c = λ entries fits is.
    subst (Answers c.read_all.result) (ap (journal_in One) is ∙ journal_again entries fits)
    (answers c.read_all.result (journal_in One c.args.bytes.now) c.read_all.ensures.ok c.read_all.ensures.err)

pub returns-clause-place : goal.returns-clause-place
returns-clause-place c = answers_place c.read_all.result c.args.bytes.now c.read_all.ensures.err

pub returns-clause-refusal : goal.returns-clause-refusal
returns-clause-refusal c = λ error refused.
    subst (Answers c.read_all.result) (journal_refuses c.args.bytes.now error refused)
    (answers c.read_all.result (journal_in One c.args.bytes.now) c.read_all.ensures.ok c.read_all.ensures.err)
