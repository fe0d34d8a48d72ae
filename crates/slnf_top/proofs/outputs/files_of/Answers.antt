use Rattle.std.proofs.Common.{◌∙◌, ap}
use Rattle.std.specs.Prelude.{string_bytes}
use Rattle.slnf_journal.specs.Journal.{journal_text}
use Rattle.slnf_journal.specs.Verdicts.{verdicts_text}
use Rattle.slnf_journal.specs.Summary.{summary_text}
use Rattle.slnf_top.specs.Names.{verdicts_name, journal_name, standard_output}
use Rattle.slnf_top.specs.Files.{capture_files}
use Rattle.slnf_top.proofs.Passing.{file_is, three_more}
use Rattle.slnf_top.proofs.outputs.files_of.Goals as goal

pub returns : goal.returns
returns c =
    let out = c.args.out.now in
    let outcome = c.args.outcome.now in
    three_more (capture_files out 0 c.args.given.now outcome.verdicts)
    c.in_ok-files.files.items c.push.new.self.items c.push-2.new.self.items c.push-3.new.self.items
    c.of.result c.of-2.result c.in_ok-summary_file.field-0
    (record { name = verdicts_name out; text = verdicts_text outcome.verdicts })
    (record { name = journal_name out; text = journal_text outcome.journal })
    (record { name = standard_output; text = summary_text outcome.verdicts outcome.journal })
    (c.in_ok-files.ensures ∙ ap (λ verdicts. capture_files out 0 c.args.given.now verdicts) c.as_slice-lanes.ensures)
    c.in_ok-push.ensures.items c.in_ok-push-2.ensures.items c.in_ok-push-3.ensures.items
    (file_is (string_bytes c.in_ok-verdicts_name.field-0) (verdicts_name out) c.in_ok-verdicts.verdicts.items
    (verdicts_text outcome.verdicts) c.of.result
    c.of.ensures c.in_ok-verdicts_name.ensures (c.in_ok-verdicts.ensures ∙ ap verdicts_text c.as_slice-lanes.ensures))
    (file_is (string_bytes c.in_ok-journal_name.field-0) (journal_name out) c.in_ok-journal.journal.items
    (journal_text outcome.journal) c.of-2.result
    c.of-2.ensures c.in_ok-journal_name.ensures (c.in_ok-journal.ensures ∙ ap journal_text c.as_slice.ensures))
    c.in_ok-summary_file.ensures
