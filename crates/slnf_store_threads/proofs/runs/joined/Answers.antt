-- one more pass is joined
use Rattle.std.proofs.Common.{◌≡◌, ◌+◌, [], ◌∷◌, length, ap, ◌∙◌, subst, arith, rules, length-append}
use Rattle.std.specs.List.{All}
use Rattle.std.specs.Vec.Iter.{into_iter_items}
use Rattle.std.proofs.lemmas.List.Elements.{All-tail}
use Rattle.slnf_turns.specs.Views.{joined_of}
use Rattle.slnf_turns.specs.declared.views.View.{View}
use Rattle.slnf_store_threads.specs.Callers.{IsCaller}
use Rattle.slnf_store_threads.specs.declared.callers.Report.{Report}
use Rattle.slnf_store_threads.proofs.runs.joined.Goals as goal

pub loop-report-preserved : goal.loop-report-preserved
loop-report-preserved c =
    let P : Report → Type 0 = λ report. IsCaller c.args.store.now report.pass in
    let now = c.loop-report.invariant in
    let rest = into_iter_items c.next.new.self in
    let all : All P (c.in-Some.report ∷ rest) = subst (All P) c.in-Some.ensures.steps.0 now.callers in
    let tail : All P rest = All-tail P c.in-Some.report rest all in
    let left : length (into_iter_items c.loop-report.report-iterator) ≡ length rest + 1 =
    (let e = ap length c.in-Some.ensures.steps.0 in omega arith) in
    let old = c.loop-report.root.known.joined in
    let more : length c.join.new.root.known.joined ≡ length old + 1 =
    ap (λ (v : View). length v.joined) c.join.ensures.root ∙ length-append old (joined_of c.in-Some.report.pass.known ∷ []) in
    let joined : length c.join.new.root.known.joined + length rest ≡ length c.args.reports.items =
    (let e = now.joined in omega arith) in
    search rules
