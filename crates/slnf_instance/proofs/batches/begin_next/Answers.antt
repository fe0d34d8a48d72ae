-- one item more is taken
use Rattle.std.proofs.Common.{◌≡◌, ◌+◌, [], length, arith, ap, sym, ◌∙◌}
use Rattle.slnf_batch.specs.Firsts.{number_of, keys_after}
use Rattle.slnf_run.specs.Jobs.{first_key_of, joins}
use Rattle.slnf_instance.specs.Works.{flight_at}
use Rattle.slnf_instance.specs.Errands.{job_in}
use Rattle.slnf_instance.proofs.Coding.{pushed}
use Rattle.slnf_instance.proofs.Taking.{taking_more, apart_below}
use Rattle.slnf_instance.proofs.batches.begin_next.Goals as goal

pub returns-clause-taking : goal.returns-clause-taking
returns-clause-taking g c =
    let work = g.T.Items.work c.args.items.now in
    let job = job_in work c.args.errand.now in
    let firsts = c.args.firsts.now.items in
    let from = c.args.from in
    let h = c.requires.taking in
    let len = c.args.flights.now.ok.0 in
    let n = length firsts in
    let same : c.len.result ≡ n = omega (arith, c.len.ensures, len, h.count) in
    let stand = c.begin-standing.ensures ∙ ap (λ k. work.begins (from + k)) same in
    let room = apart_below n job.batch h.few
    (λ q. c.if-len-errand.false (omega (arith, q, c.len-2.ensures, len, h.count))) in
    let inside = apart_below (from + n) (job.at + job.count) h.inside
    (λ q. c.if-number-errand.false (omega (arith, q, same, c.requires.errand.end))) in
    let new = sym (ap (λ ks. joins job.batch (length ks) (keys_after [] ks) (number_of c.first_key-first.result))
    c.as_slice.ensures.value)
    ∙ (sym (c.joins.ensures.joins job.batch (omega (arith, room, ap length c.as_slice.ensures.value)))
    ∙ c.if-not-joins.false) in
    taking_more job from c.args.flights.now.items c.push-2.new.self.items firsts c.push.new.self.items
    c.first_flight.result c.first_key-first.result h room inside
    (c.first_key-first.ensures ∙ ap (first_key_of work.machine) stand) new (c.first_flight.ensures ∙ ap flight_at stand)
    (pushed _ _ _ _ _ c.push-2.ensures.items c.unwrap-2.ensures)
    (pushed _ _ _ _ _ c.push.ensures.items c.unwrap.ensures)
