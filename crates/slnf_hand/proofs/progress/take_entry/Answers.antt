-- the entry is asked for, or not
use Rattle.std.proofs.Common.{◌≡◌, Some, false, arith, refl, sym, ap, subst, ◌∙◌}
use Rattle.std.proofs.lemmas.Option.{slice_get-get_or}
use Rattle.slnf_access.specs.Map.{CanReply}
use Rattle.slnf_instance.specs.Errands.{job_in}
use Rattle.slnf_hand.specs.Progress.{reached}
use Rattle.slnf_hand.proofs.Taking.{place_some, place_none, asked_expects, expects_asked, outside_unexpected, spent_expects, entry_taken, flight_of}
use Rattle.slnf_hand.proofs.progress.take_entry.Goals as goal

pub returns-then-is_spent-clause-expects : goal.returns-then-is_spent-clause-expects
returns-then-is_spent-clause-expects g c held holds =
    let progress = c.args.progress.now in
    let job = job_in (g.T.Items.work c.args.items.now) progress.errand in (
      λ k. absurd (cc),
      λ x. absurd (spent_expects job held (reached progress) c.args.entry.now holds
          (sym c.is_spent.ensures ∙ c.if-is_spent.true) x),
    )

pub returns-then-not-asks_for-clause-expects : goal.returns-then-not-asks_for-clause-expects
returns-then-not-asks_for-clause-expects g c held holds =
    let progress = c.args.progress.now in
    let job = job_in (g.T.Items.work c.args.items.now) progress.errand in
    let e = c.args.entry.now in
    let len = progress.flights.ok.0 in
    let p = place_some progress.from c.len.result e.item c.in-Some.place (sym c.place_in.ensures ∙ c.in-Some.is) in
    let at = slice_get-get_or progress.flights.items c.in-Some.place c.index.result.now
    (omega (arith, p.1, c.len.ensures, len)) ∙ ap Some (sym c.index.ensures) in
    let no : c.asks_for.result ≡ false = c.if-not-asks_for.true in (
      λ k. absurd (cc),
      λ x.
          let yes = c.asks_for.ensures.1 (expects_asked job held (reached progress) e c.in-Some.place c.index.result.now
          holds (sym c.is_spent.ensures ∙ c.if-is_spent.false) p.0 at x) in absurd (cc),
    )

pub land-requires : goal.land-requires
land-requires g c =
    let progress = c.args.progress.now in
    let e = c.args.entry.now in
    let len = progress.flights.ok.0 in
    let p = place_some progress.from c.len.result e.item c.in-Some.place (sym c.place_in.ensures ∙ c.in-Some.is) in
    let at = slice_get-get_or progress.flights.items c.in-Some.place c.index.result.now
    (omega (arith, p.1, c.len.ensures, len)) ∙ ap Some (sym c.index.ensures) in
    let f = flight_of (g.T.Items.work c.args.items.now).machine.asks c.index.result.now e.request
    (c.asks_for.ensures.0 c.if-not-asks_for.false) in
    record {
      flies = record {
        flight = f.0;
        there = at ∙ ap Some f.1;
        can = subst (λ r. CanReply r e.reply) f.2 c.requires.can;
      };
    }

pub returns-in-None-clause-expects : goal.returns-in-None-clause-expects
returns-in-None-clause-expects g c held holds =
    let progress = c.args.progress.now in
    let job = job_in (g.T.Items.work c.args.items.now) progress.errand in
    let e = c.args.entry.now in
    let len = progress.flights.ok.0 in
    let none = place_none progress.from c.len.result e.item (sym c.place_in.ensures ∙ c.in-None.is) in (
      λ k. absurd (cc),
      λ x. absurd (outside_unexpected job held (reached progress) e holds
          (sym c.is_spent.ensures ∙ c.if-is_spent.false) (λ l u. none l (omega (arith, u, c.len.ensures, len))) x),
    )

pub returns-else-not-asks_for-clause-expects : goal.returns-else-not-asks_for-clause-expects
returns-else-not-asks_for-clause-expects g c held holds =
    let progress = c.args.progress.now in
    let job = job_in (g.T.Items.work c.args.items.now) progress.errand in
    let e = c.args.entry.now in
    let len = progress.flights.ok.0 in
    let p = place_some progress.from c.len.result e.item c.in-Some.place (sym c.place_in.ensures ∙ c.in-Some.is) in
    let at = slice_get-get_or progress.flights.items c.in-Some.place c.index.result.now
    (omega (arith, p.1, c.len.ensures, len)) ∙ ap Some (sym c.index.ensures) in (
      λ k. asked_expects job held (reached progress) e c.in-Some.place c.index.result.now holds
          (sym c.is_spent.ensures ∙ c.if-is_spent.false) p.0 at (c.asks_for.ensures.0 c.if-not-asks_for.false),
      λ x. refl,
    )

pub returns-else-not-asks_for-clause-next : goal.returns-else-not-asks_for-clause-next
returns-else-not-asks_for-clause-next g c held holds taken =
    let progress = c.args.progress.now in
    let job = job_in (g.T.Items.work c.args.items.now) progress.errand in
    let e = c.args.entry.now in
    let len = progress.flights.ok.0 in
    let p = place_some progress.from c.len.result e.item c.in-Some.place (sym c.place_in.ensures ∙ c.in-Some.is) in
    let at = slice_get-get_or progress.flights.items c.in-Some.place c.index.result.now
    (omega (arith, p.1, c.len.ensures, len)) ∙ ap Some (sym c.index.ensures) in
    let f = flight_of (g.T.Items.work c.args.items.now).machine.asks c.index.result.now e.request
    (c.asks_for.ensures.0 c.if-not-asks_for.false) in
    let there = at ∙ ap Some f.1 in
    entry_taken job held (reached progress)
    (record {
      left = progress.left;
      through = progress.through;
      from = progress.from;
      flights = c.land.new.flights.items;
    })
    (reached c.settle.new.progress) e c.in-Some.place f.0 holds (sym c.is_spent.ensures ∙ c.if-is_spent.false) p.0 there
    refl refl (c.land.ensures.flights f.0 there) c.settle.ensures.settled
