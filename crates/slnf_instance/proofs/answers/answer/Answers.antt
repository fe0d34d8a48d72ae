-- the reply is taken
use Rattle.std.proofs.Common.{◌+◌, ◌<◌, ◌∷◌, ◌++◌, [], length, drop, arith, ap, ◌∙◌, sym, subst, inl}
use Rattle.std.proofs.lemmas.List.{drop_all, length-drop}
use Rattle.std.proofs.lemmas.Option.{slice_get_within}
use Rattle.slnf_access.specs.declared.requests.Ask.{Ask}
use Rattle.slnf_access.specs.Map.{CanReply}
use Rattle.slnf_instance.specs.declared.errands.Errand.{Errand}
use Rattle.slnf_run.specs.Jobs.{Job}
use Rattle.slnf_instance.specs.Errands.{job_in, IsErrand}
use Rattle.slnf_instance.specs.Hands.{StandsAfter}
use Rattle.slnf_instance.proofs.Coding.{some_left}
use Rattle.slnf_instance.proofs.Answering.{Landed, asked, ask_at, ask_is, answers, answer_of, ready, hand_stops, hand_lands, landed_works, landed_rests}
use Rattle.slnf_instance.proofs.answers.answer.Goals as goal

pub returns-then-is_last-clause-stands : goal.returns-then-is_last-clause-stands
returns-then-is_last-clause-stands g c own e s is =
    let job : Errand → Job _ = λ errand. job_in (g.T.Items.work c.args.items.now) errand in
    hand_stops (job c.args.hand.now.errand) own c.args.hand.now c.args.reply e s is
    (sym c.is_last.ensures ∙ c.if-is_last.true)

pub returns-then-is_last-clause-sound : goal.returns-then-is_last-clause-sound
returns-then-is_last-clause-sound g c =
    let k = asked c.args.hand.now c.args.reply c.requires.can in
    let sound = c.requires.sound in
    record {
      errand = sound.errand;
      fits = record {
        flights_room = sound.fits.flights_room;
        firsts_room = sound.fits.firsts_room;
        asks_room =
            sound.fits.asks_room;
        given = sound.fits.given;
        from = sound.fits.from;
        inside = sound.fits.inside;
        few =
            sound.fits.few;
      };
      own = sound.own ++ answer_of k.ask c.args.reply ∷ [];
      stands = returns-then-is_last-clause-stands g c sound.own (answer_of k.ask c.args.reply) sound.stands
          (answers c.args.hand.now c.args.reply k);
    }

pub index-ask-requires : goal.index-ask-requires
index-ask-requires g c =
    let hand = c.args.hand.now in
    let k = asked hand c.args.reply c.requires.can in
    let l = slice_get_within hand.asks.items hand.place k.ask (ask_at hand k.ask k.is).1 in
    let len = hand.asks.ok.0 in
    omega (arith, l, len)

pub overflow_sub-number : goal.overflow_sub-number
overflow_sub-number g c =
    let k = asked c.args.hand.now c.args.reply c.requires.can in
    (ready _ c.requires.sound.own c.args.hand.now k.ask c.index-ask.result.now c.requires.sound.stands k.is
    c.index-ask.ensures).from_is

pub overflow_sub-number-2 : goal.overflow_sub-number-2
overflow_sub-number-2 g c =
    let k = asked c.args.hand.now c.args.reply c.requires.can in
    let r = ready _ c.requires.sound.own c.args.hand.now k.ask c.index-ask.result.now c.requires.sound.stands k.is
    c.index-ask.ensures in
    omega (arith, r.from_is, c.requires.sound.fits.from)

pub land-requires-clause-flies : goal.land-requires-clause-flies
land-requires-clause-flies g c =
    let k = asked c.args.hand.now c.args.reply c.requires.can in
    let r = ready _ c.requires.sound.own c.args.hand.now k.ask c.index-ask.result.now c.requires.sound.stands k.is
    c.index-ask.ensures in
    record {
      flight = r.work.turn.each.0.flight;
      there = r.there;
      can = subst (λ request. CanReply request c.args.reply)
          (sym (ap (λ (a : Ask). a.request)
          (ask_is c.args.hand.now k.ask c.index-ask.result.now k.is c.index-ask.ensures))
          ∙ r.work.turn.each.0.request) k.can;
    }

pub land-requires-clause-number : goal.land-requires-clause-number
land-requires-clause-number g c =
    let k = asked c.args.hand.now c.args.reply c.requires.can in
    let r = ready _ c.requires.sound.own c.args.hand.now k.ask c.index-ask.result.now c.requires.sound.stands k.is
    c.index-ask.ensures in
    let fits = c.requires.sound.fits in
    let len = c.args.hand.now.flights.ok.0 in
    omega (arith, r.from_is, r.upto, fits.from, fits.inside, fits.given, len)

pub overflow_add-hand : goal.overflow_add-hand
overflow_add-hand g c =
    let hand = c.args.hand.now in
    let k = asked hand c.args.reply c.requires.can in
    let l = slice_get_within hand.asks.items hand.place k.ask (ask_at hand k.ask k.is).1 in
    let len = hand.asks.ok.0 in
    omega (arith, l, len, hand.asks.small)

pub returns-else-hand-len-clause-stands : goal.returns-else-hand-len-clause-stands
returns-else-hand-len-clause-stands g c own e s is =
    let hand = c.args.hand.now in
    let job = job_in (g.T.Items.work c.args.items.now) hand.errand in
    let fits = c.requires.sound.fits in
    let k = asked hand c.args.reply c.requires.can in
    let r = ready job c.requires.sound.own hand k.ask c.index-ask.result.now c.requires.sound.stands k.is
    c.index-ask.ensures in
    let more = length-drop (hand.place + 1) hand.asks.items in
    let some : 0 < length (drop (hand.place + 1) hand.asks.items) =
    some_left hand.place (length hand.asks.items) _ r.inside
    (λ q. c.if-hand-len.false (omega (arith, q, c.len.ensures, hand.asks.ok.0))) more in
    inl (inl (landed_works job (own ++ e ∷ []) c.one_less-hand.result hand.from c.land.new.flights.items
    (drop (hand.place + 1) hand.asks.items) c.land.new.verdicts.items
    (hand_lands job own hand c.args.reply e c.index-ask.result.now c.one_less-hand.result c.land.new.flights.items
    c.land.new.verdicts.items s is (sym c.is_last.ensures ∙ c.if-is_last.false) c.index-ask.ensures
    c.one_less-hand.ensures c.land.ensures.flights c.land.ensures.verdicts fits.from
    (omega (arith, r.from_is, r.upto, fits.from, fits.inside, fits.given, hand.flights.ok.0, hand.verdicts.ok.0)))
    some))

pub returns-else-hand-len-clause-sound : goal.returns-else-hand-len-clause-sound
returns-else-hand-len-clause-sound g c =
    let k = asked c.args.hand.now c.args.reply c.requires.can in
    let sound = c.requires.sound in
    let fits = sound.fits in
    record {
      errand = sound.errand;
      fits = record {
        flights_room = omega (arith, fits.flights_room, c.land.ensures.flights_room);
        firsts_room = fits.firsts_room;
        asks_room = fits.asks_room;
        given = omega (arith, fits.given, c.land.ensures.verdicts_len);
        from = fits.from;
        inside = omega (arith, fits.inside, c.land.ensures.flights_len);
        few = omega (arith, fits.few, c.land.ensures.flights_len);
      };
      own = sound.own ++ answer_of k.ask c.args.reply ∷ [];
      stands = returns-else-hand-len-clause-stands g c sound.own (answer_of k.ask c.args.reply) sound.stands
          (answers c.args.hand.now c.args.reply k);
    }

pub returns-then-hand-len-clause-stands : goal.returns-then-hand-len-clause-stands
returns-then-hand-len-clause-stands g c own e s is =
    let hand = c.args.hand.now in
    let job = job_in (g.T.Items.work c.args.items.now) hand.errand in
    let fits = c.requires.sound.fits in
    let k = asked hand c.args.reply c.requires.can in
    let r = ready job c.requires.sound.own hand k.ask c.index-ask.result.now c.requires.sound.stands k.is
    c.index-ask.ensures in
    let none = drop_all (hand.place + 1) hand.asks.items
    (omega (arith, c.if-hand-len.true, c.len.ensures, hand.asks.ok.0)) in
    let here = hand_lands job own hand c.args.reply e c.index-ask.result.now c.one_less-hand.result
    c.land.new.flights.items c.land.new.verdicts.items s is (sym c.is_last.ensures ∙ c.if-is_last.false)
    c.index-ask.ensures c.one_less-hand.ensures c.land.ensures.flights c.land.ensures.verdicts fits.from
    (omega (arith, r.from_is, r.upto, fits.from, fits.inside, fits.given, hand.flights.ok.0, hand.verdicts.ok.0)) in
    let done = subst (λ rest. Landed job (own ++ e ∷ []) c.one_less-hand.result hand.from c.land.new.flights.items
    rest c.land.new.verdicts.items) none here in
    inl (c.settle.ensures.goes (own ++ e ∷ []) (done.round + 1) (landed_rests job (own ++ e ∷ []) _ done))

pub returns-then-hand-len-clause-sound : goal.returns-then-hand-len-clause-sound
returns-then-hand-len-clause-sound g c =
    let k = asked c.args.hand.now c.args.reply c.requires.can in
    let sound = c.requires.sound in
    let work = g.T.Items.work c.args.items.now in
    let own = sound.own ++ answer_of k.ask c.args.reply ∷ [] in
    record {
      errand = subst (IsErrand (g.T.Items.work c.args.items.now).count) (sym c.settle.ensures.same.errand)
          sound.errand;
      fits = c.settle.ensures.fits;
      own = own;
      stands =
          subst (λ errand. StandsAfter (job_in work errand) own c.settle.new.hand) (sym c.settle.ensures.same.errand)
          (returns-then-hand-len-clause-stands g c sound.own (answer_of k.ask c.args.reply) sound.stands
          (answers c.args.hand.now c.args.reply k));
    }
