-- one turn more of a round
use Rattle.std.proofs.Common.{◌≡◌, ◌<◌, ◌≤◌, ◌*◌, ◌^◌, ◌∙◌, ℕ, List, Some, length, slice_get, refl, sym, subst, arith}
use Rattle.std.proofs.lemmas.Option.{slice_get_read}
use Rattle.slnf_shards.specs.Shards.{spent}
use Rattle.slnf_orch.specs.Actors.{AreLeft, IsIdleAt, at_work, IsTurnAt}
use Rattle.slnf_orch.proofs.Live.{left_inside, left_still, left_without}
use Rattle.slnf_orch.proofs.Rounds.{spends_more, round-first, round-next, round-without, round-last}
use Rattle.slnf_orch.proofs.turns.round.Goals as goal

pub turn_at-requires-clause-there : goal.turn_at-requires-clause-there
turn_at-requires-clause-there g c =
    left_inside (IsIdleAt c.loop-place.instances.items) (length c.loop-place.instances.items) c.loop-place.live.items
    c.loop-place.place c.index.result.now c.loop-place.invariant.live
    (slice_get_read c.loop-place.live.items (length c.loop-place.live.items) c.loop-place.place c.index.result.now refl
    (omega (arith, c.loop-place-test.true, c.len.ensures)) c.index.ensures)

pub loop-place-init : goal.loop-place-init
loop-place-init g c = record {
  place = omega arith;
  room = c.requires.room;
  clocks = refl;
  instances = refl;
  count = refl;
  live = c.requires.live;
  fewer = omega arith;
  kept = λ _. refl;
  spends = λ l. absurd (omega arith);
  most = λ l. absurd (omega arith);
  turned = λ stage m h left. round-first g.T.Items.work stage m _ _ h left;
}

pub loop-place-preserved-then-branch : goal.loop-place-preserved-then-branch
loop-place-preserved-then-branch g c =
    let moved = c.in_ok-turn_at.ensures in
    let so_far = c.loop-place.invariant in
    let live : List ℕ = c.loop-place.live.items in
    let number : ℕ = c.index.result.now in
    let at : slice_get live c.loop-place.place ≡ Some number =
    slice_get_read live (length live) c.loop-place.place number refl
    (omega (arith, c.loop-place-test.true, c.len.ensures)) c.index.ensures in
    record {
      place = omega (arith, c.loop-place-test.true, c.len.ensures);
      room = moved.room;
      clocks = moved.clocks ∙ so_far.clocks;
      instances = moved.instances ∙ so_far.instances;
      count = moved.count ∙ so_far.count;
      live = subst (λ n. AreLeft (IsIdleAt c.turn_at.new.instances.items) 0 n live) (sym moved.instances)
          (left_still (IsIdleAt c.loop-place.instances.items) (IsIdleAt c.turn_at.new.instances.items) 0
          (length c.loop-place.instances.items) live c.loop-place.place number at moved.others so_far.live);
      fewer = so_far.fewer;
      kept = λ none. absurd (omega arith);
      spends = λ _. spends_more c.args.shards.now c.loop-place.shards c.turn_at.new.shards c.loop-place.place
          so_far.kept so_far.spends (moved.spends c.if-branch.true);
      most = λ _. moved.most c.if-branch.true;
      turned = λ stage m h left.
          round-next g.T.Items.work stage m c.loop-place.place number live _ _ at (so_far.turned stage m h left)
          (λ list stands.
          subst (IsTurnAt g.T.Items.work stage list number
          (at_work c.args.base c.turn_at.new.shards c.turn_at.new.instances.items c.turn_at.new.clocks.items))
          c.if-branch.true (moved.turned stage list stands));
    }

pub loop-place-preserved : goal.loop-place-preserved
loop-place-preserved g c =
    let moved = c.in_ok-turn_at.ensures in
    let so_far = c.loop-place.invariant in
    let live : List ℕ = c.loop-place.live.items in
    let number : ℕ = c.index.result.now in
    let at : slice_get live c.loop-place.place ≡ Some number =
    slice_get_read live (length live) c.loop-place.place number refl
    (omega (arith, c.loop-place-test.true, c.len.ensures)) c.index.ensures in
    let still : AreLeft (IsIdleAt c.turn_at.new.instances.items) 0 (length c.turn_at.new.instances.items) live =
    subst (λ n. AreLeft (IsIdleAt c.turn_at.new.instances.items) 0 n live) (sym moved.instances)
    (left_still (IsIdleAt c.loop-place.instances.items) (IsIdleAt c.turn_at.new.instances.items) 0
    (length c.loop-place.instances.items) live c.loop-place.place number at moved.others so_far.live) in
    record {
      place = omega (arith, c.loop-place-test.true, c.len.ensures, c.remove.ensures.len);
      room = moved.room;
      clocks = moved.clocks ∙ so_far.clocks;
      instances = moved.instances ∙ so_far.instances;
      count = moved.count ∙ so_far.count;
      live = subst (AreLeft (IsIdleAt c.turn_at.new.instances.items) 0 (length c.turn_at.new.instances.items))
          (sym c.remove.ensures.items)
          (left_without (IsIdleAt c.turn_at.new.instances.items) 0 (length c.turn_at.new.instances.items) live
          c.loop-place.place number at (moved.idle c.if-branch.false) still);
      fewer = omega (arith, c.remove.ensures.len, so_far.fewer);
      kept = λ none. moved.kept c.if-branch.false ∙ so_far.kept none;
      spends = λ some. subst (λ s. spent c.args.shards.now < spent s) (sym (moved.kept c.if-branch.false))
          (so_far.spends some);
      most = λ some. subst (λ s. spent s ≤ length s * 2 ^ 62) (sym (moved.kept c.if-branch.false)) (so_far.most some);
      turned = λ stage m h left.
          round-without g.T.Items.work stage m c.loop-place.place number live _ _ at (so_far.turned stage m h left)
          c.remove.new.self.items c.remove.ensures.items
          (λ list stands.
          subst (IsTurnAt g.T.Items.work stage list number
          (at_work c.args.base c.turn_at.new.shards c.turn_at.new.instances.items c.turn_at.new.clocks.items))
          c.if-branch.false (moved.turned stage list stands));
    }

pub returns-clause-turned : goal.returns-clause-turned
returns-clause-turned g c stage m h left =
    round-last g.T.Items.work stage m c.loop-place.place c.loop-place.live.items _ (omega arith)
    (c.loop-place.invariant.turned stage m h left)
