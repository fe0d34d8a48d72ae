-- one round more
use Rattle.std.proofs.Common.{◌∙◌, ◌≡◌, length, vec_len, refl, sym, ap, subst, arith}
use Rattle.std.specs.List.{range_with_len}
use Rattle.slnf_orch.specs.Actors.{AreLeft, IsIdleAt, at_work}
use Rattle.slnf_orch.proofs.Live.{all_left}
use Rattle.slnf_orch.proofs.Rounds.{none_at_end, all_idle, gone-first, gone-next, gone-last}
use Rattle.slnf_orch.proofs.turns.rounds.Goals as goal

pub loop-shards-init : goal.loop-shards-init
loop-shards-init g c =
    let all : c.in_ok-live.live.items ≡ range_with_len 0 (length c.args.instances.now.items) =
    c.in_ok-live.ensures ∙ ap (range_with_len 0) (omega (arith, c.len.ensures, c.args.instances.now.ok)) in
    record {
      room = c.requires.room;
      clocks = refl;
      instances = refl;
      count = refl;
      live = subst (AreLeft (IsIdleAt c.args.instances.now.items) 0 (length c.args.instances.now.items)) (sym all)
          (all_left (IsIdleAt c.args.instances.now.items) 0 (length c.args.instances.now.items));
      turned = λ stage m h. gone-first g.T.Items.work stage m c.in_ok-live.live.items
          (at_work c.args.base c.args.shards.now c.args.instances.now.items c.args.clocks.now.items) all h;
    }

pub loop-shards-preserved : goal.loop-shards-preserved
loop-shards-preserved g c =
    let now = c.in_ok-round.ensures in
    record {
      room = now.room;
      clocks = now.clocks ∙ c.loop-shards.invariant.clocks;
      instances = now.instances ∙ c.loop-shards.invariant.instances;
      count = now.count ∙ c.loop-shards.invariant.count;
      live = now.live;
      turned = λ stage m h.
          gone-next g.T.Items.work stage m _ _ _ _ (c.loop-shards.invariant.turned stage m h) (now.turned stage);
    }

pub returns-clause-idle : goal.returns-clause-idle
returns-clause-idle g c =
    all_idle c.loop-shards.instances.items
    (subst (AreLeft (IsIdleAt c.loop-shards.instances.items) 0 (length c.loop-shards.instances.items))
    (none_at_end c.loop-shards.live.items (vec_len c.loop-shards.live) c.is_empty.result
    (omega (arith, c.loop-shards.live.ok)) c.is_empty.ensures c.loop-shards-test.false) c.loop-shards.invariant.live)

pub returns-clause-done : goal.returns-clause-done
returns-clause-done g c stage m h =
    gone-last g.T.Items.work stage m c.loop-shards.live.items _
    (none_at_end c.loop-shards.live.items (vec_len c.loop-shards.live) c.is_empty.result
    (omega (arith, c.loop-shards.live.ok)) c.is_empty.ensures c.loop-shards-test.false)
    (c.loop-shards.invariant.turned stage m h)
