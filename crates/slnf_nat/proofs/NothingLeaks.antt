-- Nothing leaks in a run: all of it.
use Rattle.std.proofs.Common.{◌≡◌, inl, inr, ℕ, ◌+◌, ◌<◌, ◌≤◌, false, Some, List, ◌∷◌, ◌++◌, length, take, slice_get, ap, sym, ◌∙◌, subst, arith}
use Rattle.std.proofs.lemmas.Option.{same_Some}
use Rattle.slnf_base.specs.declared.addresses.Pair.{Pair}
use Rattle.slnf_base.specs.declared.packets.Proto.{Proto}
use Rattle.slnf_access.specs.declared.requests.Entry.{Entry}
use Rattle.slnf_access.specs.Map.{empty, map_after}
use Rattle.slnf_access.specs.Machines.{Stand, Flies}
use Rattle.slnf_base.specs.Ranges.{IsPair}
use Rattle.slnf_run.specs.Run.{IsRun}
use Rattle.slnf_run.specs.Parts.{part_of, is_stopped, Post, posts_of}
use Rattle.slnf_run.specs.Setting.{Era, Setting, era_of, base_of, own_base}
use Rattle.slnf_box.specs.Nat.{Nat}
use Rattle.slnf_box.specs.NatBox.{NatArrival}
use Rattle.slnf_nat.specs.Flights.{NatFlight, Out, In, SweepPort, Sweep, first_of}
use Rattle.slnf_nat.specs.Given.{IsNat, IsRanged, IsNatList}
use Rattle.slnf_nat.specs.Leaks.{IsThrough, IsOneToOne}
use Rattle.slnf_nat.specs.LeaksNothing.{IsSweepAt, IsFinishedAt, IsSweepItem, IsNatSetting, LeaksNothing}
use Rattle.slnf_nat.proofs.Nexts.{IsNextOf, next_of}
use Rattle.slnf_nat.proofs.Leaks as leaks
use Rattle.slnf_nat.proofs.LeaksOfRun.{nat_list_of_image, below_next, has_swept, run_tidy, run_through}
use Rattle.slnf_nat.proofs.Bases.{base_of-below}
use Rattle.slnf_nat.proofs.Settling.{settles}

module _ {G : Type 0} (s : Setting G NatArrival) (into : NatFlight → G) (nat : Nat) (is_nat : IsNat nat) (begins : ℕ
    → ℕ → Stand NatFlight) (es : List Entry) (is : IsNatSetting s into nat begins es) (run : IsRun s es) where
  given : IsNatList nat (own_base s.eras) begins es
  given = nat_list_of_image s into nat begins es is.image is.firsts is.ranges run

  -- how the item of a sweep's entry began
  began : (before later : List Entry) (e : Entry) → es ≡ before ++ e ∷ later → IsSweepAt s es e.incarnation
      → (proto : Proto) × (port : Pair) × IsPair port
      × (begins e.incarnation e.item ≡ Flies (Sweep SweepPort proto port (own_base s.eras e.incarnation)))
  began before later e split at_sweep = go (first_of r.0) r.1.began
    where
      r : (flight : NatFlight) × IsNextOf nat (own_base s.eras) begins before e flight
      r = next_of nat is_nat (own_base s.eras) begins es given before later e split

      go : (first : NatFlight) → begins e.incarnation e.item ≡ Flies first
          → (proto : Proto) × (port : Pair) × IsPair port
          × (begins e.incarnation e.item ≡ Flies (Sweep SweepPort proto port (own_base s.eras e.incarnation)))
      go (Out state i packet) w = absurd (subst IsSweepItem w (is.sweeps e.incarnation e.item at_sweep))
      go (In state packet) w = absurd (subst IsSweepItem w (is.sweeps e.incarnation e.item at_sweep))
      go (Sweep state proto port base) w =
          let ranged : IsRanged nat (own_base s.eras) e.incarnation (Sweep state proto port base) =
          is.ranges e.incarnation e.item (Sweep state proto port base) w in (
            proto,
            port,
            ranged.0,
            w
                ∙ ap (λ f. Flies f) (sym (is.firsts e.incarnation e.item (Sweep state proto port base) w))
                ∙ ap (λ b. Flies (Sweep SweepPort proto port b)) ranged.1,
          )

  -- An epoch of which no actor is stopped.
  all_settled : (i t : ℕ) (era : Era) → IsFinishedAt s es i → IsThrough (era_of s.eras) (era_of s.eras i) es t
      → slice_get s.eras (era_of s.eras i) ≡ Some era
      → ((j : ℕ) (post : Post) → slice_get (posts_of s es) j ≡ Some post
      → era_of s.eras j ≡ era_of s.eras i → is_stopped post.actor (part_of j es) ≡ false)
      → IsOneToOne nat (map_after empty (take t es))
  all_settled i t era done through own running =
      leaks.one_to_one nat is_nat (own_base s.eras) begins es given t (own_base s.eras i) through.size
      (has_swept s into nat is_nat begins es is.image is.firsts is.ranges
      run i done.sweep.post done.sweep.posted done.sweep.no_lane done.finished (is.covers i done.sweep) t through)
      (settles s into nat begins es is run (era_of s.eras i) t era own through running)

  -- The sweep is the one actor of an epoch that has one.
  only : (i j : ℕ) (era : Era) → slice_get s.eras (era_of s.eras i) ≡ Some era → length era.actors ≡ 1
      → era_of s.eras j ≡ era_of s.eras i → j ≡ i
  only i j era own single same =
      let low : own_base s.eras i ≤ i = base_of-below s.eras i in
      let low_j : own_base s.eras j ≤ j = base_of-below s.eras j in
      let base : own_base s.eras j ≡ own_base s.eras i = ap (base_of s.eras) same in
      let high : i < own_base s.eras i + length era.actors = below_next s.eras (era_of s.eras i) i era own low (omega arith) in
      let high_j : j < own_base s.eras i + length era.actors =
      below_next s.eras (era_of s.eras i) j era own (omega arith) (omega arith) in
      omega (arith, low, low_j, base, high, high_j)

  pub nothing_leaks : LeaksNothing nat (λ cells. cells) s es
  nothing_leaks = record {
    through = λ i. run_through s into nat is_nat begins es is.image is.firsts is.ranges run (era_of s.eras i);
    tidy = λ i t done through. run_tidy s into nat is_nat begins es is.image is.firsts is.ranges
        run i done.sweep.post done.sweep.posted done.sweep.no_lane done.finished (is.covers i done.sweep) t through;
    alone = λ i t era done through own single.
        all_settled i t era done through own (λ j post at same.
        let self : j ≡ i = only i j era own single same in
        let one : post ≡ done.sweep.post =
        same_Some post done.sweep.post (sym at ∙ ap (slice_get (posts_of s es)) self ∙ done.sweep.posted) in
        ap (λ (q : Post). is_stopped q.actor (part_of j es)) one
        ∙ ap (λ n. is_stopped done.sweep.post.actor (part_of n es)) self ∙ done.finished);
    settled = all_settled;
    backed = leaks.backed nat is_nat (own_base s.eras) begins es given;
    careful = λ before later e split at_sweep key.
        let r = began before later e split at_sweep in
        elim (leaks.careful nat is_nat (own_base s.eras) begins es given before later e r.0 r.1
        (own_base s.eras e.incarnation) split r.3 key) [
          | inl same ↦ inl same
          | inr taken ↦ inr (r.0, r.1, r.2, taken.0, taken.1)
        ];
    own = λ before later e split at_sweep proto port claim there same.
        let r = began before later e split at_sweep in
        leaks.own_stays nat is_nat (own_base s.eras) begins es given before later e r.0 r.1
        (own_base s.eras e.incarnation) split r.3 proto port claim there (ap (base_of s.eras) same);
  }
