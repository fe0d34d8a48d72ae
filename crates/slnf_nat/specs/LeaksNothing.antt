-- Nothing leaks in a run: the whole statement, over a setting whose boxes see what the NAT's sees.
use Rattle.std.specs.Prelude.{◌≡◌, ◌⊎◌, ℕ, ◌≤◌, false, Some, None, List, [], ◌∷◌, ◌++◌, length, take, slice_get}
use Rattle.slnf_base.specs.declared.addresses.Pair.{Pair}
use Rattle.slnf_base.specs.declared.packets.Proto.{Proto}
use Rattle.slnf_access.specs.declared.requests.Entry.{Entry}
use Rattle.slnf_access.specs.Map.{Cells, empty, map_after}
use Rattle.slnf_access.specs.Machines.{Stand, Flies, Ends}
use Rattle.slnf_keys.specs.declared.values.Claim.{Claim}
use Rattle.slnf_base.specs.Ranges.{IsPair}
use Rattle.slnf_run.specs.Setting.{Era, Setting, era_of, own_base}
use Rattle.slnf_run.specs.Parts.{part_of, is_stopped, Post, posts_of}
use Rattle.slnf_run.specs.Images.{IsSceneImage}
use Rattle.slnf_box.specs.Nat.{Nat}
use Rattle.slnf_box.specs.NatBox.{NatArrival}
use Rattle.slnf_nat.specs.Flights.{NatFlight, Out, In, Sweep, first_of}
use Rattle.slnf_nat.specs.Machine.{port_key}
use Rattle.slnf_nat.specs.NatScene.{nat_scene}
use Rattle.slnf_nat.specs.Given.{IsRanged}
use Rattle.slnf_nat.specs.Leaks.{IsSweepOf, IsThrough, IsTidy, IsBacked, HasClaim, IsSweptAway, IsOneToOne}

-- an incarnation is a sweep
pub record IsSweepAt {G A : Type 0} (s : Setting G A) (es : List Entry) (i : ℕ) : Type 0 where
  pub post : Post
  pub posted : slice_get (posts_of s es) i ≡ Some post
  pub no_lane : post.actor.lane ≡ None

-- a sweep that isn't stopped
pub record IsFinishedAt {G A : Type 0} (s : Setting G A) (es : List Entry) (i : ℕ) : Type 0 where
  pub sweep : IsSweepAt s es i
  pub finished : is_stopped sweep.post.actor (part_of i es) ≡ false

-- an item of a sweep
abbrev pub IsSweepItem : Stand NatFlight → Type 0
IsSweepItem (Flies (Out state incarnation packet)) = ⊥
IsSweepItem (Flies (In state packet)) = ⊥
IsSweepItem (Flies (Sweep state proto port base)) = Unit {0}
IsSweepItem (Ends end) = Unit {0}

-- What is asked of a setting: the items of its actors are the NAT's, and those of a sweep the ports of the pool.
pub record IsNatSetting {G : Type 0} (s : Setting G NatArrival) (into : NatFlight → G) (nat : Nat)
    (begins : ℕ → ℕ → Stand NatFlight) (es : List Entry) : Type 0 where
  pub image : IsSceneImage into (nat_scene nat begins) s.scene
  pub firsts : (i k : ℕ) (flight : NatFlight) → begins i k ≡ Flies flight → first_of flight ≡ flight
  pub ranges : (i k : ℕ) (flight : NatFlight) → begins i k ≡ Flies flight → IsRanged nat (own_base s.eras) i flight
  pub covers : (i : ℕ) → IsSweepAt s es i → IsSweepOf nat begins s.sweep_items i (own_base s.eras i)
  pub sweeps : (i k : ℕ) → IsSweepAt s es i → IsSweepItem (begins i k)

-- `view` says where in the store's map the NAT's keys stand.
pub record LeaksNothing {G A : Type 0} (nat : Nat) (view : Cells → Cells) (s : Setting G A)
    (es : List Entry) : Type 0 where
  -- The entries of the epochs up to any one are a front of the list.
  pub through : (i : ℕ) → (t : ℕ) × IsThrough (era_of s.eras) (era_of s.eras i) es t
  -- After the entries of an epoch whose sweep isn't stopped, each claim of an incarnation below its base has its flow's
  -- record, which names the claim's port.
  pub tidy : (i t : ℕ) → IsFinishedAt s es i → IsThrough (era_of s.eras) (era_of s.eras i) es t
      → IsTidy nat (view (map_after empty (take t es))) (own_base s.eras i)
  -- After such an epoch without instances, claims and live flows correspond one to one.
  pub alone : (i t : ℕ) (era : Era) → IsFinishedAt s es i → IsThrough (era_of s.eras) (era_of s.eras i) es t
      → slice_get s.eras (era_of s.eras i) ≡ Some era → length era.actors ≡ 1
      → IsOneToOne nat (view (map_after empty (take t es)))
  -- And so they do after an epoch with instances of which no actor is stopped.
  pub settled : (i t : ℕ) (era : Era) → IsFinishedAt s es i → IsThrough (era_of s.eras) (era_of s.eras i) es t
      → slice_get s.eras (era_of s.eras i) ≡ Some era
      → ((j : ℕ) (post : Post) → slice_get (posts_of s es) j ≡ Some post → era_of s.eras j
      ≡ era_of s.eras i → is_stopped post.actor (part_of j es) ≡ false)
      → IsOneToOne nat (view (map_after empty (take t es)))
  -- At every t each live flow's port has a claim with that flow's inside pair.
  pub backed : (t : ℕ) → t ≤ length es → IsBacked nat (view (map_after empty (take t es)))
  -- A sweep's entry leaves each key, or takes a claim away of an incarnation below its base, whose port no live flow names.
  pub careful : (before later : List Entry) (e : Entry) → es ≡ before ++ e ∷ later → IsSweepAt s es e.incarnation
      → (key : ℕ)
      → (view (map_after empty (before ++ e ∷ [])) key ≡ view (map_after empty before) key) ⊎
      ((proto : Proto) × (port : Pair) × IsPair port × (key ≡ port_key proto port)
      × IsSweptAway (view (map_after empty before)) (view (map_after empty (before ++ e ∷ []))) proto port
      (own_base s.eras e.incarnation))
  -- So no sweep takes a claim away of its own epoch's instances.
  pub own : (before later : List Entry) (e : Entry) → es ≡ before ++ e ∷ later → IsSweepAt s es e.incarnation
      → (proto : Proto) (port : Pair) (claim : Claim) → HasClaim (view (map_after empty before)) proto port claim
      → era_of s.eras claim.incarnation ≡ era_of s.eras e.incarnation → view (map_after empty (before ++ e ∷ []))
      (port_key proto port) ≡ view (map_after empty before) (port_key proto port)
