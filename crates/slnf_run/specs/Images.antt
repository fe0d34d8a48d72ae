-- A scene whose flights are cases of another type: a function's own scene within that of any plan.
use Rattle.std.specs.Prelude.{◌≡◌, ℕ, List}
use Rattle.slnf_base.specs.declared.packets.Verdict.{Verdict}
use Rattle.slnf_access.specs.declared.requests.Entry.{Entry}
use Rattle.slnf_access.specs.declared.requests.Reply.{Reply}
use Rattle.slnf_access.specs.Machines.{Machine, Stand, Flies, Ends}
use Rattle.slnf_run.specs.Scene.{Scene}

-- where an item stands, as a case
abbrev pub stand_as : {F G : Type 0} → (F → G) → Stand F → Stand G
stand_as into (Flies flight) = Flies (into flight)
stand_as into (Ends end) = Ends end

-- a machine that goes on a case as the other does
pub record IsImage {F G : Type 0} (into : F → G) (m : Machine F) (n : Machine G) : Type 0 where
  pub asks : (flight : F) → n.asks (into flight) ≡ m.asks flight
  pub goes : (flight : F) (reply : Reply) → n.goes (into flight) reply ≡ stand_as into (m.goes flight reply)
  pub decided : (flight : F) → n.decided (into flight) ≡ m.decided flight

pub record IsSceneImage {F G A : Type 0} (into : F → G) (s : Scene F A) (t : Scene G A) : Type 0 where
  pub machine : (i : ℕ) → IsImage into (s.machine i) (t.machine i)
  pub begins : (i k : ℕ) → t.begins i k ≡ stand_as into (s.begins i k)
  pub place : (es : List Entry) (number : ℕ) (flight : F) (verdict : Verdict) →
      t.place es number (into flight) verdict ≡ s.place es number flight verdict
  pub arrival : (flight : F) (e : Entry) → t.arrival (into flight) e ≡ s.arrival flight e
  pub removals : (e : Entry) → t.removals e ≡ s.removals e
