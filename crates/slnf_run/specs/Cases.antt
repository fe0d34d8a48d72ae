-- A function's flights and arrivals as a case of those of all functions: its machine, its scene and its box there.
use Rattle.std.specs.Prelude.{◌≡◌, ℕ, Option, Some, None, List, map}
use Rattle.slnf_base.specs.declared.packets.Verdict.{Verdict}
use Rattle.slnf_base.specs.declared.packets.Verdict.TheVariants.{Lost}
use Rattle.slnf_access.specs.declared.requests.Entry.{Entry}
use Rattle.slnf_access.specs.declared.requests.Request.{Request}
use Rattle.slnf_access.specs.declared.requests.Request.TheVariants.{Read}
use Rattle.slnf_access.specs.declared.requests.Reply.{Reply}
use Rattle.slnf_access.specs.declared.functions.Start.{Start}
use Rattle.slnf_access.specs.declared.functions.Start.TheVariants.{Go as StartGo, Over as StartOver}
use Rattle.slnf_access.specs.Machines.{Machine, Stand, Ends}
use Rattle.slnf_run.specs.Scene.{Scene}
use Rattle.slnf_run.specs.Boxes.{Box}
use Rattle.slnf_run.specs.Images.{stand_as}
use Rattle.slnf_run.specs.Setting.{Setting}

-- How F is a case of G, and A of B: a flight of F in G and back, and an arrival of A in B and back. `blank` is what
-- is seen of another case's flight.
pub record Case (F G A B : Type 0) : Type 0 where
  pub into : F → G
  pub own : G → Option F
  pub own_into : (flight : F) → own (into flight) ≡ Some flight
  pub seen : A → B
  pub view : B → A
  pub view_seen : (arrival : A) → view (seen arrival) ≡ arrival
  pub blank : B

-- another case's flight reads key 0
abbrev pub stray_request : Request
stray_request = Read (record { 0 = 0 })

-- what a flight asks for, if it is one of the case
abbrev pub case_asks : {F : Type 0} → Machine F → Option F → Request
case_asks m None = stray_request
case_asks m (Some flight) = m.asks flight

-- how it goes on; another case's flight is lost
abbrev pub case_goes : {F G : Type 0} → (F → G) → Machine F → Option F → Reply → Stand G
case_goes into m None reply = Ends (Some Lost)
case_goes into m (Some flight) reply = stand_as into (m.goes flight reply)

-- what it has decided; another case's flight has decided nothing
abbrev pub case_decided : {F : Type 0} → Machine F → Option F → Option Verdict
case_decided m None = None
case_decided m (Some flight) = m.decided flight

-- how a packet starts, as one of a case
abbrev pub start_as : {F G : Type 0} → (F → G) → Start F → Start G
start_as into (StartGo flight) = StartGo (into flight)
start_as into (StartOver reason) = StartOver reason

-- the machine of a case
abbrev pub case_machine : {F G A B : Type 0} → Case F G A B → Machine F → Machine G
case_machine c m = record {
  asks = λ flight. case_asks m (c.own flight);
  goes = λ flight reply. case_goes c.into m (c.own flight) reply;
  decided = λ flight. case_decided m (c.own flight);
}

-- the place of a packet that begins so; another case's has its deciding entry
abbrev pub case_place : {F A : Type 0} → Scene F A → List Entry → ℕ → Option F → Verdict → ℕ
case_place s es number None verdict = number
case_place s es number (Some first) verdict = s.place es number first verdict

-- what is seen of it
abbrev pub case_arrival : {F G A B : Type 0} → Case F G A B → Scene F A → Option F → Entry → B
case_arrival c s None e = c.blank
case_arrival c s (Some first) e = c.seen (s.arrival first e)

-- the scene of a case
abbrev pub case_scene : {F G A B : Type 0} → Case F G A B → Scene F A → Scene G B
case_scene c s = record {
  machine = λ incarnation. case_machine c (s.machine incarnation);
  begins = λ incarnation number. stand_as c.into (s.begins incarnation number);
  place = λ es number first verdict. case_place s es number (c.own first) verdict;
  arrival = λ first e. case_arrival c s (c.own first) e;
  removals = λ e. map c.seen (s.removals e);
}

-- the same setting, with the scene of a case
abbrev pub case_setting : {F G A B : Type 0} → Case F G A B → Setting F A → Setting G B
case_setting c s = record {
  shards = s.shards;
  batch = s.batch;
  lanes = s.lanes;
  sweep_items = s.sweep_items;
  eras = s.eras;
  scene = case_scene c s.scene;
}

-- a scene of which one sees only this
abbrev pub viewed : {G A B : Type 0} → (B → A) → Scene G B → Scene G A
viewed view t = record {
  machine = t.machine;
  begins = t.begins;
  place = t.place;
  arrival = λ first e. view (t.arrival first e);
  removals = λ e. map view (t.removals e);
}

-- a box that looks at no more than this of an arrival
abbrev pub box_through : {A B C : Type 0} → (B → A) → Box A C → Box B C
box_through view box = record {
  empty = box.empty;
  verdict = λ content arrival. box.verdict content (view arrival);
  next = λ content arrival. box.next content (view arrival);
}
