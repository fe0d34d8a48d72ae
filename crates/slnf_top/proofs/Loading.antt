-- A load's plan and captures are within the limits, and a run of them is a run of its bytes.
use Rattle.std.proofs.Common.{◌≡◌, ℕ, zero, suc, ◌+◌, ◌-◌, ◌*◌, ◌<◌, ◌≤◌, Some, List, [], ◌∷◌, ◌++◌, length, map, drop, get_or, codes, decimal, refl, ap, sym, ◌∙◌, subst, arith, append_assoc, length-append}
use Rattle.std.specs.Prelude.{Result, Ok, All}
use Rattle.std.specs.List.{AllByRecursion, flat_map, range_with_len}
use Rattle.std.proofs.lemmas.Fmt.{length-decimal-le}
use Rattle.std.proofs.lemmas.Nat.{mul-le}
use Rattle.std.proofs.lemmas.List.{length-map, append-nil, drop_more, drop_all}
use Rattle.std.proofs.lemmas.List.Elements.{recursion_from_All}
use Rattle.std.proofs.lemmas.List.FromFn.{length-range_with_len}
use Rattle.slnf_pcap.specs.declared.errors.PcapError.{PcapError}
use Rattle.slnf_pcap.specs.declared.capture.Capture.{Capture}
use Rattle.slnf_pcap.specs.Captures.{capture_of}
use Rattle.slnf_base.specs.declared.packets.Verdict.{Verdict}
use Rattle.slnf_plan.specs.declared.error.PlanError.{PlanError}
use Rattle.slnf_plan.specs.Plain.{PlainPlan, plain}
use Rattle.slnf_plan.specs.Reading.{plan_of_bytes}
use Rattle.slnf_gen.specs.Plan.{instance_text, next_text, plan_head, plan_text, plan_told}
use Rattle.slnf_gen.specs.Captures.{captures_of, lane_capture, packet_told, capture_told}
use Rattle.slnf_run.specs.Verdicts.{left_in}
use Rattle.slnf_shelf.specs.Shelf.{Faults, Moves}
use Rattle.slnf_shelf.proofs.Laws.{Moves-still}
use Rattle.slnf_flight.specs.declared.lanes.Lane.{Lane}
use Rattle.slnf_flight.specs.declared.outcomes.Outcome.{Outcome}
use Rattle.slnf_flight.specs.Lanes.{packet_count}
use Rattle.slnf_check.specs.declared.given.Given.{Given}
use Rattle.slnf_top.specs.declared.loads.LoadInputs.{LoadInputs}
use Rattle.slnf_top.specs.declared.outputs.File.{File}
use Rattle.slnf_top.specs.declared.steps.Run.{Run}
use Rattle.slnf_top.specs.Words.{LoadWords, Load}
use Rattle.slnf_top.specs.Limits.{plan_limit}
use Rattle.slnf_top.specs.Readings.{no_tally}
use Rattle.slnf_top.specs.Reached.{Holds}
use Rattle.slnf_top.specs.Effects.{IsOutput, Reads}
use Rattle.slnf_check.specs.Given.{AreRead}
use Rattle.slnf_top.specs.Inputs.{AreTold, IsLaneOf, AreLanesOf}
use Rattle.slnf_top.specs.Files.{IsNamed, WritesFiles, summary_file, summary_alone}
use Rattle.slnf_top.specs.Written.{BySchedule, IsOutcome, IsRunFrom, IsLoad, load_source}
use Rattle.slnf_top.proofs.Apart.{AreApart}
use Rattle.slnf_top.proofs.Ending.{WritesRun}
use Rattle.slnf_top.proofs.NoneLeft.{none_left}
use Rattle.slnf_top.proofs.Runs.{length_packets_of}

-- the text of an instance is short
instance_length : (lane : ℕ) → lane < 100 → length (instance_text lane) ≤ 13
instance_length lane few =
    let digits : length (decimal lane) ≤ 2 = length-decimal-le 2 lane (omega arith) (omega arith) (omega arith) in
    let front : length (codes "{ lane = " ++ decimal lane) ≡ 9 + length (decimal lane) =
    length-append (codes "{ lane = ") (decimal lane) in
    let all : length (instance_text lane) ≡ length (codes "{ lane = " ++ decimal lane) + 2 =
    length-append (codes "{ lane = " ++ decimal lane) (codes " }") in
    omega arith

next_length : (lane : ℕ) → lane < 100 → length (next_text lane) ≤ 15
next_length lane few =
    let own : length (instance_text lane) ≤ 13 = instance_length lane few in
    let all : length (next_text lane) ≡ 2 + length (instance_text lane) =
    length-append (codes ", ") (instance_text lane) in
    omega arith

others_length : (first count : ℕ) → first + count ≤ 100 →
    length (flat_map next_text (range_with_len first count)) ≤ 15 * count
others_length first zero few = omega arith
others_length first (suc count) few =
    let own : length (next_text first) ≤ 15 = next_length first (omega arith) in
    let rest : length (flat_map next_text (range_with_len (first + 1) count)) ≤ 15 * count =
    others_length (first + 1) count (omega arith) in
    let all : length (flat_map next_text (range_with_len first (suc count)))
    ≡ length (next_text first) + length (flat_map next_text (range_with_len (first + 1) count)) =
    length-append (next_text first) (flat_map next_text (range_with_len (first + 1) count)) in
    omega arith

head_length : length plan_head ≤ 200
unfolding plan_head
head_length = omega arith

-- the plan is within its limit
pub text_within : (lanes : ℕ) → lanes ≤ 32 → length (plan_text lanes) ≤ plan_limit
unfolding plan_text
text_within lanes few =
    let others : List ℕ = flat_map next_text (range_with_len 1 (lanes - 1)) in
    let head : length plan_head ≤ 200 = head_length in
    let one : length (instance_text 0) ≤ 13 = instance_length 0 (omega arith) in
    let more : length others ≤ 15 * (lanes - 1) = others_length 1 (lanes - 1) (omega arith) in
    let a : length (plan_head ++ instance_text 0) ≡ length plan_head + length (instance_text 0) =
    length-append plan_head (instance_text 0) in
    let b : length ((plan_head ++ instance_text 0) ++ others)
    ≡ length (plan_head ++ instance_text 0) + length others =
    length-append (plan_head ++ instance_text 0) others in
    let c : length (((plan_head ++ instance_text 0) ++ others) ++ codes "]\n")
    ≡ length ((plan_head ++ instance_text 0) ++ others) + 2 =
    length-append ((plan_head ++ instance_text 0) ++ others) (codes "]\n") in
    omega arith

-- captures that have these lanes
pub lanes_given : (captures : List (List ℕ)) (lanes : List Lane) → AreLanesOf captures lanes →
    (given : List Given) × AreTold (map Some captures) given × AreRead given lanes
lanes_given [] [] h = ([], tt, tt)
lanes_given [] (lane ∷ lanes) h = absurd h
lanes_given (bytes ∷ captures) [] h = absurd h
lanes_given (bytes ∷ captures) (lane ∷ lanes) h =
    let rest = lanes_given captures lanes h.1 in
    let given : Given = record { bytes = bytes; capture = h.0.capture } in
    (given ∷ rest.0, (refl, rest.1), (h.0.read, rest.2))

-- as many lanes as captures
pub lanes_count : (captures : List (List ℕ)) (lanes : List Lane) → AreLanesOf captures lanes →
    length lanes ≡ length captures
lanes_count [] [] h = refl
lanes_count [] (lane ∷ lanes) h = absurd h
lanes_count (bytes ∷ captures) [] h = absurd h
lanes_count (bytes ∷ captures) (lane ∷ lanes) h =
    let rest : length lanes ≡ length captures = lanes_count captures lanes h.1 in omega arith

pub captures_count : (number lanes packets : ℕ) → length (captures_of number lanes packets) ≡ lanes
unfolding captures_of
captures_count number lanes packets =
    length-map (range_with_len 0 lanes) (lane_capture number packets) ∙ length-range_with_len 0 lanes

-- a lane has as many packets as its capture is told
lane_packets : (bytes : List ℕ) (lane : Lane) (packets : ℕ) → capture_of bytes ≡ Ok (capture_told packets) →
    IsLaneOf bytes lane → length lane.packets ≡ packets
lane_packets bytes lane packets told is =
    let same : is.capture ≡ capture_told packets = same_ok (sym is.read.whole.capture ∙ told) in
    ap length is.read.views ∙ length_packets_of bytes is.capture
    ∙ ap (λ (c : Capture). length c.packets) same
    ∙ length-map (range_with_len 0 packets) packet_told ∙ length-range_with_len 0 packets
  where
    same_ok : {a b : Capture} → let x : Result Capture PcapError = Ok a in x ≡ Ok b → a ≡ b
    same_ok e = cc

pub packets_count : (captures : List (List ℕ)) (lanes : List Lane) (packets : ℕ) →
    AllByRecursion (λ bytes. capture_of bytes ≡ Ok (capture_told packets)) captures → AreLanesOf captures lanes →
    packet_count lanes ≡ length captures * packets
packets_count [] [] packets told h = omega arith
packets_count [] (lane ∷ lanes) packets told h = absurd h
packets_count (bytes ∷ captures) [] packets told h = absurd h
packets_count (bytes ∷ captures) (lane ∷ lanes) packets told h =
    let own : length lane.packets ≡ packets = lane_packets bytes lane packets told.0 h.0 in
    let rest : packet_count lanes ≡ length captures * packets = packets_count captures lanes packets told.1 h.1 in
    let all : suc (length captures) * packets ≡ packets + length captures * packets = omega arith in
    omega arith

-- what holds of each as it is seen
all_viewed : {X : Type 0} (view : X → List ℕ) (P : List ℕ → Type 0) (xs : List X) →
    AllByRecursion (λ x. P (view x)) xs → AllByRecursion P (map view xs)
all_viewed view P [] h = tt
all_viewed view P (x ∷ xs) h = (h.0, all_viewed view P xs h.1)

-- one lane more
lanes_next : (captures rest : List (List ℕ)) (lanes : List Lane) (bytes : List ℕ) (lane : Lane) →
    ((more : List Lane) → AreLanesOf (bytes ∷ rest) more → AreLanesOf captures (lanes ++ more)) →
    IsLaneOf bytes lane → (more : List Lane) → AreLanesOf rest more →
    AreLanesOf captures ((lanes ++ lane ∷ []) ++ more)
lanes_next captures rest lanes bytes lane so is more h =
    subst (AreLanesOf captures) (sym (append_assoc lanes (lane ∷ []) more)) (so (lane ∷ more) (is, h))

-- How far the making of lanes has come: these captures are left.
pub record LanesSoFar (captures rest : List (List ℕ)) (lanes : List Lane) : Type 0 where
  pub made : (more : List Lane) → AreLanesOf rest more → AreLanesOf captures (lanes ++ more)

module _ {X : Type 0} (view : X → List ℕ) (xs : List X) (i : ℕ) where
  pub lanes_more : (x : X) (bytes : List ℕ) (lanes after : List Lane) (lane : Lane) → i < length xs →
      x ≡ get_or xs i x → bytes ≡ view x → LanesSoFar (map view xs) (map view (drop i xs)) lanes →
      IsLaneOf bytes lane → after ≡ lanes ++ lane ∷ [] → LanesSoFar (map view xs) (map view (drop (i + 1) xs)) after
  lanes_more x bytes lanes after lane within is same far one pushed =
      let rest : map view (drop i xs) ≡ bytes ∷ map view (drop (i + 1) xs) =
      ap (map view) (drop_more xs i x within) ∙ ap (λ y. view y ∷ map view (drop (i + 1) xs)) (sym is)
      ∙ ap (λ (b : List ℕ). b ∷ map view (drop (i + 1) xs)) (sym same) in
      let here : LanesSoFar (map view xs) (bytes ∷ map view (drop (i + 1) xs)) lanes =
      subst (λ (r : List (List ℕ)). LanesSoFar (map view xs) r lanes) rest far in
      subst (LanesSoFar (map view xs) (map view (drop (i + 1) xs))) (sym pushed)
      (record { made = lanes_next (map view xs) (map view (drop (i + 1) xs)) lanes bytes lane here.made one })

  pub lanes_over : (lanes same : List Lane) → length xs ≤ i → same ≡ lanes →
      LanesSoFar (map view xs) (map view (drop i xs)) lanes → AreLanesOf (map view xs) same
  lanes_over lanes same over is far =
      let none : map view (drop i xs) ≡ [] = ap (map view) (drop_all i xs over) in
      let last : LanesSoFar (map view xs) [] lanes =
      subst (λ (r : List (List ℕ)). LanesSoFar (map view xs) r lanes) none far in
      subst (AreLanesOf (map view xs)) (append-nil lanes ∙ sym is) (last.made [] tt)

-- A load that was made and read.
pub load_is : {X : Type 0} (view : X → List ℕ) (words : LoadWords) (load : LoadInputs) (text : List ℕ) (xs : List X) →
    words.lanes ≤ 32 → text ≡ plan_text words.lanes → plan_of_bytes text ≡ Ok (plan_told words.lanes) →
    plan_of_bytes text ≡ Ok (plain load.plan) →
    map view xs ≡ captures_of words.number words.lanes words.packets →
    All (λ x. capture_of (view x) ≡ Ok (capture_told words.packets)) xs → AreLanesOf (map view xs) load.lanes →
    IsLoad words load
load_is view words load text xs few is reads read captures told lanes =
    let all : AllByRecursion (λ bytes. capture_of bytes ≡ Ok (capture_told words.packets)) (map view xs) =
    all_viewed view (λ bytes. capture_of bytes ≡ Ok (capture_told words.packets)) xs
    (recursion_from_All (λ x. capture_of (view x) ≡ Ok (capture_told words.packets)) xs told) in
    let count : length (map view xs) ≡ words.lanes =
    ap length captures ∙ captures_count words.number words.lanes words.packets in
    record {
      is_plan = record {
        within = text_within words.lanes few;
        is = ap plan_of_bytes (sym is) ∙ read;
      };
      told = same_plan (sym read ∙ reads);
      lanes = subst (λ (c : List (List ℕ)). AreLanesOf c load.lanes) captures lanes;
      packets =
          packets_count (map view xs) load.lanes words.packets all lanes ∙ ap (λ n. n * words.packets) count;
    }
  where
    same_plan : {a b : PlainPlan} → let x : Result PlainPlan PlanError = Ok a in x ≡ Ok b → a ≡ b
    same_plan e = cc

-- as many lanes as its words say, and few packets
pub load_lanes : (words : LoadWords) (load : LoadInputs) → IsLoad words load → length load.lanes ≡ words.lanes
load_lanes words load is =
    lanes_count (captures_of words.number words.lanes words.packets) load.lanes is.lanes
    ∙ captures_count words.number words.lanes words.packets

pub load_packets : (words : LoadWords) (load : LoadInputs) → words.lanes ≤ 32 → words.packets ≤ 32768 →
    IsLoad words load → packet_count load.lanes ≤ 1048576
load_packets words load few small is =
    let all : packet_count load.lanes ≡ words.lanes * words.packets = is.packets in
    let most : words.lanes * words.packets ≤ 32 * 32768 = mul-le words.lanes words.packets 32 32768 few small in
    omega arith

module _ (words : LoadWords) (load : LoadInputs) (outcome : Outcome) (run : Run) (is : IsLoad words load)
    (of : IsOutcome BySchedule load.plan load.lanes outcome) where
  -- the summary of its run
  pub load_run : run.files ≡ summary_file outcome.verdicts outcome.journal ∷ [] → run.left ≡ outcome.left →
      IsRunFrom BySchedule summary_alone (load_source words) run
  load_run files left =
      let given = lanes_given (captures_of words.number words.lanes words.packets) load.lanes is.lanes in
      record {
        ran = record {
          plan = load.plan;
          given = given.0;
          lanes = load.lanes;
          works_on = record { is_plan = is.is_plan; are_told = given.1; are_read = given.2 };
          journal = outcome.journal;
          explained = of.explained;
        };
        files = files ∙ ap (λ (vs : List (List Verdict)). summary_file vs outcome.journal ∷ []) of.verdicts;
        left = left ∙ of.left ∙ ap left_in of.verdicts;
      }

  -- which leaves no packet
  pub load_leaves_none : run.left ≡ outcome.left → run.left ≡ 0
  load_leaves_none left =
      left ∙ of.left ∙ ap left_in of.verdicts
      ∙ none_left BySchedule load.plan load.lanes words.lanes outcome.journal is.told (load_lanes words load is) of.explained

-- The summary of a run was written, or its writing stopped.
module _ (words : LoadWords) (run : Run) (a b : Faults) (held holds : Holds)
    (is : IsRunFrom BySchedule summary_alone (load_source words) run) where
  -- its one file has the name of the output
  outputs_by : (name : List ℕ) → IsNamed run.files name → IsOutput (Load words) name
  outputs_by name h = subst (λ (fs : List File). IsNamed fs name) is.files h

  pub writes_summary : (files : List File) → files ≡ run.files → Moves (WritesFiles files) a b →
      ((other : List ℕ) → ¬ IsNamed files other → holds other ≡ held other) →
      WritesRun (Load words) BySchedule summary_alone (load_source words) run a a b held held holds
  writes_summary files same write others = record {
    read = Moves-still (Reads (Load words)) a;
    still = refl;
    same = λ name. refl;
    passed = record { tally = no_tally; passed = refl };
    is_run = is;
    apart = subst AreApart (sym is.files) ((λ none. none), tt);
    outputs = outputs_by;
    write = subst (λ (fs : List File). Moves (WritesFiles fs) a b) same write;
    others = subst (λ (fs : List File). (other : List ℕ) → ¬ IsNamed fs other → holds other ≡ held other) same others;
  }
