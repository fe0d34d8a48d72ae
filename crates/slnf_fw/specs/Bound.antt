-- How many accesses a firewall's packets make.
use Rattle.std.specs.Prelude.{◌≡◌, ℕ, ◌+◌, ◌*◌, ◌≤◌, true, false, List, [], ◌∷◌, ◌++◌, length}
use Rattle.std.specs.List.{AllByRecursion}
use Rattle.slnf_access.specs.declared.requests.Entry.{Entry}
use Rattle.slnf_access.specs.Map.{key_of, is_done}
use Rattle.slnf_access.specs.Machines.{Stand, Flies}
use Rattle.slnf_run.specs.Scene.{is_of, own_of}
use Rattle.slnf_run.specs.Items.{Item, is_of_items, is_other_on, items_of}
use Rattle.slnf_box.specs.declared.policies.Policy.{Policy}
use Rattle.slnf_fw.specs.Flight.{Flying}
use Rattle.slnf_fw.specs.Machine.{packet_key}

-- Another item's write on the key is among these entries.
pub record IsWritten (key incarnation item : ℕ) (es : List Entry) : Type 0 where
  pub before : List Entry
  pub later : List Entry
  pub e : Entry
  pub split : es ≡ before ++ e ∷ later
  pub on_key : key_of e.request ≡ key
  pub other : is_of incarnation item e ≡ false
  pub done : is_done e.reply ≡ true

-- A put or a replace that failed, which is an access that isn't its flight's first, shows another packet's write on
-- its key since the flight's access before.
abbrev pub FailuresShow : List Entry → Type 0
FailuresShow es = (before middle later : List Entry) (e f : Entry) → es ≡ before ++ e ∷ (middle ++ f ∷ later) →
    f.incarnation ≡ e.incarnation → f.item ≡ e.item → own_of e.incarnation e.item middle ≡ [] →
    is_done f.reply ≡ false → IsWritten (key_of f.request) e.incarnation e.item middle

-- The accesses of a firewall's packets are bounded.
pub record IsBounded (policy : Policy) (begins : ℕ → ℕ → Stand Flying) (es : List Entry) : Type 0 where
  -- Each flight makes at most 2 accesses more than there are other packets with an access on its connection,
  pub each : (incarnation item : ℕ) (first : Flying) → begins incarnation item ≡ Flies first →
      length (own_of incarnation item es)
      ≤ 2 + length (items_of (is_other_on (packet_key policy first.packet) incarnation item) es)
  -- and so all together of these items make at most so many.
  pub total : (items : List Item) → AllByRecursion (λ e. is_of_items items e ≡ true) es →
      length es ≤ length items * (2 + length items)
