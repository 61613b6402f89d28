-- An engine: a node kept on the two sides of a site.
--     Engine              its site, its node, where the next record goes, what is owed, the fault that ended it, and what opening
--                         found
--     in_use_of           which side is in use, and under which generation
--     held_of             how many bytes of that side hold the node
--     IsSettled           a side with no unsynced change
--     StandsNow           whatever a crash leaves now, the sides stand for that node
--     IsSound             what every engine keeps
--     IsOwed              what is owed is just these entries
use Rattle.std.specs.Prelude.{◌≡◌, ◌≤◌, ℕ, ◌+◌, ◌-◌, ◌^◌, min, Bool, true, false, List, [], length, Option, None, refl}
use Rattle.std.specs.Coded.{Coded, code_by, coded×, coded_bool, coded_ℕ, coded_option}
use Rattle.cc_site.specs.declared.site.Side.{Side}
use Rattle.cc_site.specs.declared.site.Site.{Ghosts}
use Rattle.cc_site.specs.declared.site.DeviceFault.{DeviceFault}
use Rattle.cc_site.specs.contracts.site.DeviceFault as device_fault
use Rattle.cc_site.specs.Sides.{SideState, MayLeave, other, settled}
use Rattle.cc_node.specs.Node.{Node, after}
use Rattle.cc_node_state.specs.Sides.{StandsAt}
use Rattle.cc_node.specs.Codes.{node_code}
use Rattle.cc_checkpoint.specs.declared.side_choice.InUse.{InUse}
use Rattle.cc_journal.specs.declared.entry.Entry.{Entry}
use Rattle.cc_journal.specs.Batches.{AreLawful, events_in}
use Rattle.cc_journal.specs.Journals.{Position}
use Rattle.cc_journal.specs.Codes.{entries_code, position_code}
use Rattle.cc_flush.specs.declared.opened.Opened.{Opened}
use Rattle.cc_flush.specs.contracts.opened.Opened as opened_type

pub record Engine (D : Type 0) : Type 0 where
  pub site : D
  -- the node after all durable events whose outputs were put
  pub twin : Node
  pub at : Position
  pub generation : ℕ
  -- how long the side in use is
  pub used : ℕ
  -- whether a batch is durable whose outputs weren't put, and its entries; none where there is no such batch
  pub owes : Bool
  pub owed : List Entry
  pub failed : Option DeviceFault
  -- what opening found
  pub opened : Opened

abbrev pub engine_code : {D : Type 0} → Coded D → Coded (Engine D)
engine_code {D} site_code =
    code_by (D × (Node × (Position × (ℕ × (ℕ × (Bool × (List Entry × (Option DeviceFault × Opened))))))))
    (coded× site_code (coded× node_code (coded× position_code (coded× coded_ℕ (coded× coded_ℕ (coded× coded_bool
    (coded× entries_code (coded× (coded_option (device_fault.the_row).coded) (opened_type.the_row).coded))))))))
    (λ e. (e.site, (e.twin, (e.at, (e.generation, (e.used, (e.owes, (e.owed, (e.failed, e.opened)))))))))
    (λ p. record {
      site = p.0;
      twin = p.1.0;
      at = p.1.1.0;
      generation = p.1.1.1.0;
      used = p.1.1.1.1.0;
      owes = p.1.1.1.1.1.0;
      owed = p.1.1.1.1.1.1.0;
      failed = p.1.1.1.1.1.1.1.0;
      opened = p.1.1.1.1.1.1.1.1;
    }) (λ _. refl)

abbrev pub in_use_of : {D : Type 0} → Engine D → InUse
in_use_of e = record { side = e.at.side; generation = e.generation }

-- up to the closed gate that ends the records, and with it: a u64 that stops at its greatest value
abbrev pub held_of : {D : Type 0} → Engine D → ℕ
held_of e = min (e.at.place + 1) (2 ^ 64 - 1)

-- a sync of the side would leave it as it is
abbrev pub IsSettled : SideState → Type 0
IsSettled s = s ≡ settled s

-- the side in use holds the node up to its closed gate, and the other one yields to it
abbrev pub StandsNow : (Side → SideState) → Position → ℕ → Node → Type 0
StandsNow state at generation node =
    (bytes others : List ℕ) → MayLeave (state at.side) bytes → MayLeave (state (other at.side)) others → StandsAt bytes others generation at.place node

pub record IsSound {D : Type 0} (s : Ghosts D) (engine : Engine D) : Type 0 where
  pub reaches : engine.at.place ≤ engine.used
  pub within : s.honest engine.site → engine.failed ≡ None → engine.at.place + 1 ≤ length (s.state engine.site engine.at.side).bytes
  pub is_length : s.honest engine.site → engine.failed ≡ None → engine.used ≡ length (s.state engine.site engine.at.side).bytes
  pub goes_on : engine.owes ≡ true → engine.failed ≡ None
  pub other_settled : s.honest engine.site → engine.failed ≡ None → IsSettled (s.state engine.site (other engine.at.side))
  pub idle : engine.owes ≡ false → engine.owed ≡ []
  pub lawful : AreLawful engine.twin engine.owed
  -- the sides stand for the node after what is owed; where the other side is empty no moment is good
  pub stands : s.honest engine.site → engine.failed ≡ None → 1 ≤ length (s.state engine.site (other engine.at.side)).bytes
      → StandsNow (s.state engine.site) engine.at engine.generation (after engine.twin (events_in engine.owed))

pub record IsOwed {D : Type 0} (engine : Engine D) (entries : List Entry) : Type 0 where
  pub owes : engine.owes ≡ true
  pub these : engine.owed ≡ entries
