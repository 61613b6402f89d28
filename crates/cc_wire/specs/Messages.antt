-- Messages as bytes: a kind, and then the fields.
use Rattle.std.specs.Prelude.{ℕ, Bool, true, false, ◌<◌, ◌≤◌, ◌^◌, List, ◌∷◌, ◌++◌, Err, ◌==◌, if◌then◌else◌}
use Rattle.std.specs.Int.{w32, w64, to_be_bytes}
use Rattle.cc_views.specs.Rows.{ViewMap}
use Rattle.cc_changes.specs.ChangeSets.{ChangeSets}
use Rattle.cc_wire.specs.declared.fault.WireFault.TheVariants.{BadKind}
use Rattle.cc_messages.specs.declared.message.Message.{Message}
use Rattle.cc_messages.specs.declared.message.Message.TheVariants.{Enter, EnterEcho, Join, JoinEcho, Leave, LeaveEcho, Query, QueryReply, Store}
use Rattle.cc_messages.specs.declared.message.Message.TheVariants.{StoreAck, Snapshot}
use Rattle.cc_wire.specs.Readers.{Reading, ◌⊗◌, via, kinded, number_at, number_from, flag_at, view_at, changes_at}
use Rattle.cc_wire.specs.Spellings.{Spells, view_spelling, IsView, flag_spelling, changes_spelling, IsChanges, IsId}

-- a tag and a node
abbrev pub call_spelling : ℕ → ℕ → List ℕ
call_spelling tag node = to_be_bytes w64 tag ++ to_be_bytes w32 node

pub record IsCall (tag node : ℕ) : Type 0 where
  pub tag_fits : tag < 2 ^ 64
  pub is_id : 1 ≤ node
  pub node_fits : node < 2 ^ 32

-- what an echo tells: the changes, the view, whether its sender has joined, and the node that enters
abbrev pub echo_spelling : ChangeSets → ViewMap → Bool → ℕ → List ℕ
echo_spelling changes view is_joined node = changes_spelling changes ++ (view_spelling view ++ (flag_spelling is_joined ++ to_be_bytes w32 node))

pub record IsEcho (changes : ChangeSets) (view : ViewMap) (node : ℕ) : Type 0 where
  pub changes_fit : IsChanges changes
  pub view_fits : IsView view
  pub is_id : IsId node

-- what a snapshot tells: the changes and the view
abbrev pub snapshot_spelling : ChangeSets → ViewMap → List ℕ
snapshot_spelling changes view = changes_spelling changes ++ view_spelling view

pub record IsSnapshot (changes : ChangeSets) (view : ViewMap) : Type 0 where
  pub changes_fit : IsChanges changes
  pub view_fits : IsView view

abbrev pub message_spelling : Message → List ℕ
message_spelling (Enter node) = 1 ∷ to_be_bytes w32 node
message_spelling (EnterEcho changes view is_joined node) = 2 ∷ echo_spelling changes view is_joined node
message_spelling (Join node) = 3 ∷ to_be_bytes w32 node
message_spelling (JoinEcho node) = 4 ∷ to_be_bytes w32 node
message_spelling (Leave node) = 5 ∷ to_be_bytes w32 node
message_spelling (LeaveEcho node) = 6 ∷ to_be_bytes w32 node
message_spelling (Query tag node) = 7 ∷ call_spelling tag node
message_spelling (QueryReply view tag node) = 8 ∷ (view_spelling view ++ call_spelling tag node)
message_spelling (Store view tag node) = 9 ∷ (view_spelling view ++ call_spelling tag node)
message_spelling (StoreAck tag node) = 10 ∷ call_spelling tag node
message_spelling (Snapshot changes view) = 32 ∷ snapshot_spelling changes view

abbrev pub IsMessage : Message → Type 0
IsMessage (Enter node) = IsId node
IsMessage (EnterEcho changes view is_joined node) = IsEcho changes view node
IsMessage (Join node) = IsId node
IsMessage (JoinEcho node) = IsId node
IsMessage (Leave node) = IsId node
IsMessage (LeaveEcho node) = IsId node
IsMessage (Query tag node) = IsCall tag node
IsMessage (QueryReply view tag node) = IsView view × IsCall tag node
IsMessage (Store view tag node) = IsView view × IsCall tag node
IsMessage (StoreAck tag node) = IsCall tag node
IsMessage (Snapshot changes view) = IsSnapshot changes view

abbrev pub SpellsMessage : List ℕ → Message → Type 0
SpellsMessage = Spells IsMessage message_spelling

-- ---- what stands alone

-- ---- reading

abbrev pub call_at : Reading (ℕ × ℕ)
call_at = number_at w64 ⊗ number_from 1

abbrev pub echo_at : Reading (ChangeSets × (ViewMap × (Bool × ℕ)))
echo_at = changes_at ⊗ view_at ⊗ flag_at ⊗ number_from 1

abbrev pub snapshot_at : Reading (ChangeSets × ViewMap)
snapshot_at = changes_at ⊗ view_at

abbrev pub fields_of : ℕ → Reading Message
fields_of kind =
    if kind == 1 then via (λ node. Enter node) (number_from 1)
    else (if kind == 2 then via (λ f. EnterEcho f.0 f.1.0 f.1.1.0 f.1.1.1) echo_at
    else (if kind == 3 then via (λ node. Join node) (number_from 1)
    else (if kind == 4 then via (λ node. JoinEcho node) (number_from 1)
    else (if kind == 5 then via (λ node. Leave node) (number_from 1)
    else (if kind == 6 then via (λ node. LeaveEcho node) (number_from 1)
    else (if kind == 7 then via (λ f. Query f.0 f.1) call_at
    else (if kind == 8 then via (λ f. QueryReply f.0 f.1.0 f.1.1) (view_at ⊗ call_at)
    else (if kind == 9 then via (λ f. Store f.0 f.1.0 f.1.1) (view_at ⊗ call_at)
    else (if kind == 10 then via (λ f. StoreAck f.0 f.1) call_at
    else (if kind == 32 then via (λ f. Snapshot f.0 f.1) snapshot_at
    else (λ bytes. Err (BadKind kind))))))))))))

unfoldable pub message_at : Reading Message
message_at = kinded fields_of
