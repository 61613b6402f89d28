-- A life of an engine: the actions that it is asked for, in turn.
--     events_by, events_of        the events of an action;  of actions
--     outputs_by, outputs_of      what an action puts, and what actions put
--     in_use_by, in_use_after     which side is in use behind an action, and under which generation;  behind actions
--     IsTurnLawful, AreTurnsLawful     a batch has entries, none of which is refused;  each batch has
--     HasRoom                     there is room for an action
--     IsTurn, BeginsWithTurn      the action is a Turn;  the first one is
--     MayFailIn, FailsFirst       the disk calls of an action;  the fault names one of the first action's
--     Leaves                      what an action leaves on the sides: a Checkpoint, one without a record
--     HasDone, FailsIn, Acts      one action was carried out;  a disk call of it failed;  one or the other
--     HaveDone, FailsBehind       actions were, one after the other;  and a disk call of the next one failed
--     begun                       the actions of which anything was done
--     HasRun                      it has carried out the first of these actions
use Rattle.std.specs.Prelude.{◌≡◌, ◌⊎◌, ◌≤◌, ◌<◌, ⊤, ℕ, ◌+◌, List, [], ◌∷◌, ◌++◌, length, take, nat_lt, if◌then◌else◌, None, Ok, Err, Result, OnOk, MatchResult}
use Rattle.std.specs.List.{flat_map}
use Rattle.cc_messages.specs.declared.event.Event.{Event}
use Rattle.cc_messages.specs.declared.output.Output.{Output}
use Rattle.cc_site.specs.declared.site.Site.{Ghosts}
use Rattle.cc_site.specs.declared.site.Call.{Call}
use Rattle.cc_site.specs.declared.site.Side.{Side}
use Rattle.cc_site.specs.Sides.{other}
use Rattle.cc_site.specs.declared.site.DeviceFault.{DeviceFault}
use Rattle.cc_views.specs.Limits.{counter_limit}
use Rattle.cc_node.specs.Node.{Node, after, line}
use Rattle.cc_checkpoint.specs.declared.side_choice.InUse.{InUse}
use Rattle.cc_journal.specs.declared.entry.Entry.{Entry}
use Rattle.cc_journal.specs.Batches.{AreLawful, events_in}
use Rattle.cc_journal.specs.GoodSides.{KeepsSides}
use Rattle.cc_journal.specs.Journals.{room_limit, KeepsGood}
use Rattle.cc_flush.specs.declared.flusher.Failed.{Failed}
use Rattle.cc_flush.specs.declared.actions.Action.{Action}
use Rattle.cc_flush.specs.declared.actions.Action.TheVariants.{Turn, Resend, Again, Reack, Checkpoint}
use Rattle.cc_flush.specs.Engine.{Engine, in_use_of}
use Rattle.cc_flush.specs.Commits.{Commits, HasLived, LeadsToSides, Advances, GivesUp}
use Rattle.cc_flush.specs.Checkpoints.{MoveCalls, Moves}
use Rattle.cc_flush.specs.Resends.{resends, reply_again, ack_again}

abbrev pub events_by : Action → List Event
events_by (Turn batch) = events_in batch
events_by Resend = []
events_by (Again session) = []
events_by (Reack peer) = []
events_by Checkpoint = []

abbrev pub events_of : List Action → List Event
events_of actions = flat_map events_by actions

-- the node is that before the action
abbrev pub outputs_by : Node → Action → List Output
outputs_by n (Turn batch) = line n (events_in batch)
outputs_by n Resend = resends n
outputs_by n (Again session) = reply_again session n
outputs_by n (Reack peer) = ack_again peer n
outputs_by n Checkpoint = []

abbrev pub outputs_of : Node → List Action → List Output
outputs_of n [] = []
outputs_of n (action ∷ rest) = outputs_by n action ++ outputs_of (after n (events_by action)) rest

-- behind a Checkpoint the other side, under the next generation, unless none comes after it
abbrev pub in_use_by : InUse → Action → InUse
in_use_by used (Turn batch) = used
in_use_by used Resend = used
in_use_by used (Again session) = used
in_use_by used (Reack peer) = used
in_use_by used Checkpoint = if nat_lt used.generation counter_limit then record { side = other used.side; generation = used.generation + 1 } else used

abbrev pub in_use_after : InUse → List Action → InUse
in_use_after used [] = used
in_use_after used (action ∷ rest) = in_use_after (in_use_by used action) rest

abbrev pub IsTurnLawful : Node → Action → Type 0
IsTurnLawful n (Turn batch) = (1 ≤ length batch) × AreLawful n batch
IsTurnLawful n Resend = ⊤
IsTurnLawful n (Again session) = ⊤
IsTurnLawful n (Reack peer) = ⊤
IsTurnLawful n Checkpoint = ⊤

abbrev pub AreTurnsLawful : Node → List Action → Type 0
AreTurnsLawful n [] = ⊤
AreTurnsLawful n (action ∷ rest) = IsTurnLawful n action × AreTurnsLawful (after n (events_by action)) rest

abbrev pub HasRoom : ℕ → Action → Type 0
HasRoom used (Turn batch) = used < room_limit
HasRoom used Resend = ⊤
HasRoom used (Again session) = ⊤
HasRoom used (Reack peer) = ⊤
HasRoom used Checkpoint = ⊤

abbrev pub IsTurn : Action → Type 0
IsTurn action = (batch : List Entry) × (action ≡ Turn batch)

abbrev pub BeginsWithTurn : List Action → Type 0
BeginsWithTurn actions = (batch : List Entry) × (more : List Action) × (actions ≡ Turn batch ∷ more)

-- while this side is in use; what is put again makes no disk call
abbrev pub MayFailIn : Side → Action → Side → Call → Type 0
MayFailIn in_use (Turn batch) side call = Commits in_use side call
MayFailIn in_use Resend side call = ⊥
MayFailIn in_use (Again session) side call = ⊥
MayFailIn in_use (Reack peer) side call = ⊥
MayFailIn in_use Checkpoint side call = MoveCalls in_use side call

abbrev pub FailsFirst : Side → List Action → DeviceFault → Type 0
FailsFirst in_use actions fault = (action : Action) × (more : List Action) × (actions ≡ action ∷ more) × MayFailIn in_use action fault.side fault.call

-- a Checkpoint that is Spent leaves the engine as it was
abbrev pub Leaves : {D : Type 0} → Ghosts D → Action → Engine D → Engine D → Type 0
Leaves s (Turn batch) old new = ⊤
Leaves s Resend old new = ⊤
Leaves s (Again session) old new = ⊤
Leaves s (Reack peer) old new = ⊤
Leaves s Checkpoint old new = ((counter_limit ≤ old.generation) × (new ≡ old)) ⊎ Moves s old new

abbrev pub HasDone : {D : Type 0} → Ghosts D → Action → Engine D → Engine D → Type 0
HasDone s action old new =
    Advances s (HasLived s) (events_by action) (outputs_by old.twin action) (in_use_by (in_use_of old) action) old new × Leaves s action old new

abbrev pub FailsIn : {D : Type 0} → Ghosts D → Action → Engine D → Engine D → DeviceFault → Type 0
FailsIn s action old new fault = GivesUp s (HasLived s) (events_by action) (λ side call. MayFailIn old.at.side action side call) old new fault

abbrev pub Acts : {D : Type 0} → Ghosts D → Action → Engine D → Engine D → Result (Unit {0}) Failed → Type 0
Acts s action old new result = MatchResult result (λ _. HasDone s action old new) (λ f. FailsIn s action old new f.fault)

abbrev pub HaveDone : {D : Type 0} → Ghosts D → List Action → Engine D → Engine D → Type 0
HaveDone s [] old new = new ≡ old
HaveDone {D} s (action ∷ rest) old new = (mid : Engine D) × HasDone s action old mid × HaveDone s rest mid new

-- each of the first ones was carried out, and a disk call of the next one failed
abbrev pub FailsBehind : {D : Type 0} → Ghosts D → List Action → List Action → Engine D → Engine D → DeviceFault → Type 0
FailsBehind {D} s done rest old new fault =
    (last : Engine D) × (action : Action) × (more : List Action) × HaveDone s done old last × (rest ≡ action ∷ more) × FailsIn s action last new fault

-- those that were carried out, and the one in which a disk call failed, if one did
abbrev pub begun : Result (Unit {0}) Failed → List Action → List Action → List Action
begun (Ok unit) done rest = done
begun (Err failed) done rest = done ++ take 1 rest

-- the actions `done` have been carried out, and no part of `rest` but for the one that failed
pub record HasRun {D : Type 0} (s : Ghosts D) (actions : List Action) (old new : Engine D) (result : Result (Unit {0}) Failed) : Type 0 where
  pub done : List Action
  pub rest : List Action
  pub parts : actions ≡ done ++ rest
  pub twin : new.twin ≡ after old.twin (events_of done)
  pub in_use : in_use_of new ≡ in_use_after (in_use_of old) done
  pub each : MatchResult result (λ _. HaveDone s done old new) (λ f. old.failed ≡ None → FailsBehind s done rest old new f.fault)
  pub told : s.tells new.site → s.sent new.site ≡ s.sent old.site ++ outputs_of old.twin done
  -- all of them, unless there is no room for the next batch, or a disk call failed in the next one
  pub stops : MatchResult result (λ _. (rest ≡ []) ⊎ (BeginsWithTurn rest × (room_limit ≤ new.used)))
      (λ f. old.failed ≡ None → FailsFirst (in_use_after (in_use_of old) done).side rest f.fault)
  -- what was given up unbegun has no part in any moment
  pub moments : s.honest old.site → s.tells new.site → old.failed ≡ None → KeepsGood s (HasLived s old) (events_of (begun result done rest)) old.site new.site
  pub afterwards : s.honest old.site → s.tells new.site → old.failed ≡ None → (start : Node) (events : List Event) (opening : ℕ)
      → HasLived s old start events opening
      → OnOk result (HasLived s new start (events ++ events_of done) opening)
  -- so it is with the sides, also where the outlet doesn't tell
  pub sides : s.honest old.site → old.failed ≡ None → KeepsSides s (LeadsToSides s old) (events_of (begun result done rest)) old.site new.site
  pub sides_afterwards : s.honest old.site → old.failed ≡ None → (start : Node) (events : List Event) → LeadsToSides s old start events
      → OnOk result (LeadsToSides s new start (events ++ events_of done))
