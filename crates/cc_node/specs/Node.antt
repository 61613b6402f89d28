-- A node: its core, and what it keeps to put out again. Whole histories of events.
--     step N e         the node after an event
--     after N es       after a list of events
--     line N es        all that is put out along the list
--     HasOutput N o       what a node may put out again
--     IsLawful N es    no event of the list is refused;  IsLawfulWithin: nor is it where no more than so many asks wait
use Rattle.std.specs.Prelude.{◌≡◌, ℕ, ◌-◌, ◌<◌, ◌⊎◌, List, [], ◌∷◌, ◌++◌, Option, Some, None}
use Rattle.std.specs.List.{Contains}
use Rattle.std.specs.FinMap as table
use Rattle.cc_messages.specs.declared.event.Event.{Event}
use Rattle.cc_messages.specs.declared.event.Event.TheVariants as event
use Rattle.cc_messages.specs.declared.message.Message.{Message}
use Rattle.cc_messages.specs.declared.output.Output.{Output}
use Rattle.cc_messages.specs.declared.output.Output.TheVariants as output
use Rattle.cc_links.specs.Links.{Link}
use Rattle.cc_outbox.specs.Outbox as kept
use Rattle.cc_outbox.specs.Outbox.{Outbox, trim, forget}
use Rattle.cc_ops.specs.declared.pending_operation.Reply.{Reply}
use Rattle.cc_node.specs.Core.{Core, next, post, replies, outputs, lowest, live_links}
use Rattle.cc_node.specs.Refusals.{decides, decides_within}

pub record Node : Type 0 where
  pub core : Core
  pub outbox : Outbox

-- the answers of an event are kept, each for its session
abbrev pub keep : List Reply → Outbox → Outbox
keep [] o = o
keep (r ∷ rs) o = keep rs (kept.keep r.session r.answer o)

-- the post of an event, where it has one, is kept under the next number
abbrev pub add : Option Message → Outbox → Outbox
add None o = o
add (Some m) o = kept.add m o

-- beginning a request forgets the session's kept answer
abbrev pub forget_asked : Event → Outbox → Outbox
forget_asked (event.Ask s r command) o = forget s o
forget_asked _ o = o

unfoldable pub step : Node → Event → Node
step n e = record {
  core = next n.core e;
  outbox = trim (lowest (next n.core e))
      (keep (replies n.core e) (add (post n.core e) (forget_asked e n.outbox)));
}

abbrev pub after : Node → List Event → Node
after n [] = n
after n (e ∷ es) = after (step n e) es

abbrev pub line : Node → List Event → List Output
line n [] = []
line n (e ∷ es) = outputs n.core e ++ line (step n e) es

-- a kept post on a link that hasn't acknowledged it
pub record ResendsOn (l : Link) (number wire : ℕ) : Type 0 where
  pub above : l.start < number
  pub unacked : l.acked < wire
  pub is_number : wire ≡ number - l.start

abbrev pub HasOutput : Node → Output → Type 0
HasOutput n (output.Send to wire m) =
    (number : ℕ) × (l : Link) × (table.get n.outbox.posts number ≡ Some m) × (table.get (live_links n.core) to ≡ Some l) × ResendsOn l number wire
HasOutput n (output.Ack to heard) = (l : Link) × (table.get n.core.links to ≡ Some l) × (l.heard ≡ heard) × (0 < heard)
HasOutput n (output.Reply s r a) = (table.get n.outbox.answers s ≡ Some a) × (table.get n.core.sessions s ≡ Some r)

-- all that may have been put out by the end of a list
abbrev pub MayBeOut : Node → List Event → Output → Type 0
MayBeOut n es o = HasOutput n o ⊎ Contains (line n es) o

abbrev pub IsLawful : Node → List Event → Type 0
IsLawful n [] = Unit {0}
IsLawful n (e ∷ es) = (decides n.core e ≡ None) × IsLawful (step n e) es

abbrev pub IsLawfulWithin : ℕ → Node → List Event → Type 0
IsLawfulWithin limit n [] = Unit {0}
IsLawfulWithin limit n (e ∷ es) = (decides_within limit n.core e ≡ None) × IsLawfulWithin limit (step n e) es
