-- What a decoder of states answers.
--     Decodes layout bytes r     each answer tells what the bytes are
--     Is r s              two answers are one, unless a growth was refused
use Rattle.std.specs.Prelude.{◌≡◌, List, ℕ, Result, Ok, Err}
use Rattle.cc_wire.specs.declared.fault.WireFault.TheVariants as wire
use Rattle.cc_wire.specs.Readers.{Fails, whole}
use Rattle.cc_node.specs.Node.{Node}
use Rattle.cc_node.specs.Lawful.{IsLawfulNode}
use Rattle.cc_node_state.specs.declared.layout.Layout.{Layout}
use Rattle.cc_node_state.specs.States.{State, SpellsState, SpellsNode, state_at, node_of}
use Rattle.cc_node_state.specs.declared.fault.StateFault.{StateFault}
use Rattle.cc_node_state.specs.declared.fault.StateFault.TheVariants.{Wire, Unlawful}

-- the bytes spell a state in which no node can be
pub record SpellsUnlawful (layout : Layout) (bytes : List ℕ) : Type 0 where
  pub state : State
  pub spelled : SpellsState layout bytes state
  pub unlawful : ¬ (IsLawfulNode (node_of state))

-- With Ok the bytes spell the node. A fault of the wire is the first that is met from left to right, unless a growth was
-- refused. With Unlawful they spell a state in which no node can be.
abbrev pub Decodes : Layout → List ℕ → Result Node StateFault → Type 0
Decodes layout bytes (Ok n) = SpellsNode layout bytes n
Decodes layout bytes (Err (Wire e)) = Fails e (whole (state_at layout) bytes)
Decodes layout bytes (Err Unlawful) = SpellsUnlawful layout bytes

-- unless a growth was refused
abbrev pub Is : Result Node StateFault → Result Node StateFault → Type 0
Is (Err (Wire wire.NoMemory)) answer = Unit {0}
Is result answer = result ≡ answer
