-- What a connection may bring.
--     access_of        what may come over a connection, by where it comes from
--     operator_alone   what may come over one beyond the bounds
--     allows           whether an event may come over a connection of that access
--     speaker          the node that sends what brings an event
--     may_speak        whether an event may come over a connection, by who greeted over it
--     HasGreeted       what comes of a node comes over a connection over which that very node greeted
use Rattle.std.specs.Prelude.{◌≡◌, ℕ, ◌==◌, Bool, true, false, not, Option, Some, None}
use Rattle.cc_messages.specs.declared.event.Event.{Event}
use Rattle.cc_messages.specs.declared.event.Event.TheVariants as event
use Rattle.cc_policies.specs.declared.origin.Access.{Access}
use Rattle.cc_policies.specs.declared.origin.Origin.{Origin}
use Rattle.cc_policies.specs.declared.origin.Origin.TheVariants as origin

-- over the port for clients there are asks alone; the operator is heard on this machine, and on others where the node is
-- told so
abbrev pub access_of : Origin → Bool → Access
access_of origin.Loopback remote_operators = record { asks = true; nodes = true; operators = true }
access_of origin.Peer remote_operators = record { asks = true; nodes = true; operators = remote_operators }
access_of origin.Stranger remote_operators = record { asks = true; nodes = true; operators = remote_operators }
access_of origin.Client remote_operators = record { asks = true; nodes = false; operators = false }

abbrev pub operator_alone : Access
operator_alone = record { asks = false; nodes = false; operators = true }

-- what a node tells itself comes over no connection
abbrev pub allows : Access → Event → Bool
allows access event.Leave = access.operators
allows access (event.Deliver from number m) = access.nodes
allows access (event.Acked peer number) = access.nodes
allows access (event.Skip from posts) = access.nodes
allows access (event.Ask session request command) = access.asks
allows access (event.Retire node) = access.operators
allows access (event.Share share) = access.operators
allows access _ = false

abbrev pub speaker : Event → Option ℕ
speaker (event.Deliver from number m) = Some from
speaker (event.Acked peer number) = Some peer
speaker (event.Skip from posts) = Some from
speaker _ = None

-- over a connection over which a node greeted, that one's events alone; over another each node's, unless greetings are needed
abbrev pub may_speak_as : Option ℕ → Bool → ℕ → Bool
may_speak_as (Some greeter) needs_greeting node = greeter == node
may_speak_as None needs_greeting node = not needs_greeting

-- what no node sends needs no greeting
abbrev pub may_speak_for : Option ℕ → Bool → Option ℕ → Bool
may_speak_for greeter needs_greeting (Some node) = may_speak_as greeter needs_greeting node
may_speak_for greeter needs_greeting None = true

abbrev pub may_speak : Option ℕ → Bool → Event → Bool
may_speak greeter needs_greeting e = may_speak_for greeter needs_greeting (speaker e)

abbrev pub HasGreeted : Type 0
HasGreeted = (greeter : Option ℕ) (e : Event) (node : ℕ) → speaker e ≡ Some node → may_speak greeter true e ≡ true → greeter ≡ Some node
