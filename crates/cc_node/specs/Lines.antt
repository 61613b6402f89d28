-- How a node's outputs follow one another.
--     Follows x y        y may come after x: on one link it has a greater number, and in one session it answers a later
--                        request
use Rattle.std.specs.Prelude.{◌≡◌, ◌<◌, ⊤}
use Rattle.cc_messages.specs.declared.output.Output.{Output}
use Rattle.cc_messages.specs.declared.output.Output.TheVariants as output

-- outputs of two kinds are never one
abbrev pub Follows : Output → Output → Type 0
Follows (output.Send to number m) (output.Send peer later k) = to ≡ peer → number < later
Follows (output.Ack to number) (output.Ack peer later) = to ≡ peer → number < later
Follows (output.Reply s request a) (output.Reply session later b) = s ≡ session → request < later
Follows _ _ = ⊤
