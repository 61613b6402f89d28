use Rattle.std.proofs.Common.{◌≡◌, ◌+◌, rules, ◌∙◌, ap, sym}
use Rattle.cc_messages.specs.declared.event.Event.TheVariants as event
use Rattle.cc_node.specs.Core.{next, quorum}
use Rattle.cc_node.specs.contracts.node_core.Core.{the_view}
use Rattle.cc_node.proofs.Effects.{ask_room, next_ask, next_keeps, byte_is}
use Rattle.cc_node.proofs.node_core.Core.ask.Goals as goal
use Rattle.cc_node.proofs.node_core.Core.ask.Goals.{After-begin}

pub ask-requires : goal.ask-requires
ask-requires c =
    let room = ask_room c.self.view_is c.requires c.self.invariant in
    let needed = c.quorum.ensures ∙ ap quorum c.self.view_is in
    record {
      free = room.free;
      room = room.set;
      some = search rules;
      few = room.few needed;
      fits = room.view needed;
      number = room.number needed;
      tag = room.tag needed;
    }

pub begin-requires : goal.begin-requires
begin-requires c = (ask_room c.self.view_is c.requires c.self.invariant).session

-- the fields are then those of the next core
after : (c : After-begin) → let a = the_view c.self.inside in
    record a { ops = c.ask.new.self; posts = a.posts + c.from-made.result; sessions = c.begin.new.self }
    ≡ next c.args.self.now (event.Ask c.args.session c.args.request c.args.command.now)
after c =
    let made = byte_is _ _ _ c.from-made.ensures c.is_idle.ensures in
    rw (c.ask.ensures, c.quorum.ensures, c.begin.ensures, made, ← c.self.view_is) (sym (next_ask _ c.args.session c.args.request c.args.command.now))

pub invariant_of-self : goal.invariant_of-self
invariant_of-self c = next_keeps _ c.self.view_is (after (goal.at.invariant_of-self c).After-begin) c.requires c.self.invariant

pub returns : goal.returns
returns c = after (goal.at.returns c).After-begin
