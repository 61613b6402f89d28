use Rattle.std.proofs.Common.{◌≡◌, ◌≤◌, ◌∷◌, false, List, length, sym, ap, subst, ◌∙◌, arith}
use Rattle.cc_views.specs.Limits.{set_limit}
use Rattle.cc_views.specs.NatSets as set
use Rattle.cc_views.specs.declared.value.Value.{Value}
use Rattle.cc_ops.specs.declared.pending_operation.Asked.{Asked}
use Rattle.cc_ops.specs.contracts.ops.Ops.{the_view}
use Rattle.cc_ops.specs.Ops.{Ops, is_idle}
use Rattle.cc_ops.specs.OwnLaws.{IsRound, first_is_round}
use Rattle.cc_ops.specs.Rounds.{first_round, line_behind}
use Rattle.cc_ops.specs.RoundLaws.{first_few}
use Rattle.cc_ops.specs.Stages.{HasRoom}
use Rattle.cc_ops.specs.WaitingAsks.{written_by}
use Rattle.cc_ops.proofs.Rooms.{may_wait, round_room, behind_room}
use Rattle.cc_ops.proofs.ops.Ops.begin_first.Goals as goal

pub invariant_of-self : goal.invariant_of-self
invariant_of-self c =
    let a = c.self.inside in
    let pending : is_idle (the_view a).phase ≡ false = ap (λ (s : Ops). is_idle s.phase) c.self.view_is ∙ c.requires.pending in
    record {
      number = c.self.invariant.number;
      tag = c.self.invariant.tag;
      some = c.self.invariant.some;
      few = c.self.invariant.few;
      beside = let most = first_few a.share a.line in omega (arith, most, ap length c.in-Some.ensures.some);
      waits = c.self.invariant.waits;
      behind = may_wait a.stage a.seen _ pending;
      room = subst (λ (l : List Asked). HasRoom l a.mine) (sym c.in-Some.ensures.line) (behind_room a.share a.line a.mine c.self.invariant.room);
    }

pub begin-requires-clause-room : goal.begin-requires-clause-room
begin-requires-clause-room c =
    let a = c.self.inside in
    let same : written_by (line_behind a.share a.line) (written_by (first_round a.share a.line) a.mine) ≡ written_by c.take_round-round.new.line
    (written_by (c.in-Some.asked ∷ c.take_round-round.new.others) a.mine) =
    λ i. written_by (sym c.in-Some.ensures.line i) (written_by (sym c.in-Some.ensures.some i) a.mine) in
    subst (λ (v : Value). set.len v.set ≤ set_limit) same (round_room a.share a.line a.mine c.self.invariant.room)

pub begin-requires-clause-alike : goal.begin-requires-clause-alike
begin-requires-clause-alike c = subst IsRound (sym c.in-Some.ensures.some) (first_is_round c.self.inside.share c.self.inside.line)
