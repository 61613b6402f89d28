use Rattle.std.proofs.Common.{◌∷◌, sym, subst}
use Rattle.cc_ops.specs.Ops.{Ops}
use Rattle.cc_ops.specs.Stages.{HasRoom}
use Rattle.cc_ops.specs.WaitingAsks.{written_by}
use Rattle.cc_ops.specs.WaitingAskLaws.{first_room, own_room}
use Rattle.cc_ops.proofs.ops.Ops.write.Goals as goal

pub written-first-requires : goal.written-first-requires
written-first-requires c =
    let a = c.args.asked.now in
    let s = c.self.inside in
    let all = subst (λ (t : Ops). HasRoom t.line (written_by (a ∷ t.others) t.mine)) (sym c.self.view_is) c.requires.room in
    first_room a s.others s.mine (own_room s.line (written_by (a ∷ s.others) s.mine) all)

pub unwrap-self-inside-requires : goal.unwrap-self-inside-requires
unwrap-self-inside-requires c =
    let a = c.args.asked.now in
    let s = c.self.inside in
    let all = subst (λ (t : Ops). HasRoom t.line (written_by (a ∷ t.others) t.mine)) (sym c.self.view_is) c.requires.room in
    c.last_value.ensures.fits.1 (subst (HasRoom s.others) (sym c.written-first.ensures) (own_room s.line (written_by (a ∷ s.others) s.mine) all))
