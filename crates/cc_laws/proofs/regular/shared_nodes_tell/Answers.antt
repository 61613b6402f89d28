use Rattle.cc_laws.proofs.Regularity.{one_shares, collect_sees, collects_in_turn, course}
use Rattle.cc_laws.proofs.regular.shared_nodes_tell.Goals as goal

pub returns : goal.returns
returns g = record {
  stored = λ c mid d first second begins to_mid to_d q k s r stored p x y ahead share.
      let run = course c mid d first second begins to_mid to_d in
      collect_sees run q s r p x y ahead (one_shares run q s r p x y share) k stored;
  in_turn = λ c mid d first second begins to_mid to_d q s r v has p x y ahead share.
      let run = course c mid d first second begins to_mid to_d in
      collects_in_turn run q s r p x y ahead (one_shares run q s r p x y share) v has;
}
