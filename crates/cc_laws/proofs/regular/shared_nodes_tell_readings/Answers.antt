use Rattle.cc_laws.proofs.ReadingBack.{max_seen, max_in_turn, flag_seen, flag_in_turn, member_seen, members_in_turn}
use Rattle.cc_laws.proofs.regular.shared_nodes_tell_readings.Goals as goal
use Rattle.cc_laws.proofs.Regularity.{one_shares, course}

pub returns : goal.returns
returns g = record {
  max = λ c mid d first second begins to_mid to_d q s r k has p x y ahead share.
      let run = course c mid d first second begins to_mid to_d in max_seen run q s r p x y ahead (one_shares run q s r p x y share) k has;
  max_in_turn = λ c mid d first second begins to_mid to_d q s r k has p x y ahead share.
      let run = course c mid d first second begins to_mid to_d in max_in_turn run q s r p x y ahead (one_shares run q s r p x y share) k has;
  flag = λ c mid d first second begins to_mid to_d q s r has p x y ahead share.
      let run = course c mid d first second begins to_mid to_d in flag_seen run q s r p x y ahead (one_shares run q s r p x y share) has;
  flag_in_turn = λ c mid d first second begins to_mid to_d q s r has p x y ahead share.
      let run = course c mid d first second begins to_mid to_d in flag_in_turn run q s r p x y ahead (one_shares run q s r p x y share) has;
  member = λ c mid d first second begins to_mid to_d q s r k has p x y ahead share.
      let run = course c mid d first second begins to_mid to_d in member_seen run q s r p x y ahead (one_shares run q s r p x y share) k has;
  members_in_turn = λ c mid d first second begins to_mid to_d q s r ys has p x y ahead share.
      let run = course c mid d first second begins to_mid to_d in members_in_turn run q s r p x y ahead (one_shares run q s r p x y share) ys has;
}
