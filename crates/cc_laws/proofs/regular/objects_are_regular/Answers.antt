use Rattle.cc_laws.proofs.ReadingBack.{max_seen, max_in_turn, flag_seen, flag_in_turn, member_seen, members_in_turn}
use Rattle.cc_laws.proofs.Regularity.{each_shares, course}
use Rattle.cc_laws.proofs.regular.objects_are_regular.Goals as goal

pub returns : goal.returns
returns g = record {
  max = λ c mid d first second begins to_mid to_d meet q s r k has p x y ahead.
      let run = course c mid d first second begins to_mid to_d in max_seen run q s r p x y ahead (each_shares run meet q s r p x y) k has;
  max_in_turn = λ c mid d first second begins to_mid to_d meet q s r k has p x y ahead.
      let run = course c mid d first second begins to_mid to_d in max_in_turn run q s r p x y ahead (each_shares run meet q s r p x y) k has;
  flag = λ c mid d first second begins to_mid to_d meet q s r has p x y ahead.
      let run = course c mid d first second begins to_mid to_d in flag_seen run q s r p x y ahead (each_shares run meet q s r p x y) has;
  flag_in_turn = λ c mid d first second begins to_mid to_d meet q s r has p x y ahead.
      let run = course c mid d first second begins to_mid to_d in flag_in_turn run q s r p x y ahead (each_shares run meet q s r p x y) has;
  member = λ c mid d first second begins to_mid to_d meet q s r k has p x y ahead.
      let run = course c mid d first second begins to_mid to_d in member_seen run q s r p x y ahead (each_shares run meet q s r p x y) k has;
  members_in_turn = λ c mid d first second begins to_mid to_d meet q s r ys has p x y ahead.
      let run = course c mid d first second begins to_mid to_d in members_in_turn run q s r p x y ahead (each_shares run meet q s r p x y) ys has;
}
