use Rattle.cc_laws.proofs.Regularity.{each_shares, collect_sees, collects_in_turn, course}
use Rattle.cc_laws.proofs.regular.collects_are_regular.Goals as goal

pub returns : goal.returns
returns g = record {
  stored = λ c mid d first second begins to_mid to_d meet q k s r stored p x y ahead.
      let run = course c mid d first second begins to_mid to_d in
      collect_sees run q s r p x y ahead (each_shares run meet q s r p x y) k stored;
  in_turn = λ c mid d first second begins to_mid to_d meet q s r v has p x y ahead.
      let run = course c mid d first second begins to_mid to_d in
      collects_in_turn run q s r p x y ahead (each_shares run meet q s r p x y) v has;
}
