use Rattle.std.proofs.Common.{◌≤◌, arith, refl}
use Rattle.cc_node.proofs.ShareLaws.{begun_few, replies_few, told_along}
use Rattle.cc_node.proofs.laws.share_one.Goals as goal

pub returns-clause-begun : goal.returns-clause-begun
returns-clause-begun c = begun_few

pub returns-clause-answered : goal.returns-clause-answered
returns-clause-answered c = λ k e lawful. replies_few k e lawful.line.round.few

pub returns-clause-share : goal.returns-clause-share
returns-clause-share c = told_along

pub returns-clause-one_begun : goal.returns-clause-one_begun
returns-clause-one_begun c = λ k e one. let some : 1 ≤ k.ops.share = omega (arith, one) in omega (arith, begun_few k e some, one)

pub returns-clause-one_answered : goal.returns-clause-one_answered
returns-clause-one_answered c = λ k e lawful one. omega (arith, replies_few k e lawful.line.round.few, one)

pub returns-clause-first : goal.returns-clause-first
returns-clause-first c = λ a line. refl

pub returns-clause-behind : goal.returns-clause-behind
returns-clause-behind c = λ a line. refl
