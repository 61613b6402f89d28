use Rattle.cc_node_state.specs.GoodLaws.{shut_side, good_other_way}
use Rattle.cc_flush.proofs.laws.shut_side.Goals as goal

pub returns-clause-first : goal.returns-clause-first
returns-clause-first c = λ a b changed unarmed still there later start events durable opening told. (
  shut_side a b changed unarmed still start events durable opening told later,
  shut_side changed b a still unarmed start events durable opening told there,
)

pub returns-clause-second : goal.returns-clause-second
returns-clause-second c = λ a b changed unarmed still there later start events durable opening told. (
  λ good. good_other_way start events durable opening changed a told
      (shut_side b a changed unarmed still start events durable opening told later (good_other_way start events durable opening a b told good)),
  λ good. good_other_way start events durable opening b a told
      (shut_side changed a b still unarmed start events durable opening told there (good_other_way start events durable opening a changed told good)),
)
