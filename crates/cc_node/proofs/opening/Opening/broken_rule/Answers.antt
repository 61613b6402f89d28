use Rattle.cc_node.proofs.Openings.{fails, some_so}
use Rattle.cc_node.proofs.opening.Opening.broken_rule.Goals as goal

pub returns-then-not-is_share-clause-none : goal.returns-then-not-is_share-clause-none
returns-then-not-is_share-clause-none c = some_so (fails _ c.if-not-is_share.true c.is_share.ensures) (λ o. o.beta)

pub returns-then-not-is_share-2-clause-none : goal.returns-then-not-is_share-2-clause-none
returns-then-not-is_share-2-clause-none c = some_so (fails _ c.if-not-is_share-2.true c.is_share-2.ensures) (λ o. o.gamma)

pub returns-then-not-is_ascending-clause-none : goal.returns-then-not-is_ascending-clause-none
returns-then-not-is_ascending-clause-none c = some_so (fails _ c.if-not-is_ascending.true c.is_ascending.ensures) (λ o. o.initial_ascends)

pub returns-then-not-is_ascending-2-clause-none : goal.returns-then-not-is_ascending-2-clause-none
returns-then-not-is_ascending-2-clause-none c = some_so (fails _ c.if-not-is_ascending-2.true c.is_ascending-2.ensures) (λ o. o.contacts_ascend)

pub returns-then-not-begins_right-clause-none : goal.returns-then-not-begins_right-clause-none
returns-then-not-begins_right-clause-none c = some_so (fails _ c.if-not-begins_right.true c.begins_right.ensures) (λ o. o.own_initial)

pub returns-then-names_zero-clause-none : goal.returns-then-names_zero-clause-none
returns-then-names_zero-clause-none c = some_so (λ never. never (c.names_zero.ensures.0 c.if-names_zero.true)) (λ o. o.no_zero)
