use Rattle.std.proofs.Common.{arith}
use Rattle.base.proofs.Laws.{tests}
use Rattle.input.proofs.Presence.{present_row, is_parts}
use Rattle.input.proofs.Tokens.parts_at.Goals as goal

pub returns-then-not-stands_joint-clause-value : goal.returns-then-not-stands_joint-clause-value
unfolding present_row
returns-then-not-stands_joint-clause-value c = is_parts _ _ _ (search tests depth 10)

pub overflow_add-at : goal.overflow_add-at
overflow_add-at c = omega (arith, c.stands_joint.ensures.at_bound c.if-not-stands_joint.false)

pub returns-then-row-eq2-clause-value : goal.returns-then-row-eq2-clause-value
unfolding present_row
returns-then-row-eq2-clause-value c = is_parts _ _ _ (search tests depth 10)

pub overflow_add-at-2 : goal.overflow_add-at-2
overflow_add-at-2 c = omega (arith, c.stands_joint.ensures.at_bound c.if-not-stands_joint.false)

pub overflow_add-at-then-stands_joint : goal.overflow_add-at-then-stands_joint
overflow_add-at-then-stands_joint c = omega (arith, c.stands_joint.ensures.at_bound c.if-not-stands_joint.false)

pub returns-then-stands_joint-clause-value : goal.returns-then-stands_joint-clause-value
unfolding present_row
returns-then-stands_joint-clause-value c = is_parts _ _ _ (search tests depth 10)

pub returns-else-stands_joint-clause-value : goal.returns-else-stands_joint-clause-value
unfolding present_row
returns-else-stands_joint-clause-value c = is_parts _ _ _ (search tests depth 10)
