-- `is_enter` meets its rule: the range of the enters. Assumes nothing.
use Rattle.std.proofs.Common.{rules}
use Rattle.base.proofs.Laws.{tests}
use Rattle.operand.specs.Operand.{is_enter}
use Rattle.operand.proofs.is_enter.Goals as goal

pub returns-then-step-ge-FIRST : goal.returns-then-step-ge-FIRST
unfolding is_enter
returns-then-step-ge-FIRST c = search (tests, rules) depth 10

pub returns-else-step-ge-FIRST : goal.returns-else-step-ge-FIRST
unfolding is_enter
returns-else-step-ge-FIRST c = search (tests, rules) depth 10
