use Rattle.std.proofs.Common.{rules}
use Rattle.base.proofs.Laws.{tests}
use Rattle.grammar.specs.Expressions.{name_at}
use Rattle.grammar.proofs.expressions.name_at.Goals as goal

pub returns-then-recovery : goal.returns-then-recovery
unfolding name_at
returns-then-recovery c = search (tests, rules) depth 10

pub returns-then-at-len : goal.returns-then-at-len
unfolding name_at
returns-then-at-len c = search (tests, rules) depth 10

pub returns : goal.returns
unfolding name_at
returns c = search (tests, rules) depth 10
