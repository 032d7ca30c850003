use Rattle.std.proofs.Common.{rules}
use Rattle.base.proofs.Laws.{tests}
use Rattle.grammar.specs.Expressions.{is_dots}
use Rattle.grammar.proofs.expressions.is_dots.Goals as goal

pub returns-then-nth_at : goal.returns-then-nth_at
unfolding is_dots
returns-then-nth_at c = search (tests, rules) depth 10

pub returns-else-nth_at : goal.returns-else-nth_at
unfolding is_dots
returns-else-nth_at c = search (tests, rules) depth 10
