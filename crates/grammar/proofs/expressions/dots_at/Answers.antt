use Rattle.std.proofs.Common.{rules}
use Rattle.base.proofs.Laws.{tests}
use Rattle.grammar.specs.Forms.{dots_at}
use Rattle.grammar.proofs.expressions.dots_at.Goals as goal

pub returns-then-nth_at : goal.returns-then-nth_at
unfolding dots_at
returns-then-nth_at c = search (tests, rules) depth 10

pub returns-then-nth_at-2 : goal.returns-then-nth_at-2
unfolding dots_at
returns-then-nth_at-2 c = search (tests, rules) depth 10

pub returns : goal.returns
unfolding dots_at
returns c = search (tests, rules) depth 10
