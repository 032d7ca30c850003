use Rattle.std.proofs.Common.{rules}
use Rattle.grammar.proofs.Laws.{grammar}
use Rattle.grammar.specs.Expressions.{dotted}
use Rattle.grammar.proofs.expressions.dotted.Goals as goal

pub returns-then-recovery : goal.returns-then-recovery
unfolding dotted
returns-then-recovery c = search (grammar, rules) depth 10

pub returns : goal.returns
unfolding dotted
returns c = search (grammar, rules) depth 10
