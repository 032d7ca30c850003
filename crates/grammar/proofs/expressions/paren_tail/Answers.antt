use Rattle.std.proofs.Common.{rules}
use Rattle.grammar.proofs.Laws.{grammar}
use Rattle.grammar.specs.Expressions.{paren_tail}
use Rattle.grammar.proofs.expressions.paren_tail.Goals as goal

pub returns-then-kind_at-eq-COMMA : goal.returns-then-kind_at-eq-COMMA
unfolding paren_tail
returns-then-kind_at-eq-COMMA c = search (grammar, rules) depth 10

pub returns : goal.returns
unfolding paren_tail
returns c = search (grammar, rules) depth 10
