use Rattle.std.proofs.Common.{rules}
use Rattle.grammar.proofs.Laws.{grammar}
use Rattle.grammar.specs.Expressions.{try_expr}
use Rattle.grammar.proofs.expressions.try_expr.Goals as goal

pub returns-in_err-state : goal.returns-in_err-state
unfolding try_expr
returns-in_err-state c = search (grammar, c.in_err-state.was, rules) depth 10

pub returns : goal.returns
unfolding try_expr
returns c = search (grammar, c.in_ok-state.was, rules) depth 10
