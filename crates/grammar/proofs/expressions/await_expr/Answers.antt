use Rattle.std.proofs.Common.{rules}
use Rattle.grammar.proofs.Laws.{grammar}
use Rattle.grammar.specs.Expressions.{await_expr}
use Rattle.grammar.proofs.expressions.await_expr.Goals as goal

pub returns-in_err-state : goal.returns-in_err-state
unfolding await_expr
returns-in_err-state c = search (grammar, c.in_err-state.was, rules) depth 10

pub returns-in_err-state-2 : goal.returns-in_err-state-2
unfolding await_expr
returns-in_err-state-2 c = search (grammar, c.in_ok-state.was, c.in_err-state-2.was, rules) depth 10

pub returns : goal.returns
unfolding await_expr
returns c = search (grammar, c.in_ok-state.was, c.in_ok-state-2.was, rules) depth 10
