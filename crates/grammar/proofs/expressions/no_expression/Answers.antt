use Rattle.std.proofs.Common.{rules}
use Rattle.grammar.proofs.Laws.{grammar}
use Rattle.grammar.specs.Expressions.{no_expression}
use Rattle.grammar.proofs.expressions.no_expression.Goals as goal

pub returns-in_err-state : goal.returns-in_err-state
unfolding no_expression
returns-in_err-state c = search (grammar, c.in_err-state.was, rules) depth 10

pub returns : goal.returns
unfolding no_expression
returns c = search (grammar, c.in_ok-state.was, rules) depth 10
