use Rattle.std.proofs.Common.{rules}
use Rattle.grammar.proofs.Laws.{grammar}
use Rattle.grammar.specs.Expressions.{lone_dot}
use Rattle.grammar.proofs.expressions.lone_dot.Goals as goal

pub returns-in_err-state : goal.returns-in_err-state
unfolding lone_dot
returns-in_err-state c = search (grammar, c.in_err-state.was, rules) depth 10

pub returns : goal.returns
unfolding lone_dot
returns c = search (grammar, c.in_ok-state.was, rules) depth 10
