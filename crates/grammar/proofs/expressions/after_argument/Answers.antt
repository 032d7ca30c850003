use Rattle.std.proofs.Common.{rules}
use Rattle.grammar.proofs.Laws.{grammar}
use Rattle.grammar.specs.Expressions.{after_argument}
use Rattle.grammar.proofs.expressions.after_argument.Goals as goal

pub returns-in_err-state : goal.returns-in_err-state
unfolding after_argument
returns-in_err-state c = search (grammar, c.in_err-state.was, rules) depth 10

pub returns-in-Some : goal.returns-in-Some
unfolding after_argument
returns-in-Some c = search (grammar, c.in_ok-state.was, rules) depth 10

pub returns-in-None : goal.returns-in-None
unfolding after_argument
returns-in-None c = search (grammar, c.in_ok-state.was, rules) depth 10
