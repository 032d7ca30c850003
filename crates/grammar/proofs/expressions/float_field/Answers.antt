use Rattle.std.proofs.Common.{rules}
use Rattle.grammar.proofs.Laws.{grammar}
use Rattle.grammar.specs.Expressions.{float_field}
use Rattle.grammar.proofs.expressions.float_field.Goals as goal

pub returns-in_err-state : goal.returns-in_err-state
unfolding float_field
returns-in_err-state c = search (grammar, c.in_err-state.was, rules) depth 10

pub returns-in-Some : goal.returns-in-Some
unfolding float_field
returns-in-Some c = search (grammar, c.in_ok-state.was, rules) depth 10

pub returns-in-None : goal.returns-in-None
unfolding float_field
returns-in-None c = search (grammar, c.in_ok-state.was, rules) depth 10
