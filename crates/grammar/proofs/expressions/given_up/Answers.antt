use Rattle.std.proofs.Common.{rules}
use Rattle.grammar.proofs.Laws.{grammar}
use Rattle.grammar.specs.Expressions.{given_up}
use Rattle.grammar.proofs.expressions.given_up.Goals as goal

pub returns-in_err-state : goal.returns-in_err-state
unfolding given_up
returns-in_err-state c = search (grammar, c.in_err-state.was, rules) depth 10

pub returns : goal.returns
unfolding given_up
returns c = search (grammar, c.in_ok-state.was, rules) depth 10
