use Rattle.std.proofs.Common.{rules}
use Rattle.grammar.proofs.Laws.{grammar}
use Rattle.grammar.specs.Expressions.{begin_ref}
use Rattle.grammar.proofs.expressions.begin_ref.Goals as goal

pub returns-in_err-state : goal.returns-in_err-state
unfolding begin_ref
returns-in_err-state c = search (grammar, c.in_err-state.was, rules) depth 10

pub returns-in_err-eat : goal.returns-in_err-eat
unfolding begin_ref
returns-in_err-eat c = search (grammar, c.in_ok-state.was, c.in_err-eat.was, rules) depth 10

pub returns : goal.returns
unfolding begin_ref
returns c = search (grammar, c.in_ok-state.was, c.in_ok-eat.was, rules) depth 10
