use Rattle.std.proofs.Common.{rules}
use Rattle.grammar.proofs.Laws.{grammar}
use Rattle.grammar.specs.Expressions.{named_field}
use Rattle.grammar.proofs.expressions.named_field.Goals as goal

pub returns-in_err-state : goal.returns-in_err-state
unfolding named_field
returns-in_err-state c = search (grammar, c.in_err-state.was, rules) depth 10

pub returns : goal.returns
unfolding named_field
returns c = search (grammar, c.in_ok-state.was, rules) depth 10
