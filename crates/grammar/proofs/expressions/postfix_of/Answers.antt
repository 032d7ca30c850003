use Rattle.std.proofs.Common.{rules}
use Rattle.grammar.specs.Views.{postfix_of}
use Rattle.grammar.proofs.expressions.postfix_of.Goals as goal

pub returns-in_err-state : goal.returns-in_err-state
unfolding postfix_of
returns-in_err-state c = search (c.in_err-state.was, rules) depth 10

pub returns : goal.returns
unfolding postfix_of
returns c = search (c.in_ok-state.was, rules) depth 10
