use Rattle.std.proofs.Common.{rules}
use Rattle.grammar.proofs.Laws.{grammar}
use Rattle.grammar.specs.Expressions.{no_comma}
use Rattle.grammar.proofs.expressions.no_comma.Goals as goal

pub returns-then-not-is_first : goal.returns-then-not-is_first
unfolding no_comma
returns-then-not-is_first c = search (grammar, rules) depth 10

pub returns-in_err-state : goal.returns-in_err-state
unfolding no_comma
returns-in_err-state c = search (grammar, c.in_err-state.was, rules) depth 10

pub returns : goal.returns
unfolding no_comma
returns c = search (grammar, c.in_ok-state.was, rules) depth 10
