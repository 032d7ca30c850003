use Rattle.std.proofs.Common.{rules}
use Rattle.grammar.proofs.Laws.{grammar}
use Rattle.grammar.specs.Expressions.{yields, plain_atom}
use Rattle.grammar.proofs.expressions.plain_atom.Goals as goal

pub returns-then-outside_atom : goal.returns-then-outside_atom
unfolding plain_atom yields
returns-then-outside_atom c = search (grammar, rules) depth 10

pub returns-then-kind-eq-DOT : goal.returns-then-kind-eq-DOT
unfolding plain_atom yields
returns-then-kind-eq-DOT c = search (grammar, rules) depth 10

pub returns-in_err-state : goal.returns-in_err-state
unfolding plain_atom yields
returns-in_err-state c = search (grammar, c.in_err-state.was, rules) depth 10

pub returns : goal.returns
unfolding plain_atom yields
returns c = search (grammar, c.in_ok-state.was, rules) depth 10
