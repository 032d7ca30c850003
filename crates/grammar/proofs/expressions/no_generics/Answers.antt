use Rattle.std.proofs.Common.{rules}
use Rattle.grammar.proofs.Laws.{grammar}
use Rattle.grammar.specs.Expressions.{no_generics}
use Rattle.grammar.proofs.expressions.no_generics.Goals as goal

pub returns-then-nth_at : goal.returns-then-nth_at
unfolding no_generics
returns-then-nth_at c = search (grammar, rules) depth 10

pub returns : goal.returns
unfolding no_generics
returns c = search (grammar, rules) depth 10
