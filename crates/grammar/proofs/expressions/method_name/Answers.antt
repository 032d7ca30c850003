use Rattle.std.proofs.Common.{rules}
use Rattle.grammar.proofs.Laws.{grammar}
use Rattle.grammar.specs.Expressions.{method_name}
use Rattle.grammar.proofs.expressions.method_name.Goals as goal

pub returns-then-kind_at-ne-IDENT : goal.returns-then-kind_at-ne-IDENT
unfolding method_name
returns-then-kind_at-ne-IDENT c = search (grammar, rules) depth 10

pub returns-in_err-state : goal.returns-in_err-state
unfolding method_name
returns-in_err-state c = search (grammar, c.in_err-state.was, rules) depth 10

pub returns : goal.returns
unfolding method_name
returns c = search (grammar, c.in_ok-state.was, rules) depth 10
