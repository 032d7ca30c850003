use Rattle.std.proofs.Common.{rules}
use Rattle.grammar.proofs.Laws.{grammar}
use Rattle.grammar.specs.Expressions.{field}
use Rattle.grammar.proofs.expressions.field.Goals as goal

pub returns-then-is_field_name : goal.returns-then-is_field_name
unfolding field
returns-then-is_field_name c = search (grammar, rules) depth 10

pub returns-then-kind-eq-FLOAT_NUMBER : goal.returns-then-kind-eq-FLOAT_NUMBER
unfolding field
returns-then-kind-eq-FLOAT_NUMBER c = search (grammar, rules) depth 10

pub returns : goal.returns
unfolding field
returns c = search (grammar, rules) depth 10
