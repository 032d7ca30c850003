use Rattle.std.proofs.Common.{rules}
use Rattle.grammar.proofs.Laws.{grammar}
use Rattle.grammar.specs.Forms.{call_head}
use Rattle.grammar.proofs.expressions.call_head.Goals as goal

pub returns-then-node-eq-CALL_EXPR : goal.returns-then-node-eq-CALL_EXPR
unfolding call_head
returns-then-node-eq-CALL_EXPR c = search (grammar, rules) depth 10

pub returns : goal.returns
unfolding call_head
returns c = search (grammar, rules) depth 10
