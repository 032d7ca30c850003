use Rattle.std.proofs.Common.{rules}
use Rattle.base.proofs.Laws.{tests}
use Rattle.grammar.specs.Forms.{dot_form_at}
use Rattle.grammar.proofs.expressions.dot_form_at.Goals as goal

pub returns-then-is_method : goal.returns-then-is_method
unfolding dot_form_at
returns-then-is_method c = search (tests, rules) depth 10

pub returns-then-kind_at-eq-AWAIT_KW : goal.returns-then-kind_at-eq-AWAIT_KW
unfolding dot_form_at
returns-then-kind_at-eq-AWAIT_KW c = search (tests, rules) depth 10

pub returns-then-is_dots : goal.returns-then-is_dots
unfolding dot_form_at
returns-then-is_dots c = search (tests, rules) depth 10

pub returns : goal.returns
unfolding dot_form_at
returns c = search (tests, rules) depth 10
