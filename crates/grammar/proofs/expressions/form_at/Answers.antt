use Rattle.std.proofs.Common.{rules}
use Rattle.base.proofs.Laws.{tests}
use Rattle.grammar.specs.Forms.{form_at}
use Rattle.grammar.proofs.expressions.form_at.Goals as goal

pub returns-then-recovery : goal.returns-then-recovery
unfolding form_at
returns-then-recovery c = search (tests, rules) depth 10

pub returns-in-10 : goal.returns-in-10
unfolding form_at
returns-in-10 c = search (tests, rules) depth 10

pub returns-in-12 : goal.returns-in-12
unfolding form_at
returns-in-12 c = search (tests, rules) depth 10

pub returns-in-16 : goal.returns-in-16
unfolding form_at
returns-in-16 c = search (tests, rules) depth 10

pub returns-in-29 : goal.returns-in-29
unfolding form_at
returns-in-29 c = search (tests, rules) depth 10

pub returns-in_default : goal.returns-in_default
unfolding form_at
returns-in_default c = search (tests, rules) depth 10
