-- `parser::inner::is_last` meets its contract: the entry before the count, with no flag; a marker from the count on is never the last. Assumes nothing.
use Rattle.std.proofs.Common.{◌+◌, ap, ◌∙◌, refl, arith}
use lib.Dec.{eqb}
use Rattle.base.proofs.Laws.{whether_eq, whether_ne}
use Rattle.event.specs.Event.{flag_of}
use Rattle.parser.specs.Calls.{is_last}
use Rattle.parser.proofs.inner.is_last.Goals as goal

pub returns-then-m-n-2 : goal.returns-then-m-n-2
unfolding is_last
returns-then-m-n-2 c = whether_eq _ _ _ _ c.if-m-n-2.true (ap (λ z. eqb z 0) (c.flag_of.ensures ∙ ap (λ z. flag_of z) c.event_at.ensures))

pub returns-else-m-n-2 : goal.returns-else-m-n-2
unfolding is_last
returns-else-m-n-2 c = whether_ne _ _ _ _ c.if-m-n-2.false refl

pub returns-else-m-n : goal.returns-else-m-n
unfolding is_last
returns-else-m-n c = whether_ne _ _ (c.args.m + 1) c.args.state.count (λ q. omega arith) refl
