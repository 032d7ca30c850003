-- `enter` is `enter_of`. Assumes nothing.
use Rattle.std.proofs.Common.{arith, rules, refl}
use Rattle.process.specs.Process.{enter_turn, enter_of}
use Rattle.base.proofs.Laws.{rest_start, rest_done, rest_again}
use Rattle.process.proofs.Laws.{enter_done, enter_again, of_pass}
use Rattle.process.proofs.enter.Goals as goal

pub loop-parent-init : goal.loop-parent-init
unfolding enter_of
loop-parent-init c = record { same_events = refl; rest = rest_start _ _ _ _ _ (omega arith) }

pub returns-in_default : goal.returns-in_default
returns-in_default c =
    rest_done _ _ _ _ _ c.loop-parent.invariant.rest (search (enter_done, c.in_default.ensures.value, rules))

pub loop-parent-preserved : goal.loop-parent-preserved
loop-parent-preserved c = record {
  same_events = search rules;
  rest = rest_again _ _ _ _ _ _ c.loop-parent.invariant.rest (search (enter_again, c.in-Some.ensures.value, c.in-Some.ensures.bounds.0, rules)) (omega (arith, c.in-Some.ensures.bounds.0));
}

pub returns : goal.returns
unfolding enter_turn
returns c = search (of_pass, rest_done) depth 10
