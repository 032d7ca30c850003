-- `write` is `write_of`. Assumes nothing.
use Rattle.std.proofs.Common.{arith, rules, refl}
use Rattle.event.specs.Event.{event_limit}
use Rattle.input.specs.Input.{token_limit}
use Rattle.process.specs.Process.{process_turn, write_of}
use Rattle.base.proofs.Laws.{rest_start, rest_done, rest_again}
use Rattle.process.proofs.Laws.{of_pass}
use Rattle.process.proofs.write.Goals as goal

pub loop-i-init : goal.loop-i-init
unfolding write_of event_limit token_limit
loop-i-init c = record { same_events = refl; few = omega arith; rest = rest_start _ _ _ _ _ (omega arith) }

pub loop-i-preserved : goal.loop-i-preserved
loop-i-preserved c = record {
  same_events = search rules;
  few = c.turn-done.ensures.steps_bound;
  rest = rest_again _ _ _ _ _ _ c.loop-i.invariant.rest c.turn-done.ensures.steps_after (omega arith);
}

pub returns : goal.returns
unfolding process_turn
returns c = search (of_pass, rest_done) depth 10
