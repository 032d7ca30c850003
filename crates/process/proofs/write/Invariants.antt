-- No more steps than the limit for each turn, and what is left of the rule is the whole.
use Rattle.std.proofs.Common.{◌≡◌, ◌≤◌, ◌-◌, ◌*◌, length}
use Rattle.event.specs.Event.{event_limit}
use Rattle.process.specs.Process.{process_turn, write_of}
use Rattle.base.proofs.Laws.{Rest}
use Rattle.process.proofs.write.Given as goal

abbrev pub invariant-loop-i : goal.invariant-loop-i
invariant-loop-i l = record {
  same_events : length l.events ≡ length l.fn.events;
  few : l.done.steps ≤ event_limit * l.i;
  rest : Rest (process_turn l.n) (0, l.fn.steps) (λ z. l.n - z.0) (write_of l.n l.fn.events l.fn.steps) (l.i, l.done.steps, l.done.after, l.events, l.steps);
}
