-- Both lists keep their lengths, and what is left of the rule is the whole. Each offset that is followed is above 0, so that the loop ends.
use Rattle.std.proofs.Common.{◌≡◌, ◌-◌, length}
use Rattle.process.specs.Process.{enter_turn, enter_of}
use Rattle.base.proofs.Laws.{Rest}
use Rattle.process.proofs.enter.Given as goal

abbrev pub invariant-loop-parent : goal.invariant-loop-parent
invariant-loop-parent l = record {
  same_events : length l.events ≡ length l.fn.events;
  rest : Rest (enter_turn l.n) (l.fn.events, l.fn.steps) (λ z. l.n - z.0) (enter_of l.fn.events l.fn.steps l.n l.at l.top) (l.parent, l.below, l.events, l.steps);
}

abbrev pub decreases-loop-parent : goal.decreases-loop-parent
decreases-loop-parent l = l.n - l.parent
