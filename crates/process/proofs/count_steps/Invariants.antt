-- At most one step for each entry passed, and what is left of the rule is the whole.
use Rattle.std.proofs.Common.{◌≤◌, ◌-◌}
use Rattle.process.specs.Process.{count_turn, count_of}
use Rattle.base.proofs.Laws.{Rest}
use Rattle.process.proofs.count_steps.Given as goal

abbrev pub invariant-loop-x : goal.invariant-loop-x
invariant-loop-x l = record {
  passed : l.total ≤ l.x-index;
  rest : Rest (count_turn l.events l.n) 0 (λ z. l.n - z.0) (count_of l.events l.n) (l.x-index, l.total, l.after);
}
