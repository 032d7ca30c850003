-- At most one name for each entry passed, and what is left of the rule is the whole. Each offset that is followed is above 0, so that the loop ends.
use Rattle.std.proofs.Common.{◌≤◌, ◌-◌}
use Rattle.process.specs.Process.{chain_turn, chain_of}
use Rattle.base.proofs.Laws.{Rest}
use Rattle.process.proofs.chain.Given as goal

abbrev pub invariant-loop-next : goal.invariant-loop-next
invariant-loop-next l = record {
  passed : l.named ≤ l.next;
  within : l.named ≤ l.n;
  rest : Rest (chain_turn l.events l.n) 0 (λ z. l.n - z.0) (chain_of l.events l.n l.at) (l.next, l.named);
}

abbrev pub decreases-loop-next : goal.decreases-loop-next
decreases-loop-next l = l.n - l.next
