-- What is left to do is the whole, and no more nodes are open than steps were passed. Assumes nothing.
use Rattle.std.proofs.Common.{◌≤◌, ◌+◌}
use Rattle.operand.proofs.Laws.{IsOnTheWay}
use Rattle.operand.proofs.matched.Given as goal

abbrev pub invariant-loop-i : goal.invariant-loop-i
invariant-loop-i l =
    record {
      some : 1 ≤ l.open;
      few : l.open ≤ l.at + 1 + l.i;
      way : IsOnTheWay l.fn.steps l.at (l.at + 1 + l.i) l.open;
    }
