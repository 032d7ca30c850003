-- The loop is the way to the matching leave: a turn for each step behind the enter. Assumes nothing.
use Rattle.std.proofs.Common.{arith, rules}
use Rattle.operand.proofs.Laws.{way_start, way_enter, way_done, way_on, way_out}
use Rattle.operand.proofs.matched.Goals as goal
use Rattle.operand.proofs.matched.Goals.{then-is_enter, else-is_enter+else-open-leaves}

pub loop-i-init : goal.loop-i-init
loop-i-init c = record { some = omega arith; few = omega arith; way = way_start _ _ _ (omega arith) }

pub returns-then-open-leaves-clause-value : goal.returns-then-open-leaves-clause-value
returns-then-open-leaves-clause-value c = search (way_done, rules)

pub loop-i-preserved : goal.loop-i-preserved
loop-i-preserved c =
    elim c.if-is_enter.branch [
      | then-is_enter w ↦ rw w.open-is record { some = omega arith; few = omega arith; way = search (way_enter, rules) }
      | else-is_enter+else-open-leaves w ↦ rw w.open-is record { some = omega arith; few = omega arith; way = search (way_on, rules) }
    ]

pub returns-clause-value : goal.returns-clause-value
returns-clause-value c = search (way_out, rules)
