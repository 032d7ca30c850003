-- `in_range` is `in_range`: by the capacity that the code has, the test of the count goes one way or the other. Assumes nothing.
use Rattle.event.proofs.Laws.{within, out_of}
use Rattle.event.proofs.in_range.Goals as goal

pub returns-then-state-capacity : goal.returns-then-state-capacity
returns-then-state-capacity c = search within

pub returns-else-state-capacity : goal.returns-else-state-capacity
returns-else-state-capacity c = search out_of
