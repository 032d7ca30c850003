-- What was put so far are the differences up to as many steps as were gone over. Assumes nothing.
use Rattle.std.proofs.Common.{length}
use Rattle.answers.specs.Writer.{Wrote}
use Rattle.revision.specs.Revision.{differs_text}
use Rattle.revision.proofs.put_differs.Given as goal

abbrev pub invariant-loop-i : goal.invariant-loop-i
invariant-loop-i l = Wrote l.initial.writer (differs_text l.first l.second (length l.yielded)) l.writer
