-- What was put so far are the extra steps up to `i`. Assumes nothing.
use Rattle.answers.specs.Writer.{Wrote}
use Rattle.revision.specs.Revision.{extras_text}
use Rattle.revision.proofs.put_extras.Given as goal

abbrev pub invariant-loop-i : goal.invariant-loop-i
invariant-loop-i l = Wrote l.initial.writer (extras_text l.name l.from l.rest l.i) l.writer
