-- One line after the other. Assumes nothing.
use Rattle.std.proofs.Common.{arith, rules}
use Rattle.answers.specs.Text.{lines_of}
use Rattle.answers.proofs.Writing.{wrote_nothing, wrote_line_more}
use Rattle.answers.proofs.Writer.lines.Goals as goal

pub loop-step-init : goal.loop-step-init
unfolding lines_of
loop-step-init c = wrote_nothing _

pub loop-step-preserved : goal.loop-step-preserved
loop-step-preserved c = wrote_line_more _ _ (omega arith) (search rules) c.loop-step.invariant c.line.ensures
