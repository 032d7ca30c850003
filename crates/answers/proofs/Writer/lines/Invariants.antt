-- What was put so far is a line for each step up to the index. Assumes nothing.
use Rattle.std.proofs.Common.{take}
use Rattle.answers.specs.Text.{lines_of}
use Rattle.answers.specs.Writer.{Wrote}
use Rattle.answers.proofs.Writer.lines.Given as goal

abbrev pub invariant-loop-step : goal.invariant-loop-step
invariant-loop-step l = Wrote l.initial.self (lines_of (take l.step-index l.steps)) l.self
