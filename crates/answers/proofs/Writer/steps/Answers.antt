-- One text after the other. Assumes nothing.
use Rattle.answers.specs.Text.{steps_text}
use Rattle.answers.proofs.Writing.{wrote_then}
use Rattle.answers.proofs.Writer.steps.Goals as goal

pub returns : goal.returns
unfolding steps_text
returns c = search wrote_then depth 4
