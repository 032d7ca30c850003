-- One text after the other. Assumes nothing.
use Rattle.answers.specs.Text.{head_text}
use Rattle.answers.proofs.Writing.{wrote_then}
use Rattle.answers.proofs.Writer.head.Goals as goal

pub returns : goal.returns
unfolding head_text
returns c = search wrote_then depth 6
