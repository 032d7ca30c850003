-- One text after the other. Assumes nothing.
use Rattle.answers.specs.Text.{refusal_text}
use Rattle.answers.proofs.Writing.{wrote_then}
use Rattle.answers.proofs.Writer.refusal.Goals as goal

pub returns : goal.returns
unfolding refusal_text
returns c =
    let number = rw c.from.ensures at c.decimal.ensures in
    search wrote_then depth 6
