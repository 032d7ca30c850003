-- One text after the other. Assumes nothing.
use Rattle.answers.proofs.Writing.{wrote_then}
use Rattle.revision.specs.Revision.{extra_text}
use Rattle.revision.proofs.put_extra.Goals as goal

pub returns : goal.returns
unfolding extra_text
returns c =
    let pair = rw c.from.ensures at c.put_pair.ensures in
    search wrote_then depth 6
