-- One text after the other. Assumes nothing.
use Rattle.answers.proofs.Writing.{wrote_then}
use Rattle.revision.specs.Revision.{differ_text}
use Rattle.revision.proofs.put_differ.Goals as goal

pub returns : goal.returns
unfolding differ_text
returns c =
    let pair = rw (c.from.ensures, c.from-2.ensures) at c.put_pair.ensures in
    search wrote_then depth 6
