-- One text after the other. Assumes nothing.
use Rattle.answers.proofs.Writing.{wrote_then}
use Rattle.revision.specs.Revision.{pair_text}
use Rattle.revision.proofs.put_pair.Goals as goal

pub returns : goal.returns
unfolding pair_text
returns c = search wrote_then depth 6
