-- `decodes` is `decodes` of the record: the entry made again is the entry. Assumes nothing.
use Rattle.event.specs.Event.{decodes}
use Rattle.event.proofs.decodes.Goals as goal

pub returns : goal.returns
unfolding decodes
returns c = cc
