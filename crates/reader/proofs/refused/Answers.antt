use Rattle.std.proofs.Common.{rules}
use Rattle.reader.specs.Reader.{cleared}
use Rattle.reader.proofs.refused.Goals as goal

pub returns-clause-events_after : goal.returns-clause-events_after
unfolding cleared
returns-clause-events_after c = search rules depth 10
