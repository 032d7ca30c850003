-- `start_again` is the entry of the start that an entry is seen as. Assumes nothing.
use Rattle.std.proofs.Common.{rules}
use Rattle.event.proofs.Laws.{again_named, again_open}
use Rattle.event.proofs.start_again.Goals as goal

pub returns-in-0 : goal.returns-in-0
returns-in-0 c = search (again_open, rules)

pub returns-in_default : goal.returns-in_default
returns-in_default c = search (again_named, rules)
