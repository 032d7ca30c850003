-- `again` is the entry of the event that an entry is seen as, tag by tag. Assumes nothing.
use Rattle.std.proofs.Common.{rules}
use Rattle.event.proofs.Laws.{again_token, again_split, again_error, again_finish}
use Rattle.event.proofs.again.Goals as goal

pub returns-in-3 : goal.returns-in-3
returns-in-3 c = search (again_token, rules)

pub returns-in-4 : goal.returns-in-4
returns-in-4 c = search (again_split, rules)

pub returns-in-5 : goal.returns-in-5
returns-in-5 c = search (again_error, rules)

pub returns-in_default : goal.returns-in_default
returns-in_default c = search (again_finish, rules)
