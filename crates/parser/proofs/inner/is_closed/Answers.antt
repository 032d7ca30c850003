use Rattle.std.proofs.Common.{rules}
use Rattle.parser.specs.Calls.{is_closed}
use Rattle.parser.proofs.Work.{entries}
use Rattle.base.proofs.Laws.{tests}
use Rattle.base.proofs.Laws.{passed_on, passed_beside}
use Rattle.parser.proofs.inner.is_closed.Goals as goal

pub returns-then-m-state : goal.returns-then-m-state
unfolding is_closed
returns-then-m-state c = search (tests, entries, passed_on, passed_beside, rules) depth 10

pub returns-else-m-state : goal.returns-else-m-state
unfolding is_closed
returns-else-m-state c = search (tests, entries, passed_on, passed_beside, rules) depth 10
