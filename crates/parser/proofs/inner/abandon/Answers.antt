use Rattle.std.proofs.Common.{rules}
use Rattle.parser.specs.Calls.{abandon_of}
use Rattle.parser.proofs.Work.{work}
use Rattle.base.proofs.Laws.{passed_on, passed_beside}
use Rattle.parser.proofs.inner.abandon.Goals as goal

pub returns-then-not-is_open : goal.returns-then-not-is_open
unfolding abandon_of
returns-then-not-is_open c = search (work, passed_on, passed_beside, rules) depth 10

pub returns-then-is_last : goal.returns-then-is_last
unfolding abandon_of
returns-then-is_last c = search (work, passed_on, passed_beside, rules) depth 10

pub returns : goal.returns
unfolding abandon_of
returns c = search (work, passed_on, passed_beside, rules) depth 10
