use Rattle.std.proofs.Common.{rules}
use Rattle.parser.specs.Public.{range_of}
use Rattle.parser.proofs.Work.{work}
use Rattle.base.proofs.Laws.{passed_on, passed_beside}
use Rattle.parser.proofs.range.Goals as goal

pub returns-then-not-in_range : goal.returns-then-not-in_range
unfolding range_of
returns-then-not-in_range c = search (work, passed_on, passed_beside, rules) depth 10

pub returns : goal.returns
unfolding range_of
returns c = search (work, passed_on, passed_beside, rules) depth 10
