use Rattle.std.proofs.Common.{rules}
use Rattle.parser.specs.Calls.{precede_of, room_for}
use Rattle.base.specs.Base.{bound}
use Rattle.parser.proofs.Work.{work, room}
use Rattle.base.proofs.Laws.{passed_on, passed_beside}
use Rattle.parser.proofs.inner.precede.Goals as goal

pub returns-then-not-is_closed : goal.returns-then-not-is_closed
unfolding precede_of room_for bound
returns-then-not-is_closed c = search (work, room, passed_on, passed_beside, rules) depth 10

pub returns-then-not-is_parentless : goal.returns-then-not-is_parentless
unfolding precede_of room_for bound
returns-then-not-is_parentless c = search (work, room, passed_on, passed_beside, rules) depth 10

pub returns-then-not-room_for : goal.returns-then-not-room_for
unfolding precede_of room_for bound
returns-then-not-room_for c = search (work, room, passed_on, passed_beside, rules) depth 10

pub overflow_sub-n : goal.overflow_sub-n
unfolding precede_of room_for bound
overflow_sub-n c = search (work, room, passed_on, passed_beside, rules) depth 10

pub overflow_cast-n : goal.overflow_cast-n
unfolding precede_of room_for bound
overflow_cast-n c = search (work, room, passed_on, passed_beside, rules) depth 10

pub returns : goal.returns
unfolding precede_of room_for bound
returns c = search (work, room, passed_on, passed_beside, rules) depth 10
