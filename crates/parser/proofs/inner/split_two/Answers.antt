use Rattle.std.proofs.Common.{rules}
use Rattle.parser.specs.Calls.{split_two_of, room_for}
use Rattle.parser.proofs.Work.{work, room}
use Rattle.base.proofs.Laws.{passed_on, passed_beside}
use Rattle.parser.proofs.inner.split_two.Goals as goal

pub returns-then-not-room_for : goal.returns-then-not-room_for
unfolding split_two_of room_for
returns-then-not-room_for c = search (work, room, passed_on, passed_beside, rules) depth 10

pub overflow_cast-n : goal.overflow_cast-n
unfolding split_two_of room_for
overflow_cast-n c = search (work, room, passed_on, passed_beside, rules) depth 10

pub returns : goal.returns
unfolding split_two_of room_for
returns c = search (work, room, passed_on, passed_beside, rules) depth 10
