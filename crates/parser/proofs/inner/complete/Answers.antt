use Rattle.std.proofs.Common.{rules}
use Rattle.parser.specs.Calls.{complete_of, room_for}
use Rattle.parser.proofs.Work.{work, room}
use Rattle.base.proofs.Laws.{passed_on, passed_beside}
use Rattle.parser.proofs.inner.complete.Goals as goal

pub returns-then-not-is_open : goal.returns-then-not-is_open
unfolding complete_of room_for
returns-then-not-is_open c = search (work, room, passed_on, passed_beside, rules) depth 10

pub returns-then-not-is_node : goal.returns-then-not-is_node
unfolding complete_of room_for
returns-then-not-is_node c = search (work, room, passed_on, passed_beside, rules) depth 10

pub returns-then-not-room_for : goal.returns-then-not-room_for
unfolding complete_of room_for
returns-then-not-room_for c = search (work, room, passed_on, passed_beside, rules) depth 10

pub returns : goal.returns
unfolding complete_of room_for
returns c = search (work, room, passed_on, passed_beside, rules) depth 10
