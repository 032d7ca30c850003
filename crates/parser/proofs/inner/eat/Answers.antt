use Rattle.std.proofs.Common.{rules, arith}
use Rattle.input.specs.Input.{width_limit}
use Rattle.parser.specs.Calls.{eat_of, room_for}
use Rattle.parser.proofs.Work.{work, room}
use Rattle.base.proofs.Laws.{passed_on, passed_beside}
use Rattle.parser.proofs.inner.eat.Goals as goal

pub returns-then-not-is_kind : goal.returns-then-not-is_kind
unfolding eat_of room_for
returns-then-not-is_kind c = search (work, room, passed_on, passed_beside, rules) depth 10

pub returns-then-not-nth_at : goal.returns-then-not-nth_at
unfolding eat_of room_for
returns-then-not-nth_at c = search (work, room, passed_on, passed_beside, rules) depth 10

pub returns-then-not-room_for : goal.returns-then-not-room_for
unfolding eat_of room_for
returns-then-not-room_for c = search (work, room, passed_on, passed_beside, rules) depth 10

pub overflow_add-result : goal.overflow_add-result
unfolding width_limit
overflow_add-result c = omega (arith, c.nth_at.ensures.at_bound c.if-not-nth_at.false, c.width_of-width.ensures.lower_bound)

pub returns : goal.returns
unfolding eat_of room_for
returns c = search (work, room, passed_on, passed_beside, rules) depth 10
