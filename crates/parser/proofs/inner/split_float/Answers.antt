use Rattle.std.proofs.Common.{refl, rules}
use Rattle.parser.specs.Calls.{split_of}
use Rattle.parser.proofs.Work.{room, work}
use Rattle.base.proofs.Laws.{passed_on, passed_beside}
use Rattle.parser.proofs.inner.split_float.Goals as goal

pub returns-then-not-is_open : goal.returns-then-not-is_open
unfolding split_of
returns-then-not-is_open c = search (work, passed_on, passed_beside, rules) depth 10

pub returns-then-not-stands : goal.returns-then-not-stands
unfolding split_of
returns-then-not-stands c = search (work, passed_on, passed_beside, rules) depth 10

pub returns-then-joint_at-eq0 : goal.returns-then-joint_at-eq0
unfolding split_of
returns-then-joint_at-eq0 c = search (work, passed_on, passed_beside, rules) depth 10

pub split_two-requires : goal.split_two-requires
unfolding split_of
split_two-requires c = (refl, search room)

pub returns : goal.returns
unfolding split_of
returns c = search (work, passed_on, passed_beside, rules) depth 10
