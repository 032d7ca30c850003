use Rattle.std.proofs.Common.{rules}
use Rattle.input.specs.Input.{on_checked}
use Rattle.parser.specs.Public.{looked_of}
use Rattle.parser.proofs.Work.{work}
use Rattle.base.proofs.Laws.{passed_on, passed_beside}
use Rattle.parser.proofs.looked.Goals as goal

pub returns-in_err-lengths : goal.returns-in_err-lengths
unfolding looked_of
returns-in_err-lengths c = search (work, passed_on, c.in_err-lengths.was, rules) depth 10

pub returns-in_err-range : goal.returns-in_err-range
unfolding looked_of on_checked
returns-in_err-range c = search (work, passed_beside, c.in_ok-lengths.was, c.in_err-range.was, rules) depth 10

pub returns : goal.returns
unfolding looked_of
returns c = search (work, passed_on, passed_beside, c.in_ok-lengths.was, c.in_ok-range.was, rules) depth 10
