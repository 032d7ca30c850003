use Rattle.std.proofs.Common.{rules}
use Rattle.parser.specs.Public.{abandon_call, calling}
use Rattle.input.specs.Input.{token_limit}
use Rattle.parser.proofs.Work.{work}
use Rattle.base.proofs.Laws.{passed_on, passed_beside}
use Rattle.parser.proofs.abandon.Goals as goal

pub returns-in_err-range : goal.returns-in_err-range
unfolding abandon_call calling token_limit
returns-in_err-range c = search (work, passed_beside, c.in_err-range.was, rules) depth 10

pub returns : goal.returns
unfolding abandon_call calling token_limit
returns c = search (work, passed_on, passed_beside, c.in_ok-range.was, rules) depth 10
