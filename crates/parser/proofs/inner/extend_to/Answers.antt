use Rattle.std.proofs.Common.{rules}
use Rattle.parser.specs.Calls.{extend_of}
use Rattle.event.specs.Event.{event_limit}
use Rattle.input.specs.Input.{token_limit}
use Rattle.parser.proofs.Work.{work}
use Rattle.base.proofs.Laws.{passed_on, passed_beside}
use Rattle.parser.proofs.inner.extend_to.Goals as goal

pub returns-then-not-is_open : goal.returns-then-not-is_open
unfolding extend_of event_limit token_limit
returns-then-not-is_open c = search (work, passed_on, passed_beside, rules) depth 10

pub returns-then-not-is_closed : goal.returns-then-not-is_closed
unfolding extend_of event_limit token_limit
returns-then-not-is_closed c = search (work, passed_on, passed_beside, rules) depth 10

pub returns-then-to-at : goal.returns-then-to-at
unfolding extend_of event_limit token_limit
returns-then-to-at c = search (work, passed_on, passed_beside, rules) depth 10

pub returns-then-to-ge-LIMIT : goal.returns-then-to-ge-LIMIT
unfolding extend_of event_limit token_limit
returns-then-to-ge-LIMIT c = search (work, passed_on, passed_beside, rules) depth 10

pub returns : goal.returns
unfolding extend_of event_limit token_limit
returns c = search (work, passed_on, passed_beside, rules) depth 10
