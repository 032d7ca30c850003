-- `capacity` is `capacity_of`, the less of the two. Assumes nothing.
use Rattle.std.proofs.Common.{arith}
use Rattle.event.proofs.Laws.{capacity_is}
use Rattle.event.specs.Event.{event_limit}
use Rattle.input.specs.Input.{token_limit}
use Rattle.event.proofs.capacity.Goals as goal

pub returns-clause-value : goal.returns-clause-value
unfolding event_limit token_limit
returns-clause-value c = cc (capacity_is c.args.events.now)

pub returns-clause-upper_bound : goal.returns-clause-upper_bound
unfolding event_limit token_limit
returns-clause-upper_bound c = (omega arith, omega arith)
