use Rattle.std.proofs.Common.{rules}
use Rattle.base.proofs.Laws.{tests}
use Rattle.input.specs.Input.{stands}
use Rattle.input.proofs.Tokens.stands.Goals as goal

pub returns-then-at-len-clause-value : goal.returns-then-at-len-clause-value
unfolding stands
returns-then-at-len-clause-value c = search (tests, rules) depth 10

pub returns-else-at-len-clause-value : goal.returns-else-at-len-clause-value
unfolding stands
returns-else-at-len-clause-value c = search (tests, rules) depth 10
