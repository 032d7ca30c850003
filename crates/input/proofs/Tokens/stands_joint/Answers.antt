use Rattle.std.proofs.Common.{rules}
use Rattle.base.proofs.Laws.{tests}
use Rattle.input.specs.Input.{stands_joint}
use Rattle.input.proofs.Tokens.stands_joint.Goals as goal

pub returns-then-stands-clause-value : goal.returns-then-stands-clause-value
unfolding stands_joint
returns-then-stands-clause-value c = search (tests, rules) depth 10

pub returns-else-stands-clause-value : goal.returns-else-stands-clause-value
unfolding stands_joint
returns-else-stands-clause-value c = search (tests, rules) depth 10
