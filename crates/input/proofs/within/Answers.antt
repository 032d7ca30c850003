use Rattle.std.proofs.Common.{rules}
use Rattle.base.proofs.Laws.{tests}
use Rattle.input.proofs.within.Goals as goal

pub returns-then-low-byte : goal.returns-then-low-byte
returns-then-low-byte c = search (tests, rules) depth 10

pub returns-else-low-byte : goal.returns-else-low-byte
returns-else-low-byte c = search (tests, rules) depth 10
