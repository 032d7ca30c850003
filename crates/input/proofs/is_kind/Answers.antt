use Rattle.std.proofs.Common.{rules}
use Rattle.base.proofs.Laws.{tests}
use Rattle.input.specs.Input.{is_kind}
use Rattle.input.proofs.is_kind.Goals as goal

pub returns-then-is_raw : goal.returns-then-is_raw
unfolding is_kind
returns-then-is_raw c = search (tests, rules) depth 10

pub returns-else-is_raw : goal.returns-else-is_raw
unfolding is_kind
returns-else-is_raw c = search (tests, rules) depth 10
