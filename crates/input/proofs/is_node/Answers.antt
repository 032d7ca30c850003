use Rattle.std.proofs.Common.{rules}
use Rattle.input.specs.Input.{is_node}
use Rattle.input.proofs.is_node.Goals as goal

pub returns : goal.returns
unfolding is_node
returns c = search rules depth 10
