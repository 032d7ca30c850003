use Rattle.std.proofs.Common.{rules}
use Rattle.input.specs.Input.{is_code}
use Rattle.input.proofs.is_code.Goals as goal

pub returns : goal.returns
unfolding is_code
returns c = search rules depth 10
