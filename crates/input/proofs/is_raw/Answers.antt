use Rattle.std.proofs.Common.{rules}
use Rattle.input.specs.Input.{is_raw}
use Rattle.input.proofs.is_raw.Goals as goal

pub returns : goal.returns
unfolding is_raw
returns c = search rules depth 10
