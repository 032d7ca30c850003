use Rattle.std.proofs.Common.{rules}
use Rattle.input.specs.Input.{is_glued}
use Rattle.input.proofs.is_glued.Goals as goal

pub returns : goal.returns
unfolding is_glued
returns c = search rules depth 10
