use Rattle.std.proofs.Common.{rules}
use Rattle.input.specs.Input.{row_of, glued_table}
use Rattle.input.proofs.row_of.Goals as goal

pub returns : goal.returns
unfolding row_of glued_table
returns c = search rules depth 10
