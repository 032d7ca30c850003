use Rattle.std.proofs.Common.{rules}
use Rattle.reader.proofs.Laws.{read_on, read_refused, read_top}
use Rattle.input.specs.Input.{depth_limit}
use Rattle.reader.proofs.read.Goals as goal

pub returns-in-Ok : goal.returns-in-Ok
unfolding depth_limit
returns-in-Ok c = search (read_on, read_top, rules) depth 10

pub returns-in-Err : goal.returns-in-Err
unfolding depth_limit
returns-in-Err c = search (read_on, read_top, read_refused, rules) depth 10
