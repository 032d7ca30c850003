use Rattle.std.proofs.Common.{rules}
use Rattle.reader.proofs.Laws.{passed_steps, passed_refused}
use Rattle.reader.proofs.passed.Goals as goal

pub returns-in-Ok : goal.returns-in-Ok
returns-in-Ok c = search (passed_steps, passed_refused, rules) depth 10

pub returns-in-Err : goal.returns-in-Err
returns-in-Err c = search (passed_refused, rules) depth 10
