use Rattle.std.proofs.Common.{rules}
use Rattle.parser.specs.Public.{split_call, calling}
use Rattle.parser.proofs.Work.{work}
use Rattle.base.proofs.Laws.{passed_on, passed_beside}
use Rattle.parser.proofs.split_float.Goals as goal

pub returns-in_err-looked : goal.returns-in_err-looked
unfolding split_call calling
returns-in_err-looked c = search (work, passed_beside, c.in_err-looked.was, rules) depth 10

pub returns : goal.returns
unfolding split_call calling
returns c = search (work, passed_on, passed_beside, c.in_ok-looked.was, rules) depth 10
