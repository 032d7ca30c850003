use Rattle.reader.specs.Reader.{parse_of}
use Rattle.input.proofs.Laws.{checks}
use Rattle.reader.proofs.Laws.{check_refused}
use Rattle.reader.proofs.parse.Goals as goal

pub returns-in_err-check : goal.returns-in_err-check
unfolding parse_of
returns-in_err-check c = search (checks, check_refused, c.in_err-check.was) depth 10

pub returns : goal.returns
unfolding parse_of
returns c = search (checks, c.in_ok-check.was) depth 10
