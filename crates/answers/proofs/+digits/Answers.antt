-- The digits before the last one by a call with one place less, then the last digit. Assumes nothing.
use Rattle.std.proofs.Common.{rules}
use Rattle.answers.proofs.Putting.{no_place, one_digit, more_digits}
use Rattle.answers.proofs.+digits.Goals as goal

pub returns-then-most-eq0 : goal.returns-then-most-eq0
returns-then-most-eq0 t c = no_place _ _ (search rules)

pub returns-then-n-lt-BASE : goal.returns-then-n-lt-BASE
returns-then-n-lt-BASE t c = search (one_digit, rules)

pub returns : goal.returns
returns t c = search (more_digits, rules)
