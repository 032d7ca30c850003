-- `lands_at` is `lands_at`, one law for each answer. Assumes nothing.
use Rattle.std.proofs.Common.{rules}
use Rattle.process.proofs.Laws.{lands_none, lands_on, lands_off}
use Rattle.process.proofs.lands_at.Goals as goal

pub returns-in_default : goal.returns-in_default
returns-in_default c = search (lands_none, c.in_default.ensures.value, rules)

pub returns-then-at-n : goal.returns-then-at-n
returns-then-at-n c = search (lands_on, c.in-Some.ensures.value, c.in-Some.ensures.bounds.0, rules)

pub returns-else-at-n : goal.returns-else-at-n
returns-else-at-n c = search (lands_off, c.in-Some.ensures.value, c.in-Some.ensures.bounds.0, rules)
