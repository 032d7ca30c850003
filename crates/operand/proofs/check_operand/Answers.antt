-- `check_operand` meets its rule: it refuses where there is no end. Assumes nothing.
use Rattle.std.proofs.Common.{arith, rules}
use Rattle.operand.proofs.Laws.{check_none, check_fine}
use Rattle.operand.proofs.check_operand.Goals as goal

pub returns-in-Some : goal.returns-in-Some
returns-in-Some c = check_fine _ _ (λ z. omega (arith, c.in-Some.ensures.value, c.in-Some.ensures.behind))

pub returns-in-None : goal.returns-in-None
returns-in-None c = search (check_none, rules)
