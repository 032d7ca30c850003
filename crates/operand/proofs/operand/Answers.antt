-- `operand` meets its rule: the part from the enter to its end, and none where there is no end. Assumes nothing.
use Rattle.operand.proofs.Laws.{part_some, part_none}
use Rattle.operand.proofs.operand.Goals as goal

pub returns-in-Some : goal.returns-in-Some
returns-in-Some c = part_some _ _ c.in-Some.ensures.value

pub returns-in-None : goal.returns-in-None
returns-in-None c = part_none _ _ c.in-None.ensures.value
