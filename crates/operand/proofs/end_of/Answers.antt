-- `end_of` meets its rule: past the end of the list no node is entered. Assumes nothing.
use Rattle.std.proofs.Common.{◌≡◌, rules}
use Rattle.operand.specs.Operand.{match_of, end_of}
use Rattle.operand.proofs.Laws.{entered_inside, end_entered, end_other}
use Rattle.operand.proofs.end_of.Goals as goal

pub matched-requires : goal.matched-requires
matched-requires c = entered_inside _ _ (search rules)

pub returns-then-is_enter-clause-value : goal.returns-then-is_enter-clause-value
returns-then-is_enter-clause-value c = let e : end_of c.args.steps.now c.args.at ≡ match_of c.args.steps.now c.args.at = search (end_entered, rules) in rw e c.matched.ensures.value

pub returns-else-is_enter-clause-value : goal.returns-else-is_enter-clause-value
returns-else-is_enter-clause-value c = search (end_other, rules)
