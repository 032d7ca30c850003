-- No step at first, and one more at each turn. Assumes nothing.
use Rattle.std.proofs.Common.{rules}
use Rattle.revision.proofs.Laws.{extras_none, extras_more}
use Rattle.revision.proofs.put_extras.Goals as goal

pub loop-i-init : goal.loop-i-init
loop-i-init c = extras_none _ _ _ _

pub loop-i-preserved : goal.loop-i-preserved
loop-i-preserved c = search (extras_more, rules)
