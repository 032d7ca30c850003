-- `equal`, or the differences and then the rest. Assumes nothing.
use Rattle.std.proofs.Common.{◌≢◌, rules}
use Rattle.std.specs.Cmp.Lexicographic.{other_text}
use Rattle.revision.proofs.Laws.{compared_same, compared_other}
use Rattle.revision.proofs.write_compared.Goals as goal

pub returns-then-same : goal.returns-then-same
returns-then-same c = search (compared_same, rules)

pub returns-else-same : goal.returns-else-same
returns-else-same c = let differ : c.args.first.now ≢ c.args.second.now = search (other_text, rules) in search (compared_other, rules)
