use Rattle.std.proofs.Common.{rules}
use Rattle.atoms.proofs.Laws.{atoms}
use Rattle.atoms.specs.Atom.{err_recover}
use Rattle.atoms.proofs.atom.err_recover.Goals as goal

pub returns-then-is_closing : goal.returns-then-is_closing
unfolding err_recover
returns-then-is_closing c = search (atoms, rules) depth 10

pub returns : goal.returns
unfolding err_recover
returns c = search (atoms, rules) depth 10
