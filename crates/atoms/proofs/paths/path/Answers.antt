use Rattle.std.proofs.Common.{rules}
use Rattle.atoms.proofs.Laws.{atoms}
use Rattle.atoms.specs.Atom.{path}
use Rattle.atoms.proofs.paths.path.Goals as goal

pub returns-in_err-state : goal.returns-in_err-state
unfolding path
returns-in_err-state c = search (atoms, c.in_err-state.was, rules) depth 10

pub returns : goal.returns
unfolding path
returns c = search (atoms, c.in_ok-state.was, rules) depth 10
