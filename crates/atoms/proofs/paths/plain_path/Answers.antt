use Rattle.std.proofs.Common.{rules}
use Rattle.atoms.proofs.Laws.{atoms}
use Rattle.atoms.specs.Atom.{plain_path}
use Rattle.atoms.proofs.paths.plain_path.Goals as goal

pub returns-in_err-state : goal.returns-in_err-state
unfolding plain_path
returns-in_err-state c = search (atoms, c.in_err-state.was, rules) depth 10

pub returns : goal.returns
unfolding plain_path
returns c = search (atoms, c.in_ok-state.was, rules) depth 10
