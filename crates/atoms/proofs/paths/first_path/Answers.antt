use Rattle.std.proofs.Common.{rules}
use Rattle.atoms.proofs.Laws.{atoms}
use Rattle.atoms.specs.Atom.{first_path}
use Rattle.atoms.proofs.paths.first_path.Goals as goal

pub returns-in_err-state : goal.returns-in_err-state
unfolding first_path
returns-in_err-state c = search (atoms, c.in_err-state.was, rules) depth 10

pub returns-in_err-state-2 : goal.returns-in_err-state-2
unfolding first_path
returns-in_err-state-2 c = search (atoms, c.in_ok-state.was, c.in_err-state-2.was, rules) depth 10

pub returns : goal.returns
unfolding first_path
returns c = search (atoms, c.in_ok-state.was, c.in_ok-state-2.was, rules) depth 10
