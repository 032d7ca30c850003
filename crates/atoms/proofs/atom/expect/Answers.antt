use Rattle.std.proofs.Common.{rules}
use Rattle.atoms.proofs.Laws.{atoms}
use Rattle.atoms.specs.Atom.{expect}
use Rattle.atoms.proofs.atom.expect.Goals as goal

pub returns-in_err-state : goal.returns-in_err-state
unfolding expect
returns-in_err-state c = search (atoms, c.in_err-state.was, rules) depth 10

pub returns-in-Some : goal.returns-in-Some
unfolding expect
returns-in-Some c = search (atoms, c.in_ok-state.was, rules) depth 10

pub returns-in-None : goal.returns-in-None
unfolding expect
returns-in-None c = search (atoms, c.in_ok-state.was, rules) depth 10
