use Rattle.std.proofs.Common.{rules}
use Rattle.atoms.proofs.Laws.{atoms}
use Rattle.atoms.specs.Atom.{leaf}
use Rattle.atoms.proofs.atom.leaf.Goals as goal

pub returns-in_err-state : goal.returns-in_err-state
unfolding leaf
returns-in_err-state c = search (atoms, c.in_err-state.was, rules) depth 10

pub returns-in_err-state-2 : goal.returns-in_err-state-2
unfolding leaf
returns-in_err-state-2 c = search (atoms, c.in_ok-state.was, c.in_err-state-2.was, rules) depth 10

pub returns-in-Some : goal.returns-in-Some
unfolding leaf
returns-in-Some c = search (atoms, c.in_ok-state.was, c.in_ok-state-2.was, rules) depth 10

pub returns-in-None : goal.returns-in-None
unfolding leaf
returns-in-None c = search (atoms, c.in_ok-state.was, c.in_ok-state-2.was, rules) depth 10
