use Rattle.std.proofs.Common.{rules}
use Rattle.atoms.proofs.Laws.{atoms}
use Rattle.atoms.specs.Atom.{bump}
use Rattle.atoms.proofs.atom.bump.Goals as goal

pub returns-in_err-state : goal.returns-in_err-state
unfolding bump
returns-in_err-state c = search (atoms, c.in_err-state.was, rules) depth 10

pub returns-in-Some : goal.returns-in-Some
unfolding bump
returns-in-Some c = search (atoms, c.in_ok-state.was, rules) depth 10

pub returns-in-None : goal.returns-in-None
unfolding bump
returns-in-None c = search (atoms, c.in_ok-state.was, rules) depth 10
