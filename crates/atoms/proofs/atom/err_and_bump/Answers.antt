use Rattle.std.proofs.Common.{rules}
use Rattle.atoms.proofs.Laws.{atoms}
use Rattle.atoms.specs.Atom.{err_and_bump}
use Rattle.atoms.proofs.atom.err_and_bump.Goals as goal

pub returns-in_err-state : goal.returns-in_err-state
unfolding err_and_bump
returns-in_err-state c = search (atoms, c.in_err-state.was, rules) depth 10

pub returns-in_err-bump_any : goal.returns-in_err-bump_any
unfolding err_and_bump
returns-in_err-bump_any c = search (atoms, c.in_ok-state.was, c.in_err-bump_any.was, rules) depth 10

pub returns : goal.returns
unfolding err_and_bump
returns c = search (atoms, c.in_ok-state.was, c.in_ok-bump_any.was, rules) depth 10
