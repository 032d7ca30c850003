use Rattle.std.proofs.Common.{rules}
use Rattle.atoms.proofs.Laws.{atoms}
use Rattle.atoms.specs.Atom.{lead}
use Rattle.atoms.proofs.atom.lead.Goals as goal

pub returns-in_err-state : goal.returns-in_err-state
unfolding lead
returns-in_err-state c = search (atoms, c.in_err-state.was, rules) depth 10

pub returns-in_err-state-2 : goal.returns-in_err-state-2
unfolding lead
returns-in_err-state-2 c = search (atoms, c.in_ok-state.was, c.in_err-state-2.was, rules) depth 10

pub returns : goal.returns
unfolding lead
returns c = search (atoms, c.in_ok-state.was, c.in_ok-state-2.was, rules) depth 10
