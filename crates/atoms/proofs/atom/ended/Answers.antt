use Rattle.std.proofs.Common.{refl}
use Rattle.base.proofs.Laws.{passed_on}
use Rattle.atoms.specs.Views.{ended_of}
use Rattle.atoms.proofs.atom.ended.Goals as goal

pub returns-in_err-state : goal.returns-in_err-state
unfolding ended_of
returns-in_err-state c = rw c.in_err-state.was (passed_on c.from_residual.ensures)

pub returns : goal.returns
unfolding ended_of
returns c = rw c.in_ok-state.was refl
