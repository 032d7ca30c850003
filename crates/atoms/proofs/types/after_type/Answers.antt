use Rattle.std.proofs.Common.{rules}
use Rattle.atoms.specs.Views.{moved_reply}
use Rattle.atoms.proofs.Laws.{atoms}
use Rattle.atoms.specs.Atom.{after_type}
use Rattle.atoms.proofs.types.after_type.Goals as goal

pub returns-then-kind-eq-L_PAREN : goal.returns-then-kind-eq-L_PAREN
unfolding after_type moved_reply
returns-then-kind-eq-L_PAREN c = search (atoms, rules) depth 10

pub returns-then-kind-ne-L_ANGLE : goal.returns-then-kind-ne-L_ANGLE
unfolding after_type moved_reply
returns-then-kind-ne-L_ANGLE c = search (atoms, rules) depth 10

pub returns-then-nth_at : goal.returns-then-nth_at
unfolding after_type moved_reply
returns-then-nth_at c = search (atoms, rules) depth 10

pub returns : goal.returns
unfolding after_type moved_reply
returns c = search (atoms, rules) depth 10
