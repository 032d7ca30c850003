use Rattle.std.proofs.Common.{rules}
use Rattle.atoms.proofs.Laws.{atoms}
use Rattle.atoms.specs.Atom.{path_turn}
use Rattle.atoms.proofs.paths.path_turn.Goals as goal

pub returns-then-not-nth_at : goal.returns-then-not-nth_at
unfolding path_turn
returns-then-not-nth_at c = search (atoms, rules) depth 10

pub returns-then-kind_at-ne-IDENT : goal.returns-then-kind_at-ne-IDENT
unfolding path_turn
returns-then-kind_at-ne-IDENT c = search (atoms, rules) depth 10

pub returns : goal.returns
unfolding path_turn
returns c = search (atoms, rules) depth 10
