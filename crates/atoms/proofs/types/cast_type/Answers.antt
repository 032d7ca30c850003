use Rattle.std.proofs.Common.{rules}
use Rattle.atoms.proofs.Laws.{atoms}
use Rattle.atoms.specs.Atom.{cast_type}
use Rattle.atoms.proofs.types.cast_type.Goals as goal

pub returns-then-kind-eq-IDENT : goal.returns-then-kind-eq-IDENT
unfolding cast_type
returns-then-kind-eq-IDENT c = search (atoms, rules) depth 10

pub returns-then-outside_type : goal.returns-then-outside_type
unfolding cast_type
returns-then-outside_type c = search (atoms, rules) depth 10

pub returns : goal.returns
unfolding cast_type
returns c = search (atoms, rules) depth 10
