use Rattle.std.proofs.Common.{rules}
use Rattle.atoms.proofs.Laws.{atoms}
use Rattle.atoms.specs.Atom.{no_macro}
use Rattle.atoms.proofs.paths.no_macro.Goals as goal

pub returns-then-kind_at-ne-BANG : goal.returns-then-kind_at-ne-BANG
unfolding no_macro
returns-then-kind_at-ne-BANG c = search (atoms, rules) depth 10

pub returns-then-nth_at : goal.returns-then-nth_at
unfolding no_macro
returns-then-nth_at c = search (atoms, rules) depth 10

pub returns : goal.returns
unfolding no_macro
returns c = search (atoms, rules) depth 10
