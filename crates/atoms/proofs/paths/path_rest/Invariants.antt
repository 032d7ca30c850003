use Rattle.std.proofs.Common.{◌≡◌, ◌-◌, length}
use Rattle.parser.specs.Prog.{run}
use Rattle.parser.proofs.Laws.{Rest}
use Rattle.atoms.specs.Atom.{path_turn, path_rest}
use Rattle.atoms.proofs.paths.path_rest.Given as goal

abbrev pub invariant-loop-s1 : goal.invariant-loop-s1
invariant-loop-s1 l =
    (length l.events ≡ length l.fn.events)
    × Rest l.tokens (path_turn l.tokens) (λ z. length l.tokens.kinds - z.0.pos.0) (run l.tokens (path_rest l.tokens l.fn.first) l.fn.state l.fn.events) (l.s, l.m, l.events)

abbrev pub decreases-loop-s1 : goal.decreases-loop-s1
decreases-loop-s1 l = length l.tokens.kinds - l.s.pos.0
