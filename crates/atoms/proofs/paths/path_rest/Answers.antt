-- The loop over `::` and names meets its rule: what is left to do is the whole, and fewer tokens are left after each turn. Assumes nothing.
use Rattle.std.proofs.Common.{rules, refl, ap, ◌∙◌, Ok, arith}
use Rattle.base.proofs.Laws.{passed_beside}
use Rattle.parser.proofs.Laws.{rest_start, rest_done, rest_again}
use Rattle.atoms.specs.Atom.{path_rest}
use Rattle.atoms.proofs.Laws.{turnings}
use Rattle.atoms.proofs.Moves.{path_less}
use Rattle.atoms.proofs.paths.path_rest.Goals as goal

pub loop-s1-init : goal.loop-s1-init
unfolding path_rest
loop-s1-init c = (refl, rest_start _ _ _ _ _ (omega arith))

pub returns-in_err-s1 : goal.returns-in_err-s1
returns-in_err-s1 c = passed_beside _ c.from_residual.ensures ∙ search (turnings, rest_done, c.in_err-s1.was) depth 10

pub loop-s1-smaller : goal.loop-s1-smaller
loop-s1-smaller c = let came : _ = c.in_ok-s1.was ∙ ap Ok c.in-Again.is in search (path_less, came) depth 6

pub loop-s1-preserved : goal.loop-s1-preserved
loop-s1-preserved c =
    let came : _ = c.in_ok-s1.was ∙ ap Ok c.in-Again.is in
    (search rules, rest_again _ _ _ _ _ c.loop-s1.invariant.1 (search (turnings, came) depth 10) (search (path_less, came) depth 6))

pub returns-in-Done : goal.returns-in-Done
returns-in-Done c = let came : _ = c.in_ok-s1.was ∙ ap Ok c.in-Done.is in search (turnings, rest_done, came) depth 10
