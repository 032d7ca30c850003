-- `count_steps` is `count_of`. Assumes nothing.
use Rattle.std.proofs.Common.{arith, ◌<◌, ◌≤◌}
use Rattle.std.proofs.lemmas.List.{get_or-take, length-take-le}
use Rattle.process.specs.Process.{count_turn, count_of}
use Rattle.base.proofs.Laws.{rest_start, rest_done, rest_again}
use Rattle.process.proofs.Laws.{count_again, of_pass}
use Rattle.process.proofs.count_steps.Goals as goal

pub loop-x-init : goal.loop-x-init
unfolding count_of
loop-x-init c = record { passed = omega arith; rest = rest_start _ _ _ _ _ (omega arith) }

pub loop-x-preserved : goal.loop-x-preserved
loop-x-preserved c =
    let below : c.loop-x.x-index < c.args.n = omega (arith, length-take-le c.args.n c.args.events.now c.requires) in
    record {
      passed = omega arith;
      rest = rest_again _ _ _ _ _ _ c.loop-x.invariant.rest (count_again _ _ _ below (get_or-take c.args.n c.args.events.now c.loop-x.x-index 0 below) _ _ c.steps_at-total.ensures.value c.is_split-after.ensures) (omega arith);
    }

pub returns : goal.returns
unfolding count_turn
returns c =
    let past : c.args.n ≤ c.loop-x.x-index = omega (arith, length-take-le c.args.n c.args.events.now c.requires) in
    search (of_pass, rest_done) depth 10
