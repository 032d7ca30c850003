-- `chain` is `chain_of`, at most n. Assumes nothing.
use Rattle.std.proofs.Common.{arith, rules}
use Rattle.process.specs.Process.{chain_turn, chain_of}
use Rattle.base.proofs.Laws.{rest_start, rest_done, rest_again}
use Rattle.process.proofs.Laws.{chain_done, chain_again, of_pass}
use Rattle.process.proofs.chain.Goals as goal

pub loop-next-init : goal.loop-next-init
unfolding chain_of
loop-next-init c = record { passed = omega arith; within = omega arith; rest = rest_start _ _ _ _ _ (omega arith) }

pub returns-in_default-clause-value : goal.returns-in_default-clause-value
returns-in_default-clause-value c =
    rest_done _ _ _ _ _ c.loop-next.invariant.rest (search (chain_done, c.in_default.ensures.value, rules))

pub loop-next-preserved : goal.loop-next-preserved
loop-next-preserved c = record {
  passed = omega (arith, c.in-Some.ensures.bounds.0);
  within = omega (arith, c.in-Some.ensures.bounds.0);
  rest = rest_again _ _ _ _ _ _ c.loop-next.invariant.rest (search (chain_again, c.in-Some.ensures.value, c.in-Some.ensures.bounds.0, rules)) (omega (arith, c.in-Some.ensures.bounds.0));
}

pub returns-clause-value : goal.returns-clause-value
unfolding chain_turn
returns-clause-value c = search (of_pass, rest_done) depth 10
