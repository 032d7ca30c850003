use Rattle.std.proofs.Common.{◌≡◌, refl, sym, ◌∙◌, arith}
use Rattle.input.proofs.Scan.{is_off, is_on, is_end}
use Rattle.input.proofs.first_outside.Goals as goal

pub loop-i-init : goal.loop-i-init
loop-i-init c = refl

pub returns-then-not-within : goal.returns-then-not-within
returns-then-not-within c = is_off _ _ _ _ _ c.byte_at.ensures c.within.ensures c.if-not-within.true c.loop-i-test.true c.loop-i.invariant

pub loop-i-preserved : goal.loop-i-preserved
loop-i-preserved c = is_on _ _ _ _ _ c.byte_at.ensures c.within.ensures c.if-not-within.false c.loop-i-test.true c.loop-i.invariant

pub returns : goal.returns
returns c = let e : c.loop-i.i ≡ c.args.end = omega arith in sym e ∙ is_end _ _ _ _ _ c.loop-i-test.false c.loop-i.invariant
