-- The steps that leave a node are tested one by one, as the rule lists them. Assumes nothing.
use Rattle.std.proofs.Common.{arith}
use Rattle.base.specs.Base.{whether}
use borrow.Author.Tests.{ne_eqb}
use Rattle.operand.specs.Operand.{leaves_of}
use Rattle.operand.proofs.leaves_of.Goals as goal

pub returns-in-196608 : goal.returns-in-196608
unfolding leaves_of whether
returns-in-196608 c = grind arith

pub returns-in-262144 : goal.returns-in-262144
unfolding leaves_of whether
returns-in-262144 c = grind arith

pub returns-in_default : goal.returns-in_default
unfolding leaves_of whether
returns-in_default c = grind (arith, ne_eqb)
