use Rattle.std.proofs.Common.{refl, ap, Err}
use Rattle.input.proofs.Checks.{is_bad_kind, is_bad_joint, is_fine}
use Rattle.input.proofs.Tokens.check_bytes.Goals as goal

pub returns-then-kind-end : goal.returns-then-kind-end
returns-then-kind-end c =
    rw (← c.self.view_is) (is_bad_kind _ _ _ c.requires c.first_outside-kind.ensures c.if-kind-end.true (ap Err c.new.ensures))

pub returns-then-joint-end : goal.returns-then-joint-end
returns-then-joint-end c =
    rw (← c.self.view_is)
    (is_bad_joint _ _ _ c.requires c.first_outside-kind.ensures c.if-kind-end.false c.first_outside-joint.ensures c.if-joint-end.true (ap Err c.new-then-joint-end.ensures))

pub returns : goal.returns
returns c =
    rw (← c.self.view_is) (is_fine _ _ _ c.requires c.first_outside-kind.ensures c.if-kind-end.false c.first_outside-joint.ensures c.if-joint-end.false refl)
