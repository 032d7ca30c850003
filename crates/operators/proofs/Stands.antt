-- `.` stands at a position where it is the kind there: past the end the kind is EOF. Assumes nothing.
use mathlib.Core.Path.{◌≡◌, refl}
use mathlib.Core.Logic.{⊎_elim}
use Prim.Native.Nat.{ℕ}
use lib.Dec.{ltb, eqb}
use lib.ListN.{length, get_or-eq_default}
use borrow.Author.Tests.{ltb-false}
use Rattle.base.specs.Base.{whether}
use Rattle.input.specs.SyntaxKind.{EOF, DOT}
use Rattle.input.specs.Input.{Tokens, kind_at, stands}
use Rattle.input.proofs.Laws.{true_or_false}

pub dot_stands : (ts : Tokens) (at : ℕ) → stands ts at DOT ≡ eqb (kind_at ts at) DOT
unfolding stands whether
dot_stands ts at =
    ⊎_elim (λ q. rw q refl) (λ q. rw q (rw (get_or-eq_default ts.kinds EOF (ltb-false _ _ q)) refl)) (true_or_false (ltb at (length ts.kinds)))
