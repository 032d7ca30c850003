-- Operators: their strengths and sides, and the one at hand.
use Rattle.std.specs.Prelude.{ℕ, ◌+◌, Bool, true, false, not, List, [], ◌∷◌, eqb}
use Rattle.base.specs.Base.{whether, bound}
use Rattle.input.specs.SyntaxKind.{EOF, IDENT, AS_KW, DOT, AMP, PIPE, PLUS, MINUS, STAR, SLASH, PERCENT, CARET, BANG, EQ, L_ANGLE, R_ANGLE, MINUSEQ, NEQ, DOT2, STAREQ, SLASHEQ, AMP2, AMPEQ, PERCENTEQ, CARETEQ, PLUSEQ, SHL, LTEQ, EQ2, FAT_ARROW, GTEQ, SHR, PIPEEQ, PIPE2, DOT2EQ, SHLEQ, SHREQ}
use Rattle.input.specs.Input.{Tokens, kind_at, present}
use Rattle.operators.specs.TokenSet.{among, is_first}
use Rattle.operators.specs.declared.Side.{Side}
use Rattle.operators.specs.declared.Side.TheVariants.{Left, Right}
use Rattle.operators.specs.declared.Op.{Op}

-- The strengths as 01 lists them; that the operator at hand has the strength and side of its kind is a theorem.
-- "`=` and every compound assignment 1 right; `..` `..=` 2; `||` 3; `&&` 4; `== != < > <= >=` 5; `|` 6; `^` 7; `&` 8; `<< >>` 9; `+ -` 10; `* / %` 11; `as` 12; all but 1 to the left."
abbrev pub assignments : List ℕ
assignments = EQ ∷ MINUSEQ ∷ STAREQ ∷ SLASHEQ ∷ AMPEQ ∷ PERCENTEQ ∷ CARETEQ ∷ PLUSEQ ∷ PIPEEQ ∷ SHLEQ ∷ SHREQ ∷ []

abbrev pub ranges : List ℕ
ranges = DOT2 ∷ DOT2EQ ∷ []

abbrev pub comparisons : List ℕ
comparisons = EQ2 ∷ NEQ ∷ L_ANGLE ∷ R_ANGLE ∷ LTEQ ∷ GTEQ ∷ []

unfoldable pub strength_of : ℕ → ℕ
strength_of kind =
    whether (among kind assignments) (λ _. 1) λ _.
    whether (among kind ranges) (λ _. 2) λ _.
    whether (eqb kind PIPE2) (λ _. 3) λ _.
    whether (eqb kind AMP2) (λ _. 4) λ _.
    whether (among kind comparisons) (λ _. 5) λ _.
    whether (eqb kind PIPE) (λ _. 6) λ _.
    whether (eqb kind CARET) (λ _. 7) λ _.
    whether (eqb kind AMP) (λ _. 8) λ _.
    whether (among kind (SHL ∷ SHR ∷ [])) (λ _. 9) λ _.
    whether (among kind (PLUS ∷ MINUS ∷ [])) (λ _. 10) λ _.
    whether (among kind (STAR ∷ SLASH ∷ PERCENT ∷ [])) (λ _. 11) λ _.
    whether (eqb kind AS_KW) (λ _. 12) (λ _. 0)

unfoldable pub side_of : ℕ → Side
side_of kind = whether (among kind assignments) (λ _. Right) (λ _. Left)

-- an operator to the left, of a strength; an assignment; none
abbrev pub left_op : ℕ → ℕ → Op
left_op kind strength = record { strength = strength; kind = kind; side = Left }

abbrev pub assign_op : ℕ → Op
assign_op kind = record { strength = 1; kind = kind; side = Right }

abbrev pub not_an_op : Op
not_an_op = left_op EOF 0

-- a glued operator if it is present, and what else is at hand if not
unfoldable pub or_op : Tokens → ℕ → Op → (Unit {0} → Op) → Op
or_op ts at op other = whether (present ts at op.kind) (λ _. op) other

-- `+ - * / % ^`, each with an assignment; "`->` reads as `-`"
unfoldable pub arith_op : Tokens → ℕ → ℕ → ℕ → ℕ → Op
arith_op ts at assigned kind strength = or_op ts at (assign_op assigned) λ _. left_op kind strength

-- "The strength and side are decided from the raw token at hand, longest glued form first"
-- `|` or `&`: doubled, assigned, or alone
abbrev pub doubled_op : Tokens → ℕ → ℕ → ℕ → ℕ → ℕ → ℕ → Op
doubled_op ts at twice twice_strength assigned kind strength =
    or_op ts at (left_op twice twice_strength) λ _. or_op ts at (assign_op assigned) λ _. left_op kind strength

unfoldable pub pipe_op : Tokens → ℕ → Op
pipe_op ts at = doubled_op ts at PIPE2 3 PIPEEQ PIPE 6

unfoldable pub amp_op : Tokens → ℕ → Op
amp_op ts at = doubled_op ts at AMP2 4 AMPEQ AMP 8

-- `<` or `>`: a shift assigned, a shift, a comparison with equality, or alone
abbrev pub angle_op : Tokens → ℕ → ℕ → ℕ → ℕ → ℕ → Op
angle_op ts at assigned shift or_equal kind =
    or_op ts at (assign_op assigned) λ _. or_op ts at (left_op shift 9) λ _. or_op ts at (left_op or_equal 5) λ _. left_op kind 5

unfoldable pub r_angle_op : Tokens → ℕ → Op
r_angle_op ts at = angle_op ts at SHREQ SHR GTEQ R_ANGLE

unfoldable pub l_angle_op : Tokens → ℕ → Op
l_angle_op ts at = angle_op ts at SHLEQ SHL LTEQ L_ANGLE

-- "`=>` is no operator"
unfoldable pub eq_op : Tokens → ℕ → Op
eq_op ts at = or_op ts at (left_op EQ2 5) λ _. whether (present ts at FAT_ARROW) (λ _. not_an_op) (λ _. assign_op EQ)

-- "`...` reads as `..`"
unfoldable pub dot_op : Tokens → ℕ → Op
dot_op ts at = or_op ts at (left_op DOT2EQ 2) λ _. or_op ts at (left_op DOT2 2) λ _. not_an_op

unfoldable pub bang_op : Tokens → ℕ → Op
bang_op ts at = or_op ts at (left_op NEQ 5) λ _. not_an_op

unfoldable pub op_of : Tokens → ℕ → ℕ → Op
op_of ts at kind =
    whether (eqb kind PIPE) (λ _. pipe_op ts at) λ _.
    whether (eqb kind R_ANGLE) (λ _. r_angle_op ts at) λ _.
    whether (eqb kind EQ) (λ _. eq_op ts at) λ _.
    whether (eqb kind L_ANGLE) (λ _. l_angle_op ts at) λ _.
    whether (eqb kind PLUS) (λ _. arith_op ts at PLUSEQ PLUS 10) λ _.
    whether (eqb kind CARET) (λ _. arith_op ts at CARETEQ CARET 7) λ _.
    whether (eqb kind PERCENT) (λ _. arith_op ts at PERCENTEQ PERCENT 11) λ _.
    whether (eqb kind AMP) (λ _. amp_op ts at) λ _.
    whether (eqb kind SLASH) (λ _. arith_op ts at SLASHEQ SLASH 11) λ _.
    whether (eqb kind STAR) (λ _. arith_op ts at STAREQ STAR 11) λ _.
    whether (eqb kind DOT) (λ _. dot_op ts at) λ _.
    whether (eqb kind BANG) (λ _. bang_op ts at) λ _.
    whether (eqb kind MINUS) (λ _. arith_op ts at MINUSEQ MINUS 10) λ _.
    whether (eqb kind AS_KW) (λ _. left_op AS_KW 12) (λ _. not_an_op)

unfoldable pub current_op : Tokens → ℕ → Op
current_op ts at = bound (kind_at ts at) λ kind. op_of ts at kind

-- "read the right operand at strength + 1 (right side: same strength)"
unfoldable pub on_side : Side → ℕ → ℕ → ℕ
on_side Left a b = a
on_side Right a b = b

unfoldable pub right_of : Op → ℕ
right_of op = on_side op.side (op.strength + 1) op.strength

unfoldable pub is_range : Op → Bool
is_range op = among op.kind ranges

-- "A range followed by no first token, or by `.` and IDENT, has no right operand"
unfoldable pub operand_follows : Tokens → ℕ → Bool
operand_follows ts at =
    bound (kind_at ts at) λ kind.
    whether (is_first kind)
    (λ _. whether (eqb kind DOT) (λ _. bound (kind_at ts (at + 1)) λ next. not (eqb next IDENT)) (λ _. true))
    (λ _. false)
