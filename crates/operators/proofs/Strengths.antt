-- The operator at hand has the strength and the side that document 01 lists for its kind. Each operator of the match by computation, the match by cases. Assumes nothing.
use mathlib.Core.Path.{◌≡◌, refl}
use Prim.Native.Nat.{ℕ}
use Rattle.base.specs.Base.{whether}
use Rattle.base.proofs.Cases.{whether_by, bound_by}
use Rattle.input.specs.SyntaxKind.{PIPE2, PIPEEQ, PIPE, SHREQ, SHR, GTEQ, R_ANGLE, SHLEQ, SHL, LTEQ, L_ANGLE, AMP2, AMPEQ, AMP, EQ2, EOF, EQ, DOT2EQ, DOT2, NEQ, PLUSEQ, PLUS, CARETEQ, CARET, PERCENTEQ, PERCENT, SLASHEQ, SLASH, STAREQ, STAR, MINUSEQ, MINUS, AS_KW}
use Rattle.input.specs.Input.{Tokens}
use Rattle.operators.specs.declared.Op.{Op}
use Rattle.operators.specs.Strength.{strength_of, side_of, left_op, assign_op, or_op, doubled_op, angle_op, pipe_op, r_angle_op, l_angle_op, amp_op, eq_op, dot_op, bang_op, arith_op, op_of, current_op}

-- strength and side as listed for the kind
abbrev pub Listed : Op → Type 0
Listed op = (op.strength ≡ strength_of op.kind) × (op.side ≡ side_of op.kind)

or_listed : (ts : Tokens) (at : ℕ) (op : Op) (other : Unit {0} → Op) → Listed op → Listed (other tt) → Listed (or_op ts at op other)
unfolding or_op
or_listed ts at op other h g = whether_by Listed _ _ _ (λ _. h) (λ _. g)

pipe2_listed : Listed (left_op PIPE2 3)
unfolding strength_of side_of whether
pipe2_listed = (refl, refl)

pipeeq_listed : Listed (assign_op PIPEEQ)
unfolding strength_of side_of whether
pipeeq_listed = (refl, refl)

pipe_listed : Listed (left_op PIPE 6)
unfolding strength_of side_of whether
pipe_listed = (refl, refl)

shreq_listed : Listed (assign_op SHREQ)
unfolding strength_of side_of whether
shreq_listed = (refl, refl)

shr_listed : Listed (left_op SHR 9)
unfolding strength_of side_of whether
shr_listed = (refl, refl)

gteq_listed : Listed (left_op GTEQ 5)
unfolding strength_of side_of whether
gteq_listed = (refl, refl)

r_angle_listed : Listed (left_op R_ANGLE 5)
unfolding strength_of side_of whether
r_angle_listed = (refl, refl)

shleq_listed : Listed (assign_op SHLEQ)
unfolding strength_of side_of whether
shleq_listed = (refl, refl)

shl_listed : Listed (left_op SHL 9)
unfolding strength_of side_of whether
shl_listed = (refl, refl)

lteq_listed : Listed (left_op LTEQ 5)
unfolding strength_of side_of whether
lteq_listed = (refl, refl)

l_angle_listed : Listed (left_op L_ANGLE 5)
unfolding strength_of side_of whether
l_angle_listed = (refl, refl)

amp2_listed : Listed (left_op AMP2 4)
unfolding strength_of side_of whether
amp2_listed = (refl, refl)

ampeq_listed : Listed (assign_op AMPEQ)
unfolding strength_of side_of whether
ampeq_listed = (refl, refl)

amp_listed : Listed (left_op AMP 8)
unfolding strength_of side_of whether
amp_listed = (refl, refl)

eq2_listed : Listed (left_op EQ2 5)
unfolding strength_of side_of whether
eq2_listed = (refl, refl)

eof_listed : Listed (left_op EOF 0)
unfolding strength_of side_of whether
eof_listed = (refl, refl)

eq_listed : Listed (assign_op EQ)
unfolding strength_of side_of whether
eq_listed = (refl, refl)

dot2eq_listed : Listed (left_op DOT2EQ 2)
unfolding strength_of side_of whether
dot2eq_listed = (refl, refl)

dot2_listed : Listed (left_op DOT2 2)
unfolding strength_of side_of whether
dot2_listed = (refl, refl)

neq_listed : Listed (left_op NEQ 5)
unfolding strength_of side_of whether
neq_listed = (refl, refl)

pluseq_listed : Listed (assign_op PLUSEQ)
unfolding strength_of side_of whether
pluseq_listed = (refl, refl)

plus_listed : Listed (left_op PLUS 10)
unfolding strength_of side_of whether
plus_listed = (refl, refl)

careteq_listed : Listed (assign_op CARETEQ)
unfolding strength_of side_of whether
careteq_listed = (refl, refl)

caret_listed : Listed (left_op CARET 7)
unfolding strength_of side_of whether
caret_listed = (refl, refl)

percenteq_listed : Listed (assign_op PERCENTEQ)
unfolding strength_of side_of whether
percenteq_listed = (refl, refl)

percent_listed : Listed (left_op PERCENT 11)
unfolding strength_of side_of whether
percent_listed = (refl, refl)

slasheq_listed : Listed (assign_op SLASHEQ)
unfolding strength_of side_of whether
slasheq_listed = (refl, refl)

slash_listed : Listed (left_op SLASH 11)
unfolding strength_of side_of whether
slash_listed = (refl, refl)

stareq_listed : Listed (assign_op STAREQ)
unfolding strength_of side_of whether
stareq_listed = (refl, refl)

star_listed : Listed (left_op STAR 11)
unfolding strength_of side_of whether
star_listed = (refl, refl)

minuseq_listed : Listed (assign_op MINUSEQ)
unfolding strength_of side_of whether
minuseq_listed = (refl, refl)

minus_listed : Listed (left_op MINUS 10)
unfolding strength_of side_of whether
minus_listed = (refl, refl)

as_kw_listed : Listed (left_op AS_KW 12)
unfolding strength_of side_of whether
as_kw_listed = (refl, refl)

doubled_listed_at : (ts : Tokens) (at twice twice_strength assigned kind strength : ℕ) → Listed (left_op twice twice_strength) → Listed (assign_op assigned) → Listed (left_op kind strength) → Listed (doubled_op ts at twice twice_strength assigned kind strength)
doubled_listed_at ts at twice twice_strength assigned kind strength f g h = or_listed ts at _ _ f (or_listed ts at _ _ g h)

angle_listed_at : (ts : Tokens) (at assigned shift or_equal kind : ℕ) → Listed (assign_op assigned) → Listed (left_op shift 9) → Listed (left_op or_equal 5) → Listed (left_op kind 5) → Listed (angle_op ts at assigned shift or_equal kind)
angle_listed_at ts at assigned shift or_equal kind e f g h = or_listed ts at _ _ e (or_listed ts at _ _ f (or_listed ts at _ _ g h))

pipeop_listed_at : (ts : Tokens) (at : ℕ) → Listed (pipe_op ts at)
unfolding pipe_op
pipeop_listed_at ts at = doubled_listed_at ts at _ _ _ _ _ pipe2_listed pipeeq_listed pipe_listed

ampop_listed_at : (ts : Tokens) (at : ℕ) → Listed (amp_op ts at)
unfolding amp_op
ampop_listed_at ts at = doubled_listed_at ts at _ _ _ _ _ amp2_listed ampeq_listed amp_listed

rangleop_listed_at : (ts : Tokens) (at : ℕ) → Listed (r_angle_op ts at)
unfolding r_angle_op
rangleop_listed_at ts at = angle_listed_at ts at _ _ _ _ shreq_listed shr_listed gteq_listed r_angle_listed

langleop_listed_at : (ts : Tokens) (at : ℕ) → Listed (l_angle_op ts at)
unfolding l_angle_op
langleop_listed_at ts at = angle_listed_at ts at _ _ _ _ shleq_listed shl_listed lteq_listed l_angle_listed

eqop_listed_at : (ts : Tokens) (at : ℕ) → Listed (eq_op ts at)
unfolding eq_op
eqop_listed_at ts at = or_listed ts at _ _ eq2_listed (whether_by Listed _ _ _ (λ _. eof_listed) (λ _. eq_listed))

dotop_listed_at : (ts : Tokens) (at : ℕ) → Listed (dot_op ts at)
unfolding dot_op
dotop_listed_at ts at = or_listed ts at _ _ dot2eq_listed (or_listed ts at _ _ dot2_listed (eof_listed))

bangop_listed_at : (ts : Tokens) (at : ℕ) → Listed (bang_op ts at)
unfolding bang_op
bangop_listed_at ts at = or_listed ts at _ _ neq_listed (eof_listed)

arith_listed_at : (ts : Tokens) (at assigned kind strength : ℕ) → Listed (assign_op assigned) → Listed (left_op kind strength) → Listed (arith_op ts at assigned kind strength)
unfolding arith_op
arith_listed_at ts at assigned kind strength h g = or_listed ts at _ _ h g

op_listed : (ts : Tokens) (at kind : ℕ) → Listed (op_of ts at kind)
unfolding op_of
op_listed ts at kind = whether_by Listed _ _ _ (λ _. pipeop_listed_at ts at) (λ _. whether_by Listed _ _ _ (λ _. rangleop_listed_at ts at) (λ _. whether_by Listed _ _ _ (λ _. eqop_listed_at ts at) (λ _. whether_by Listed _ _ _ (λ _. langleop_listed_at ts at) (λ _. whether_by Listed _ _ _ (λ _. arith_listed_at ts at _ _ _ pluseq_listed plus_listed) (λ _. whether_by Listed _ _ _ (λ _. arith_listed_at ts at _ _ _ careteq_listed caret_listed) (λ _. whether_by Listed _ _ _ (λ _. arith_listed_at ts at _ _ _ percenteq_listed percent_listed) (λ _. whether_by Listed _ _ _ (λ _. ampop_listed_at ts at) (λ _. whether_by Listed _ _ _ (λ _. arith_listed_at ts at _ _ _ slasheq_listed slash_listed) (λ _. whether_by Listed _ _ _ (λ _. arith_listed_at ts at _ _ _ stareq_listed star_listed) (λ _. whether_by Listed _ _ _ (λ _. dotop_listed_at ts at) (λ _. whether_by Listed _ _ _ (λ _. bangop_listed_at ts at) (λ _. whether_by Listed _ _ _ (λ _. arith_listed_at ts at _ _ _ minuseq_listed minus_listed) (λ _. whether_by Listed _ _ _ (λ _. as_kw_listed) (λ _. eof_listed))))))))))))))

-- "`=` and every compound assignment 1 right; .. all but 1 to the left": at every place of every list
pub strengths_as_listed : (ts : Tokens) (at : ℕ) → Listed (current_op ts at)
unfolding current_op
strengths_as_listed ts at = bound_by Listed _ _ (op_listed ts at _)
