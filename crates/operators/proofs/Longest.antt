-- Of the operators that are present none is wider than the one at hand, and that one is present: by the raw kind that each begins with, and the order in which the glued forms of that kind are asked for. Assumes nothing.
use mathlib.Core.Path.{◌≡◌, refl, sym, subst}
use mathlib.Core.List.{List, [], ◌∷◌}
use mathlib.Core.Bool.{true, false}
use Prim.Native.Nat.{ℕ, ◌≤◌}
use native.Mathlib.Omega.{arith}
use lib.Dec.{leb, eqb}
use borrow.Author.Tests.{leb-true, eqb-true}
use Rattle.base.specs.Base.{whether, bound}
use Rattle.base.proofs.Cases.{whether_by, bound_by}
use Rattle.input.specs.SyntaxKind.{AS_KW, DOT, AMP, PIPE, PLUS, MINUS, STAR, SLASH, PERCENT, CARET, BANG, EQ, L_ANGLE, R_ANGLE, MINUSEQ, NEQ, DOT2, STAREQ, SLASHEQ, AMP2, AMPEQ, PERCENTEQ, CARETEQ, PLUSEQ, SHL, LTEQ, EQ2, FAT_ARROW, GTEQ, SHR, PIPEEQ, PIPE2, DOT2EQ, SHLEQ, SHREQ}
use Rattle.input.specs.Input.{Tokens, kind_at, is_glued, glued_table, row_of, row_parts, parts_of, width_of, follow, present}
use Rattle.input.proofs.Laws.{both_true, not_both, kind_inside, stands_says, says_stands}
use Rattle.operators.specs.declared.Op.{Op}
use Rattle.operators.specs.TokenSet.{among}
use Rattle.operators.specs.Strength.{left_op, assign_op, not_an_op, or_op, pipe_op, r_angle_op, l_angle_op, amp_op, eq_op, dot_op, bang_op, arith_op, op_of, current_op}
use Rattle.operators.specs.Longest.{operators, AsWide, TheLongest, AtHand, TheOneAtHand}

fits : (kind : ℕ) (op : Op) → leb 1 op.strength ≡ true → leb (width_of kind) (width_of op.kind) ≡ true → AsWide kind op
fits kind op l w = record { operator = leb-true 1 op.strength l; as_wide = leb-true (width_of kind) (width_of op.kind) w }

-- an operator with a strength is at hand
record AtHandIfAny (ts : Tokens) (at : ℕ) (op : Op) : Type 0 where
  at_hand : 1 ≤ op.strength → AtHand ts at op

module _ (ts : Tokens) (at : ℕ) where
  or_wide : (kind : ℕ) (op : Op) (other : Unit {0} → Op) → AsWide kind op → (present ts at op.kind ≡ false → AsWide kind (other tt)) → AsWide kind (or_op ts at op other)
  unfolding or_op
  or_wide kind op other h g = whether_by (AsWide kind) _ _ _ (λ _. h) g

  -- the form that is present is the one that is asked for
  asked : (op : Op) (other : Unit {0} → Op) → 1 ≤ op.strength → present ts at op.kind ≡ true → AsWide op.kind (or_op ts at op other)
  asked op other l h = or_wide op.kind op other (record { operator = l; as_wide = omega arith }) (λ q. absurd (not_both _ h q))

  begins : (a : ℕ) (parts : List ℕ) → follow ts at (a ∷ parts) ≡ true → kind_at ts at ≡ a
  unfolding follow
  begins a [] h = (stands_says ts at a h).same
  begins a (b ∷ parts) h = (stands_says ts at a ((both_true _ _ h).0)).same

  -- a kind that is present leads the match on the raw kind to the one that it begins with
  found : (kind a : ℕ) (parts : List ℕ) → parts_of kind ≡ a ∷ parts → present ts at kind ≡ true → AsWide kind (op_of ts at a) → AsWide kind (current_op ts at)
  unfolding current_op present
  found kind a parts e h w =
      bound_by (AsWide kind) _ _ (subst (λ (n : ℕ). AsWide kind (op_of ts at n)) (sym (begins a parts (subst (λ (l : List ℕ). follow ts at l ≡ true) e h))) w)

  abbrev Wide : ℕ → Type 0
  Wide kind = present ts at kind ≡ true → (kind ≡ EQ → present ts at FAT_ARROW ≡ false) → AsWide kind (current_op ts at)

  shleq_wide : Wide SHLEQ
  unfolding op_of whether pipe_op r_angle_op l_angle_op amp_op eq_op dot_op bang_op arith_op is_glued glued_table row_of row_parts parts_of width_of
  shleq_wide h n = found SHLEQ L_ANGLE (L_ANGLE ∷ EQ ∷ []) refl h (asked (assign_op SHLEQ) _ (leb-true 1 _ refl) h)

  shreq_wide : Wide SHREQ
  unfolding op_of whether pipe_op r_angle_op l_angle_op amp_op eq_op dot_op bang_op arith_op is_glued glued_table row_of row_parts parts_of width_of
  shreq_wide h n = found SHREQ R_ANGLE (R_ANGLE ∷ EQ ∷ []) refl h (asked (assign_op SHREQ) _ (leb-true 1 _ refl) h)

  dot2eq_wide : Wide DOT2EQ
  unfolding op_of whether pipe_op r_angle_op l_angle_op amp_op eq_op dot_op bang_op arith_op is_glued glued_table row_of row_parts parts_of width_of
  dot2eq_wide h n = found DOT2EQ DOT (DOT ∷ EQ ∷ []) refl h (asked (left_op DOT2EQ 2) _ (leb-true 1 _ refl) h)

  minuseq_wide : Wide MINUSEQ
  unfolding op_of whether pipe_op r_angle_op l_angle_op amp_op eq_op dot_op bang_op arith_op is_glued glued_table row_of row_parts parts_of width_of
  minuseq_wide h n = found MINUSEQ MINUS (EQ ∷ []) refl h (asked (assign_op MINUSEQ) _ (leb-true 1 _ refl) h)

  stareq_wide : Wide STAREQ
  unfolding op_of whether pipe_op r_angle_op l_angle_op amp_op eq_op dot_op bang_op arith_op is_glued glued_table row_of row_parts parts_of width_of
  stareq_wide h n = found STAREQ STAR (EQ ∷ []) refl h (asked (assign_op STAREQ) _ (leb-true 1 _ refl) h)

  slasheq_wide : Wide SLASHEQ
  unfolding op_of whether pipe_op r_angle_op l_angle_op amp_op eq_op dot_op bang_op arith_op is_glued glued_table row_of row_parts parts_of width_of
  slasheq_wide h n = found SLASHEQ SLASH (EQ ∷ []) refl h (asked (assign_op SLASHEQ) _ (leb-true 1 _ refl) h)

  percenteq_wide : Wide PERCENTEQ
  unfolding op_of whether pipe_op r_angle_op l_angle_op amp_op eq_op dot_op bang_op arith_op is_glued glued_table row_of row_parts parts_of width_of
  percenteq_wide h n = found PERCENTEQ PERCENT (EQ ∷ []) refl h (asked (assign_op PERCENTEQ) _ (leb-true 1 _ refl) h)

  careteq_wide : Wide CARETEQ
  unfolding op_of whether pipe_op r_angle_op l_angle_op amp_op eq_op dot_op bang_op arith_op is_glued glued_table row_of row_parts parts_of width_of
  careteq_wide h n = found CARETEQ CARET (EQ ∷ []) refl h (asked (assign_op CARETEQ) _ (leb-true 1 _ refl) h)

  pluseq_wide : Wide PLUSEQ
  unfolding op_of whether pipe_op r_angle_op l_angle_op amp_op eq_op dot_op bang_op arith_op is_glued glued_table row_of row_parts parts_of width_of
  pluseq_wide h n = found PLUSEQ PLUS (EQ ∷ []) refl h (asked (assign_op PLUSEQ) _ (leb-true 1 _ refl) h)

  dot2_wide : Wide DOT2
  unfolding op_of whether pipe_op r_angle_op l_angle_op amp_op eq_op dot_op bang_op arith_op is_glued glued_table row_of row_parts parts_of width_of
  dot2_wide h n = found DOT2 DOT (DOT ∷ []) refl h (or_wide DOT2 (left_op DOT2EQ 2) _ (fits DOT2 (left_op DOT2EQ 2) refl refl) (λ _. asked (left_op DOT2 2) _ (leb-true 1 _ refl) h))

  pipe2_wide : Wide PIPE2
  unfolding op_of whether pipe_op r_angle_op l_angle_op amp_op eq_op dot_op bang_op arith_op is_glued glued_table row_of row_parts parts_of width_of
  pipe2_wide h n = found PIPE2 PIPE (PIPE ∷ []) refl h (asked (left_op PIPE2 3) _ (leb-true 1 _ refl) h)

  amp2_wide : Wide AMP2
  unfolding op_of whether pipe_op r_angle_op l_angle_op amp_op eq_op dot_op bang_op arith_op is_glued glued_table row_of row_parts parts_of width_of
  amp2_wide h n = found AMP2 AMP (AMP ∷ []) refl h (asked (left_op AMP2 4) _ (leb-true 1 _ refl) h)

  eq2_wide : Wide EQ2
  unfolding op_of whether pipe_op r_angle_op l_angle_op amp_op eq_op dot_op bang_op arith_op is_glued glued_table row_of row_parts parts_of width_of
  eq2_wide h n = found EQ2 EQ (EQ ∷ []) refl h (asked (left_op EQ2 5) _ (leb-true 1 _ refl) h)

  neq_wide : Wide NEQ
  unfolding op_of whether pipe_op r_angle_op l_angle_op amp_op eq_op dot_op bang_op arith_op is_glued glued_table row_of row_parts parts_of width_of
  neq_wide h n = found NEQ BANG (EQ ∷ []) refl h (asked (left_op NEQ 5) _ (leb-true 1 _ refl) h)

  lteq_wide : Wide LTEQ
  unfolding op_of whether pipe_op r_angle_op l_angle_op amp_op eq_op dot_op bang_op arith_op is_glued glued_table row_of row_parts parts_of width_of
  lteq_wide h n = found LTEQ L_ANGLE (EQ ∷ []) refl h (or_wide LTEQ (assign_op SHLEQ) _ (fits LTEQ (assign_op SHLEQ) refl refl) (λ _. or_wide LTEQ (left_op SHL 9) _ (fits LTEQ (left_op SHL 9) refl refl) (λ _. asked (left_op LTEQ 5) _ (leb-true 1 _ refl) h)))

  gteq_wide : Wide GTEQ
  unfolding op_of whether pipe_op r_angle_op l_angle_op amp_op eq_op dot_op bang_op arith_op is_glued glued_table row_of row_parts parts_of width_of
  gteq_wide h n = found GTEQ R_ANGLE (EQ ∷ []) refl h (or_wide GTEQ (assign_op SHREQ) _ (fits GTEQ (assign_op SHREQ) refl refl) (λ _. or_wide GTEQ (left_op SHR 9) _ (fits GTEQ (left_op SHR 9) refl refl) (λ _. asked (left_op GTEQ 5) _ (leb-true 1 _ refl) h)))

  shl_wide : Wide SHL
  unfolding op_of whether pipe_op r_angle_op l_angle_op amp_op eq_op dot_op bang_op arith_op is_glued glued_table row_of row_parts parts_of width_of
  shl_wide h n = found SHL L_ANGLE (L_ANGLE ∷ []) refl h (or_wide SHL (assign_op SHLEQ) _ (fits SHL (assign_op SHLEQ) refl refl) (λ _. asked (left_op SHL 9) _ (leb-true 1 _ refl) h))

  shr_wide : Wide SHR
  unfolding op_of whether pipe_op r_angle_op l_angle_op amp_op eq_op dot_op bang_op arith_op is_glued glued_table row_of row_parts parts_of width_of
  shr_wide h n = found SHR R_ANGLE (R_ANGLE ∷ []) refl h (or_wide SHR (assign_op SHREQ) _ (fits SHR (assign_op SHREQ) refl refl) (λ _. asked (left_op SHR 9) _ (leb-true 1 _ refl) h))

  ampeq_wide : Wide AMPEQ
  unfolding op_of whether pipe_op r_angle_op l_angle_op amp_op eq_op dot_op bang_op arith_op is_glued glued_table row_of row_parts parts_of width_of
  ampeq_wide h n = found AMPEQ AMP (EQ ∷ []) refl h (or_wide AMPEQ (left_op AMP2 4) _ (fits AMPEQ (left_op AMP2 4) refl refl) (λ _. asked (assign_op AMPEQ) _ (leb-true 1 _ refl) h))

  pipeeq_wide : Wide PIPEEQ
  unfolding op_of whether pipe_op r_angle_op l_angle_op amp_op eq_op dot_op bang_op arith_op is_glued glued_table row_of row_parts parts_of width_of
  pipeeq_wide h n = found PIPEEQ PIPE (EQ ∷ []) refl h (or_wide PIPEEQ (left_op PIPE2 3) _ (fits PIPEEQ (left_op PIPE2 3) refl refl) (λ _. asked (assign_op PIPEEQ) _ (leb-true 1 _ refl) h))

  eq_wide : Wide EQ
  unfolding op_of whether pipe_op r_angle_op l_angle_op amp_op eq_op dot_op bang_op arith_op is_glued glued_table row_of row_parts parts_of width_of
  eq_wide h n = found EQ EQ ([]) refl h (or_wide EQ (left_op EQ2 5) _ (fits EQ (left_op EQ2 5) refl refl) (λ _. whether_by (AsWide EQ) _ _ _ (λ q. absurd (not_both _ q (n refl))) (λ _. fits EQ (assign_op EQ) refl refl)))

  l_angle_wide : Wide L_ANGLE
  unfolding op_of whether pipe_op r_angle_op l_angle_op amp_op eq_op dot_op bang_op arith_op is_glued glued_table row_of row_parts parts_of width_of
  l_angle_wide h n = found L_ANGLE L_ANGLE ([]) refl h (or_wide L_ANGLE (assign_op SHLEQ) _ (fits L_ANGLE (assign_op SHLEQ) refl refl) (λ _. or_wide L_ANGLE (left_op SHL 9) _ (fits L_ANGLE (left_op SHL 9) refl refl) (λ _. or_wide L_ANGLE (left_op LTEQ 5) _ (fits L_ANGLE (left_op LTEQ 5) refl refl) (λ _. fits L_ANGLE (left_op L_ANGLE 5) refl refl))))

  r_angle_wide : Wide R_ANGLE
  unfolding op_of whether pipe_op r_angle_op l_angle_op amp_op eq_op dot_op bang_op arith_op is_glued glued_table row_of row_parts parts_of width_of
  r_angle_wide h n = found R_ANGLE R_ANGLE ([]) refl h (or_wide R_ANGLE (assign_op SHREQ) _ (fits R_ANGLE (assign_op SHREQ) refl refl) (λ _. or_wide R_ANGLE (left_op SHR 9) _ (fits R_ANGLE (left_op SHR 9) refl refl) (λ _. or_wide R_ANGLE (left_op GTEQ 5) _ (fits R_ANGLE (left_op GTEQ 5) refl refl) (λ _. fits R_ANGLE (left_op R_ANGLE 5) refl refl))))

  pipe_wide : Wide PIPE
  unfolding op_of whether pipe_op r_angle_op l_angle_op amp_op eq_op dot_op bang_op arith_op is_glued glued_table row_of row_parts parts_of width_of
  pipe_wide h n = found PIPE PIPE ([]) refl h (or_wide PIPE (left_op PIPE2 3) _ (fits PIPE (left_op PIPE2 3) refl refl) (λ _. or_wide PIPE (assign_op PIPEEQ) _ (fits PIPE (assign_op PIPEEQ) refl refl) (λ _. fits PIPE (left_op PIPE 6) refl refl)))

  caret_wide : Wide CARET
  unfolding op_of whether pipe_op r_angle_op l_angle_op amp_op eq_op dot_op bang_op arith_op is_glued glued_table row_of row_parts parts_of width_of
  caret_wide h n = found CARET CARET ([]) refl h (or_wide CARET (assign_op CARETEQ) _ (fits CARET (assign_op CARETEQ) refl refl) (λ _. fits CARET (left_op CARET 7) refl refl))

  amp_wide : Wide AMP
  unfolding op_of whether pipe_op r_angle_op l_angle_op amp_op eq_op dot_op bang_op arith_op is_glued glued_table row_of row_parts parts_of width_of
  amp_wide h n = found AMP AMP ([]) refl h (or_wide AMP (left_op AMP2 4) _ (fits AMP (left_op AMP2 4) refl refl) (λ _. or_wide AMP (assign_op AMPEQ) _ (fits AMP (assign_op AMPEQ) refl refl) (λ _. fits AMP (left_op AMP 8) refl refl)))

  plus_wide : Wide PLUS
  unfolding op_of whether pipe_op r_angle_op l_angle_op amp_op eq_op dot_op bang_op arith_op is_glued glued_table row_of row_parts parts_of width_of
  plus_wide h n = found PLUS PLUS ([]) refl h (or_wide PLUS (assign_op PLUSEQ) _ (fits PLUS (assign_op PLUSEQ) refl refl) (λ _. fits PLUS (left_op PLUS 10) refl refl))

  minus_wide : Wide MINUS
  unfolding op_of whether pipe_op r_angle_op l_angle_op amp_op eq_op dot_op bang_op arith_op is_glued glued_table row_of row_parts parts_of width_of
  minus_wide h n = found MINUS MINUS ([]) refl h (or_wide MINUS (assign_op MINUSEQ) _ (fits MINUS (assign_op MINUSEQ) refl refl) (λ _. fits MINUS (left_op MINUS 10) refl refl))

  star_wide : Wide STAR
  unfolding op_of whether pipe_op r_angle_op l_angle_op amp_op eq_op dot_op bang_op arith_op is_glued glued_table row_of row_parts parts_of width_of
  star_wide h n = found STAR STAR ([]) refl h (or_wide STAR (assign_op STAREQ) _ (fits STAR (assign_op STAREQ) refl refl) (λ _. fits STAR (left_op STAR 11) refl refl))

  slash_wide : Wide SLASH
  unfolding op_of whether pipe_op r_angle_op l_angle_op amp_op eq_op dot_op bang_op arith_op is_glued glued_table row_of row_parts parts_of width_of
  slash_wide h n = found SLASH SLASH ([]) refl h (or_wide SLASH (assign_op SLASHEQ) _ (fits SLASH (assign_op SLASHEQ) refl refl) (λ _. fits SLASH (left_op SLASH 11) refl refl))

  percent_wide : Wide PERCENT
  unfolding op_of whether pipe_op r_angle_op l_angle_op amp_op eq_op dot_op bang_op arith_op is_glued glued_table row_of row_parts parts_of width_of
  percent_wide h n = found PERCENT PERCENT ([]) refl h (or_wide PERCENT (assign_op PERCENTEQ) _ (fits PERCENT (assign_op PERCENTEQ) refl refl) (λ _. fits PERCENT (left_op PERCENT 11) refl refl))

  as_kw_wide : Wide AS_KW
  unfolding op_of whether pipe_op r_angle_op l_angle_op amp_op eq_op dot_op bang_op arith_op is_glued glued_table row_of row_parts parts_of width_of
  as_kw_wide h n = found AS_KW AS_KW ([]) refl h (fits AS_KW (left_op AS_KW 12) refl refl)

  abbrev Known : Op → Type 0
  Known op = AtHandIfAny ts at op

  or_known : (op : Op) (other : Unit {0} → Op) → among op.kind operators ≡ true → Known (other tt) → Known (or_op ts at op other)
  unfolding or_op
  or_known op other l h = whether_by Known (present ts at op.kind) (λ _. op) other (λ q. record { at_hand = λ _. record { listed = l; is_present = q } }) (λ _. h)

  -- a raw kind that is at hand is present
  raw_known : (op : Op) → among op.kind operators ≡ true → parts_of op.kind ≡ op.kind ∷ [] → 1 ≤ op.kind → eqb (kind_at ts at) op.kind ≡ true → Known op
  unfolding present follow
  raw_known op l e k q =
      let z : kind_at ts at ≡ op.kind = eqb-true _ _ q in
      let p : present ts at op.kind ≡ true = subst (λ (ps : List ℕ). follow ts at ps ≡ true) (sym e) (says_stands ts at op.kind (record { inside = kind_inside ts at (λ n. omega arith); same = z })) in
      record { at_hand = λ _. record { listed = l; is_present = p } }

  none_known : Known not_an_op
  none_known = record { at_hand = λ l. absurd (omega arith) }

  pipe_known : eqb (kind_at ts at) PIPE ≡ true → Known (pipe_op ts at)
  unfolding pipe_op whether is_glued parts_of
  pipe_known q = or_known (left_op PIPE2 3) _ refl (or_known (assign_op PIPEEQ) _ refl (raw_known (left_op PIPE 6) refl refl (leb-true 1 _ refl) q))

  r_angle_known : eqb (kind_at ts at) R_ANGLE ≡ true → Known (r_angle_op ts at)
  unfolding r_angle_op whether is_glued parts_of
  r_angle_known q = or_known (assign_op SHREQ) _ refl (or_known (left_op SHR 9) _ refl (or_known (left_op GTEQ 5) _ refl (raw_known (left_op R_ANGLE 5) refl refl (leb-true 1 _ refl) q)))

  eq_known : eqb (kind_at ts at) EQ ≡ true → Known (eq_op ts at)
  unfolding eq_op whether is_glued parts_of
  eq_known q = or_known (left_op EQ2 5) _ refl (whether_by Known (present ts at FAT_ARROW) (λ _. not_an_op) (λ _. assign_op EQ) (λ _. none_known) (λ _. raw_known (assign_op EQ) refl refl (leb-true 1 _ refl) q))

  l_angle_known : eqb (kind_at ts at) L_ANGLE ≡ true → Known (l_angle_op ts at)
  unfolding l_angle_op whether is_glued parts_of
  l_angle_known q = or_known (assign_op SHLEQ) _ refl (or_known (left_op SHL 9) _ refl (or_known (left_op LTEQ 5) _ refl (raw_known (left_op L_ANGLE 5) refl refl (leb-true 1 _ refl) q)))

  plus_known : eqb (kind_at ts at) PLUS ≡ true → Known (arith_op ts at PLUSEQ PLUS 10)
  unfolding arith_op whether is_glued parts_of
  plus_known q = or_known (assign_op PLUSEQ) _ refl (raw_known (left_op PLUS 10) refl refl (leb-true 1 _ refl) q)

  caret_known : eqb (kind_at ts at) CARET ≡ true → Known (arith_op ts at CARETEQ CARET 7)
  unfolding arith_op whether is_glued parts_of
  caret_known q = or_known (assign_op CARETEQ) _ refl (raw_known (left_op CARET 7) refl refl (leb-true 1 _ refl) q)

  percent_known : eqb (kind_at ts at) PERCENT ≡ true → Known (arith_op ts at PERCENTEQ PERCENT 11)
  unfolding arith_op whether is_glued parts_of
  percent_known q = or_known (assign_op PERCENTEQ) _ refl (raw_known (left_op PERCENT 11) refl refl (leb-true 1 _ refl) q)

  amp_known : eqb (kind_at ts at) AMP ≡ true → Known (amp_op ts at)
  unfolding amp_op whether is_glued parts_of
  amp_known q = or_known (left_op AMP2 4) _ refl (or_known (assign_op AMPEQ) _ refl (raw_known (left_op AMP 8) refl refl (leb-true 1 _ refl) q))

  slash_known : eqb (kind_at ts at) SLASH ≡ true → Known (arith_op ts at SLASHEQ SLASH 11)
  unfolding arith_op whether is_glued parts_of
  slash_known q = or_known (assign_op SLASHEQ) _ refl (raw_known (left_op SLASH 11) refl refl (leb-true 1 _ refl) q)

  star_known : eqb (kind_at ts at) STAR ≡ true → Known (arith_op ts at STAREQ STAR 11)
  unfolding arith_op whether is_glued parts_of
  star_known q = or_known (assign_op STAREQ) _ refl (raw_known (left_op STAR 11) refl refl (leb-true 1 _ refl) q)

  dot_known : eqb (kind_at ts at) DOT ≡ true → Known (dot_op ts at)
  unfolding dot_op whether is_glued parts_of
  dot_known _ = or_known (left_op DOT2EQ 2) _ refl (or_known (left_op DOT2 2) _ refl none_known)

  bang_known : eqb (kind_at ts at) BANG ≡ true → Known (bang_op ts at)
  unfolding bang_op whether is_glued parts_of
  bang_known _ = or_known (left_op NEQ 5) _ refl none_known

  minus_known : eqb (kind_at ts at) MINUS ≡ true → Known (arith_op ts at MINUSEQ MINUS 10)
  unfolding arith_op whether is_glued parts_of
  minus_known q = or_known (assign_op MINUSEQ) _ refl (raw_known (left_op MINUS 10) refl refl (leb-true 1 _ refl) q)

  as_known : eqb (kind_at ts at) AS_KW ≡ true → Known (left_op AS_KW 12)
  unfolding arith_op whether is_glued parts_of
  as_known q = raw_known (left_op AS_KW 12) refl refl (leb-true 1 _ refl) q

  op_known : Known (current_op ts at)
  unfolding current_op op_of bound
  op_known =
      whether_by Known _ _ _ pipe_known λ _.
      whether_by Known _ _ _ r_angle_known λ _.
      whether_by Known _ _ _ eq_known λ _.
      whether_by Known _ _ _ l_angle_known λ _.
      whether_by Known _ _ _ plus_known λ _.
      whether_by Known _ _ _ caret_known λ _.
      whether_by Known _ _ _ percent_known λ _.
      whether_by Known _ _ _ amp_known λ _.
      whether_by Known _ _ _ slash_known λ _.
      whether_by Known _ _ _ star_known λ _.
      whether_by Known _ _ _ dot_known λ _.
      whether_by Known _ _ _ bang_known λ _.
      whether_by Known _ _ _ minus_known λ _.
      whether_by Known _ _ _ as_known (λ _. none_known)

  -- each of a list
  abbrev Each : List ℕ → Type 0
  Each [] = Unit {0}
  Each (x ∷ l) = Wide x × Each l

  one_of : (kind : ℕ) (l : List ℕ) → Each l → among kind l ≡ true → Wide kind
  one_of kind [] e q = absurd (not_both _ q refl)
  one_of kind (x ∷ l) e q = whether_by (λ b. b ≡ true → Wide kind) (eqb kind x) _ _ (λ p _. subst Wide (sym (eqb-true kind x p)) e.0) (λ _ r. one_of kind l e.1 r) q

  all_wide : Each operators
  all_wide = (
    eq_wide,
    (
      minuseq_wide,
      (
        stareq_wide,
        (
          slasheq_wide,
          (
            ampeq_wide,
            (
              percenteq_wide,
              (
                careteq_wide,
                (
                  pluseq_wide,
                  (
                    pipeeq_wide,
                    (
                      shleq_wide,
                      (
                        shreq_wide,
                        (
                          dot2_wide,
                          (
                            dot2eq_wide,
                            (
                              pipe2_wide,
                              (
                                amp2_wide,
                                (
                                  eq2_wide,
                                  (
                                    neq_wide,
                                    (
                                      l_angle_wide,
                                      (
                                        r_angle_wide,
                                        (
                                          lteq_wide,
                                          (
                                            gteq_wide,
                                            (
                                              pipe_wide,
                                              (
                                                caret_wide,
                                                (
                                                  amp_wide,
                                                  (
                                                    shl_wide,
                                                    (
                                                      shr_wide,
                                                      (
                                                        plus_wide,
                                                        (
                                                          minus_wide,
                                                          (
                                                            star_wide,
                                                            (
                                                              slash_wide,
                                                              (
                                                                percent_wide,
                                                                (
                                                                  as_kw_wide,
                                                                  tt,
                                                                ),
                                                              ),
                                                            ),
                                                          ),
                                                        ),
                                                      ),
                                                    ),
                                                  ),
                                                ),
                                              ),
                                            ),
                                          ),
                                        ),
                                      ),
                                    ),
                                  ),
                                ),
                              ),
                            ),
                          ),
                        ),
                      ),
                    ),
                  ),
                ),
              ),
            ),
          ),
        ),
      ),
    ),
  )

pub the_longest : TheLongest
the_longest ts at kind q h n = one_of ts at kind operators (all_wide ts at) q h n

pub the_one_at_hand : TheOneAtHand
the_one_at_hand ts at l = (op_known ts at).at_hand l
