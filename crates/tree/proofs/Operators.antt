-- The operator at hand against the table of the Rust Reference: strength s is row 18 - s, strength 1 groups to the right, and the others to the left; without ranges these are all. Assumes nothing.
use mathlib.Core.Path.{◌≡◌, refl, sym, subst, ◌∙◌}
use mathlib.Core.List.{[], ◌∷◌}
use mathlib.Core.Bool.{true, false, false≢true}
use mathlib.Core.Logic.{◌⊎◌, inl, inr}
use Prim.Native.Nat.{ℕ, ◌+◌, ◌-◌, ◌≤◌, ◌<◌}
use native.Mathlib.Omega.{arith}
use lib.Dec.{eqb, leb}
use borrow.Author.Tests.{leb-true, leb-false}
use Rattle.base.specs.Base.{whether}
use Rattle.base.proofs.Cases.{whether_by, bound_by}
use Rattle.base.proofs.Laws.{whether_yes}
use Rattle.input.specs.SyntaxKind.{AS_KW, DOT, AMP, PIPE, PLUS, MINUS, STAR, SLASH, PERCENT, CARET, EQ, L_ANGLE, R_ANGLE, MINUSEQ, NEQ, DOT2, STAREQ, SLASHEQ, AMP2, AMPEQ, PERCENTEQ, CARETEQ, PLUSEQ, SHL, LTEQ, EQ2, GTEQ, SHR, PIPEEQ, PIPE2, DOT2EQ, SHLEQ, SHREQ}
use Rattle.input.specs.Input.{Tokens, joint_at, stands, present, follow, parts_of, is_glued, row_of, row_parts, glued_table}
use Rattle.operators.specs.declared.Op.{Op}
use Rattle.operators.specs.TokenSet.{among}
use Rattle.operators.specs.Strength.{left_op, assign_op, not_an_op, or_op, pipe_op, r_angle_op, l_angle_op, amp_op, eq_op, dot_op, bang_op, arith_op, op_of, current_op, on_side, right_of, is_range}
use Rattle.input.proofs.Laws.{both_true}
use Rattle.tree.specs.Tree.{Tree}
use Rattle.tree.specs.Table.{Associativity, left_to_right, right_to_left, require_parentheses, table, holds, has_operator, place_in, place, side_in, side, unary}
use Rattle.tree.specs.Grouped.{rank, LeftFits, RightFits, FitsLeft, FitsRight, IsBinary}

-- the loosest row of what is read at strength b; above 12 no operator is
unfoldable pub floor : ℕ → ℕ
floor b = whether (leb b 12) (λ _. 18 - b) (λ _. unary)

pub floor_at : (b : ℕ) → b ≤ 12 → floor b ≡ 18 - b
unfolding floor
floor_at b h = whether_by (λ n. n ≡ 18 - b) (leb b 12) _ _ (λ _. refl) (λ q. absurd (omega (arith, leb-false b 12 q)))

pub floor_high : (b : ℕ) → 12 < b → floor b ≡ unary
unfolding floor
floor_high b h = whether_by (λ n. n ≡ 5) (leb b 12) _ _ (λ q. absurd (omega (arith, leb-true b 12 q))) (λ _. refl)

pub floor_low : (b : ℕ) → unary ≤ floor b
unfolding floor
floor_low b = whether_by (λ n. 5 ≤ n) (leb b 12) _ _ (λ q. omega (arith, leb-true b 12 q)) (λ _. omega arith)

pub floor_top : floor 255 ≡ unary
unfolding floor whether
floor_top = refl

pub place_as : place AS_KW ≡ 6
unfolding place place_in table has_operator holds whether
place_as = refl

pub place_range : place DOT2 ≡ 16
unfolding place place_in table has_operator holds whether
place_range = refl

pub side_as : side AS_KW ≡ left_to_right
unfolding side side_in table has_operator holds whether
side_as = refl

-- an operator between two operands, and what the table asks of them
pub record Binary (op : Op) : Type 0 where
  pub low : 1 ≤ op.strength
  pub high : op.strength ≤ 11
  pub in_row : place op.kind + op.strength ≡ 18
  pub between : IsBinary op.kind
  pub right : ((op.strength ≡ 1) × (right_of op ≡ 1)) ⊎ ((2 ≤ op.strength) × (right_of op ≡ op.strength + 1))
  pub takes_left : (t : Tree) → rank t + op.strength ≤ 18 → (op.strength ≡ 1 → rank t ≤ 16) → FitsLeft op.kind t
  pub takes_right : (t : Tree) → rank t ≤ floor (right_of op) → FitsRight op.kind t
  pub no_range : is_range op ≡ false

abbrev pub Known : Op → Type 0
Known op = (op.strength ≡ 0) ⊎ (((op.kind ≡ AS_KW) × (op.strength ≡ 12)) ⊎ ((eqb op.kind AS_KW ≡ false) × Binary op))

-- to the left: a row of its own below `as` and above ranges
module _ (k st : ℕ) (p : place k + st ≡ 18) (l : 3 ≤ st) (h : st ≤ 11) (a : eqb k AS_KW ≡ false) (r : among k (DOT2 ∷ DOT2EQ ∷ []) ≡ false) where
  abbrev Leftward : Associativity → Type 0
  Leftward s = (t : Tree) → ((rank t + st ≤ 18 → LeftFits s (place k) (rank t)) × (rank t ≤ floor (st + 1) → RightFits s (place k) (rank t)))

  leftward : (s : Associativity) → side k ≡ s → Leftward s → Known (left_op k st)
  unfolding right_of on_side is_range
  leftward s q f =
      inr (inr (
        a,
        record {
          low = omega arith;
          high = h;
          in_row = p;
          between = (omega (arith, place_as), λ e. omega (arith, place_range));
          right = inr (omega arith, refl);
          takes_left = λ t x _. subst (λ (z : Associativity). LeftFits z (place k) (rank t)) (sym q) ((f t).0 x);
          takes_right = λ t x. subst (λ (z : Associativity). RightFits z (place k) (rank t)) (sym q) ((f t).1 x);
          no_range = r;
        },
      ))

  left_op_lem : side k ≡ left_to_right → Known (left_op k st)
  left_op_lem q = leftward left_to_right q (λ t. (λ x. omega arith, λ x. omega (arith, floor_at (st + 1) (omega arith))))

  chain_op : side k ≡ require_parentheses → Known (left_op k st)
  chain_op q = leftward require_parentheses q (λ t. (λ x. omega arith, λ x. omega (arith, floor_at (st + 1) (omega arith))))

assign_op_lem : (k : ℕ) → place k ≡ 17 → side k ≡ right_to_left → eqb k AS_KW ≡ false → among k (DOT2 ∷ DOT2EQ ∷ []) ≡ false → Known (assign_op k)
unfolding right_of on_side is_range
assign_op_lem k p q a r =
    inr (inr (
      a,
      record {
        low = omega arith;
        high = omega arith;
        in_row = omega arith;
        between = (omega (arith, place_as), λ e. omega (arith, place_range));
        right = inl (refl, refl);
        takes_left = λ t x y. let z : rank t ≤ 16 = y refl in subst (λ (w : Associativity). LeftFits w (place k) (rank t)) (sym q) (omega arith);
        takes_right = λ t x. subst (λ (w : Associativity). RightFits w (place k) (rank t)) (sym q) (omega (arith, floor_at 1 (omega arith)));
        no_range = r;
      },
    ))

-- one by one
pub record Rows : Type 0 where
  of_PIPE2 : Known (left_op PIPE2 3)
  of_AMP2 : Known (left_op AMP2 4)
  of_PIPE : Known (left_op PIPE 6)
  of_CARET : Known (left_op CARET 7)
  of_AMP : Known (left_op AMP 8)
  of_SHL : Known (left_op SHL 9)
  of_SHR : Known (left_op SHR 9)
  of_PLUS : Known (left_op PLUS 10)
  of_MINUS : Known (left_op MINUS 10)
  of_STAR : Known (left_op STAR 11)
  of_SLASH : Known (left_op SLASH 11)
  of_PERCENT : Known (left_op PERCENT 11)
  of_EQ2 : Known (left_op EQ2 5)
  of_NEQ : Known (left_op NEQ 5)
  of_L_ANGLE : Known (left_op L_ANGLE 5)
  of_R_ANGLE : Known (left_op R_ANGLE 5)
  of_LTEQ : Known (left_op LTEQ 5)
  of_GTEQ : Known (left_op GTEQ 5)
  of_EQ : Known (assign_op EQ)
  of_MINUSEQ : Known (assign_op MINUSEQ)
  of_STAREQ : Known (assign_op STAREQ)
  of_SLASHEQ : Known (assign_op SLASHEQ)
  of_AMPEQ : Known (assign_op AMPEQ)
  of_PERCENTEQ : Known (assign_op PERCENTEQ)
  of_CARETEQ : Known (assign_op CARETEQ)
  of_PLUSEQ : Known (assign_op PLUSEQ)
  of_PIPEEQ : Known (assign_op PIPEEQ)
  of_SHLEQ : Known (assign_op SHLEQ)
  of_SHREQ : Known (assign_op SHREQ)

rows : Rows
unfolding place place_in side side_in table has_operator holds whether
rows =
    record {
      of_PIPE2 = left_op_lem PIPE2 3 refl (omega arith) (omega arith) refl refl refl;
      of_AMP2 = left_op_lem AMP2 4 refl (omega arith) (omega arith) refl refl refl;
      of_PIPE = left_op_lem PIPE 6 refl (omega arith) (omega arith) refl refl refl;
      of_CARET = left_op_lem CARET 7 refl (omega arith) (omega arith) refl refl refl;
      of_AMP = left_op_lem AMP 8 refl (omega arith) (omega arith) refl refl refl;
      of_SHL = left_op_lem SHL 9 refl (omega arith) (omega arith) refl refl refl;
      of_SHR = left_op_lem SHR 9 refl (omega arith) (omega arith) refl refl refl;
      of_PLUS = left_op_lem PLUS 10 refl (omega arith) (omega arith) refl refl refl;
      of_MINUS = left_op_lem MINUS 10 refl (omega arith) (omega arith) refl refl refl;
      of_STAR = left_op_lem STAR 11 refl (omega arith) (omega arith) refl refl refl;
      of_SLASH = left_op_lem SLASH 11 refl (omega arith) (omega arith) refl refl refl;
      of_PERCENT = left_op_lem PERCENT 11 refl (omega arith) (omega arith) refl refl refl;
      of_EQ2 = chain_op EQ2 5 refl (omega arith) (omega arith) refl refl refl;
      of_NEQ = chain_op NEQ 5 refl (omega arith) (omega arith) refl refl refl;
      of_L_ANGLE = chain_op L_ANGLE 5 refl (omega arith) (omega arith) refl refl refl;
      of_R_ANGLE = chain_op R_ANGLE 5 refl (omega arith) (omega arith) refl refl refl;
      of_LTEQ = chain_op LTEQ 5 refl (omega arith) (omega arith) refl refl refl;
      of_GTEQ = chain_op GTEQ 5 refl (omega arith) (omega arith) refl refl refl;
      of_EQ = assign_op_lem EQ refl refl refl refl;
      of_MINUSEQ = assign_op_lem MINUSEQ refl refl refl refl;
      of_STAREQ = assign_op_lem STAREQ refl refl refl refl;
      of_SLASHEQ = assign_op_lem SLASHEQ refl refl refl refl;
      of_AMPEQ = assign_op_lem AMPEQ refl refl refl refl;
      of_PERCENTEQ = assign_op_lem PERCENTEQ refl refl refl refl;
      of_CARETEQ = assign_op_lem CARETEQ refl refl refl refl;
      of_PLUSEQ = assign_op_lem PLUSEQ refl refl refl refl;
      of_PIPEEQ = assign_op_lem PIPEEQ refl refl refl refl;
      of_SHLEQ = assign_op_lem SHLEQ refl refl refl refl;
      of_SHREQ = assign_op_lem SHREQ refl refl refl refl;
    }

-- `..=` holds `..`
pub no_dots : (ts : Tokens) (i : ℕ) → present ts i DOT2 ≡ false → present ts i DOT2EQ ≡ true → ⊥
unfolding present follow parts_of is_glued row_of row_parts glued_table whether
no_dots ts i n q =
    let a = both_true (stands ts i DOT) _ q in
    let b = both_true (eqb (joint_at ts i) 1) _ a.1 in
    let c = both_true (stands ts (i + 1) DOT) _ b.1 in
    false≢true (sym n ∙ sym (whether_yes _ _ a.0 (whether_yes _ _ b.0 (sym c.0))))

module _ (ts : Tokens) (i : ℕ) where
  or_op_lem : (op : Op) (f : Unit {0} → Op) → Known op → Known (f tt) → Known (or_op ts i op f)
  unfolding or_op
  or_op_lem op f x y = whether_by Known _ _ _ (λ _. x) (λ _. y)

  none : Known not_an_op
  none = inl refl

  arith_op_lem : (s k st : ℕ) → Known (assign_op s) → Known (left_op k st) → Known (arith_op ts i s k st)
  unfolding arith_op
  arith_op_lem s k st x y = or_op_lem _ _ x y

  dots_known : present ts i DOT2 ≡ false → Known (dot_op ts i)
  unfolding dot_op or_op
  dots_known n = whether_by Known _ _ _ (λ q. absurd (no_dots ts i n q)) (λ _. whether_by Known _ _ _ (λ q. absurd (false≢true (sym n ∙ q))) (λ _. none))

  pub known_op : present ts i DOT2 ≡ false → Known (current_op ts i)
  unfolding current_op op_of pipe_op r_angle_op l_angle_op amp_op eq_op bang_op
  known_op n =
      bound_by Known _ _
      (whether_by Known _ _ _ (λ _. or_op_lem _ _ rows.of_PIPE2 (or_op_lem _ _ rows.of_PIPEEQ rows.of_PIPE))
      (λ _. whether_by Known _ _ _ (λ _. or_op_lem _ _ rows.of_SHREQ (or_op_lem _ _ rows.of_SHR (or_op_lem _ _ rows.of_GTEQ rows.of_R_ANGLE)))
      (λ _. whether_by Known _ _ _ (λ _. or_op_lem _ _ rows.of_EQ2 (whether_by Known _ _ _ (λ _. none) (λ _. rows.of_EQ)))
      (λ _. whether_by Known _ _ _ (λ _. or_op_lem _ _ rows.of_SHLEQ (or_op_lem _ _ rows.of_SHL (or_op_lem _ _ rows.of_LTEQ rows.of_L_ANGLE)))
      (λ _. whether_by Known _ _ _ (λ _. arith_op_lem PLUSEQ PLUS 10 rows.of_PLUSEQ rows.of_PLUS)
      (λ _. whether_by Known _ _ _ (λ _. arith_op_lem CARETEQ CARET 7 rows.of_CARETEQ rows.of_CARET)
      (λ _. whether_by Known _ _ _ (λ _. arith_op_lem PERCENTEQ PERCENT 11 rows.of_PERCENTEQ rows.of_PERCENT)
      (λ _. whether_by Known _ _ _ (λ _. or_op_lem _ _ rows.of_AMP2 (or_op_lem _ _ rows.of_AMPEQ rows.of_AMP))
      (λ _. whether_by Known _ _ _ (λ _. arith_op_lem SLASHEQ SLASH 11 rows.of_SLASHEQ rows.of_SLASH)
      (λ _. whether_by Known _ _ _ (λ _. arith_op_lem STAREQ STAR 11 rows.of_STAREQ rows.of_STAR)
      (λ _. whether_by Known _ _ _ (λ _. dots_known n)
      (λ _. whether_by Known _ _ _ (λ _. or_op_lem _ _ rows.of_NEQ none)
      (λ _. whether_by Known _ _ _ (λ _. arith_op_lem MINUSEQ MINUS 10 rows.of_MINUSEQ rows.of_MINUS)
      (λ _. whether_by Known _ _ _ (λ _. inr (inl (refl, refl))) (λ _. none)))))))))))))))
