-- A reader from leaves to trees, made for one use: whatever groups as the table says is what it reads (Unique), and a function has one value. It never fails; where no form fits it answers something. Assumes nothing.
use mathlib.Core.List.{List, [], ◌∷◌}
use mathlib.Core.Bool.{true, false}
use Prim.Native.Nat.{ℕ, zero, suc, ◌+◌, ◌-◌}
use lib.ListN.{drop}
use lib.Dec.{eqb, ltb}
use Rattle.base.specs.Base.{whether, bound, called}
use Rattle.input.specs.SyntaxKind.{EOF, IDENT, AS_KW, MUT_KW, AWAIT_KW, L_PAREN, R_PAREN, L_BRACK, COMMA, DOT, AMP, QUESTION, COLON2}
use Rattle.tree.specs.Tree.{Tree, literal, name, paren, prefix, borrowed, borrowed_mut, binary, cast, call, index, try, field, method, await, two_fields, Stem, dotted, pointed, Args, nothing, last, more, Leaf, tok, float}
use Rattle.tree.specs.Table.{Associativity, unsaid, left_to_right, right_to_left, require_parentheses, holds, place, side}
use Rattle.tree.specs.Grouped.{prefixes}

-- the first leaf as a number: a token by its kind, a float by a number that no kind has
abbrev pub POINT : ℕ
POINT = 100

abbrev pub TWO : ℕ
TWO = 101

abbrev pub head_of : List Leaf → ℕ
head_of [] = EOF
head_of (tok kind ∷ l) = kind
head_of (float true ∷ l) = POINT
head_of (float false ∷ l) = TWO

-- how tightly an operator of the table binds: more is tighter; 0 for what is none
unfoldable pub power : ℕ → ℕ
power op = 18 - place op

unfoldable pub right_by : Associativity → ℕ → ℕ
right_by right_to_left p = p
right_by left_to_right p = p + 1
right_by require_parentheses p = p + 1
right_by unsaid p = p + 1

-- what an operator's right operand is read at
unfoldable pub right_power : ℕ → ℕ
right_power op = right_by (side op) (power op)

abbrev pub Read : Type 0
Read = ℕ → List Leaf → Tree × List Leaf

-- how many times `:: IDENT`
unfoldable pub names_in : List Leaf → ℕ × List Leaf
names_in [] = (0, [])
names_in (x ∷ []) = (0, x ∷ [])
names_in (x ∷ y ∷ l) = whether (eqb (head_of (x ∷ [])) COLON2) (λ _. called (names_in l) λ n l1. (suc n, l1)) (λ _. (0, x ∷ y ∷ l))

module _ (rd : Read) where
  unfoldable pub first_of : List Leaf → Tree × List Leaf
  first_of l =
      bound (head_of l) λ k.
      whether (eqb k L_PAREN) (λ _. called (rd 1 (drop 1 l)) λ t l1. (paren t, drop 1 l1)) λ _.
      whether (eqb k AMP)
      (λ _. whether (eqb (head_of (drop 1 l)) MUT_KW) (λ _. called (rd 255 (drop 2 l)) λ t l1. (borrowed_mut t, l1)) (λ _. called (rd 255 (drop 1 l)) λ t l1. (borrowed t, l1))) λ _.
      whether (holds k prefixes) (λ _. called (rd 255 (drop 1 l)) λ t l1. (prefix k t, l1)) λ _.
      whether (eqb k IDENT) (λ _. called (names_in (drop 1 l)) λ n l1. (name n, l1)) (λ _. (literal k, drop 1 l))

  unfoldable pub args_of : ℕ → List Leaf → Args × List Leaf
  args_of zero l = (nothing, l)
  args_of (suc f) l =
      whether (eqb (head_of l) R_PAREN) (λ _. (nothing, l)) λ _.
      called (rd 1 l) λ t l1.
      whether (eqb (head_of l1) COMMA) (λ _. called (args_of f (drop 1 l1)) λ a l2. (more t a, l2)) (λ _. (last t, l1))

  -- behind a stem: f for arguments, k for stems
  unfoldable pub dot_of : ℕ → ℕ → Stem → List Leaf → Tree × List Leaf
  dot_of f zero s l = (await s, l)
  dot_of f (suc k) s l =
      bound (head_of l) λ h.
      whether (eqb h POINT) (λ _. dot_of f k (pointed s) (drop 1 l)) λ _.
      whether (eqb h TWO) (λ _. (two_fields s, drop 1 l)) λ _.
      whether (eqb h AWAIT_KW) (λ _. (await s, drop 1 l)) λ _.
      whether (eqb h IDENT)
      (λ _. whether (eqb (head_of (drop 1 l)) L_PAREN) (λ _. called (args_of f (drop 2 l)) λ a l1. (method s a, drop 1 l1)) (λ _. (field s h, drop 1 l)))
      (λ _. (field s h, drop 1 l))

  -- the postfix forms and operators behind a tree, at b; f for arguments and stems, k for the forms
  unfoldable pub loop_of : ℕ → ℕ → ℕ → Tree → List Leaf → Tree × List Leaf
  loop_of f b zero t l = (t, l)
  loop_of f b (suc k) t l =
      bound (head_of l) λ h.
      whether (eqb h L_PAREN) (λ _. called (args_of f (drop 1 l)) λ a l1. loop_of f b k (call t a) (drop 1 l1)) λ _.
      whether (eqb h L_BRACK) (λ _. called (rd 1 (drop 1 l)) λ i l1. loop_of f b k (index t i) (drop 1 l1)) λ _.
      whether (eqb h QUESTION) (λ _. loop_of f b k (try t) (drop 1 l)) λ _.
      whether (eqb h DOT) (λ _. called (dot_of f f (dotted t) (drop 1 l)) λ t1 l1. loop_of f b k t1 l1) λ _.
      whether (ltb (power h) b) (λ _. (t, l)) λ _.
      whether (eqb h AS_KW) (λ _. called (names_in (drop 2 l)) λ n l1. loop_of f b k (cast t n) l1) λ _.
      called (rd (right_power h) (drop 1 l)) λ r l1. loop_of f b k (binary h t r) l1

-- an expression at b, with fuel
unfoldable pub again : ℕ → Read
again zero b l = (literal EOF, l)
again (suc n) b l = called (first_of (again n) l) λ t l1. loop_of (again n) n b n t l1
