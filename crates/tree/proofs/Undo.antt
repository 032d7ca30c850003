-- From steps back to a tree, made for one use: it undoes `flat` (OneTree), and a function has one value. A FIELD_EXPR that a float ends is told by its split: one that ends in a dot closes a node, one that does not closes two. Assumes nothing.
use mathlib.Core.List.{List, [], ◌∷◌}
use Prim.Native.Nat.{ℕ, zero, suc, ◌+◌, ◌-◌, ◌%◌}
use lib.ListN.{drop}
use lib.Dec.{eqb, ltb}
use Rattle.base.specs.Base.{whether, called}
use Rattle.input.specs.SyntaxKind.{MUT_KW, COMMA, DOT, LITERAL, PATH_EXPR, PATH, PAREN_EXPR, REF_EXPR, PREFIX_EXPR, BIN_EXPR, RANGE_EXPR, CALL_EXPR, INDEX_EXPR, METHOD_CALL_EXPR, FIELD_EXPR, TRY_EXPR, CAST_EXPR, TOKEN, LEAVE, FLOAT_SPLIT, ENDS_IN_DOT, WIDTH_STEP}
use Rattle.tree.specs.Tree.{Tree, literal, name, paren, prefix, borrowed, borrowed_mut, binary, cast, bare, up_to, from, between, call, index, try, field, method, await, two_fields, lone, Stem, dotted, pointed, Args, nothing, last, more, enter, taken}

-- what a node was: a tree; a field whose float ends in a dot; the inner one of two fields
pub data Item : Type 0 where
  whole : Tree → Item
  point : Stem → Item
  two : Stem → Item

abbrev pub as_tree : Item → Tree
as_tree (whole t) = t
as_tree (point s) = lone s
as_tree (two s) = two_fields s

abbrev pub head_n : List ℕ → ℕ
head_n [] = 0
head_n (x ∷ l) = x

-- the kind of a token step; of one whose width is 1
abbrev pub kind_from : ℕ → ℕ
kind_from x = (x - TOKEN) % WIDTH_STEP

abbrev pub raw_from : ℕ → ℕ
raw_from x = x - (TOKEN + WIDTH_STEP)

-- a path: how many names behind its first
unfoldable pub path_of : List ℕ → ℕ × List ℕ
path_of [] = (0, [])
path_of (x ∷ l) = whether (eqb (head_n l) (enter PATH)) (λ _. called (path_of l) λ n l1. (suc n, drop 7 l1)) (λ _. (0, drop 6 l))

abbrev pub Back : Type 0
Back = List ℕ → Item × List ℕ

module _ (f : ℕ) (rd : Back) where
  unfoldable pub tree_of : List ℕ → Tree × List ℕ
  tree_of l = called (rd l) λ x l1. (as_tree x, l1)

  unfoldable pub stem_by : Item → List ℕ → Stem × List ℕ
  stem_by (whole t) l = (dotted t, drop 1 l)
  stem_by (point s) l = whether (eqb (head_n l) (taken DOT)) (λ _. (dotted (lone s), drop 1 l)) (λ _. (pointed s, l))
  stem_by (two s) l = (pointed s, l)

  unfoldable pub stem_of : List ℕ → Stem × List ℕ
  stem_of l = called (rd l) λ x l1. stem_by x l1

  -- how a field ends
  unfoldable pub end_of : Stem → List ℕ → Item × List ℕ
  end_of s l =
      whether (eqb (head_n l) (FLOAT_SPLIT + ENDS_IN_DOT)) (λ _. (point s, drop 1 l)) λ _.
      whether (eqb (head_n l) FLOAT_SPLIT) (λ _. (two s, drop 1 l)) (λ _. (whole (field s (raw_from (head_n (drop 1 l)))), drop 4 l))

  unfoldable pub field_by : Item → List ℕ → Item × List ℕ
  field_by (two s) l = (whole (two_fields s), l)
  field_by (whole t) l = called (stem_by (whole t) l) λ s l1. end_of s l1
  field_by (point s) l = called (stem_by (point s) l) λ s l1. end_of s l1

  unfoldable pub field_of : List ℕ → Item × List ℕ
  field_of l = called (rd l) λ x l1. field_by x l1

  unfoldable pub args_of : ℕ → List ℕ → Args × List ℕ
  args_of zero l = (nothing, l)
  args_of (suc k) l =
      whether (ltb (head_n l) TOKEN)
      (λ _. called (tree_of l) λ t l1. whether (eqb (head_n l1) (taken COMMA)) (λ _. called (args_of k (drop 1 l1)) λ a l2. (more t a, l2)) (λ _. (last t, l1)))
      (λ _. (nothing, l))

  unfoldable pub list_of : List ℕ → Args × List ℕ
  list_of l = called (args_of f (drop 2 l)) λ a l1. (a, drop 2 l1)

  unfoldable pub ref_of : List ℕ → Item × List ℕ
  ref_of l =
      whether (eqb (head_n (drop 1 l)) (taken MUT_KW))
      (λ _. called (tree_of (drop 2 l)) λ t l1. (whole (borrowed_mut t), drop 1 l1))
      (λ _. called (tree_of (drop 1 l)) λ t l1. (whole (borrowed t), drop 1 l1))

  unfoldable pub bin_of : List ℕ → Item × List ℕ
  bin_of l = called (tree_of l) λ a l1. called (tree_of (drop 1 l1)) λ b l2. (whole (binary (kind_from (head_n l1)) a b), drop 1 l2)

  unfoldable pub cast_of : List ℕ → Item × List ℕ
  cast_of l = called (tree_of l) λ a l1. called (path_of (drop 2 l1)) λ n l2. (whole (cast a n), drop 2 l2)

  unfoldable pub range_of : List ℕ → Item × List ℕ
  range_of l =
      whether (ltb (head_n l) TOKEN)
      (λ _. called (tree_of l) λ a l1.
      whether (eqb (head_n (drop 1 l1)) LEAVE) (λ _. (whole (from (kind_from (head_n l1)) a), drop 2 l1)) (λ _. called (tree_of (drop 1 l1)) λ b l2. (whole (between (kind_from (head_n l1)) a b), drop 1 l2)))
      (λ _. whether (eqb (head_n (drop 1 l)) LEAVE) (λ _. (whole (bare (kind_from (head_n l))), drop 2 l)) (λ _. called (tree_of (drop 1 l)) λ b l1. (whole (up_to (kind_from (head_n l)) b), drop 1 l1)))

  unfoldable pub node_of : ℕ → List ℕ → Item × List ℕ
  node_of k l =
      whether (eqb k (enter LITERAL)) (λ _. (whole (literal (raw_from (head_n l))), drop 2 l)) λ _.
      whether (eqb k (enter PATH_EXPR)) (λ _. called (path_of l) λ n l1. (whole (name n), drop 1 l1)) λ _.
      whether (eqb k (enter PAREN_EXPR)) (λ _. called (tree_of (drop 1 l)) λ t l1. (whole (paren t), drop 2 l1)) λ _.
      whether (eqb k (enter PREFIX_EXPR)) (λ _. called (tree_of (drop 1 l)) λ t l1. (whole (prefix (kind_from (head_n l)) t), drop 1 l1)) λ _.
      whether (eqb k (enter REF_EXPR)) (λ _. ref_of l) λ _.
      whether (eqb k (enter BIN_EXPR)) (λ _. bin_of l) λ _.
      whether (eqb k (enter CAST_EXPR)) (λ _. cast_of l) λ _.
      whether (eqb k (enter RANGE_EXPR)) (λ _. range_of l) λ _.
      whether (eqb k (enter CALL_EXPR)) (λ _. called (tree_of l) λ t l1. called (list_of l1) λ a l2. (whole (call t a), drop 1 l2)) λ _.
      whether (eqb k (enter INDEX_EXPR)) (λ _. called (tree_of l) λ t l1. called (tree_of (drop 1 l1)) λ i l2. (whole (index t i), drop 2 l2)) λ _.
      whether (eqb k (enter TRY_EXPR)) (λ _. called (tree_of l) λ t l1. (whole (try t), drop 2 l1)) λ _.
      whether (eqb k (enter FIELD_EXPR)) (λ _. field_of l) λ _.
      whether (eqb k (enter METHOD_CALL_EXPR)) (λ _. called (stem_of l) λ s l1. called (list_of (drop 3 l1)) λ a l2. (whole (method s a), drop 1 l2)) λ _.
      called (stem_of l) λ s l1. (whole (await s), drop 2 l1)

unfoldable pub undo : ℕ → Back
undo zero l = (whole (literal 0), l)
undo (suc n) l = node_of n (undo n) (head_n l) (drop 1 l)
