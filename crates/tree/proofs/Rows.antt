-- Facts of the table of the Rust Reference that uniqueness needs: operators that group to the right stand in row 17 and the others above; so an operator that may take a tree as its left operand is too weak for that tree's right operand. Assumes nothing.
use mathlib.Core.Path.{◌≡◌, refl, subst, ap, ◌∙◌}
use mathlib.Core.List.{List, [], ◌∷◌}
use mathlib.Core.Bool.{Bool, true, false}
use Prim.Native.Nat.{ℕ, suc, ◌+◌, ◌-◌, ◌≤◌, ◌<◌}
use native.Mathlib.Omega.{arith}
use lib.Dec.{eqb, leb}
use borrow.Author.Tests.{eqb-true, leb-true, leb-false}
use Rattle.base.specs.Base.{whether}
use Rattle.input.specs.SyntaxKind.{AS_KW, L_PAREN, L_BRACK, DOT, QUESTION, COLON2}
use Rattle.tree.specs.Tree.{Tree, binary}
use Rattle.tree.specs.Table.{Associativity, unsaid, left_to_right, right_to_left, require_parentheses, Row, table, holds, has_operator, place_in, place, side_in, side}
use Rattle.tree.specs.Grouped.{rank, LeftFits, RightFits, FitsLeft, FitsRight, IsBinary}
use Rattle.tree.proofs.Operators.{floor, floor_at, floor_high, place_as}
use Rattle.tree.proofs.Again.{power, right_by, right_power}

-- a row by its number
abbrev pub Good : ℕ → Associativity → Type 0
Good i unsaid = Unit {0}
Good i left_to_right = i ≤ 16
Good i require_parentheses = i ≤ 16
Good i right_to_left = i ≡ 17

abbrev Goods : ℕ → List Row → Type 0
Goods i [] = Unit {0}
Goods i (r ∷ l) = Good i r.associativity × Goods (suc i) l

either : (i j : ℕ) (a s : Associativity) (b : Bool) → Good i a → Good (suc i + j) s → Good (i + whether b (λ _. 0) (λ _. suc j)) (whether b (λ _. a) (λ _. s))
unfolding whether
either i j a s true g h = subst (λ (k : ℕ). Good k a) (sum i) g
  where
    sum : (n : ℕ) → n ≡ n + 0
    sum n = omega arith
either i j a s false g h = subst (λ (k : ℕ). Good k s) (sum i j) h
  where
    sum : (n m : ℕ) → suc n + m ≡ n + suc m
    sum n m = omega arith

good_in : (op i : ℕ) (l : List Row) → Goods i l → Good (i + place_in op l) (side_in op l)
unfolding place_in side_in
good_in op i [] g = tt
good_in op i (r ∷ l) g = either i (place_in op l) r.associativity (side_in op l) (has_operator op r.entry) g.0 (good_in op (suc i) l g.1)

goods : Goods 0 table
unfolding table
goods = (tt, (tt, (omega arith, (tt, (tt, (tt, (omega arith, (omega arith, (omega arith, (omega arith, (omega arith, (omega arith, (omega arith, (omega arith, (omega arith, (omega arith, (omega arith, (refl, (tt, tt)))))))))))))))))))

good_row : (op : ℕ) → Good (place op) (side op)
unfolding place side
good_row op = subst (λ (k : ℕ). Good k (side_in op table)) (none (place_in op table)) (good_in op 0 table goods)
  where
    none : (n : ℕ) → 0 + n ≡ n
    none n = omega arith

-- an operator of the table, by its side: what it asks of its left operand, and what its right one is read at
module _ (op : ℕ) (C : Type 0) (l : Tree) where
  abbrev Rightward : Type 0
  Rightward = side op ≡ right_to_left → place op ≡ 17 → rank l < 17 → right_power op ≡ power op → C

  abbrev Leftward : Type 0
  Leftward = place op ≤ 16 → rank l ≤ place op → right_power op ≡ power op + 1 → C

  side_go : (s : Associativity) → side op ≡ s → Good (place op) s → LeftFits s (place op) (rank l) → Rightward → Leftward → C
  unfolding right_power right_by
  side_go unsaid q g f x y = absurd f
  side_go left_to_right q g f x y = y g f (ap (λ (s : Associativity). right_by s (power op)) q)
  side_go require_parentheses q g f x y = y g f (ap (λ (s : Associativity). right_by s (power op)) q)
  side_go right_to_left q g f x y = x q g (omega arith) (ap (λ (s : Associativity). right_by s (power op)) q)

  pub by_side : FitsLeft op l → Rightward → Leftward → C
  by_side f x y = side_go (side op) refl (good_row op) f x y

-- what a row is to a strength
pub floor_power : (b i : ℕ) → 6 ≤ i → i ≤ 17 → i ≤ floor b → b ≤ 18 - i
floor_power b i l h k = go (leb b 12) refl
  where
    go : (c : Bool) → leb b 12 ≡ c → b ≤ 18 - i
    go true q = omega (arith, floor_at b (leb-true b 12 q), leb-true b 12 q)
    go false q = absurd (omega (arith, floor_high b (leb-false b 12 q)))

pub power_as : power AS_KW ≡ 12
unfolding power
power_as = omega (arith, place_as)

-- its right operand is read at no less than it asks
module _ (op : ℕ) (r : Tree) (o : IsBinary op) where
  right_go : (s : Associativity) → side op ≡ s → Good (place op) s → RightFits s (place op) (rank r) → rank r ≤ floor (right_power op)
  unfolding right_power right_by power
  right_go unsaid q h g = absurd g
  right_go left_to_right q h g =
      let e : right_power op ≡ 18 - place op + 1 = ap (λ (s : Associativity). right_by s (power op)) q in
      omega (arith, o.0, place_as, ap floor e, floor_at (18 - place op + 1) (omega (arith, o.0, place_as)))
  right_go require_parentheses q h g =
      let e : right_power op ≡ 18 - place op + 1 = ap (λ (s : Associativity). right_by s (power op)) q in
      omega (arith, o.0, place_as, ap floor e, floor_at (18 - place op + 1) (omega (arith, o.0, place_as)))
  right_go right_to_left q h g =
      let e : right_power op ≡ 18 - place op = ap (λ (s : Associativity). right_by s (power op)) q in
      omega (arith, ap floor e, floor_at (18 - place op) (omega arith))

  pub right_rank : FitsRight op r → rank r ≤ floor (right_power op)
  right_rank g = right_go (side op) refl (good_row op) g

-- the numbers of a binary operator, whose left operand is l
pub record Numbers (op : ℕ) (l : Tree) : Type 0 where
  pub low : 7 ≤ place op
  pub high : place op ≤ 17
  pub of_left : rank l ≤ place op
  pub is_power : power op + place op ≡ 18
  pub right_least : power op ≤ right_power op
  pub right_most : right_power op ≤ 12

pub numbers : (op : ℕ) (l : Tree) → IsBinary op → FitsLeft op l → Numbers op l
unfolding power
numbers op l o f =
    by_side op (Numbers op l) l f
    (λ _ p k e. record { low = omega (arith, o.0, place_as); high = omega arith; of_left = omega arith; is_power = omega arith; right_least = omega arith; right_most = omega (arith, o.0, place_as) })
    (λ p k e. record { low = omega (arith, o.0, place_as); high = omega arith; of_left = omega arith; is_power = omega arith; right_least = omega arith; right_most = omega (arith, o.0, place_as) })

-- an operator that may take `l op2 r` as its left operand is too weak for r
pub next_weaker : (op op2 : ℕ) (l2 r2 : Tree) → 6 ≤ place op → FitsLeft op (binary op2 l2 r2) → FitsLeft op2 l2 → IsBinary op2 → power op < right_power op2
unfolding power rank
next_weaker op op2 l2 r2 h f f2 o2 =
    by_side op _ (binary op2 l2 r2) f
    (λ _ p k e. by_side op2 _ l2 f2 (λ _ p2 k2 e2. absurd (omega arith)) (λ p2 k2 e2. omega arith))
    (λ p k e. by_side op2 _ l2 f2 (λ _ p2 k2 e2. absurd (omega arith)) (λ p2 k2 e2. omega arith))

-- no operator of the table
pub not_kind : (op x : ℕ) (l : Tree) → FitsLeft op l → side x ≡ unsaid → eqb op x ≡ false
not_kind op x l f u = go (eqb op x) refl
  where
    go : (b : Bool) → eqb op x ≡ b → b ≡ false
    go true q = absurd (subst (λ (s : Associativity). LeftFits s (place op) (rank l)) (ap side (eqb-true op x q) ∙ u) f)
    go false q = refl

pub record Outside : Type 0 where
  pub paren : side L_PAREN ≡ unsaid
  pub brack : side L_BRACK ≡ unsaid
  pub question : side QUESTION ≡ unsaid
  pub dot : side DOT ≡ unsaid
  pub colons : side COLON2 ≡ unsaid

pub outside : Outside
unfolding side side_in table has_operator holds whether
outside = record { paren = refl; brack = refl; question = refl; dot = refl; colons = refl }

pub not_as : (op : ℕ) → IsBinary op → eqb op AS_KW ≡ false
not_as op o = go (eqb op AS_KW) refl
  where
    go : (b : Bool) → eqb op AS_KW ≡ b → b ≡ false
    go true q = absurd (let z : place op ≡ place AS_KW = ap place (eqb-true op AS_KW q) in omega (arith, o.0))
    go false q = refl
