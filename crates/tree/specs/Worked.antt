-- P3 to P6 of document 01 as trees that group as the table says, and P8 as a tree that does not: why ranges are excluded from the theorem. By computation.
use Rattle.std.specs.Prelude.{ℕ, ◌≡◌, refl, List, [], ◌∷◌, length}
use Rattle.std.proofs.Common.{arith}
use Rattle.base.specs.Base.{whether}
use Rattle.input.specs.SyntaxKind.{IDENT, INT_NUMBER, AS_KW, DOT, PLUS, MINUS, STAR, EQ, L_ANGLE, DOT2}
use Rattle.input.specs.Input.{width_of, parts_of, is_glued, row_of, row_parts, glued_table}
use Rattle.reader.specs.Worked.{read}
use Rattle.tree.specs.Tree.{Tree, literal, name, prefix, binary, cast, from, path, rest, leaves, path_steps, flat}
use Rattle.tree.specs.Table.{table, holds, has_operator, place_in, place, side_in, side}
use Rattle.tree.specs.Grouped.{rank, FitsLeft, Grouped}

abbrev num : Tree
num = literal INT_NUMBER

-- P3 `1 + 2 * 3`: product inside. P4 `1 = 2 = 3`: right nested. P5 `1 < 2 < 3`: left nested. P6 `-1 as T`: cast of the prefix
abbrev pub p3 : Tree
p3 = binary PLUS num (binary STAR num num)

abbrev pub p4 : Tree
p4 = binary EQ num (binary EQ num num)

abbrev pub p5 : Tree
p5 = binary L_ANGLE (binary L_ANGLE num num) num

abbrev pub p6 : Tree
p6 = cast (prefix MINUS num) 0

-- and the same tokens grouped the other way
abbrev pub p3' : Tree
p3' = binary STAR (binary PLUS num num) num

abbrev pub p4' : Tree
p4' = binary EQ (binary EQ num num) num

abbrev pub p5' : Tree
p5' = binary L_ANGLE num (binary L_ANGLE num num)

abbrev pub p6' : Tree
p6' = prefix MINUS (cast num 0)

-- P8 `x = 1.. + 2`: the sum of (x = 1..) and 2
abbrev pub assigned : Tree
assigned = binary EQ (name 0) (from DOT2 num)

abbrev pub p8 : Tree
p8 = binary PLUS assigned num

-- a list is read as the tree t, which groups as the table says, and the tree t' over the same leaves does not
pub record Instance (kinds joints : List ℕ) (t t' : Tree) : Type 0 where
  pub is_read : read kinds joints ≡ (length kinds, flat t)
  pub groups : Grouped t
  pub same_leaves : leaves t' ≡ leaves t
  pub other : Grouped t' → ⊥

pub record Worked : Type 0 where
  pub P3 : Instance (INT_NUMBER ∷ PLUS ∷ INT_NUMBER ∷ STAR ∷ INT_NUMBER ∷ []) (0 ∷ 0 ∷ 0 ∷ 0 ∷ 0 ∷ []) p3 p3'
  pub P4 : Instance (INT_NUMBER ∷ EQ ∷ INT_NUMBER ∷ EQ ∷ INT_NUMBER ∷ []) (0 ∷ 0 ∷ 0 ∷ 0 ∷ 0 ∷ []) p4 p4'
  pub P5 : Instance (INT_NUMBER ∷ L_ANGLE ∷ INT_NUMBER ∷ L_ANGLE ∷ INT_NUMBER ∷ []) (0 ∷ 0 ∷ 0 ∷ 0 ∷ 0 ∷ []) p5 p5'
  pub P6 : Instance (MINUS ∷ INT_NUMBER ∷ AS_KW ∷ IDENT ∷ []) (1 ∷ 0 ∷ 0 ∷ 0 ∷ []) p6 p6'
  -- read so, and against the table: an assignment is no operand of a sum
  pub P8_is_read : read (IDENT ∷ EQ ∷ INT_NUMBER ∷ DOT ∷ DOT ∷ PLUS ∷ INT_NUMBER ∷ []) (0 ∷ 0 ∷ 1 ∷ 1 ∷ 0 ∷ 0 ∷ 0 ∷ []) ≡ (7, flat p8)
  pub P8_against_the_table : FitsLeft PLUS assigned → ⊥
  pub P8_groups_otherwise : Grouped p8 → ⊥

pub worked : Worked
unfolding read flat path_steps leaves path rest width_of parts_of is_glued row_of row_parts glued_table whether rank Grouped table holds has_operator place_in place side_in side
worked =
    record {
      P3 = record { is_read = refl; groups = ((omega arith, λ q. omega arith), omega arith, omega arith, refl, ((omega arith, λ q. omega arith), omega arith, omega arith, refl, refl)); same_leaves = refl; other = λ g. omega (arith, g.1) };
      P4 = record { is_read = refl; groups = ((omega arith, λ q. omega arith), omega arith, omega arith, refl, ((omega arith, λ q. omega arith), omega arith, omega arith, refl, refl)); same_leaves = refl; other = λ g. omega (arith, g.1) };
      P5 = record { is_read = refl; groups = ((omega arith, λ q. omega arith), omega arith, omega arith, ((omega arith, λ q. omega arith), omega arith, omega arith, refl, refl), refl); same_leaves = refl; other = λ g. omega (arith, g.2) };
      P6 = record { is_read = refl; groups = (omega arith, (refl, omega arith, refl)); same_leaves = refl; other = λ g. omega (arith, g.1) };
      P8_is_read = refl;
      P8_against_the_table = λ f. omega (arith, f);
      P8_groups_otherwise = λ g. omega (arith, g.1);
    }
