-- Hand-worked step lists: each fault alone, each two that can meet at one index, splits, operands too loose, chains; and what is accepted although no reading gives it. By computation.
use Rattle.std.specs.Prelude.{ℕ, ◌+◌, ◌*◌, ◌≡◌, refl, List, [], ◌∷◌, ◌++◌, map}
use Rattle.base.specs.Base.{pick, whether, bound}
use Rattle.input.specs.SyntaxKind.{IDENT, INT_NUMBER, FLOAT_NUMBER, AS_KW, DOT, MINUS, PLUS, STAR, EQ, L_ANGLE, R_ANGLE, L_BRACK, R_BRACK, DOT2, ENTER, TOKEN, LEAVE, FLOAT_SPLIT, FAULT, WIDTH_STEP, ENDS_IN_DOT, ERROR, LITERAL, PREFIX_EXPR, BIN_EXPR, RANGE_EXPR, INDEX_EXPR, FIELD_EXPR, CAST_EXPR, PATH_TYPE, EXPECTED_EXPRESSION}
use Rattle.input.specs.Input.{Tokens, lent, stands, stands_joint, glued_table, row_of, is_glued, row_parts, parts_of, width_of, follow, present, is_raw, is_kind, is_node, is_code}
use Rattle.operators.specs.Strength.{strength_of}
use Rattle.opinion.specs.Step.{entered_of, taken_of, left_of, failed_of, step_of, is_step, is_enter, is_error, node_in, kind_in, leaves_of, width_in, takes}
use Rattle.opinion.specs.Faults as faulty
use Rattle.opinion.specs.Faults.{is_none, opens, open_at, pos_at, left_in, ends_of, gets_of, children_of, of_node, children_by, children_at, closed_at, is_root, root_before, float_at, matches, binary_strength, operator_in, fits_last, three_of, shape_of, shape_at, strength_by, strength_at, left_bound, right_bound, loose_left, loose_right, loose_in, is_judged, no_step, leave_without_enter, not_one_root, outside, left_open, mismatch, left_over, error_step, misshapen, loose, faults, first_in, fault_at, fault, no_fault, first_of, first_fault}
use Rattle.opinion.specs.declared.Fault.{Fault}

abbrev enter : ℕ → ℕ
enter node = ENTER + node

abbrev took : ℕ → ℕ
took kind = TOKEN + WIDTH_STEP + kind

abbrev took2 : ℕ → ℕ
took2 kind = TOKEN + WIDTH_STEP * 2 + kind

abbrev node : ℕ → List ℕ → List ℕ
node n inside = enter n ∷ (inside ++ (LEAVE ∷ []))

abbrev num : List ℕ
num = node LITERAL (took INT_NUMBER ∷ [])

abbrev binary : List ℕ → ℕ → List ℕ → List ℕ
binary l op r = node BIN_EXPR (l ++ (took op ∷ r))

abbrev cast : List ℕ → List ℕ
cast l = node CAST_EXPR (l ++ (took AS_KW ∷ node PATH_TYPE (took IDENT ∷ [])))

abbrev dot_split : ℕ
dot_split = FLOAT_SPLIT + ENDS_IN_DOT

abbrev failed : ℕ
failed = FAULT + EXPECTED_EXPRESSION

-- tokens with no two joint
abbrev apart : List ℕ → Tokens
apart kinds = lent kinds (map (λ _. 0) kinds)

abbrev one : Tokens
one = apart (INT_NUMBER ∷ [])

abbrev ones : Tokens
ones = apart (INT_NUMBER ∷ INT_NUMBER ∷ [])

-- `1 x 1 y 1`
abbrev between : ℕ → ℕ → Tokens
between x y = apart (INT_NUMBER ∷ x ∷ INT_NUMBER ∷ y ∷ INT_NUMBER ∷ [])

unfoldable pub opinion : Tokens → List ℕ → Fault
unfolding
    pick whether bound stands stands_joint glued_table row_of is_glued row_parts parts_of width_of follow present is_raw is_kind is_node is_code strength_of entered_of taken_of left_of failed_of step_of is_step is_enter is_error node_in kind_in leaves_of width_in takes is_none opens open_at pos_at left_in ends_of gets_of faulty.parts_of children_of of_node children_by children_at closed_at is_root root_before float_at matches binary_strength operator_in fits_last three_of shape_of shape_at strength_by strength_at left_bound right_bound loose_left loose_right loose_in is_judged no_step leave_without_enter not_one_root outside left_open mismatch left_over error_step misshapen loose faults first_in fault_at first_of first_fault
opinion ts steps = first_fault ts steps

pub record Worked : Type 0 where
  pub fine : opinion one num ≡ no_fault
  -- each alone
  pub no_step_lem : opinion one (7 ∷ num) ≡ fault 1 0
  pub no_width : opinion (apart (IDENT ∷ [])) (node LITERAL (took2 IDENT ∷ [])) ≡ fault 1 1
  pub leave_too_many : opinion one (num ++ (LEAVE ∷ [])) ≡ fault 2 3
  pub no_root : opinion (apart []) [] ≡ fault 3 0
  pub two_roots : opinion ones (num ++ num) ≡ fault 3 3
  pub token_outside : opinion ones (num ++ (took INT_NUMBER ∷ [])) ≡ fault 4 3
  pub left_open_lem : opinion (apart []) (enter LITERAL ∷ []) ≡ fault 5 1
  pub other_token : opinion (apart (IDENT ∷ [])) num ≡ fault 6 1
  pub left_over_lem : opinion ones num ≡ fault 7 3
  pub error_step_lem : opinion (apart []) (node ERROR (failed ∷ [])) ≡ fault 8 1
  pub two_literals : opinion ones (node BIN_EXPR (num ++ num)) ≡ fault 9 0
  pub cast_to_number : opinion (apart (INT_NUMBER ∷ AS_KW ∷ INT_NUMBER ∷ [])) (node CAST_EXPR (num ++ (took AS_KW ∷ num))) ≡ fault 9 0
  pub sum_in_product : opinion (between PLUS STAR) (binary (binary num PLUS num) STAR num) ≡ fault 10 0
  -- two at one index: the split of nothing; one node left twice over a number; a token outside that is another; a second root
  pub leave_and_outside : opinion (lent (FLOAT_NUMBER ∷ []) (1 ∷ [])) (FLOAT_SPLIT ∷ []) ≡ fault 2 0
  pub leave_and_other : opinion one (enter FIELD_EXPR ∷ FLOAT_SPLIT ∷ []) ≡ fault 2 1
  pub outside_and_other : opinion (apart (IDENT ∷ [])) (took INT_NUMBER ∷ []) ≡ fault 4 0
  pub root_and_shape : opinion ones (num ++ node BIN_EXPR num) ≡ fault 3 3
  pub root_and_loose : opinion (apart (INT_NUMBER ∷ INT_NUMBER ∷ PLUS ∷ INT_NUMBER ∷ STAR ∷ INT_NUMBER ∷ [])) (num ++ binary (binary num PLUS num) STAR num) ≡ fault 3 3
  -- at the step count
  pub root_and_left_over : opinion one [] ≡ fault 3 0
  pub open_and_left_over : opinion one (enter LITERAL ∷ []) ≡ fault 5 1
  -- what is known later stands first: the shape at the enter, before an error step and a token that is another
  pub known_later : opinion (apart (IDENT ∷ [])) (node BIN_EXPR (failed ∷ num)) ≡ fault 9 0
  -- an enter left open is not judged
  pub not_closed : opinion ones (enter BIN_EXPR ∷ (num ++ num)) ≡ fault 5 7
  -- "an error step beside the operator: error step, at that step"
  pub error_beside : opinion (apart (INT_NUMBER ∷ PLUS ∷ INT_NUMBER ∷ [])) (node BIN_EXPR (num ++ (failed ∷ took PLUS ∷ num))) ≡ fault 8 4
  -- splits: of one leave and of two, with the joint byte that agrees and with the other; one that leaves a BIN_EXPR belongs to it
  pub split_of_one : opinion (lent (INT_NUMBER ∷ DOT ∷ FLOAT_NUMBER ∷ []) (1 ∷ 1 ∷ 0 ∷ [])) (enter FIELD_EXPR ∷ (num ++ (took DOT ∷ dot_split ∷ []))) ≡ no_fault
  pub split_of_two : opinion (lent (INT_NUMBER ∷ DOT ∷ FLOAT_NUMBER ∷ []) (1 ∷ 1 ∷ 1 ∷ [])) (enter FIELD_EXPR ∷ enter FIELD_EXPR ∷ (num ++ (took DOT ∷ FLOAT_SPLIT ∷ []))) ≡ no_fault
  pub split_other_joint : opinion (lent (INT_NUMBER ∷ DOT ∷ FLOAT_NUMBER ∷ []) (1 ∷ 1 ∷ 0 ∷ [])) (enter FIELD_EXPR ∷ enter FIELD_EXPR ∷ (num ++ (took DOT ∷ FLOAT_SPLIT ∷ []))) ≡ fault 6 6
  pub split_leaves_binary : opinion (lent (INT_NUMBER ∷ PLUS ∷ FLOAT_NUMBER ∷ []) (0 ∷ 0 ∷ 0 ∷ [])) (enter BIN_EXPR ∷ (num ++ (took PLUS ∷ dot_split ∷ []))) ≡ fault 9 0
  pub split_leaves_outer_binary : opinion (lent (INT_NUMBER ∷ PLUS ∷ FLOAT_NUMBER ∷ []) (0 ∷ 0 ∷ 1 ∷ [])) (enter BIN_EXPR ∷ (num ++ (took PLUS ∷ enter FIELD_EXPR ∷ FLOAT_SPLIT ∷ []))) ≡ fault 9 0
  -- too loose to the left, to the right, at strength 1, under a cast, a range; chains
  pub loose_right_lem : opinion (between STAR PLUS) (binary num STAR (binary num PLUS num)) ≡ fault 10 0
  pub same_right : opinion (between PLUS PLUS) (binary num PLUS (binary num PLUS num)) ≡ fault 10 0
  pub same_left : opinion (between PLUS PLUS) (binary (binary num PLUS num) PLUS num) ≡ no_fault
  pub assigned_left : opinion (between EQ EQ) (binary (binary num EQ num) EQ num) ≡ fault 10 0
  pub assigned_right : opinion (between EQ EQ) (binary num EQ (binary num EQ num)) ≡ no_fault
  pub cast_of_sum : opinion (apart (INT_NUMBER ∷ PLUS ∷ INT_NUMBER ∷ AS_KW ∷ IDENT ∷ [])) (cast (binary num PLUS num)) ≡ fault 10 0
  pub cast_of_cast : opinion (apart (INT_NUMBER ∷ AS_KW ∷ IDENT ∷ AS_KW ∷ IDENT ∷ [])) (cast (cast num)) ≡ no_fault
  pub range_in_sum : opinion (lent (INT_NUMBER ∷ DOT ∷ DOT ∷ PLUS ∷ INT_NUMBER ∷ []) (0 ∷ 1 ∷ 0 ∷ 0 ∷ 0 ∷ [])) (binary (node RANGE_EXPR (num ++ (took2 DOT2 ∷ []))) PLUS num) ≡ fault 10 0
  pub range_assigned : opinion (lent (INT_NUMBER ∷ EQ ∷ INT_NUMBER ∷ DOT ∷ DOT ∷ []) (0 ∷ 0 ∷ 0 ∷ 1 ∷ 0 ∷ [])) (binary num EQ (node RANGE_EXPR (num ++ (took2 DOT2 ∷ [])))) ≡ no_fault
  pub range_as_operator : opinion (lent (INT_NUMBER ∷ DOT ∷ DOT ∷ INT_NUMBER ∷ []) (0 ∷ 1 ∷ 0 ∷ 0 ∷ [])) (node BIN_EXPR (num ++ (took2 DOT2 ∷ num))) ≡ fault 9 0
  pub chain : opinion (between L_ANGLE R_ANGLE) (binary (binary num L_ANGLE num) R_ANGLE num) ≡ fault 10 0
  -- "a BIN_EXPR operand that lacks the shape has no strength: its own fault is named"
  pub shapeless_operand : opinion (apart (INT_NUMBER ∷ STAR ∷ INT_NUMBER ∷ INT_NUMBER ∷ [])) (binary num STAR (node BIN_EXPR (num ++ num))) ≡ fault 9 5
  -- what acceptance does not say: a flat ERROR node over all tokens, a prefix over `1 as T`, an index over a sum
  pub flat_error : opinion (apart (INT_NUMBER ∷ PLUS ∷ [])) (node ERROR (took INT_NUMBER ∷ took PLUS ∷ [])) ≡ no_fault
  pub prefix_over_cast : opinion (apart (MINUS ∷ INT_NUMBER ∷ AS_KW ∷ IDENT ∷ [])) (node PREFIX_EXPR (took MINUS ∷ cast num)) ≡ no_fault
  pub index_over_sum : opinion (apart (INT_NUMBER ∷ PLUS ∷ INT_NUMBER ∷ L_BRACK ∷ INT_NUMBER ∷ R_BRACK ∷ [])) (node INDEX_EXPR (binary num PLUS num ++ (took L_BRACK ∷ (num ++ (took R_BRACK ∷ []))))) ≡ no_fault

pub worked : Worked
unfolding opinion
worked = record { fine = refl; no_step_lem = refl; no_width = refl; leave_too_many = refl; no_root = refl; two_roots = refl; token_outside = refl; left_open_lem = refl; other_token = refl; left_over_lem = refl; error_step_lem = refl; two_literals = refl; cast_to_number = refl; sum_in_product = refl; leave_and_outside = refl; leave_and_other = refl; outside_and_other = refl; root_and_shape = refl; root_and_loose = refl; root_and_left_over = refl; open_and_left_over = refl; known_later = refl; not_closed = refl; error_beside = refl; split_of_one = refl; split_of_two = refl; split_other_joint = refl; split_leaves_binary = refl; split_leaves_outer_binary = refl; loose_right_lem = refl; same_right = refl; same_left = refl; assigned_left = refl; assigned_right = refl; cast_of_sum = refl; cast_of_cast = refl; range_in_sum = refl; range_assigned = refl; range_as_operator = refl; chain = refl; shapeless_operand = refl; flat_error = refl; prefix_over_cast = refl; index_over_sum = refl }
