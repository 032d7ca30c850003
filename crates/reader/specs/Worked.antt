-- P1 to P12 of document 01, of the written rules: consumed, and the whole step list.
use Rattle.std.specs.Prelude.{ℕ, ◌+◌, ◌*◌, ◌≡◌, refl, List, [], ◌∷◌, ◌++◌, length, replicate, take}
use Rattle.base.specs.Base.{whether, called, bound, on_next, loops}
use Rattle.input.specs.SyntaxKind.{IDENT, INT_NUMBER, FLOAT_NUMBER, AS_KW, L_BRACK, DOT, AMP, PLUS, MINUS, STAR, BANG, EQ, L_ANGLE, DOT2, ERROR, LITERAL, PATH_EXPR, PATH, PATH_SEGMENT, NAME_REF, REF_EXPR, PREFIX_EXPR, BIN_EXPR, RANGE_EXPR, INDEX_EXPR, FIELD_EXPR, CAST_EXPR, PATH_TYPE, ENTER, TOKEN, LEAVE, FLOAT_SPLIT, FAULT, WIDTH_STEP, ENDS_IN_DOT, EXPECTED_EXPRESSION, EXPECTED_R_BRACK}
use Rattle.input.specs.Input.{lent, token_limit, depth_limit, width_limit, stands, glued_table, row_of, is_glued, row_parts, parts_of, width_of, follow, present, is_raw, is_joint, is_kind, is_node, is_code, first_off, lengths_of, bytes_of, on_checked, tokens_of}
use Rattle.event.specs.Event.{status_of, view, decodes, is_live, is_named, event_limit, capacity_of, in_range}
use Rattle.parser.specs.Calls.{room_for, is_open, is_closed, start_of, complete_of, is_last, abandon_of, precede_of, extend_of, eat_of, bump_any_of, error_of, split_dot_of, split_two_of, split_of}
use Rattle.parser.specs.Prog.{then, turns, on_opened, on_closed, on_moved, on_taken, on_parted, run}
use Rattle.process.specs.Process.{forward_of, lands_at, paired_at, sound_at, sound_turn, sound_events, sound_of, has_name, steps_at, count_turn, count_of, chain_turn, chain_of, visited, enter_turn, enter_of, step_of, process_turn, write_of, process_of}
use Rattle.operators.specs.TokenSet.{is_first, is_closing, ends_arguments, is_prefix, is_field_name, outside_atom, outside_type}
use Rattle.operators.specs.Strength.{or_op, pipe_op, r_angle_op, l_angle_op, amp_op, eq_op, dot_op, bang_op, arith_op, op_of, current_op, on_side, right_of, is_range, operand_follows}
use Rattle.atoms.specs.Atom.{bump, begin, lead, expect, closing, leaf, begin_error, err_and_bump, err_recover, segment, first_path, qualified, turning, path_turn, path_rest, path, no_macro, plain_path, path_node, after_type, path_type, cast_type, cast_expr}
use Rattle.grammar.specs.Expressions.{yields, given, given_up, extend_to, lone_dot, anyway, lone_comma, no_comma, after_argument, argument, arguments, arg_list, call_expr, index_expr, try_expr, dotted, await_expr, no_generics, method_name, method_head, onward, float_field, named_field, no_field, field, field_expr, plain_atom, begin_ref, paren_tail, is_method, is_dots, name_at, method_call_expr, postfix_dot_expr, postfix_turn, postfix_expr, paren_body, paren_expr, atom_expr, atom_postfix, ref_expr, prefix_expr, leading_range, range_or_atom, lhs, bin_expr, range_expr, operator_turn, operators, extended, expression, no_expression, expr_bp}
use Rattle.reader.specs.Reader.{cleared, refusing, on_processed, on_read, top_of, parse_of, consumed_of, steps_of}

-- what a list gives with room of 16n + 16: consumed, and the steps
unfoldable pub read : List ℕ → List ℕ → ℕ × List ℕ
unfolding whether called bound on_next loops token_limit depth_limit width_limit stands glued_table row_of is_glued row_parts parts_of width_of follow present is_raw is_joint is_kind is_node is_code first_off lengths_of bytes_of on_checked tokens_of status_of view decodes is_live is_named event_limit capacity_of in_range room_for is_open is_closed start_of complete_of is_last abandon_of precede_of extend_of eat_of bump_any_of error_of split_dot_of split_two_of split_of then turns on_opened on_closed on_moved on_taken on_parted run forward_of lands_at paired_at sound_at sound_turn sound_events sound_of has_name steps_at count_turn count_of chain_turn chain_of visited enter_turn enter_of step_of process_turn write_of process_of or_op pipe_op r_angle_op l_angle_op amp_op eq_op dot_op bang_op arith_op op_of current_op on_side right_of is_range operand_follows is_first is_closing ends_arguments is_prefix is_field_name outside_atom outside_type bump begin lead expect closing leaf begin_error err_and_bump err_recover segment first_path qualified turning path_turn path_rest path no_macro plain_path path_node after_type path_type cast_type cast_expr yields given given_up extend_to lone_dot anyway lone_comma no_comma after_argument argument arguments arg_list call_expr index_expr try_expr dotted await_expr no_generics method_name method_head onward float_field named_field no_field field field_expr plain_atom begin_ref paren_tail is_method is_dots name_at method_call_expr postfix_dot_expr postfix_turn postfix_expr paren_body paren_expr atom_expr atom_postfix ref_expr prefix_expr leading_range range_or_atom lhs bin_expr range_expr operator_turn operators extended expression no_expression expr_bp cleared refusing on_processed on_read top_of parse_of
read ks js =
    let room : ℕ = 16 * length ks + 16 in
    let r : _ = parse_of (lent ks js) (replicate room 7) (replicate room 7) in
    (consumed_of r.0, take (steps_of r.0) r.2)

abbrev enter : ℕ → ℕ
enter node = ENTER + node

abbrev tok : ℕ → ℕ
tok kind = TOKEN + WIDTH_STEP * 1 + kind

abbrev glued : ℕ → ℕ
glued kind = TOKEN + WIDTH_STEP * 2 + kind

abbrev leave : ℕ
leave = LEAVE

abbrev fault : ℕ → ℕ
fault code = FAULT + code

-- a literal, and a name as a path
abbrev literal : ℕ → List ℕ
literal kind = enter LITERAL ∷ tok kind ∷ leave ∷ []

abbrev name : ℕ → List ℕ
name node = enter node ∷ enter PATH ∷ enter PATH_SEGMENT ∷ enter NAME_REF ∷ tok IDENT ∷ leave ∷ leave ∷ leave ∷ leave ∷ []

pub record Worked : Type 0 where
  -- P1 empty
  pub P1 : read [] [] ≡ (0, enter ERROR ∷ fault EXPECTED_EXPRESSION ∷ leave ∷ [])
  -- P2 `!1`
  pub P2 : read (BANG ∷ INT_NUMBER ∷ []) (1 ∷ 0 ∷ []) ≡ (2, enter PREFIX_EXPR ∷ tok BANG ∷ literal INT_NUMBER ++ (leave ∷ []))
  -- P3 `1 + 2 * 3`: product inside
  pub P3 :
      read (INT_NUMBER ∷ PLUS ∷ INT_NUMBER ∷ STAR ∷ INT_NUMBER ∷ []) (0 ∷ 0 ∷ 0 ∷ 0 ∷ 0 ∷ [])
      ≡ (5, enter BIN_EXPR ∷ literal INT_NUMBER ++ (tok PLUS ∷ enter BIN_EXPR ∷ literal INT_NUMBER ++ (tok STAR ∷ literal INT_NUMBER ++ (leave ∷ leave ∷ []))))
  -- P4 `1 = 2 = 3`: right nested
  pub P4 :
      read (INT_NUMBER ∷ EQ ∷ INT_NUMBER ∷ EQ ∷ INT_NUMBER ∷ []) (0 ∷ 0 ∷ 0 ∷ 0 ∷ 0 ∷ [])
      ≡ (5, enter BIN_EXPR ∷ literal INT_NUMBER ++ (tok EQ ∷ enter BIN_EXPR ∷ literal INT_NUMBER ++ (tok EQ ∷ literal INT_NUMBER ++ (leave ∷ leave ∷ []))))
  -- P5 `1 < 2 < 3`: left nested
  pub P5 :
      read (INT_NUMBER ∷ L_ANGLE ∷ INT_NUMBER ∷ L_ANGLE ∷ INT_NUMBER ∷ []) (0 ∷ 0 ∷ 0 ∷ 0 ∷ 0 ∷ [])
      ≡ (5, enter BIN_EXPR ∷ enter BIN_EXPR ∷ literal INT_NUMBER ++ (tok L_ANGLE ∷ literal INT_NUMBER ++ (leave ∷ tok L_ANGLE ∷ literal INT_NUMBER ++ (leave ∷ []))))
  -- P6 `-1 as T`: cast of the prefix
  pub P6 :
      read (MINUS ∷ INT_NUMBER ∷ AS_KW ∷ IDENT ∷ []) (1 ∷ 0 ∷ 0 ∷ 0 ∷ [])
      ≡ (4, enter CAST_EXPR ∷ enter PREFIX_EXPR ∷ tok MINUS ∷ literal INT_NUMBER ++ (leave ∷ tok AS_KW ∷ name PATH_TYPE ++ (leave ∷ [])))
  -- P7 `1.. + 2`: consumed 3
  pub P7 :
      read (INT_NUMBER ∷ DOT ∷ DOT ∷ PLUS ∷ INT_NUMBER ∷ []) (1 ∷ 1 ∷ 0 ∷ 0 ∷ 0 ∷ [])
      ≡ (3, enter RANGE_EXPR ∷ literal INT_NUMBER ++ (glued DOT2 ∷ leave ∷ []))
  -- P8 `x = 1.. + 2`: the sum of (x = 1..) and 2
  pub P8 :
      read (IDENT ∷ EQ ∷ INT_NUMBER ∷ DOT ∷ DOT ∷ PLUS ∷ INT_NUMBER ∷ []) (0 ∷ 0 ∷ 1 ∷ 1 ∷ 0 ∷ 0 ∷ 0 ∷ [])
      ≡ (7, enter BIN_EXPR ∷ enter BIN_EXPR ∷ name PATH_EXPR ++ (tok EQ ∷ enter RANGE_EXPR ∷ literal INT_NUMBER ++ (glued DOT2 ∷ leave ∷ leave ∷ tok PLUS ∷ literal INT_NUMBER ++ (leave ∷ []))))
  -- P9 `a.0.1`: enter FIELD twice, 9 path steps, dot, split 0
  pub P9 :
      read (IDENT ∷ DOT ∷ FLOAT_NUMBER ∷ []) (1 ∷ 1 ∷ 1 ∷ [])
      ≡ (3, enter FIELD_EXPR ∷ enter FIELD_EXPR ∷ name PATH_EXPR ++ (tok DOT ∷ FLOAT_SPLIT ∷ []))
  -- P10 `a.0. b`
  pub P10 :
      read (IDENT ∷ DOT ∷ FLOAT_NUMBER ∷ IDENT ∷ []) (1 ∷ 1 ∷ 0 ∷ 0 ∷ [])
      ≡ (4, enter FIELD_EXPR ∷ enter FIELD_EXPR ∷ name PATH_EXPR ++ (tok DOT ∷ (FLOAT_SPLIT + ENDS_IN_DOT) ∷ enter NAME_REF ∷ tok IDENT ∷ leave ∷ leave ∷ []))
  -- P11 `a[`: errors 1 then 6
  pub P11 :
      read (IDENT ∷ L_BRACK ∷ []) (1 ∷ 0 ∷ [])
      ≡ (2, enter INDEX_EXPR ∷ name PATH_EXPR ++ (tok L_BRACK ∷ enter ERROR ∷ fault EXPECTED_EXPRESSION ∷ leave ∷ fault EXPECTED_R_BRACK ∷ leave ∷ []))
  -- P12 `&&x`: two REF_EXPR
  pub P12 :
      read (AMP ∷ AMP ∷ IDENT ∷ []) (1 ∷ 1 ∷ 0 ∷ [])
      ≡ (3, enter REF_EXPR ∷ tok AMP ∷ enter REF_EXPR ∷ tok AMP ∷ name PATH_EXPR ++ (leave ∷ leave ∷ []))

pub worked : Worked
unfolding read
worked = record { P1 = refl; P2 = refl; P3 = refl; P4 = refl; P5 = refl; P6 = refl; P7 = refl; P8 = refl; P9 = refl; P10 = refl; P11 = refl; P12 = refl }
