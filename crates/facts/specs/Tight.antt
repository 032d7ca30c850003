-- How near the room of `Facts` is to what is needed: two lists, each with its room and with one event or step less. `f(a a a ..`, n tokens, takes 11n - 7 events and 10n - 6 steps.
use Rattle.std.specs.Prelude.{Result, Ok, Err, ℕ, ◌+◌, ◌*◌, ◌≡◌, refl, List, [], ◌∷◌, length, replicate}
use Rattle.base.specs.Base.{whether, called, bound, on_next, loops}
use Rattle.input.specs.SyntaxKind.{IDENT, INT_NUMBER, AS_KW, L_PAREN, R_PAREN, COLON, DOT, BANG, EVENTS_FULL, STEPS_FULL, OUTSIDE_CUT}
use Rattle.input.specs.Input.{lent, refusal, token_limit, depth_limit, width_limit, stands, glued_table, row_of, is_glued, row_parts, parts_of, width_of, follow, present, is_raw, is_joint, is_kind, is_node, is_code, first_off, lengths_of, bytes_of, on_checked, tokens_of}
use Rattle.input.specs.declared.Refusal.{Refusal}
use Rattle.event.specs.Event.{status_of, view, decodes, is_live, is_named, event_limit, capacity_of, in_range}
use Rattle.parser.specs.Calls.{room_for, is_open, is_closed, start_of, complete_of, is_last, abandon_of, precede_of, extend_of, eat_of, bump_any_of, error_of, split_dot_of, split_two_of, split_of}
use Rattle.parser.specs.Prog.{then, turns, on_opened, on_closed, on_moved, on_taken, on_parted, run}
use Rattle.process.specs.Process.{forward_of, lands_at, paired_at, sound_at, sound_turn, sound_events, sound_of, has_name, steps_at, count_turn, count_of, chain_turn, chain_of, visited, enter_turn, enter_of, step_of, process_turn, write_of, process_of}
use Rattle.operators.specs.TokenSet.{is_first, is_closing, ends_arguments, is_prefix, is_field_name, outside_atom, outside_type}
use Rattle.operators.specs.Strength.{or_op, pipe_op, r_angle_op, l_angle_op, amp_op, eq_op, dot_op, bang_op, arith_op, op_of, current_op, on_side, right_of, is_range, operand_follows}
use Rattle.atoms.specs.Atom.{bump, begin, lead, expect, closing, leaf, begin_error, err_and_bump, err_recover, segment, first_path, qualified, turning, path_turn, path_rest, path, no_macro, plain_path, path_node, after_type, path_type, cast_type, cast_expr}
use Rattle.grammar.specs.Expressions.{yields, given, given_up, lone_dot, anyway, lone_comma, no_comma, after_argument, argument, arguments, arg_list, call_expr, index_expr, try_expr, dotted, await_expr, no_generics, method_name, method_head, onward, float_field, named_field, no_field, field, field_expr, begin_ref, paren_tail, is_method, is_dots, name_at, method_call_expr, postfix_dot_expr, postfix_turn, postfix_expr, paren_body, paren_expr, atom_expr, atom_postfix, ref_expr, prefix_expr, leading_range, range_or_atom, lhs, bin_expr, range_expr, operator_turn, operators, extended, expression, no_expression, expr_bp, plain_atom, extend_to}
use Rattle.reader.specs.Reader.{cleared, refusing, on_processed, on_read, top_of, parse_of}
use Rattle.reader.specs.declared.Parsed.{Parsed}

-- the refusal of a list with so many entries for events and for steps, and 0 at 0 where there is none
abbrev refusal_in : Result Parsed Refusal → Refusal
refusal_in (Ok got) = refusal 0 0
refusal_in (Err r) = r

unfoldable pub refusal_by : List ℕ → List ℕ → ℕ → ℕ → Refusal
unfolding whether called bound on_next loops token_limit depth_limit width_limit stands glued_table row_of is_glued row_parts parts_of width_of follow present is_raw is_joint is_kind is_node is_code first_off lengths_of bytes_of on_checked tokens_of status_of view decodes is_live is_named event_limit capacity_of in_range room_for is_open is_closed start_of complete_of is_last abandon_of precede_of extend_of eat_of bump_any_of error_of split_dot_of split_two_of split_of then turns on_opened on_closed on_moved on_taken on_parted run forward_of lands_at paired_at sound_at sound_turn sound_events sound_of has_name steps_at count_turn count_of chain_turn chain_of visited enter_turn enter_of step_of process_turn write_of process_of or_op pipe_op r_angle_op l_angle_op amp_op eq_op dot_op bang_op arith_op op_of current_op on_side right_of is_range operand_follows is_first is_closing ends_arguments is_prefix is_field_name outside_atom outside_type bump begin lead expect closing leaf begin_error err_and_bump err_recover segment first_path qualified turning path_turn path_rest path no_macro plain_path path_node after_type path_type cast_type cast_expr yields given given_up lone_dot anyway lone_comma no_comma after_argument argument arguments arg_list call_expr index_expr try_expr dotted await_expr no_generics method_name method_head onward float_field named_field no_field field field_expr begin_ref paren_tail is_method is_dots name_at method_call_expr postfix_dot_expr postfix_turn postfix_expr paren_body paren_expr atom_expr atom_postfix ref_expr prefix_expr leading_range range_or_atom lhs bin_expr range_expr operator_turn operators extended expression no_expression expr_bp cleared refusing on_processed on_read top_of parse_of plain_atom extend_to
refusal_by ks js events steps = refusal_in (parse_of (lent ks js) (replicate events 0) (replicate steps 0)).0

-- the number that a list without joints is refused by, and 0 where it is not
unfoldable pub refused_by : List ℕ → ℕ → ℕ → ℕ
refused_by ks events steps = (refusal_by ks (replicate (length ks) 0) events steps).number

-- nothing takes four events and three steps: with n = 0 there is no other constant than 4
pub four_events_for_nothing : (refused_by [] 4 3 ≡ 0) × (refused_by [] 3 3 ≡ EVENTS_FULL) × (refused_by [] 4 2 ≡ STEPS_FULL)
unfolding refused_by refusal_by
four_events_for_nothing = (refl, refl, refl)

-- `f(a a a ..` with 24 tokens
abbrev names : List ℕ
names = IDENT ∷ L_PAREN ∷ replicate 22 IDENT

pub ten_a_token_are_too_few : (refused_by names 257 234 ≡ 0) × (refused_by names (10 * 24 + 16) 400 ≡ EVENTS_FULL) × (refused_by names 400 233 ≡ STEPS_FULL)
unfolding refused_by refusal_by
ten_a_token_are_too_few = (refl, refl, refl)

-- "then 4, 6, 7 as the work meets them": where 7 is met, by the entries that what stands before the named token takes
pub record SevenAgainstFour : Type 0 where
  -- "`)` right after a parenthesis in atom place": after the reading's start, PAREN_EXPR's start and `(`
  pub empty_parenthesis : refusal_by (L_PAREN ∷ R_PAREN ∷ []) (0 ∷ 0 ∷ []) 3 100 ≡ refusal OUTSIDE_CUT 1
  pub before_the_parenthesis : refusal_by (L_PAREN ∷ R_PAREN ∷ []) (0 ∷ 0 ∷ []) 2 100 ≡ refusal EVENTS_FULL 0
  -- "`::` .. after a method name", `a.b::c`: after the finish of the name's NAME_REF
  pub generic_method : refusal_by (IDENT ∷ DOT ∷ IDENT ∷ COLON ∷ COLON ∷ IDENT ∷ []) (0 ∷ 0 ∷ 0 ∷ 1 ∷ 0 ∷ 0 ∷ []) 15 100 ≡ refusal OUTSIDE_CUT 3
  pub before_its_name_ends : refusal_by (IDENT ∷ DOT ∷ IDENT ∷ COLON ∷ COLON ∷ IDENT ∷ []) (0 ∷ 0 ∷ 0 ∷ 1 ∷ 0 ∷ 0 ∷ []) 14 100 ≡ refusal EVENTS_FULL 3
  -- "after a cast type, `(` or a `<`", `1 as T(`: after PATH_TYPE's finish
  pub after_a_type : refusal_by (INT_NUMBER ∷ AS_KW ∷ IDENT ∷ L_PAREN ∷ []) (0 ∷ 0 ∷ 0 ∷ 0 ∷ []) 15 100 ≡ refusal OUTSIDE_CUT 3
  pub before_the_type_ends : refusal_by (INT_NUMBER ∷ AS_KW ∷ IDENT ∷ L_PAREN ∷ []) (0 ∷ 0 ∷ 0 ∷ 0 ∷ []) 14 100 ≡ refusal EVENTS_FULL 3
  -- "`!` after a path in expression or type", `a!`: before PATH_EXPR's finish
  pub macro_call : refusal_by (IDENT ∷ BANG ∷ []) (0 ∷ 0 ∷ []) 9 100 ≡ refusal OUTSIDE_CUT 1
  pub before_its_path_ends : refusal_by (IDENT ∷ BANG ∷ []) (0 ∷ 0 ∷ []) 8 100 ≡ refusal EVENTS_FULL 1
  -- rules marked (cut): one start and one finish for each node, no other push: `1 as T` takes 16
  pub a_cast : refusal_by (INT_NUMBER ∷ AS_KW ∷ IDENT ∷ []) (0 ∷ 0 ∷ 0 ∷ []) 16 100 ≡ refusal 0 0
  pub a_cast_and_no_more : refusal_by (INT_NUMBER ∷ AS_KW ∷ IDENT ∷ []) (0 ∷ 0 ∷ 0 ∷ []) 15 100 ≡ refusal EVENTS_FULL 3

pub seven_against_four : SevenAgainstFour
unfolding refusal_by
seven_against_four =
    record {
      empty_parenthesis = refl;
      before_the_parenthesis = refl;
      generic_method = refl;
      before_its_name_ends = refl;
      after_a_type = refl;
      before_the_type_ends = refl;
      macro_call = refl;
      before_its_path_ends = refl;
      a_cast = refl;
      a_cast_and_no_more = refl;
    }
