-- Each reader meets its rule: the search follows the rule along what the callees answered. Assumes nothing.
use Rattle.std.proofs.Common.{◌<◌, ◌≤◌, rules, refl, ap, ◌∙◌, Ok, arith}
use Rattle.base.proofs.Laws.{passed_beside}
use Rattle.parser.proofs.Laws.{rest_start, rest_done, rest_again}
use Rattle.grammar.specs.Expressions.{yields, given, anyway, extend_to, argument, arguments, arg_list, index_expr, postfix_expr, paren_body, paren_expr, atom_expr, atom_postfix, ref_expr, prefix_expr, leading_range, lhs, bin_expr, range_expr, operator_turn, operators, extended, expression}
use Rattle.grammar.specs.Forms.{any_call, form_turn}
use Rattle.atoms.proofs.Laws.{moved_passed}
use Rattle.grammar.proofs.Laws.{grammar, loops, depth_none, depth_some}
use Rattle.grammar.proofs.Forms.{dots_some, dots_none, form_some, form_none}
use Rattle.grammar.proofs.Moves.{argument_less, operator_less, postfix_less}
use Rattle.grammar.proofs.expressions.+readers.Goals as goal

pub arg-returns-then-ends_arguments : goal.arg-returns-then-ends_arguments
unfolding argument
arg-returns-then-ends_arguments t c = search (grammar, rules) depth 10

pub arg-returns-then-kind-eq-COMMA : goal.arg-returns-then-kind-eq-COMMA
unfolding argument
arg-returns-then-kind-eq-COMMA t c = search (grammar, rules) depth 10

pub arg-expr_bp-requires : goal.arg-expr_bp-requires
arg-expr_bp-requires t c = search rules

pub arg-returns-in_err-state : goal.arg-returns-in_err-state
unfolding argument
arg-returns-in_err-state t c = search (grammar, c.in_err-state.was, rules) depth 10

pub arg-returns-in_default : goal.arg-returns-in_default
unfolding argument
arg-returns-in_default t c = search (grammar, c.in_ok-state.was, rules) depth 10

pub arg-returns : goal.arg-returns
unfolding argument
arg-returns t c = search (grammar, c.in_ok-state.was, rules) depth 10

pub arg_list-returns-in_err-state : goal.arg_list-returns-in_err-state
unfolding arg_list
arg_list-returns-in_err-state t c = search (grammar, c.in_err-state.was, rules) depth 10

pub arg_list-args-requires : goal.arg_list-args-requires
arg_list-args-requires t c = search rules

pub arg_list-returns-in_err-state-2 : goal.arg_list-returns-in_err-state-2
unfolding arg_list
arg_list-returns-in_err-state-2 t c = search (grammar, c.in_ok-state.was, c.in_err-state-2.was, rules) depth 10

pub arg_list-returns : goal.arg_list-returns
unfolding arg_list
arg_list-returns t c = search (grammar, c.in_ok-state.was, c.in_ok-state-2.was, rules) depth 10

pub args-loop-s1-init : goal.args-loop-s1-init
unfolding arguments
args-loop-s1-init t c = (refl, rest_start _ _ _ _ _ (omega arith))

pub args-arg-requires : goal.args-arg-requires
args-arg-requires t c = search rules

pub args-returns-in_err-s1 : goal.args-returns-in_err-s1
args-returns-in_err-s1 t c = moved_passed _ {r = c.in_err-s1.field-0.0} _ c.from_residual.ensures ∙ search (loops, rest_done, c.in_err-s1.was) depth 10

pub args-loop-s1-smaller : goal.args-loop-s1-smaller
args-loop-s1-smaller t c = let came : _ = c.in_ok-s1.was ∙ ap Ok c.in-More.is in search (argument_less, came) depth 6

pub args-loop-s1-preserved : goal.args-loop-s1-preserved
args-loop-s1-preserved t c =
    let came : _ = c.in_ok-s1.was ∙ ap Ok c.in-More.is in
    (search rules, rest_again _ _ _ _ _ c.loop-s1.invariant.1 (search (loops, came) depth 10) (search (argument_less, came) depth 6))

pub args-returns-in-End : goal.args-returns-in-End
args-returns-in-End t c = let came : _ = c.in_ok-s1.was ∙ ap Ok c.in-End.is in search (loops, rest_done, came) depth 10

pub atom_expr-returns-in_err-state : goal.atom_expr-returns-in_err-state
unfolding atom_expr yields
atom_expr-returns-in_err-state t c = search (grammar, c.in_err-state.was, rules) depth 10

pub atom_expr-returns-then-kind-eq-IDENT : goal.atom_expr-returns-then-kind-eq-IDENT
unfolding atom_expr yields
atom_expr-returns-then-kind-eq-IDENT t c = search (grammar, c.in_ok-state.was, rules) depth 10

pub atom_expr-paren-requires : goal.atom_expr-paren-requires
atom_expr-paren-requires t c = search rules

pub atom_expr-returns-in_err-state-2 : goal.atom_expr-returns-in_err-state-2
unfolding atom_expr yields
atom_expr-returns-in_err-state-2 t c = search (grammar, c.in_err-state-2.was, rules) depth 10

pub atom_expr-returns-then-kind-eq-L_PAREN : goal.atom_expr-returns-then-kind-eq-L_PAREN
unfolding atom_expr yields
atom_expr-returns-then-kind-eq-L_PAREN t c = search (grammar, c.in_ok-state-2.was, rules) depth 10

pub atom_expr-returns : goal.atom_expr-returns
unfolding atom_expr yields
atom_expr-returns t c = search (grammar, rules) depth 10

pub atoms-atom_expr-requires : goal.atoms-atom_expr-requires
atoms-atom_expr-requires t c = search rules

pub atoms-returns-in_err-state : goal.atoms-returns-in_err-state
unfolding atom_postfix given yields
atoms-returns-in_err-state t c = search (grammar, c.in_err-state.was, rules) depth 10

pub atoms-returns-in_default : goal.atoms-returns-in_default
unfolding atom_postfix given yields
atoms-returns-in_default t c = search (grammar, c.in_ok-state.was, rules) depth 10

pub atoms-postfix_expr-requires : goal.atoms-postfix_expr-requires
atoms-postfix_expr-requires t c = search rules

pub atoms-returns-in_err-state-2 : goal.atoms-returns-in_err-state-2
unfolding atom_postfix given yields
atoms-returns-in_err-state-2 t c = search (grammar, c.in_ok-state.was, c.in_err-state-2.was, rules) depth 10

pub atoms-returns : goal.atoms-returns
unfolding atom_postfix given yields
atoms-returns t c = search (grammar, c.in_ok-state.was, c.in_ok-state-2.was, rules) depth 10

pub begun-lhs-requires : goal.begun-lhs-requires
begun-lhs-requires t c = search rules

pub begun-returns-in_err-state : goal.begun-returns-in_err-state
unfolding extended extend_to
begun-returns-in_err-state t c = search (grammar, c.in_err-state.was, rules) depth 10

pub begun-returns-in_default : goal.begun-returns-in_default
unfolding extended extend_to
begun-returns-in_default t c = search (grammar, c.in_ok-state.was, rules) depth 10

pub begun-returns-in_err-state-2 : goal.begun-returns-in_err-state-2
unfolding extended extend_to
begun-returns-in_err-state-2 t c = search (grammar, c.in_ok-state.was, c.in_err-state-2.was, rules) depth 10

pub begun-returns : goal.begun-returns
unfolding extended extend_to
begun-returns t c = search (grammar, c.in_ok-state.was, c.in_ok-state-2.was, rules) depth 10

pub call_expr-returns-in_err-state : goal.call_expr-returns-in_err-state
unfolding any_call
call_expr-returns-in_err-state t c = search (grammar, c.in_err-state.was, rules) depth 10

pub call_expr-arg_list-requires : goal.call_expr-arg_list-requires
call_expr-arg_list-requires t c = search rules

pub call_expr-returns-in_err-state-2 : goal.call_expr-returns-in_err-state-2
unfolding any_call
call_expr-returns-in_err-state-2 t c = search (grammar, c.in_ok-state.was, c.in_err-state-2.was, rules) depth 10

pub call_expr-returns : goal.call_expr-returns
unfolding any_call
call_expr-returns t c = search (grammar, c.in_ok-state.was, c.in_ok-state-2.was, rules) depth 10

pub expr-begun-requires : goal.expr-begun-requires
expr-begun-requires t c = search rules

pub expr-returns-in_err-state : goal.expr-returns-in_err-state
unfolding expression given yields
expr-returns-in_err-state t c = search (grammar, c.in_err-state.was, rules) depth 10

pub expr-returns-in_default : goal.expr-returns-in_default
unfolding expression given yields
expr-returns-in_default t c = search (grammar, c.in_ok-state.was, rules) depth 10

pub expr-ops-requires : goal.expr-ops-requires
expr-ops-requires t c = search rules

pub expr-returns-in_err-state-2 : goal.expr-returns-in_err-state-2
unfolding expression given yields
expr-returns-in_err-state-2 t c = search (grammar, c.in_ok-state.was, c.in_err-state-2.was, rules) depth 10

pub expr-returns : goal.expr-returns
unfolding expression given yields
expr-returns t c = search (grammar, c.in_ok-state.was, c.in_ok-state-2.was, rules) depth 10

pub expr_bp-returns-then-depth-eq0 : goal.expr_bp-returns-then-depth-eq0
expr_bp-returns-then-depth-eq0 t c = search (grammar, depth_none, depth_some, rules) depth 10

pub expr_bp-returns-in_err-state : goal.expr_bp-returns-in_err-state
expr_bp-returns-in_err-state t c = search (grammar, depth_some, c.in_err-state.was, rules) depth 10

pub expr_bp-expr-requires : goal.expr_bp-expr-requires
expr_bp-expr-requires t c = search rules

pub expr_bp-returns-then-is_first : goal.expr_bp-returns-then-is_first
expr_bp-returns-then-is_first t c = search (grammar, depth_some, c.in_ok-state.was, rules) depth 10

pub expr_bp-returns : goal.expr_bp-returns
expr_bp-returns t c = search (grammar, depth_some, c.in_ok-state.was, rules) depth 10

pub index_expr-returns-in_err-state : goal.index_expr-returns-in_err-state
unfolding index_expr anyway
index_expr-returns-in_err-state t c = search (grammar, c.in_err-state.was, rules) depth 10

pub index_expr-expr_bp-requires : goal.index_expr-expr_bp-requires
index_expr-expr_bp-requires t c = search rules

pub index_expr-returns-in_err-state-2 : goal.index_expr-returns-in_err-state-2
unfolding index_expr anyway
index_expr-returns-in_err-state-2 t c = search (grammar, c.in_ok-state.was, c.in_err-state-2.was, rules) depth 10

pub index_expr-returns : goal.index_expr-returns
unfolding index_expr anyway
index_expr-returns t c = search (grammar, c.in_ok-state.was, c.in_ok-state-2.was, rules) depth 10

pub infixed-returns-in_err-state : goal.infixed-returns-in_err-state
unfolding bin_expr anyway
infixed-returns-in_err-state t c = search (grammar, c.in_err-state.was, rules) depth 10

pub infixed-expr_bp-requires : goal.infixed-expr_bp-requires
infixed-expr_bp-requires t c = search rules

pub infixed-returns-in_err-state-2 : goal.infixed-returns-in_err-state-2
unfolding bin_expr anyway
infixed-returns-in_err-state-2 t c = search (grammar, c.in_ok-state.was, c.in_err-state-2.was, rules) depth 10

pub infixed-returns : goal.infixed-returns
unfolding bin_expr anyway
infixed-returns t c = search (grammar, c.in_ok-state.was, c.in_ok-state-2.was, rules) depth 10

pub leading-returns-in_err-state : goal.leading-returns-in_err-state
unfolding leading_range anyway
leading-returns-in_err-state t c = search (grammar, c.in_err-state.was, rules) depth 10

pub leading-returns-then-not-operand_follows : goal.leading-returns-then-not-operand_follows
unfolding leading_range anyway
leading-returns-then-not-operand_follows t c = search (grammar, c.in_ok-state.was, rules) depth 10

pub leading-expr_bp-requires : goal.leading-expr_bp-requires
leading-expr_bp-requires t c = search rules

pub leading-returns-in_err-state-2 : goal.leading-returns-in_err-state-2
unfolding leading_range anyway
leading-returns-in_err-state-2 t c = search (grammar, c.in_ok-state.was, c.in_err-state-2.was, rules) depth 10

pub leading-returns : goal.leading-returns
unfolding leading_range anyway
leading-returns t c = search (grammar, c.in_ok-state.was, c.in_ok-state-2.was, rules) depth 10

pub lhs-refer-requires : goal.lhs-refer-requires
lhs-refer-requires t c = search rules

pub lhs-returns-in_err-state : goal.lhs-returns-in_err-state
unfolding lhs yields
lhs-returns-in_err-state t c = search (grammar, c.in_err-state.was, rules) depth 10

pub lhs-returns-then-kind-eq-AMP : goal.lhs-returns-then-kind-eq-AMP
unfolding lhs yields
lhs-returns-then-kind-eq-AMP t c = search (grammar, c.in_ok-state.was, rules) depth 10

pub lhs-unary-requires : goal.lhs-unary-requires
lhs-unary-requires t c = search rules

pub lhs-returns-in_err-state-2 : goal.lhs-returns-in_err-state-2
unfolding lhs yields
lhs-returns-in_err-state-2 t c = search (grammar, c.in_err-state-2.was, rules) depth 10

pub lhs-returns-then-is_prefix : goal.lhs-returns-then-is_prefix
unfolding lhs yields
lhs-returns-then-is_prefix t c = search (grammar, c.in_ok-state-2.was, rules) depth 10

pub lhs-atoms-requires : goal.lhs-atoms-requires
lhs-atoms-requires t c = search rules

pub lhs-returns-in_default : goal.lhs-returns-in_default
unfolding lhs yields
lhs-returns-in_default t c = search (grammar, dots_some, dots_none, rules) depth 10

pub lhs-leading-requires : goal.lhs-leading-requires
lhs-leading-requires t c = search rules

pub lhs-returns-in_err-state-3 : goal.lhs-returns-in_err-state-3
unfolding lhs yields
lhs-returns-in_err-state-3 t c = search (grammar, dots_some, dots_none, c.in_err-state-3.was, rules) depth 10

pub lhs-returns : goal.lhs-returns
unfolding lhs yields
lhs-returns t c = search (grammar, dots_some, dots_none, c.in_ok-state-3.was, rules) depth 10

pub oper-returns-then-from-b : goal.oper-returns-then-from-b
unfolding operator_turn
oper-returns-then-from-b t c =
    let weaker : c.current_op-op.result.strength < c.args.b = rw (← c.from.ensures) c.if-from-b.true in search (grammar, weaker) depth 10

pub oper-returns-then-op-eq-AS_KW : goal.oper-returns-then-op-eq-AS_KW
unfolding operator_turn
oper-returns-then-op-eq-AS_KW t c =
    let bound : c.args.b ≤ c.current_op-op.result.strength = rw (← c.from.ensures) c.if-from-b.false in search (grammar, bound, rules) depth 10

pub oper-range-requires : goal.oper-range-requires
oper-range-requires t c = search rules

pub oper-returns-then-is_range : goal.oper-returns-then-is_range
unfolding operator_turn
oper-returns-then-is_range t c =
    let bound : c.args.b ≤ c.current_op-op.result.strength = rw (← c.from.ensures) c.if-from-b.false in search (grammar, bound, rules) depth 10

pub oper-infixed-requires : goal.oper-infixed-requires
oper-infixed-requires t c = search rules

pub oper-returns : goal.oper-returns
unfolding operator_turn
oper-returns t c =
    let bound : c.args.b ≤ c.current_op-op.result.strength = rw (← c.from.ensures) c.if-from-b.false in search (grammar, bound, rules) depth 10

pub ops-loop-s1-init : goal.ops-loop-s1-init
unfolding operators
ops-loop-s1-init t c = (refl, rest_start _ _ _ _ _ (omega arith))

pub ops-oper-requires : goal.ops-oper-requires
ops-oper-requires t c = search rules

pub ops-returns-in_err-s1 : goal.ops-returns-in_err-s1
ops-returns-in_err-s1 t c = passed_beside _ c.from_residual.ensures ∙ search (loops, rest_done, c.in_err-s1.was) depth 10

pub ops-loop-s1-smaller : goal.ops-loop-s1-smaller
ops-loop-s1-smaller t c = let came : _ = c.in_ok-s1.was ∙ ap Ok c.in-Again.is in search (operator_less, came) depth 6

pub ops-loop-s1-preserved : goal.ops-loop-s1-preserved
ops-loop-s1-preserved t c =
    let came : _ = c.in_ok-s1.was ∙ ap Ok c.in-Again.is in
    (search rules, rest_again _ _ _ _ _ c.loop-s1.invariant.1 (search (loops, came) depth 10) (search (operator_less, came) depth 6))

pub ops-returns-in-Done : goal.ops-returns-in-Done
ops-returns-in-Done t c = let came : _ = c.in_ok-s1.was ∙ ap Ok c.in-Done.is in search (loops, rest_done, came) depth 10

pub paren-returns-in_err-state : goal.paren-returns-in_err-state
unfolding paren_expr paren_body
paren-returns-in_err-state t c = search (grammar, c.in_err-state.was, rules) depth 10

pub paren-returns-then-kind_at-eq-R_PAREN : goal.paren-returns-then-kind_at-eq-R_PAREN
unfolding paren_expr paren_body
paren-returns-then-kind_at-eq-R_PAREN t c = search (grammar, c.in_ok-state.was, rules) depth 10

pub paren-expr_bp-requires : goal.paren-expr_bp-requires
paren-expr_bp-requires t c = search rules

pub paren-returns-in_err-state-2 : goal.paren-returns-in_err-state-2
unfolding paren_expr paren_body
paren-returns-in_err-state-2 t c = search (grammar, c.in_ok-state.was, c.in_err-state-2.was, rules) depth 10

pub paren-returns-in_default : goal.paren-returns-in_default
unfolding paren_expr paren_body
paren-returns-in_default t c = search (grammar, c.in_ok-state.was, c.in_ok-state-2.was, rules) depth 10

pub paren-returns : goal.paren-returns
unfolding paren_expr paren_body
paren-returns t c = search (grammar, c.in_ok-state.was, c.in_ok-state-2.was, rules) depth 10

pub postfix_expr-loop-s1-init : goal.postfix_expr-loop-s1-init
unfolding postfix_expr
postfix_expr-loop-s1-init t c = (refl, rest_start _ _ _ _ _ (omega arith))

pub postfix_expr-tail-requires : goal.postfix_expr-tail-requires
postfix_expr-tail-requires t c = search rules

pub postfix_expr-returns-in_err-s1 : goal.postfix_expr-returns-in_err-s1
postfix_expr-returns-in_err-s1 t c = passed_beside _ c.from_residual.ensures ∙ search (loops, rest_done, c.in_err-s1.was) depth 10

pub postfix_expr-loop-s1-smaller : goal.postfix_expr-loop-s1-smaller
postfix_expr-loop-s1-smaller t c = let came : _ = c.in_ok-s1.was ∙ ap Ok c.in-Again.is in search (postfix_less, came) depth 6

pub postfix_expr-loop-s1-preserved : goal.postfix_expr-loop-s1-preserved
postfix_expr-loop-s1-preserved t c =
    let came : _ = c.in_ok-s1.was ∙ ap Ok c.in-Again.is in
    (search rules, rest_again _ _ _ _ _ c.loop-s1.invariant.1 (search (loops, came) depth 10) (search (postfix_less, came) depth 6))

pub postfix_expr-returns-in-Done : goal.postfix_expr-returns-in-Done
postfix_expr-returns-in-Done t c = let came : _ = c.in_ok-s1.was ∙ ap Ok c.in-Done.is in search (loops, rest_done, came) depth 10

pub range-returns-in_err-state : goal.range-returns-in_err-state
unfolding range_expr anyway
range-returns-in_err-state t c = search (grammar, c.in_err-state.was, rules) depth 14

pub range-returns-in_err-state-2 : goal.range-returns-in_err-state-2
unfolding range_expr anyway
range-returns-in_err-state-2 t c = search (grammar, c.in_ok-state.was, c.in_err-state-2.was, rules) depth 14

pub range-returns-then-not-operand_follows : goal.range-returns-then-not-operand_follows
unfolding range_expr anyway
range-returns-then-not-operand_follows t c = search (grammar, c.in_ok-state.was, c.in_ok-state-2.was, rules) depth 14

pub range-expr_bp-requires : goal.range-expr_bp-requires
range-expr_bp-requires t c = search rules

pub range-returns-in_err-state-3 : goal.range-returns-in_err-state-3
unfolding range_expr anyway
range-returns-in_err-state-3 t c = search (grammar, c.in_ok-state.was, c.in_err-state-3.was, rules) depth 14

pub range-returns : goal.range-returns
unfolding range_expr anyway
range-returns t c = search (grammar, c.in_ok-state.was, c.in_ok-state-3.was, rules) depth 12

pub refer-returns-in_err-state : goal.refer-returns-in_err-state
unfolding ref_expr anyway
refer-returns-in_err-state t c = search (grammar, c.in_err-state.was, rules) depth 10

pub refer-expr_bp-requires : goal.refer-expr_bp-requires
refer-expr_bp-requires t c = search rules

pub refer-returns-in_err-state-2 : goal.refer-returns-in_err-state-2
unfolding ref_expr anyway
refer-returns-in_err-state-2 t c = search (grammar, c.in_ok-state.was, c.in_err-state-2.was, rules) depth 10

pub refer-returns : goal.refer-returns
unfolding ref_expr anyway
refer-returns t c = search (grammar, c.in_ok-state.was, c.in_ok-state-2.was, rules) depth 10

pub tail-index_expr-requires : goal.tail-index_expr-requires
tail-index_expr-requires t c = search rules

pub tail-call_expr-requires : goal.tail-call_expr-requires
tail-call_expr-requires t c = search rules

pub tail-returns-in_default : goal.tail-returns-in_default
unfolding form_turn
tail-returns-in_default t c = search (grammar, form_some, form_none, rules) depth 14

pub tail-returns-in-93 : goal.tail-returns-in-93
unfolding form_turn
tail-returns-in-93 t c = search (grammar, form_some, form_none, rules) depth 14

pub tail-returns-in-97 : goal.tail-returns-in-97
unfolding form_turn
tail-returns-in-97 t c = search (grammar, form_some, form_none, rules) depth 14

pub tail-returns-in-96 : goal.tail-returns-in-96
unfolding form_turn
tail-returns-in-96 t c = search (grammar, form_some, form_none, rules) depth 14

pub tail-returns-in-95 : goal.tail-returns-in-95
unfolding form_turn
tail-returns-in-95 t c = search (grammar, form_some, form_none, rules) depth 14

pub tail-returns-in_default-node : goal.tail-returns-in_default-node
unfolding form_turn
tail-returns-in_default-node t c = search (grammar, form_some, form_none, rules) depth 14

pub unary-returns-in_err-state : goal.unary-returns-in_err-state
unfolding prefix_expr anyway
unary-returns-in_err-state t c = search (grammar, c.in_err-state.was, rules) depth 10

pub unary-expr_bp-requires : goal.unary-expr_bp-requires
unary-expr_bp-requires t c = search rules

pub unary-returns-in_err-state-2 : goal.unary-returns-in_err-state-2
unfolding prefix_expr anyway
unary-returns-in_err-state-2 t c = search (grammar, c.in_ok-state.was, c.in_err-state-2.was, rules) depth 10

pub unary-returns : goal.unary-returns
unfolding prefix_expr anyway
unary-returns t c = search (grammar, c.in_ok-state.was, c.in_ok-state-2.was, rules) depth 10
