-- The cycle of readings ends: a reading counts 32 for each reading that may still be opened, every other function its rank above that.
-- Where a loop stands: what is left to do is the whole, and fewer tokens are left after each turn.
use Rattle.std.proofs.Common.{◌≡◌, ◌+◌, ◌-◌, ◌*◌, length}
use Rattle.parser.specs.Prog.{run}
use Rattle.parser.proofs.Laws.{Rest}
use Rattle.grammar.specs.Expressions.{argument, arguments, postfix_turn, postfix_expr, operator_turn, operators, expr_bp}
use Rattle.grammar.proofs.Moves.{flag_of}
use Rattle.grammar.proofs.expressions.+readers.Given as goal

abbrev pub decreases-arg : goal.decreases-arg
decreases-arg l = 32 * l.inner.0 + 3

abbrev pub decreases-arg_list : goal.decreases-arg_list
decreases-arg_list l = 32 * l.inner.0 + 5

abbrev pub decreases-args : goal.decreases-args
decreases-args l = 32 * l.inner.0 + 4

abbrev pub decreases-atom_expr : goal.decreases-atom_expr
decreases-atom_expr l = 32 * l.inner.0 + 2

abbrev pub decreases-atoms : goal.decreases-atoms
decreases-atoms l = 32 * l.inner.0 + 10

abbrev pub decreases-begun : goal.decreases-begun
decreases-begun l = 32 * l.inner.0 + 12

abbrev pub decreases-call_expr : goal.decreases-call_expr
decreases-call_expr l = 32 * l.inner.0 + 6

abbrev pub decreases-expr : goal.decreases-expr
decreases-expr l = 32 * l.inner.0 + 13

abbrev pub decreases-expr_bp : goal.decreases-expr_bp
decreases-expr_bp l = 32 * l.depth.0

abbrev pub decreases-index_expr : goal.decreases-index_expr
decreases-index_expr l = 32 * l.inner.0 + 1

abbrev pub decreases-infixed : goal.decreases-infixed
decreases-infixed l = 32 * l.inner.0 + 1

abbrev pub decreases-leading : goal.decreases-leading
decreases-leading l = 32 * l.inner.0 + 1

abbrev pub decreases-lhs : goal.decreases-lhs
decreases-lhs l = 32 * l.inner.0 + 11

abbrev pub decreases-oper : goal.decreases-oper
decreases-oper l = 32 * l.inner.0 + 3

abbrev pub decreases-ops : goal.decreases-ops
decreases-ops l = 32 * l.inner.0 + 4

abbrev pub decreases-paren : goal.decreases-paren
decreases-paren l = 32 * l.inner.0 + 1

abbrev pub decreases-postfix_expr : goal.decreases-postfix_expr
decreases-postfix_expr l = 32 * l.inner.0 + 9

abbrev pub decreases-range : goal.decreases-range
decreases-range l = 32 * l.inner.0 + 1

abbrev pub decreases-refer : goal.decreases-refer
decreases-refer l = 32 * l.inner.0 + 1

abbrev pub decreases-tail : goal.decreases-tail
decreases-tail l = 32 * l.inner.0 + 8

abbrev pub decreases-unary : goal.decreases-unary
decreases-unary l = 32 * l.inner.0 + 1

abbrev pub invariant-args-loop-s1 : goal.invariant-args-loop-s1
invariant-args-loop-s1 l =
    (length l.events ≡ length l.fn.events)
    × Rest l.tokens (λ _. argument l.tokens (expr_bp l.fn.inner.0 l.tokens)) (λ z. length l.tokens.kinds - z.0.pos.0) (run l.tokens (arguments l.tokens (expr_bp l.fn.inner.0 l.tokens)) l.fn.state l.fn.events) (l.s, tt, l.events)

abbrev pub decreases-args-loop-s1 : goal.decreases-args-loop-s1
decreases-args-loop-s1 l = length l.tokens.kinds - l.s.pos.0

abbrev pub invariant-ops-loop-s1 : goal.invariant-ops-loop-s1
invariant-ops-loop-s1 l =
    (length l.events ≡ length l.fn.events)
    × Rest l.tokens (operator_turn l.tokens (expr_bp l.fn.inner.0 l.tokens) l.fn.b) (λ z. length l.tokens.kinds - z.0.pos.0) (run l.tokens (operators l.tokens (expr_bp l.fn.inner.0 l.tokens) l.fn.b l.fn.first) l.fn.state l.fn.events) (l.s, l.m, l.events)

abbrev pub decreases-ops-loop-s1 : goal.decreases-ops-loop-s1
decreases-ops-loop-s1 l = length l.tokens.kinds - l.s.pos.0

abbrev pub invariant-postfix_expr-loop-s1 : goal.invariant-postfix_expr-loop-s1
invariant-postfix_expr-loop-s1 l =
    (length l.events ≡ length l.fn.events)
    × Rest l.tokens (postfix_turn l.tokens (expr_bp l.fn.inner.0 l.tokens)) (λ z. 2 * (length l.tokens.kinds - z.0.pos.0) + flag_of z.1.1) (run l.tokens (postfix_expr l.tokens (expr_bp l.fn.inner.0 l.tokens) l.fn.first) l.fn.state l.fn.events) (l.s, (l.m, l.recovery), l.events)

abbrev pub decreases-postfix_expr-loop-s1 : goal.decreases-postfix_expr-loop-s1
decreases-postfix_expr-loop-s1 l = 2 * (length l.tokens.kinds - l.s.pos.0) + flag_of l.recovery
