-- The same rules in the order in which the code asks: which postfix form, or which leading range, stands at a position is told before it is read, so that each reading has one place in the code.
use Rattle.std.specs.Prelude.{Option, Some, None, ℕ, Bool, eqb}
use Rattle.base.specs.Base.{whether, bound, done}
use Rattle.input.specs.SyntaxKind.{AWAIT_KW, L_PAREN, L_BRACK, DOT, QUESTION, DOT2, DOT2EQ, CALL_EXPR, INDEX_EXPR, METHOD_CALL_EXPR, FIELD_EXPR, AWAIT_EXPR, TRY_EXPR}
use Rattle.input.specs.Input.{Tokens, kind_at, present}
use Rattle.parser.specs.declared.Marker.{Marker}
use Rattle.parser.specs.declared.CompletedMarker.{CompletedMarker}
use Rattle.parser.specs.Prog.{Prog, give, complete, precede, then}
use Rattle.atoms.specs.Atom.{Node}
use Rattle.grammar.specs.Expressions.{Rule, Turned, yields, onward, name_at, is_method, is_dots, method_head, arg_list, index_expr, try_expr, await_expr, field_expr, leading_range, atom_postfix}

-- the node that the form behind a dot makes, if there is one
unfoldable pub dot_form_at : Tokens → Bool → ℕ → Option ℕ
dot_form_at ts recovery at =
    bound (name_at ts recovery at) λ name.
    whether (is_method ts name) (λ _. Some METHOD_CALL_EXPR) λ _.
    bound (kind_at ts name) λ kind.
    whether (eqb kind AWAIT_KW) (λ _. Some AWAIT_EXPR) λ _.
    whether (is_dots ts at) (λ _. None) (λ _. Some FIELD_EXPR)

-- the node that the postfix form at a position makes, if there is one
unfoldable pub form_at : Tokens → Bool → ℕ → Option ℕ
form_at ts recovery at =
    whether recovery (λ _. dot_form_at ts recovery at) λ _.
    bound (kind_at ts at) λ kind.
    whether (eqb kind L_PAREN) (λ _. Some CALL_EXPR) λ _.
    whether (eqb kind L_BRACK) (λ _. Some INDEX_EXPR) λ _.
    whether (eqb kind DOT) (λ _. dot_form_at ts recovery at) λ _.
    whether (eqb kind QUESTION) (λ _. Some TRY_EXPR) (λ _. None)

-- `..=` or `..` at a position, if one is there
unfoldable pub dots_at : Tokens → ℕ → Option ℕ
dots_at ts at = whether (present ts at DOT2EQ) (λ _. Some DOT2EQ) λ _. whether (present ts at DOT2) (λ _. Some DOT2) (λ _. None)

-- what stands before the arguments of a call, and of a method call
unfoldable pub call_head : Tokens → ℕ → Bool → CompletedMarker → Prog Marker
call_head ts node recovery m = whether (eqb node CALL_EXPR) (λ _. precede m give) (λ _. method_head ts recovery m)

module _ (ts : Tokens) (read : ℕ → Rule) where
  unfoldable pub any_call : ℕ → Bool → CompletedMarker → Node
  any_call node recovery m = then (call_head ts node recovery m) λ o. then (arg_list ts read) λ _. complete o node give

  unfoldable pub form_turn : Option ℕ → Bool → CompletedMarker → Turned
  form_turn None recovery m = give (done m)
  form_turn (Some node) recovery m =
      whether (eqb node INDEX_EXPR) (λ _. onward (index_expr ts read m)) λ _.
      whether (eqb node TRY_EXPR) (λ _. onward (try_expr m)) λ _.
      whether (eqb node AWAIT_EXPR) (λ _. onward (await_expr recovery m)) λ _.
      whether (eqb node FIELD_EXPR) (λ _. field_expr ts recovery m) (λ _. onward (any_call node recovery m))

  unfoldable pub dots_or_atom : Option ℕ → Rule
  dots_or_atom None = atom_postfix ts read
  dots_or_atom (Some dots) = yields (leading_range ts read dots)
