-- The rules as the code asks them are the rules. Assumes nothing.
use Rattle.std.proofs.Common.{Option, Some, None}
use mathlib.Core.Path.{◌≡◌, refl, sym, ap, ◌∙◌}
use mathlib.Core.Bool.{Bool, true, false}
use mathlib.Core.List.{List}
use Prim.Native.Nat.{ℕ}
use lib.Dec.{eqb}
use Rattle.base.specs.Base.{whether, bound, done}
use Rattle.input.specs.SyntaxKind.{AWAIT_KW, L_PAREN, L_BRACK, DOT, QUESTION, DOT2, DOT2EQ, CALL_EXPR, INDEX_EXPR, METHOD_CALL_EXPR, FIELD_EXPR, AWAIT_EXPR, TRY_EXPR}
use Rattle.input.specs.Input.{Tokens, kind_at, present}
use Rattle.event.specs.declared.State.{State}
use Rattle.parser.specs.declared.CompletedMarker.{CompletedMarker}
use Rattle.parser.specs.Prog.{give, then, Ran, run, Perhaps}
use Rattle.base.specs.Base.{Next}
use Rattle.grammar.specs.Expressions.{Rule, Turned, yields, onward, name_at, is_method, is_dots, call_expr, method_call_expr, index_expr, try_expr, await_expr, field_expr, postfix_dot_expr, postfix_turn, leading_range, atom_postfix, range_or_atom}
use Rattle.grammar.specs.Forms.{dot_form_at, form_at, dots_at, call_head, any_call, form_turn, dots_or_atom}

module _ (ts : Tokens) (read : ℕ → Rule) (m : CompletedMarker) where
  dot_form : (recovery meth await dots : Bool)
      → whether meth (λ _. onward (method_call_expr ts read recovery m)) (λ _. whether await (λ _. onward (await_expr recovery m)) λ _. whether dots (λ _. give (done m)) (λ _. field_expr ts recovery m))
      ≡ form_turn ts read (whether meth (λ _. Some METHOD_CALL_EXPR) λ _. whether await (λ _. Some AWAIT_EXPR) λ _. whether dots (λ _. None) (λ _. Some FIELD_EXPR)) recovery m
  unfolding whether form_turn any_call call_head method_call_expr
  dot_form recovery true await dots = refl
  dot_form recovery false true dots = refl
  dot_form recovery false false true = refl
  dot_form recovery false false false = refl

  call_form : (recovery : Bool) → onward (call_expr ts read m) ≡ form_turn ts read (Some CALL_EXPR) recovery m
  unfolding whether form_turn any_call call_head call_expr then
  call_form recovery = refl

  module _ (s : State) (ev : List ℕ) where
    dot_run : (recovery : Bool) → run ts (postfix_dot_expr ts read recovery m) s ev ≡ run ts (form_turn ts read (dot_form_at ts recovery s.pos.0) recovery m) s ev
    unfolding postfix_dot_expr dot_form_at bound run
    dot_run recovery = ap (λ p. run ts p s ev) (dot_form recovery (is_method ts (name_at ts recovery s.pos.0)) (eqb (kind_at ts (name_at ts recovery s.pos.0)) AWAIT_KW) (is_dots ts s.pos.0))

    plain_form : (D : Turned) (n : Option ℕ) → run ts D s ev ≡ run ts (form_turn ts read n false m) s ev → (p l d q : Bool)
        → run ts (whether p (λ _. onward (call_expr ts read m)) λ _. whether l (λ _. onward (index_expr ts read m)) λ _. whether d (λ _. D) λ _. whether q (λ _. onward (try_expr m)) (λ _. give (done m))) s ev
        ≡ run ts (form_turn ts read (whether p (λ _. Some CALL_EXPR) λ _. whether l (λ _. Some INDEX_EXPR) λ _. whether d (λ _. n) λ _. whether q (λ _. Some TRY_EXPR) (λ _. None)) false m) s ev
    unfolding whether form_turn
    plain_form D n h true l d q = ap (λ p. run ts p s ev) (call_form false)
    plain_form D n h false true d q = refl
    plain_form D n h false false true q = h
    plain_form D n h false false false true = refl
    plain_form D n h false false false false = refl

    turn_is_form : (recovery : Bool) → run ts (form_turn ts read (form_at ts recovery s.pos.0) recovery m) s ev ≡ run ts (postfix_turn ts read (m, recovery)) s ev
    unfolding postfix_turn form_at bound run whether
    turn_is_form true = sym (dot_run true)
    turn_is_form false = sym (plain_form (postfix_dot_expr ts read false m) (dot_form_at ts false s.pos.0) (dot_run false) (eqb (kind_at ts s.pos.0) L_PAREN) (eqb (kind_at ts s.pos.0) L_BRACK) (eqb (kind_at ts s.pos.0) DOT) (eqb (kind_at ts s.pos.0) QUESTION))

  form_is : (recovery : Bool) (s : State) (ev : List ℕ) {node : Option ℕ} {out : Ran (Next (CompletedMarker × Bool) CompletedMarker)} → node ≡ form_at ts recovery s.pos.0 → out ≡ run ts (form_turn ts read node recovery m) s ev → out ≡ run ts (postfix_turn ts read (m, recovery)) s ev
  form_is recovery s ev p h = h ∙ ap (λ n. run ts (form_turn ts read n recovery m) s ev) p ∙ turn_is_form s ev recovery

  -- by what is found there
  pub form_some : (recovery : Bool) (s : State) (ev : List ℕ) {form : Option ℕ} {node : ℕ} {out : Ran (Next (CompletedMarker × Bool) CompletedMarker)} → form ≡ form_at ts recovery s.pos.0 → form ≡ Some node → out ≡ run ts (form_turn ts read (Some node) recovery m) s ev → out ≡ run ts (postfix_turn ts read (m, recovery)) s ev
  form_some recovery s ev p q h = form_is recovery s ev (sym q ∙ p) h

  pub form_none : (recovery : Bool) (s : State) (ev : List ℕ) {form : Option ℕ} {out : Ran (Next (CompletedMarker × Bool) CompletedMarker)} → form ≡ form_at ts recovery s.pos.0 → form ≡ None → out ≡ run ts (give (done m)) s ev → out ≡ run ts (postfix_turn ts read (m, recovery)) s ev
  unfolding form_turn
  form_none recovery s ev p q h = form_is recovery s ev (sym q ∙ p) h

module _ (ts : Tokens) (read : ℕ → Rule) where
  dots_form : (a b : Bool) → dots_or_atom ts read (whether a (λ _. Some DOT2EQ) λ _. whether b (λ _. Some DOT2) (λ _. None)) ≡ whether a (λ _. yields (leading_range ts read DOT2EQ)) λ _. whether b (λ _. yields (leading_range ts read DOT2)) (λ _. atom_postfix ts read)
  unfolding whether dots_or_atom
  dots_form true b = refl
  dots_form false true = refl
  dots_form false false = refl

  dots_are : (s : State) (ev : List ℕ) {dots : Option ℕ} {out : Ran (Perhaps CompletedMarker)} → dots ≡ dots_at ts s.pos.0 → out ≡ run ts (dots_or_atom ts read dots) s ev → out ≡ run ts (range_or_atom ts read) s ev
  unfolding range_or_atom dots_at run
  dots_are s ev p h = h ∙ ap (λ n. run ts (dots_or_atom ts read n) s ev) p ∙ ap (λ p. run ts p s ev) (dots_form (present ts s.pos.0 DOT2EQ) (present ts s.pos.0 DOT2))

  pub dots_some : (s : State) (ev : List ℕ) {dots : Option ℕ} {kind : ℕ} {out : Ran (Perhaps CompletedMarker)} → dots ≡ dots_at ts s.pos.0 → dots ≡ Some kind → out ≡ run ts (yields (leading_range ts read kind)) s ev → out ≡ run ts (range_or_atom ts read) s ev
  unfolding dots_or_atom
  dots_some s ev p q h = dots_are s ev (sym q ∙ p) h

  pub dots_none : (s : State) (ev : List ℕ) {dots : Option ℕ} {out : Ran (Perhaps CompletedMarker)} → dots ≡ dots_at ts s.pos.0 → dots ≡ None → out ≡ run ts (atom_postfix ts read) s ev → out ≡ run ts (range_or_atom ts read) s ev
  unfolding dots_or_atom
  dots_none s ev p q h = dots_are s ev (sym q ∙ p) h
