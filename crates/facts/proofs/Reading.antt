-- What every reading does: the left part, the operator loop, and the reading itself, by induction on the depth. It takes a token where it yields an expression, pushes no more than its tokens pay for, keeps what stood before, and is refused by 6, 7, or 4 for want of room alone. Assumes nothing.
use Rattle.std.proofs.Common.{Some, None}
use mathlib.Core.Path.{◌≡◌, refl, subst}
use mathlib.Core.List.{List}
use mathlib.Core.Bool.{true}
use mathlib.Core.Logic.{inl}
use Prim.Native.Nat.{ℕ, zero, suc, ◌+◌, ◌-◌, ◌*◌, ◌≤◌, ◌<◌}
use native.Mathlib.Omega.{arith}
use borrow.Author.Tests.{eqb-true, ltb-false, eq-eqb}
use Rattle.base.specs.Base.{Next, again}
use Rattle.input.specs.SyntaxKind.{AS_KW, MUT_KW, L_PAREN, R_PAREN, AMP, DOT2, DOT2EQ, EXPECTED_R_PAREN, PAREN_EXPR, RANGE_EXPR}
use Rattle.input.specs.Input.{kind_at, present, width_of, is_kind}
use Rattle.event.specs.declared.State.{State}
use Rattle.parser.specs.Calls.{pushed}
use Rattle.parser.specs.Prog.{Prog, give, complete, Perhaps, some}
use Rattle.parser.specs.declared.Marker.{Marker}
use Rattle.parser.specs.declared.CompletedMarker.{CompletedMarker}
use Rattle.parser.proofs.Moves.{present_within}
use Rattle.operators.specs.declared.Op.{Op}
use Rattle.operators.specs.Strength.{current_op}
use Rattle.atoms.specs.Atom.{lead, closing, turning}
use Rattle.grammar.specs.Expressions.{Rule, yields, given, given_up, lone_dot, anyway, begin_ref, paren_tail, paren_body, paren_expr, plain_atom, atom_expr, atom_postfix, ref_expr, prefix_expr, leading_range, range_or_atom, lhs, bin_expr, range_expr, operator_turn, operators, extended, expression, no_expression, expr_bp, extend_to}
use Rattle.facts.proofs.Does.{World, size, Post, Does, On, Here, Live, Shut, Room, Turned, on_on, here, still, shut_lower, does_give, does_refuse, does_look, does_bound, does_if, does_then, does_weaken, does_turns}
use Rattle.facts.proofs.Calls.{does_start, does_complete, does_abandon, does_extend, does_eat}
use Rattle.facts.proofs.Present.{at_hand, raw_kind, glued_kind, raw_present, first_raw, prefix_raw, op_stands, right_low}
use Rattle.facts.proofs.Atoms.{Made, Begun, node_fits, outside, made, closed, leafs, begins, leads, errs, path_nodes, casts}
use Rattle.facts.proofs.Postfix.{Read, Reads, postfixes}

-- what a left part does
record Left (W : World) (ev : List ℕ) (s : State) (s1 : State) (a : Perhaps CompletedMarker) (e : List ℕ) : Type 0 where
  pub on : On W s.count ev s1 e
  pub ahead : s.pos.0 ≤ s1.pos.0
  pub got : elim a as (λ _. Type 0) [ Some m ↦ (s.pos.0 < s1.pos.0) × (s1.count + 11 * s.pos.0 + 2 ≤ s.count + 11 * s1.pos.0) × Shut s.count m s1 e | None ↦ (s.count + 1 ≤ s1.count) × (s1.count + 11 * s.pos.0 ≤ s.count + 11 * s1.pos.0 + 3) ]

left_of_lem : {W : World} {ev : List ℕ} {s s1 : State} {m : CompletedMarker} {e : List ℕ} → Made W s.count ev s 1 2 0 s1 m e → Left W ev s s1 (some m) e
left_of_lem k = record { on = k.on; ahead = omega (arith, k.ahead); got = (omega (arith, k.ahead), omega (arith, k.few), k.shut) }

yield : {W : World} {ev e : List ℕ} {s s1 : State} {p : Prog CompletedMarker} → Does W p (Made W s.count ev s 1 2 0) s1 e → Does W (yields p) (Left W ev s) s1 e
unfolding yields
yield d = does_then d (λ s2 m e2 k. does_give (left_of_lem k))

module _ {W : World} {read : ℕ → Rule} (reads : Reads W read) where
  -- a node that ends behind an operand
  operand : {c c1 b node : ℕ} {ev e : List ℕ} {s0 s : State} {o : Marker} → On W c ev s e → Live c1 o s e → c ≤ c1 → (80 ≤ node) × (node ≤ 99) → 1 ≤ b → Room W 5 s → s0.pos.0 + 1 ≤ s.pos.0 → s.count + 7 + 11 * s0.pos.0 ≤ s0.count + 11 * s.pos.0 → Does W (anyway (read b) (complete o node give)) (Made W c ev s0 1 2 0) s e
  unfolding anyway
  operand {s = s} a w l n lo r p q =
      does_then (reads _ lo s _ (here a) (omega arith)) (λ s2 _ e2 j.
      made (on_on a.low a j.on) (still w j.on w.below) l n (omega (arith, j.few, j.on.inside)) (omega (arith, j.ahead)) (omega (arith, j.few)))

  module _ {s : State} {ev : List ℕ} (h : Here W s ev) where
    parens : present W.ts s.pos.0 L_PAREN ≡ true → Room W 0 s → Does W (paren_expr W.ts read) (Made W s.count ev s 1 2 0) s ev
    unfolding paren_expr paren_body paren_tail
    parens p r =
        let l = present_within W.ts s.pos.0 L_PAREN p in
        does_then (begins h L_PAREN (raw_kind L_PAREN (omega arith) (omega arith)) p (omega (arith, l))) (λ s1 o e k.
        does_look (does_bound _ _ (does_if _ _ _ (λ _. outside)
        (λ _. does_then (reads 1 (omega arith) s1 e (here k.on) (omega (arith, k.moves, k.some))) (λ s2. elim [
          | Some m ↦ λ e2 j. does_look (does_bound _ _ (does_if _ _ _ (λ _. outside) (λ _. ending k j)))
          | None ↦ λ e2 j. ending k j
        ])))))
      where
        ending : {s1 s2 : State} {o : Marker} {e e2 : List ℕ} {a : Perhaps CompletedMarker} → Begun W s.count ev s (width_of L_PAREN) 2 s1 o e → Read W e s1 s2 a e2 → Does W (closing R_PAREN EXPECTED_R_PAREN o PAREN_EXPR) (Made W s.count ev s 1 2 0) s2 e2
        ending k j = closed (on_on k.on.low k.on j.on) (still k.live j.on k.live.below) (omega arith) (omega arith) (omega arith) (omega arith) (omega (arith, k.moves, k.some, j.few, j.on.inside)) (omega (arith, k.moves, k.some, j.ahead)) (omega (arith, k.moves, k.some, j.few))

  module _ {s : State} {ev : List ℕ} (h : Here W s ev) (l : s.pos.0 < size W) (r : Room W 3 s) where
    atoms : Does W (atom_expr W.ts read) (Left W ev s) s ev
    unfolding atom_expr plain_atom lone_dot
    atoms =
        does_look (does_bound _ _ (does_if _ _ _ (λ _. yield (path_nodes h l (omega arith) (omega arith)))
        (λ _. does_if _ _ _ (λ q. yield (parens h (raw_present W.ts s.pos.0 L_PAREN (omega arith) q (omega arith)) (omega arith)))
        (λ _. does_look (does_bound _ _ (does_if _ _ _ (λ _. outside)
        (λ _. does_if _ _ _
        (λ _. does_then (errs h r) (λ s1 _ e k. does_give (record { on = k.on; ahead = k.ahead; got = (k.more, omega (arith, k.few, k.ahead)) })))
        (λ _. yield (does_weaken (leafs h l (omega arith) (omega arith)) (λ s1 m e k. record { on = k.on; ahead = omega (arith, k.moves); few = omega (arith, k.moves); shut = k.shut }))))))))))

    atom_postfixes : Does W (atom_postfix W.ts read) (Left W ev s) s ev
    unfolding atom_postfix given
    atom_postfixes =
        does_then atoms (λ s1. elim [
          | Some m ↦ λ e g. yield (postfixes reads r s1 m e (record { on = g.on; ahead = omega (arith, g.got.0); few = omega (arith, g.got.1); shut = g.got.2 }))
          | None ↦ λ e g. does_give g
        ])

    refs : present W.ts s.pos.0 AMP ≡ true → Does W (ref_expr W.ts read) (Made W s.count ev s 1 2 0) s ev
    unfolding ref_expr begin_ref
    refs p =
        does_then {R = λ s2 o e2. On W s.count ev s2 e2 × Live s.count o s2 e2 × (s.pos.0 + 1 ≤ s2.pos.0) × (s2.count + 9 + 11 * s.pos.0 ≤ s.count + 11 * s2.pos.0)}
        (does_then (begins h AMP (raw_kind AMP (omega arith) (omega arith)) p (omega arith)) (λ s1 o e k.
        does_eat (here k.on) (raw_kind MUT_KW (omega arith) (omega arith)) (omega (arith, k.moves))
        (λ e2 b y. does_give (on_on k.on.low k.on b, still k.live b k.live.below, omega (arith, k.moves, k.some), omega (arith, k.moves, k.some)))
        (λ _. does_give (k.on, k.live, omega (arith, k.moves, k.some), omega (arith, k.moves, k.some)))))
        (λ s2 o e2 k. operand k.0 k.1 (omega arith) (omega arith) (omega arith) (omega (arith, k.3)) k.2 (omega (arith, k.3)))

    prefixes : (kind : ℕ) → is_kind kind ≡ true → present W.ts s.pos.0 kind ≡ true → Does W (prefix_expr W.ts read kind) (Made W s.count ev s 1 2 0) s ev
    unfolding prefix_expr
    prefixes kind i p = does_then (begins h kind i p (omega arith)) (λ s1 o e k. operand k.on k.live (omega arith) (omega arith) (omega arith) (omega (arith, k.moves, k.some)) (omega (arith, k.moves, k.some)) (omega (arith, k.moves, k.some)))

    leading_ranges : (kind : ℕ) → is_kind kind ≡ true → present W.ts s.pos.0 kind ≡ true → Does W (leading_range W.ts read kind) (Made W s.count ev s 1 2 0) s ev
    unfolding leading_range
    leading_ranges kind i p =
        does_then (begins h kind i p (omega arith)) (λ s1 o e k.
        does_look (does_if _ _ _
        (λ _. operand k.on k.live (omega arith) (omega arith) (omega arith) (omega (arith, k.moves, k.some)) (omega (arith, k.moves, k.some)) (omega (arith, k.moves, k.some)))
        (λ _. made k.on k.live (omega arith) (omega arith) (omega (arith, k.moves, k.some, k.on.inside)) (omega (arith, k.moves, k.some)) (omega (arith, k.moves, k.some)))))

    lefts : Does W (lhs W.ts read) (Left W ev s) s ev
    unfolding lhs range_or_atom
    lefts =
        does_look (does_bound _ _ (does_if _ _ _ (λ q. yield (refs (raw_present W.ts s.pos.0 AMP (omega arith) q (omega arith))))
        (λ _. does_if _ _ _
        (λ q. let i = prefix_raw _ q in yield (prefixes _ (raw_kind _ i.0 i.1) (raw_present W.ts s.pos.0 _ i.1 (eq-eqb (kind_at W.ts s.pos.0) _ refl) i.0)))
        (λ _. does_look (does_if _ _ _ (λ q. yield (leading_ranges DOT2EQ (glued_kind DOT2EQ (omega arith) (omega arith)) q))
        (λ _. does_if _ _ _ (λ q. yield (leading_ranges DOT2 (glued_kind DOT2 (omega arith) (omega arith)) q)) (λ _. atom_postfixes)))))))

-- the operator loop: so far an expression from s0 on
abbrev OpTurn : World → ℕ → List ℕ → State → State → CompletedMarker → Post (Next CompletedMarker CompletedMarker)
OpTurn W c ev s0 s m = Turned (Made W c ev s0 1 1 0) (λ s _. size W - s.pos.0) (Made W c ev s0 1 1 0) s m

module _ {W : World} {c : ℕ} {ev e e1 : List ℕ} {s0 s s1 : State} {m m1 : CompletedMarker} {a : ℕ} (i : Made W c ev s0 1 1 0 s m e) where
  -- a node more, that took a token
  one_more : Made W c e s 1 a 0 s1 m1 e1 → Made W c ev s0 1 1 0 s1 m1 e1
  one_more k = record { on = on_on (omega arith) i.on k.on; ahead = omega (arith, i.ahead, k.ahead); few = omega (arith, i.few, k.few); shut = k.shut }

  goes_on : Made W c e s 1 a 0 s1 m1 e1 → OpTurn W c ev s0 s m s1 (again m1) e1
  goes_on k = (one_more k, omega (arith, k.ahead, k.on.inside))

turns_on : {W : World} {c a : ℕ} {ev e : List ℕ} {s0 s : State} {m : CompletedMarker} {q : Prog CompletedMarker} → Made W c ev s0 1 1 0 s m e → Does W q (Made W c e s 1 a 0) s e → Does W (turning q) (OpTurn W c ev s0 s m) s e
unfolding turning
turns_on i d = does_then d (λ s1 m1 e1 k. does_give (goes_on i k))

module _ {W : World} {read : ℕ → Rule} (reads : Reads W read) {c : ℕ} {ev e : List ℕ} {s0 s : State} {m : CompletedMarker} (i : Made W c ev s0 1 1 0 s m e) (r : Room W 4 s0) (op : Op) (strong : 1 ≤ op.strength) (fit : is_kind op.kind ≡ true) (p : present W.ts s.pos.0 op.kind ≡ true) where
  leads_on : Does W (lead m op.kind) (Begun W c e s (width_of op.kind) 2) s e
  leads_on = leads (here i.on) op.kind fit p (omega (arith, i.few, i.on.inside)) i.shut

  bins : Does W (bin_expr W.ts read op m) (Made W c e s 1 2 0) s e
  unfolding bin_expr
  bins =
      does_then leads_on (λ s1 o e1 k. does_bound _ _
      (operand reads k.on k.live (omega (arith, i.shut)) (omega arith) (right_low op strong) (omega (arith, i.few, k.moves, k.some)) (omega (arith, k.moves, k.some)) (omega (arith, k.moves, k.some))))

  ranges : Does W (range_expr W.ts read op m) (OpTurn W c ev s0 s m) s e
  unfolding range_expr anyway
  ranges =
      does_then leads_on (λ s1 o e1 k. does_look (does_if _ _ _
      (λ _. does_bound _ _ (does_then (reads _ (right_low op strong) s1 e1 (here k.on) (omega (arith, i.few, k.moves, k.some))) (λ s2 _ e2 j.
      does_complete (here j.on) (still k.live j.on k.live.below) (node_fits RANGE_EXPR (omega arith)) (omega (arith, i.few, k.moves, k.some, j.few, j.on.inside)) (λ m1 e3 b v.
      does_give (goes_on {a = 0} i (record { on = on_on (omega (arith, i.shut)) (on_on k.on.low k.on j.on) b; ahead = omega (arith, k.moves, k.some, j.ahead); few = omega (arith, k.moves, k.some, j.few); shut = shut_lower (omega (arith, i.shut)) v }))))))
      (λ _. does_complete (here k.on) k.live (node_fits RANGE_EXPR (omega arith)) (omega (arith, i.few, k.moves, k.some, k.on.inside)) (λ m1 e3 b v.
      does_give (one_more {a = 0} i (record { on = on_on (omega (arith, i.shut)) k.on b; ahead = omega (arith, k.moves, k.some); few = omega (arith, k.moves, k.some); shut = shut_lower (omega (arith, i.shut)) v }))))))

module _ {W : World} {read : ℕ → Rule} (reads : Reads W read) {c : ℕ} {ev : List ℕ} {s0 : State} (b : ℕ) (lo : 1 ≤ b) (r : Room W 4 s0) where
  operator_turn_lem : (s : State) (m : CompletedMarker) (e : List ℕ) → Made W c ev s0 1 1 0 s m e → Does W (operator_turn W.ts read b m) (OpTurn W c ev s0 s m) s e
  unfolding operator_turn
  operator_turn_lem s m e i =
      does_look (does_bound _ _ (does_if _ _ _ (λ _. does_give i)
      (λ q. let l : 1 ≤ (current_op W.ts s.pos.0).strength = omega (arith, ltb-false (current_op W.ts s.pos.0).strength b q) in
      let f = (op_stands W.ts s.pos.0).stands_so l in
      does_if _ _ _
      (λ z. turns_on i (casts (here i.on) i.shut (subst (λ (k : ℕ). present W.ts s.pos.0 k ≡ true) (eqb-true _ AS_KW z) f.1) (omega (arith, i.few))))
      (λ _. does_if _ _ _ (λ _. ranges reads i r (current_op W.ts s.pos.0) l f.0 f.1) (λ _. turns_on i (bins reads i r (current_op W.ts s.pos.0) l f.0 f.1))))))

  operates : (s : State) (m : CompletedMarker) (e : List ℕ) → Made W c ev s0 1 1 0 s m e → Does W (operators W.ts read b m) (Made W c ev s0 1 1 0) s e
  unfolding operators
  operates s m e i = does_turns (Made W c ev s0 1 1 0) (λ s _. size W - s.pos.0) (Made W c ev s0 1 1 0) (operator_turn W.ts read b) operator_turn_lem (suc (size W)) s m e (omega arith) i

-- the reading itself, behind its start
module _ {W : World} {ev e : List ℕ} {s0 : State} {o : Marker} (a : On W s0.count ev (pushed s0 1) e) (w : Live s0.count o (pushed s0 1) e) (r : Room W 4 s0) where
  gives_up : {s1 : State} {e1 : List ℕ} → On W (s0.count + 1) e s1 e1 → s0.count + 2 ≤ s1.count → s0.pos.0 ≤ s1.pos.0 → s1.count + 11 * s0.pos.0 ≤ s0.count + 11 * s1.pos.0 + 4 → Does W (given_up o) (Read W ev s0) s1 e1
  unfolding given_up
  gives_up b k l q = does_abandon (here b) (still w b w.below) (omega (arith, w)) (λ e2 c. does_give (record { on = on_on (omega arith) (on_on (omega arith) a b) c; ahead = l; few = q; got = tt }))

  no_expressions : Does W (no_expression W.ts o) (Read W ev s0) (pushed s0 1) e
  unfolding no_expression
  no_expressions = does_then (errs (here a) (omega arith)) (λ s1 _ e1 k. gives_up k.on (omega (arith, k.more)) k.ahead (omega (arith, k.few, k.ahead)))

  module _ {read : ℕ → Rule} (reads : Reads W read) (at : s0.pos.0 < size W) where
    extends : Does W (extended W.ts read o) (Read W ev s0) (pushed s0 1) e
    unfolding extended extend_to
    extends =
        does_then (lefts reads (here a) at (omega arith)) (λ s1. elim [
          | Some m ↦ λ e1 g. does_extend (here g.on) (still w g.on w.below) g.got.2 w.below (λ e2 c v. does_give (record { on = on_on (omega arith) (on_on (omega arith) a g.on) c; ahead = g.ahead; few = omega (arith, g.got.1); got = (g.got.0, omega (arith, g.got.1), v) }))
          | None ↦ λ e1 g. gives_up g.on (omega (arith, g.got.0)) g.ahead (omega (arith, g.got.1))
        ])

    expressions : (b : ℕ) → 1 ≤ b → Does W (expression W.ts read b o) (Read W ev s0) (pushed s0 1) e
    unfolding expression given yields
    expressions b lo =
        does_then extends (λ s1. elim [
          | Some m ↦ λ e1 g. does_then (operates reads b lo r s1 m e1 (record { on = g.on; ahead = omega (arith, g.got.0); few = omega (arith, g.got.1); shut = g.got.2 })) (λ s2 m2 e2 k. does_give (record { on = k.on; ahead = omega (arith, k.ahead); few = omega (arith, k.few); got = (omega (arith, k.ahead), omega (arith, k.few), k.shut) }))
          | None ↦ λ e1 g. does_give g
        ])

pub reading : (W : World) (d : ℕ) → Reads W (expr_bp d W.ts)
unfolding expr_bp
reading W zero b lo s ev h r = does_look (does_refuse (inl refl))
reading W (suc d) b lo s ev h r =
    does_start h (omega (arith, h.inside)) (λ o e a w. does_look (does_bound _ _ (does_if _ _ _
    (λ q. expressions a w r (reading W d) (at_hand W.ts s.pos.0 refl (first_raw _ q).0) b lo)
    (λ _. no_expressions a w r))))
