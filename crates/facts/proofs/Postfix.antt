-- What the postfix forms do, for any inner reading that does what a reading does (`Reads`): arguments, calls, indices, fields, method calls, and the loop over them. The loop's turns are paid by tokens, and by the float whose dot was read. Assumes nothing.
use Rattle.std.proofs.Common.{Some, None}
use mathlib.Core.Path.{◌≡◌, refl, sym, subst}
use mathlib.Core.List.{List}
use mathlib.Core.Bool.{Bool, true, false}
use Prim.Native.Nat.{ℕ, suc, ◌+◌, ◌-◌, ◌*◌, ◌≤◌, ◌<◌}
use native.Mathlib.Omega.{arith}
use lib.Dec.{eqb, ltb}
use borrow.Author.Tests.{eqb-true, lt-ltb}
use Rattle.base.specs.Base.{whether, bound, Next, again, done}
use Rattle.base.proofs.Cases.{whether_by}
use Rattle.input.specs.SyntaxKind.{IDENT, FLOAT_NUMBER, AWAIT_KW, L_PAREN, L_BRACK, COMMA, DOT, QUESTION, COLON2, FIELD_EXPR, EXPECTED_METHOD_NAME, EXPECTED_FIELD, EXPECTED_COMMA}
use Rattle.input.specs.Input.{Tokens, kind_at, joint_at, present}
use Rattle.event.specs.declared.State.{State}
use Rattle.parser.specs.Prog.{Prog, then, Perhaps}
use Rattle.parser.specs.declared.Marker.{Marker}
use Rattle.parser.specs.declared.CompletedMarker.{CompletedMarker}
use Rattle.parser.proofs.Moves.{present_within}
use Rattle.grammar.specs.Expressions.{Rule, anyway, lone_comma, no_comma, after_argument, argument, arguments, arg_list, call_expr, index_expr, try_expr, dotted, await_expr, no_generics, method_name, method_head, onward, float_field, named_field, no_field, field, field_expr, is_method, name_at, method_call_expr, postfix_dot_expr, postfix_turn, postfix_expr}
use Rattle.facts.proofs.Does.{World, size, Post, Does, On, Here, Live, Shut, Fit, Room, Turned, on_on, here, lower, still, shut_lower, does_give, does_look, does_bound, does_if, does_then, does_weaken, does_turns, clash}
use Rattle.facts.proofs.Calls.{does_complete, does_precede, does_eat, does_error, does_split}
use Rattle.facts.proofs.Present.{at_hand, raw_kind, raw_wide, raw_present, raw_stands, field_raw}
use Rattle.facts.proofs.Atoms.{Came, Made, node_fits, code_fits, outside, made, closed, bumps, leafs, begins, leads, errs_and_bumps}

-- what a reading does from the state s on: no more than four events over eleven for each token; with an expression a token is taken, the events are one less, and its node is closed and without forward parent
pub record Read (W : World) (ev : List ℕ) (s : State) (s1 : State) (a : Perhaps CompletedMarker) (e : List ℕ) : Type 0 where
  pub on : On W s.count ev s1 e
  pub ahead : s.pos.0 ≤ s1.pos.0
  pub few : s1.count + 11 * s.pos.0 ≤ s.count + 11 * s1.pos.0 + 4
  pub got : elim a as (λ _. Type 0) [ Some m ↦ (s.pos.0 < s1.pos.0) × (s1.count + 11 * s.pos.0 + 1 ≤ s.count + 11 * s1.pos.0) × Shut s.count m s1 e | None ↦ Unit {0} ]

abbrev pub Reads : World → (ℕ → Rule) → Type 0
Reads W read = (b : ℕ) → 1 ≤ b → (s : State) (ev : List ℕ) → Here W s ev → Room W 4 s → Does W (read b) (Read W ev s) s ev

-- "Arguments": from s0 on, and at their end
abbrev So : World → List ℕ → State → State → Unit {0} → List ℕ → Type 0
So W ev s0 = Came W s0.count ev s0 0 0 0

abbrev End : World → List ℕ → State → State → Unit {0} → List ℕ → Type 0
End W ev s0 = Came W s0.count ev s0 0 0 4

abbrev ArgTurn : World → List ℕ → State → State → Post (Next (Unit {0}) (Unit {0}))
ArgTurn W ev s0 s = Turned (So W ev s0) (λ s _. size W - s.pos.0) (End W ev s0) s tt

after_argument_lem : {W : World} {ev e e1 : List ℕ} {s0 s s1 : State} → So W ev s0 s tt e → Room W 4 s0 → On W s.count e s1 e1 → s.pos.0 < s1.pos.0 → s1.count + 11 * s.pos.0 + 1 ≤ s.count + 11 * s1.pos.0 → Does W (after_argument W.ts) (ArgTurn W ev s0 s) s1 e1
unfolding after_argument no_comma
after_argument_lem i r a l q =
    does_eat (here a) (raw_kind COMMA (omega arith) (omega arith)) (omega (arith, i.few, a.inside))
    (λ e2 b k. does_give (record { on = on_on i.on.low i.on (on_on (omega (arith, a.low)) a b); ahead = omega (arith, i.ahead); few = omega (arith, i.few) }, omega (arith, b.inside)))
    (λ _. does_look (does_bound _ _ (does_if _ _ _
    (λ _. does_error (here a) (code_fits EXPECTED_COMMA (omega arith)) (omega (arith, i.few, a.inside)) (λ e2 b. does_give (record { on = on_on i.on.low i.on (on_on (omega (arith, a.low)) a b); ahead = omega (arith, i.ahead); few = omega (arith, i.few) }, omega (arith, a.inside))))
    (λ _. does_give (record { on = on_on i.on.low i.on a; ahead = omega (arith, i.ahead); few = omega (arith, i.few) })))))

module _ {W : World} {read : ℕ → Rule} (reads : Reads W read) where
  argument_turn : {ev : List ℕ} {s0 : State} → Room W 4 s0 → (s : State) (z : Unit {0}) (e : List ℕ) → So W ev s0 s z e → Does W (argument W.ts read) (ArgTurn W ev s0 s) s e
  unfolding argument lone_comma
  argument_turn r s z e i =
      does_look (does_bound _ _ (does_if _ _ _
      (λ _. does_give (record { on = i.on; ahead = i.ahead; few = omega (arith, i.few) }))
      (λ _. does_if _ _ _
      (λ q. does_then (errs_and_bumps (here i.on) (omega (arith, i.few))) (λ s1 _ e1 p.
      let l : s.pos.0 < s1.pos.0 = p.past (at_hand W.ts s.pos.0 (eqb-true _ COMMA q) (omega arith)) in
      does_give (record { on = on_on i.on.low i.on p.erred.on; ahead = omega (arith, i.ahead); few = omega (arith, i.few, p.erred.few) }, omega (arith, p.erred.on.inside))))
      (λ _. does_then (reads 1 (omega arith) s e (here i.on) (omega (arith, i.few)))
      (λ s1. elim [ Some m ↦ λ e1 g. after_argument_lem i r g.on g.got.0 g.got.1 | None ↦ λ e1 g. does_give (record { on = on_on i.on.low i.on g.on; ahead = omega (arith, i.ahead, g.ahead); few = omega (arith, i.few, g.few) }) ])))))

  module _ {s : State} {ev : List ℕ} (h : Here W s ev) where
    argues : Room W 4 s → Does W (arguments W.ts read) (Came W s.count ev s 0 0 4) s ev
    unfolding arguments
    argues r = does_turns (So W ev s) (λ s _. size W - s.pos.0) (End W ev s) (λ _. argument W.ts read) (argument_turn r) (suc (size W)) s tt ev (omega arith) (record { on = h; ahead = omega arith; few = omega arith })

  module _ {s : State} {ev : List ℕ} (h : Here W s ev) where
    arg_lists : present W.ts s.pos.0 L_PAREN ≡ true → Room W 0 s → Does W (arg_list W.ts read) (Made W s.count ev s 1 3 0) s ev
    unfolding arg_list
    arg_lists p r =
        let l = present_within W.ts s.pos.0 L_PAREN p in
        does_then (begins h L_PAREN (raw_kind L_PAREN (omega arith) (omega arith)) p (omega (arith, l))) (λ s1 o e k.
        does_then (argues (here k.on) (omega (arith, k.moves, k.some))) (λ s2 _ e2 j.
        closed (on_on k.on.low k.on j.on) (still k.live j.on k.live.below) (omega arith) (omega arith) (omega arith) (omega arith) (omega (arith, k.moves, k.some, j.few, j.on.inside)) (omega (arith, k.moves, k.some, j.ahead)) (omega (arith, k.moves, k.some, j.few))))

  module _ {s : State} {ev : List ℕ} (h : Here W s ev) {c : ℕ} {m : CompletedMarker} (v : Shut c m s ev) where
    calls : present W.ts s.pos.0 L_PAREN ≡ true → Room W 1 s → Does W (call_expr W.ts read m) (Made W c ev s 1 1 0) s ev
    unfolding call_expr
    calls p r =
        does_precede h v (omega (arith, h.inside)) (λ o e a w. does_then (arg_lists (here a) p (omega arith)) (λ s2 _ e2 k.
        made (on_on a.low a k.on) (still w k.on w.below) (omega (arith, v)) (omega arith) (omega (arith, k.few, k.on.inside)) k.ahead (omega (arith, k.few))))

    indexes : present W.ts s.pos.0 L_BRACK ≡ true → Room W 0 s → Does W (index_expr W.ts read m) (Made W c ev s 1 3 0) s ev
    unfolding index_expr anyway
    indexes p r =
        let l = present_within W.ts s.pos.0 L_BRACK p in
        does_then (leads h L_BRACK (raw_kind L_BRACK (omega arith) (omega arith)) p (omega (arith, l)) v) (λ s1 o e k.
        does_then (reads 1 (omega arith) s1 e (here k.on) (omega (arith, k.moves, k.some))) (λ s2 _ e2 j.
        closed (on_on k.on.low k.on j.on) (still k.live j.on k.live.below) (omega (arith, v)) (omega arith) (omega arith) (omega arith) (omega (arith, k.moves, k.some, j.few, j.on.inside)) (omega (arith, k.moves, k.some, j.ahead)) (omega (arith, k.moves, k.some, j.few))))

module _ {W : World} {s : State} {ev : List ℕ} (h : Here W s ev) {c : ℕ} {m : CompletedMarker} (v : Shut c m s ev) where
  tries : present W.ts s.pos.0 QUESTION ≡ true → Room W 0 s → Does W (try_expr m) (Made W c ev s 1 8 0) s ev
  unfolding try_expr
  tries p r =
      let l = present_within W.ts s.pos.0 QUESTION p in
      does_then (leads h QUESTION (raw_kind QUESTION (omega arith) (omega arith)) p (omega (arith, l)) v) (λ s1 o e k.
      made k.on k.live (omega (arith, v)) (omega arith) (omega (arith, k.moves, k.some, k.on.inside)) (omega (arith, k.moves, k.some)) (omega (arith, k.moves, k.some)))

-- a float whose dot was read pays for three events more, and for a turn
abbrev pub cost : Bool → ℕ
cost true = 3
cost false = 0

abbrev pub bit : Bool → ℕ
bit true = 1
bit false = 0

cost_most : (b : Bool) → cost b ≤ 3
cost_most true = omega arith
cost_most false = omega arith

bit_most : (b : Bool) → bit b ≤ 1
bit_most true = omega arith
bit_most false = omega arith

-- behind the dot: where the name stands
record Dotted (W : World) (c : ℕ) (ev : List ℕ) (s : State) (recovery : Bool) (s1 : State) (o : Marker) (e : List ℕ) : Type 0 where
  pub on : On W c ev s1 e
  pub at : s1.pos.0 ≡ name_at W.ts recovery s.pos.0
  pub ahead : 2 * s.pos.0 + 1 ≤ 2 * s1.pos.0 + bit recovery
  pub few : s1.count + 2 + 11 * s.pos.0 ≤ s.count + 11 * s1.pos.0 + cost recovery
  pub most : (s.count + 1 ≤ s1.count) × (s1.count ≤ s.count + 2)
  pub live : Live s.count o s1 e

-- at a dot, unless a float's was read
abbrev AtDot : World → Bool → State → Type 0
AtDot W true s = Unit {0}
AtDot W false s = eqb (kind_at W.ts s.pos.0) DOT ≡ true

module _ {W : World} {s : State} {ev : List ℕ} (h : Here W s ev) {c : ℕ} {m : CompletedMarker} (v : Shut c m s ev) where
  dots : (recovery : Bool) → AtDot W recovery s → Fit W 2 s → Does W (dotted recovery m) (Dotted W c ev s recovery) s ev
  unfolding dotted whether name_at
  dots true d f = does_precede h v (omega arith) (λ o e a w. does_give (record { on = a; at = refl; ahead = omega arith; few = omega arith; most = (omega arith, omega arith); live = w }))
  dots false d f =
      let l = raw_wide DOT (omega arith) in
      let n : ltb s.pos.0 (size W) ≡ true = lt-ltb s.pos.0 (size W) (at_hand W.ts s.pos.0 (eqb-true _ DOT d) (omega arith)) in
      does_weaken (leads h DOT (raw_kind DOT (omega arith) (omega arith)) (raw_present W.ts s.pos.0 DOT (omega arith) d (omega arith)) f v)
      (λ s1 o e k. record { on = k.on; at = rw n (omega (arith, k.moves)); ahead = omega (arith, k.moves); few = omega (arith, k.moves); most = (omega (arith, k.moves), omega (arith, k.moves)); live = k.live })

module _ {W : World} {s : State} {ev : List ℕ} (h : Here W s ev) {c : ℕ} {m : CompletedMarker} (v : Shut c m s ev) (recovery : Bool) (d : AtDot W recovery s) where
  awaits : eqb (kind_at W.ts (name_at W.ts recovery s.pos.0)) AWAIT_KW ≡ true → Room W 4 s → Does W (await_expr recovery m) (Made W c ev s 1 0 (cost recovery)) s ev
  unfolding await_expr
  awaits q r =
      does_then (dots h v recovery d (omega (arith, h.inside))) (λ s1 o e k.
      let p : present W.ts s1.pos.0 AWAIT_KW ≡ true = raw_present W.ts s1.pos.0 AWAIT_KW (omega arith) (subst (λ (i : ℕ). eqb (kind_at W.ts i) AWAIT_KW ≡ true) (sym k.at) q) (omega arith) in
      let b = bit_most recovery in let y = cost_most recovery in
      does_then (bumps (here k.on) AWAIT_KW (raw_kind AWAIT_KW (omega arith) (omega arith)) p (omega (arith, k.most, h.inside))) (λ s2 _ e2 j.
      made (on_on k.on.low k.on j.on) (still k.live j.on k.live.below) (omega (arith, v)) (omega arith) (omega (arith, k.most, k.few, j.moves, j.some, j.on.inside)) (omega (arith, k.ahead, j.moves, j.some)) (omega (arith, k.few, j.moves, j.some))))

-- a method name, and `(` behind it
module _ (ts : Tokens) (at : ℕ) where
  method_paren : is_method ts at ≡ true → eqb (kind_at ts at) IDENT ≡ true → present ts (at + 1) COLON2 ≡ false → eqb (kind_at ts (at + 1)) L_PAREN ≡ true
  unfolding is_method bound
  method_paren q i z =
      whether_by (λ b. b ≡ true → eqb (kind_at ts (at + 1)) L_PAREN ≡ true) (eqb (kind_at ts at) L_PAREN) _ _ (λ p _. absurd (omega (arith, eqb-true (kind_at ts at) L_PAREN p, eqb-true (kind_at ts at) IDENT i)))
      (λ _. whether_by (λ b. b ≡ true → eqb (kind_at ts (at + 1)) L_PAREN ≡ true) (eqb (kind_at ts at) IDENT) _ _
      (λ _. whether_by (λ b. b ≡ true → eqb (kind_at ts (at + 1)) L_PAREN ≡ true) (eqb (kind_at ts (at + 1)) L_PAREN) _ _ (λ p _. p) (λ _ y. absurd (clash y z)))
      (λ _ y. absurd (clash y refl))) q

  method_none : is_method ts at ≡ true → eqb (kind_at ts at) IDENT ≡ false → eqb (kind_at ts at) L_PAREN ≡ true
  unfolding is_method bound
  method_none q i =
      whether_by (λ b. b ≡ true → eqb (kind_at ts at) L_PAREN ≡ true) (eqb (kind_at ts at) L_PAREN) _ _ (λ p _. p)
      (λ _. whether_by (λ b. b ≡ true → eqb (kind_at ts at) L_PAREN ≡ true) (eqb (kind_at ts at) IDENT) _ _ (λ y _. absurd (clash y i)) (λ _ y. absurd (clash y refl))) q

record Named (W : World) (ev : List ℕ) (s : State) (s1 : State) (x : Unit {0}) (e : List ℕ) : Type 0 where
  pub on : On W s.count ev s1 e
  pub ahead : s.pos.0 ≤ s1.pos.0
  pub few : s1.count + 11 * s.pos.0 ≤ s.count + 11 * s1.pos.0 + 1
  pub paren : present W.ts s1.pos.0 L_PAREN ≡ true

module _ {W : World} {s : State} {ev : List ℕ} (h : Here W s ev) where
  method_names : is_method W.ts s.pos.0 ≡ true → Fit W 3 s → Does W (method_name W.ts) (Named W ev s) s ev
  unfolding method_name no_generics
  method_names q f =
      does_look (does_bound _ _ (does_if _ _ _
      (λ i. does_then (leafs h (at_hand W.ts s.pos.0 (eqb-true _ IDENT i) (omega arith)) (omega arith) f) (λ s1 _ e k.
      does_look (does_if _ _ _ (λ _. outside) (λ z. does_give (record {
        on = k.on;
        ahead = omega (arith, k.moves);
        few = omega (arith, k.moves);
        paren =
            raw_present W.ts s1.pos.0 L_PAREN (omega arith) (subst (λ (i : ℕ). eqb (kind_at W.ts i) L_PAREN ≡ true) (sym k.moves.0) (method_paren W.ts s.pos.0 q i (subst (λ (i : ℕ). present W.ts i COLON2 ≡ false) k.moves.0 z))) (omega arith);
      })))))
      (λ i. does_error h (code_fits EXPECTED_METHOD_NAME (omega arith)) (omega arith) (λ e a. does_give (record { on = a; ahead = omega arith; few = omega arith; paren = raw_present W.ts s.pos.0 L_PAREN (omega arith) (method_none W.ts s.pos.0 q i) (omega arith) })))))

module _ {W : World} {read : ℕ → Rule} (reads : Reads W read) {s : State} {ev : List ℕ} (h : Here W s ev) {c : ℕ} {m : CompletedMarker} (v : Shut c m s ev) (recovery : Bool) (d : AtDot W recovery s) where
  method_calls_lem : is_method W.ts (name_at W.ts recovery s.pos.0) ≡ true → Room W 4 s → Does W (method_call_expr W.ts read recovery m) (Made W c ev s 1 0 (cost recovery)) s ev
  unfolding method_call_expr method_head
  method_calls_lem q r =
      let b = bit_most recovery in let y = cost_most recovery in
      does_then {R = λ s2 o e2. On W c ev s2 e2 × Live s.count o s2 e2 × (s.pos.0 ≤ s2.pos.0) × (s2.count + 1 + 11 * s.pos.0 ≤ s.count + 11 * s2.pos.0 + cost recovery) × (present W.ts s2.pos.0 L_PAREN ≡ true)}
      (does_then (dots h v recovery d (omega (arith, h.inside))) (λ s1 o e k.
      does_then (method_names (here k.on) (subst (λ (i : ℕ). is_method W.ts i ≡ true) (sym k.at) q) (omega (arith, k.few, k.on.inside))) (λ s2 _ e2 j.
      does_give (on_on k.on.low k.on j.on, still k.live j.on k.live.below, omega (arith, k.ahead, j.ahead), omega (arith, k.few, j.few), j.paren))))
      (λ s2 o e2 k. does_then (arg_lists reads (here k.0) k.4 (omega (arith, k.3))) (λ s3 _ e3 j.
      made (on_on k.0.low k.0 j.on) (still k.1 j.on k.1.below) (omega (arith, v)) (omega arith) (omega (arith, k.3, j.few, j.on.inside)) (omega (arith, k.2, j.ahead)) (omega (arith, k.3, j.few))))

-- a turn over postfix forms
record Went (W : World) (c : ℕ) (ev : List ℕ) (s : State) (recovery : Bool) (s1 : State) (z : CompletedMarker × Bool) (e : List ℕ) : Type 0 where
  pub on : On W c ev s1 e
  pub shut : Shut c z.0 s1 e
  pub few : s1.count + 11 * s.pos.0 + cost z.1 ≤ s.count + 11 * s1.pos.0 + cost recovery
  pub ahead : s.pos.0 ≤ s1.pos.0
  pub less : 2 * s.pos.0 + bit z.1 < 2 * s1.pos.0 + bit recovery

abbrev Formed : World → ℕ → List ℕ → State → Bool → Post (Next (CompletedMarker × Bool) CompletedMarker)
Formed W c ev s recovery s1 n e = elim n [ again z ↦ Went W c ev s recovery s1 z e | done m ↦ Made W c ev s 0 0 0 s1 m e ]

module _ {W : World} {c : ℕ} {ev : List ℕ} {s : State} (recovery : Bool) where
  onwards : {p : Prog CompletedMarker} {a : ℕ} → Does W p (Made W c ev s 1 a (cost recovery)) s ev → Does W (onward p) (Formed W c ev s recovery) s ev
  unfolding onward
  onwards d = does_then d (λ s1 m e k. does_give (record { on = k.on; shut = k.shut; few = omega (arith, k.few); ahead = omega (arith, k.ahead); less = omega (arith, k.ahead) }))

  -- behind the dot
  module _ {s1 : State} {e : List ℕ} {o : Marker} (k : Dotted W c ev s recovery s1 o e) (l : c ≤ s.count) (r : Room W 4 s) where
    named_fields : s1.pos.0 < size W → Does W (onward (named_field o)) (Formed W c ev s recovery) s1 e
    unfolding onward named_field
    named_fields q =
        let y = cost_most recovery in let b = bit_most recovery in
        does_then {R = Made W c ev s 1 0 (cost recovery)} (does_then (leafs (here k.on) q (omega arith) (omega (arith, k.few))) (λ s2 _ e2 j.
        made (on_on k.on.low k.on j.on) (still k.live j.on k.live.below) l (omega arith) (omega (arith, k.few, j.moves, j.on.inside)) (omega (arith, k.ahead, j.moves)) (omega (arith, k.few, j.moves))))
        (λ s3 m e3 j. does_give (record { on = j.on; shut = j.shut; few = omega (arith, j.few); ahead = omega (arith, j.ahead); less = omega (arith, j.ahead) }))

    no_fields : Does W (onward (no_field o)) (Formed W c ev s recovery) s1 e
    unfolding onward no_field then
    no_fields =
        let y = cost_most recovery in let b = bit_most recovery in
        does_error (here k.on) (code_fits EXPECTED_FIELD (omega arith)) (omega (arith, k.few, k.on.inside)) (λ e2 a.
        does_complete (here a) (still k.live a k.live.below) (node_fits FIELD_EXPR (omega arith)) (omega (arith, k.few, k.on.inside)) (λ m e3 j v.
        does_give (record { on = on_on l (on_on k.on.low k.on a) j; shut = shut_lower l v; few = omega (arith, k.few); ahead = omega (arith, k.ahead); less = omega (arith, k.ahead) })))

    float_fields : eqb (kind_at W.ts s1.pos.0) FLOAT_NUMBER ≡ true → Does W (float_field W.ts o) (Formed W c ev s recovery) s1 e
    unfolding float_field
    float_fields q =
        let y = cost_most recovery in let b = bit_most recovery in
        let y1 = cost_most (eqb (joint_at W.ts s1.pos.0) 0) in let b1 = bit_most (eqb (joint_at W.ts s1.pos.0) 0) in
        let f = raw_stands W.ts s1.pos.0 FLOAT_NUMBER q (omega arith) in
        does_look (does_bound _ _ (does_split (here k.on) k.live f (omega (arith, k.few, at_hand W.ts s1.pos.0 (eqb-true _ FLOAT_NUMBER q) (omega arith))) (λ s2 m e2 a p n v.
        does_give (record { on = on_on l k.on a; shut = shut_lower l v; few = omega (arith, k.few); ahead = omega (arith, k.ahead); less = omega (arith, k.ahead) }))))

    fields : Does W (field W.ts o) (Formed W c ev s recovery) s1 e
    unfolding field
    fields =
        does_look (does_bound _ _ (does_if _ _ _
        (λ q. named_fields (at_hand W.ts s1.pos.0 refl (field_raw _ q).0))
        (λ _. does_if _ _ _ (λ q. float_fields q) (λ _. no_fields))))

module _ {W : World} {read : ℕ → Rule} (reads : Reads W read) {s : State} {ev : List ℕ} (h : Here W s ev) {c : ℕ} {m : CompletedMarker} (v : Shut c m s ev) where
  dot_forms : (recovery : Bool) → AtDot W recovery s → Room W 4 s → Does W (postfix_dot_expr W.ts read recovery m) (Formed W c ev s recovery) s ev
  unfolding postfix_dot_expr field_expr
  dot_forms recovery d r =
      let b = bit_most recovery in let y = cost_most recovery in
      does_look (does_bound _ _ (does_if _ _ _
      (λ q. onwards recovery (method_calls_lem reads h v recovery d q r))
      (λ _. does_bound _ _ (does_if _ _ _
      (λ q. onwards recovery (awaits h v recovery d q r))
      (λ _. does_if _ _ _
      (λ _. does_give (record { on = lower (omega (arith, v)) h; ahead = omega arith; few = omega arith; shut = v }))
      (λ _. does_then (dots h v recovery d (omega (arith, h.inside))) (λ s1 o e k. fields recovery k (omega (arith, v)) r)))))))

  forms : (z : Bool) → Room W 4 s → Does W (postfix_turn W.ts read (m, z)) (Formed W c ev s z) s ev
  unfolding postfix_turn
  forms true r = does_if _ _ _ (λ _. dot_forms true tt r) (λ q. absurd (clash refl q))
  forms false r =
      does_if _ _ _ (λ q. absurd (clash q refl)) (λ _. does_look (does_bound _ _ (does_if _ _ _
      (λ q. onwards false (calls reads h v (raw_present W.ts s.pos.0 L_PAREN (omega arith) q (omega arith)) (omega arith)))
      (λ _. does_if _ _ _
      (λ q. onwards false (indexes reads h v (raw_present W.ts s.pos.0 L_BRACK (omega arith) q (omega arith)) (omega arith)))
      (λ _. does_if _ _ _ (λ q. dot_forms false q r)
      (λ _. does_if _ _ _
      (λ q. onwards false (tries h v (raw_present W.ts s.pos.0 QUESTION (omega arith) q (omega arith)) (omega arith)))
      (λ _. does_give (record { on = lower (omega (arith, v)) h; ahead = omega arith; few = omega arith; shut = v }))))))))

-- the loop: so far a node from s0 on
record Forms (W : World) (c : ℕ) (ev : List ℕ) (s0 : State) (s : State) (z : CompletedMarker × Bool) (e : List ℕ) : Type 0 where
  pub on : On W c ev s e
  pub ahead : s0.pos.0 + 1 ≤ s.pos.0
  pub few : s.count + 11 * s0.pos.0 + 2 + cost z.1 ≤ s0.count + 11 * s.pos.0
  pub shut : Shut c z.0 s e

-- the turns that are left
abbrev μ_forms : World → State → CompletedMarker × Bool → ℕ
μ_forms W s z = 2 * (size W - s.pos.0) + bit z.1

module _ {W : World} {read : ℕ → Rule} (reads : Reads W read) {c : ℕ} {ev : List ℕ} {s0 : State} where
  turned : {s : State} {z : CompletedMarker × Bool} {e : List ℕ} → Forms W c ev s0 s z e → (s1 : State) (n : Next (CompletedMarker × Bool) CompletedMarker) (e1 : List ℕ) → Formed W c e s z.1 s1 n e1 → Turned (Forms W c ev s0) (μ_forms W) (Made W c ev s0 1 2 0) s z s1 n e1
  turned i s1 (again z1) e1 k = (record { on = on_on (omega arith) i.on k.on; ahead = omega (arith, i.ahead, k.ahead); few = omega (arith, i.few, k.few); shut = k.shut }, omega (arith, k.less, k.on.inside))
  turned i s1 (done m) e1 k = record { on = on_on (omega arith) i.on k.on; ahead = omega (arith, i.ahead, k.ahead); few = omega (arith, i.few, k.few); shut = k.shut }

  form_turn_lem : Room W 3 s0 → (s : State) (z : CompletedMarker × Bool) (e : List ℕ) → Forms W c ev s0 s z e → Does W (postfix_turn W.ts read z) (Turned (Forms W c ev s0) (μ_forms W) (Made W c ev s0 1 2 0) s z) s e
  form_turn_lem r s z e i = does_weaken (forms reads (here i.on) i.shut z.1 (omega (arith, i.few))) (turned i)

  pub postfixes : Room W 3 s0 → (s : State) (m : CompletedMarker) (e : List ℕ) → Made W c ev s0 1 2 0 s m e → Does W (postfix_expr W.ts read m) (Made W c ev s0 1 2 0) s e
  unfolding postfix_expr
  postfixes r s m e k = does_turns (Forms W c ev s0) (μ_forms W) (Made W c ev s0 1 2 0) (postfix_turn W.ts read) (form_turn_lem r) (suc (suc (2 * size W))) s (m, false) e (omega arith) (record { on = k.on; ahead = k.ahead; few = omega (arith, k.few); shut = k.shut })
