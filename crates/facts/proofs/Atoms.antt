-- What the rules do that read no expression inside: each from its first call to its last, with the room that it needs, how far it goes, and how many events it pushes (eleven for each token taken pay for them). Assumes nothing.
use mathlib.Core.Path.{◌≡◌, refl}
use mathlib.Core.List.{List}
use mathlib.Core.Bool.{true, false}
use mathlib.Core.Logic.{inl, inr}
use Prim.Native.Nat.{ℕ, suc, ◌+◌, ◌-◌, ◌*◌, ◌≤◌, ◌<◌}
use native.Mathlib.Omega.{arith}
use lib.Dec.{leb}
use borrow.Author.Tests.{leb-false, le-leb, eqb-true}
use Rattle.base.specs.Base.{whether}
use Rattle.base.proofs.Cases.{whether_by}
use Rattle.input.specs.SyntaxKind.{IDENT, AS_KW, COLON2, ERROR, PATH_SEGMENT, PATH_TYPE, EXPECTED_EXPRESSION, EXPECTED_COMMA, EXPECTED_TYPE, OUTSIDE_CUT}
use Rattle.input.specs.Input.{present, width_of, parts_of, row_parts, row_of, glued_table, is_glued, is_kind, is_node, is_code}
use Rattle.event.specs.declared.State.{State}
use Rattle.parser.specs.Calls.{pushed}
use Rattle.parser.specs.Prog.{give, refuse, complete, then}
use Rattle.parser.specs.declared.Marker.{Marker}
use Rattle.parser.specs.declared.CompletedMarker.{CompletedMarker}
use Rattle.parser.proofs.Moves.{present_within}
use Rattle.atoms.specs.Atom.{bump, begin, lead, expect, closing, leaf, begin_error, err_and_bump, err_recover, segment, first_path, qualified, turning, path_turn, path_rest, path, no_macro, plain_path, path_node, after_type, path_type, cast_type, cast_expr}
use Rattle.facts.proofs.Does.{World, size, Post, Does, On, Here, Live, Shut, Fit, Room, Moves, Turned, on_on, here, still, shut_lower, does_give, does_refuse, does_look, does_bound, does_if, does_then, does_weaken, does_turns, clash}
use Rattle.facts.proofs.Calls.{does_start, does_complete, does_precede, does_eat, does_bump_any, does_error}
use Rattle.facts.proofs.Present.{at_hand, raw_kind, glued_kind}

-- from the state s on: where the machine stands then, at least t tokens further, with a and b more events than eleven for each of them allow
pub record Came {A : Type 0} (W : World) (c : ℕ) (ev : List ℕ) (s : State) (t a b : ℕ) (s1 : State) (x : A) (e : List ℕ) : Type 0 where
  pub on : On W c ev s1 e
  pub ahead : s.pos.0 + t ≤ s1.pos.0
  pub few : s1.count + 11 * s.pos.0 + a ≤ s.count + 11 * s1.pos.0 + b

-- the same with a node made
pub record Made (W : World) (c : ℕ) (ev : List ℕ) (s : State) (t a b : ℕ) (s1 : State) (m : CompletedMarker) (e : List ℕ) : Type 0 where
  pub on : On W c ev s1 e
  pub ahead : s.pos.0 + t ≤ s1.pos.0
  pub few : s1.count + 11 * s.pos.0 + a ≤ s.count + 11 * s1.pos.0 + b
  pub shut : Shut c m s1 e

-- a node of exactly w tokens and k events
pub record Leafed (W : World) (ev : List ℕ) (s : State) (w k : ℕ) (s1 : State) (m : CompletedMarker) (e : List ℕ) : Type 0 where
  pub on : On W s.count ev s1 e
  pub moves : Moves w k s s1
  pub shut : Shut s.count m s1 e

-- a start and what was taken behind it
pub record Begun (W : World) (c : ℕ) (ev : List ℕ) (s : State) (w k : ℕ) (s1 : State) (o : Marker) (e : List ℕ) : Type 0 where
  pub on : On W c ev s1 e
  pub moves : Moves w k s s1
  pub some : 1 ≤ w
  pub live : Live s.count o s1 e

pub record Took (W : World) (ev : List ℕ) (s : State) (w : ℕ) (s1 : State) (x : Unit {0}) (e : List ℕ) : Type 0 where
  pub on : On W s.count ev s1 e
  pub moves : Moves w 1 s s1
  pub some : 1 ≤ w

pub node_fits : (node : ℕ) → (80 ≤ node) × (node ≤ 99) → is_node node ≡ true
unfolding is_node
node_fits node h = whether_by (λ b. b ≡ true) (leb ERROR node) (λ _. leb node PATH_TYPE) (λ _. false) (λ _. le-leb node PATH_TYPE h.1) (λ p. absurd (omega (arith, leb-false ERROR node p)))

pub code_fits : (code : ℕ) → (1 ≤ code) × (code ≤ 7) → is_code code ≡ true
unfolding is_code
code_fits code h = whether_by (λ b. b ≡ true) (leb EXPECTED_EXPRESSION code) (λ _. leb code EXPECTED_COMMA) (λ _. false) (λ _. le-leb code EXPECTED_COMMA h.1) (λ p. absurd (omega (arith, leb-false EXPECTED_EXPRESSION code p)))

pub outside : {W : World} {A : Type 0} {Q : Post A} {s : State} {ev : List ℕ} {at : ℕ} → Does W (refuse OUTSIDE_CUT at) Q s ev
outside = does_refuse (inr (inl refl))

module _ {W : World} {s0 s : State} {c : ℕ} {ev e : List ℕ} (a : On W c ev s e) where
  -- the end of a node
  pub made : {t x y c1 : ℕ} {o : Marker} {node : ℕ} → Live c1 o s e → c ≤ c1 → (80 ≤ node) × (node ≤ 99) → Fit W 1 s → s0.pos.0 + t ≤ s.pos.0 → s.count + 1 + 11 * s0.pos.0 + x ≤ s0.count + 11 * s.pos.0 + y → Does W (complete o node give) (Made W c ev s0 t x y) s e
  made {node = node} w l n f p q = does_complete (here a) w (node_fits node n) f (λ m e1 b v. does_give (record { on = on_on l a b; ahead = p; few = omega arith; shut = shut_lower l v }))

module _ {W : World} {s0 s : State} {c : ℕ} {ev e : List ℕ} (a : On W c ev s e) where
  -- the end of a node that a kind closes
  pub closed : {t x y c1 : ℕ} {o : Marker} {kind code node : ℕ} → Live c1 o s e → c ≤ c1 → (1 ≤ kind) × (kind ≤ 29) → (1 ≤ code) × (code ≤ 7) → (80 ≤ node) × (node ≤ 99) → Fit W 2 s → s0.pos.0 + t ≤ s.pos.0 → s.count + 2 + 11 * s0.pos.0 + x ≤ s0.count + 11 * s.pos.0 + y → Does W (closing kind code o node) (Made W c ev s0 t x y) s e
  unfolding closing expect
  closed {kind = kind} {code} w l i j n f p q =
      does_then {R = λ s1 _ e1. On W s.count e s1 e1 × (s.pos.0 ≤ s1.pos.0) × (s1.count ≡ s.count + 1)}
      (does_eat (here a) (raw_kind kind i.0 i.1) (omega arith) (λ e1 b k. does_give (b, omega arith, refl)) (λ _. does_error (here a) (code_fits code j) (omega arith) (λ e1 b. does_give (b, omega arith, refl))))
      (λ s1 _ e1 h. made (on_on a.low a h.0) (still w h.0 w.below) l n (omega arith) (omega arith) (omega arith))

module _ {W : World} {s : State} {ev : List ℕ} (h : Here W s ev) where
  pub bumps : (kind : ℕ) → is_kind kind ≡ true → present W.ts s.pos.0 kind ≡ true → Fit W 1 s → Does W (bump kind) (Took W ev s (width_of kind)) s ev
  unfolding bump
  bumps kind i p f = does_eat h i f (λ e b l. does_give (record { on = b; moves = (refl, refl); some = l })) (λ q. absurd (clash p q))

  pub leafs : {node : ℕ} → s.pos.0 < size W → (80 ≤ node) × (node ≤ 99) → Fit W 3 s → Does W (leaf node) (Leafed W ev s 1 3) s ev
  unfolding leaf
  leafs {node} l n f =
      does_start h (omega arith) (λ o e a w. does_bump_any (here a) (omega arith)
      (λ e1 b. does_complete (here b) (still w b w.below) (node_fits node n) (omega arith) (λ m e2 c v. does_give (record { on = on_on (omega arith) (on_on (omega arith) a b) c; moves = (omega arith, omega arith); shut = v })))
      (λ q. absurd (omega arith)))

-- a start and the kind at hand; a start before a closed node and the kind at hand
module _ {W : World} {s : State} {ev : List ℕ} (h : Here W s ev) (kind : ℕ) (i : is_kind kind ≡ true) (p : present W.ts s.pos.0 kind ≡ true) (f : Fit W 2 s) where
  after_start : {c : ℕ} {o : Marker} {e : List ℕ} → On W c ev (pushed s 1) e → Live s.count o (pushed s 1) e → c ≤ s.count → Does W (then (bump kind) λ _. give o) (Begun W c ev s (width_of kind) 2) (pushed s 1) e
  after_start a w l = does_then (bumps (here a) kind i p (omega arith)) (λ s1 _ e1 k. does_give (record { on = on_on (omega arith) a k.on; moves = (omega (arith, k.moves), omega (arith, k.moves)); some = k.some; live = still w k.on w.below }))

  pub begins : Does W (begin kind) (Begun W s.count ev s (width_of kind) 2) s ev
  unfolding begin
  begins = does_start h (omega arith) (λ o e a w. after_start a w (omega arith))

  pub leads : {c : ℕ} {m : CompletedMarker} → Shut c m s ev → Does W (lead m kind) (Begun W c ev s (width_of kind) 2) s ev
  unfolding lead
  leads v = does_precede h v (omega arith) (λ o e a w. after_start a w (omega (arith, v)))

-- an error with what stands around it: an event at least, and three more than tokens at most
pub record Erred (W : World) (ev : List ℕ) (s : State) (s1 : State) (x : Unit {0}) (e : List ℕ) : Type 0 where
  pub on : On W s.count ev s1 e
  pub ahead : s.pos.0 ≤ s1.pos.0
  pub more : s.count + 1 ≤ s1.count
  pub few : s1.count + s.pos.0 ≤ s.count + 3 + s1.pos.0

-- and at a token it goes past it
pub record Passed (W : World) (ev : List ℕ) (s : State) (s1 : State) (x : Unit {0}) (e : List ℕ) : Type 0 where
  pub erred : Erred W ev s s1 x e
  pub past : s.pos.0 < size W → s.pos.0 < s1.pos.0

module _ {W : World} {s : State} {ev : List ℕ} (h : Here W s ev) where
  -- (three events, and one for the token)
  error_node : {o : Marker} {s1 : State} {e : List ℕ} → On W s.count ev s1 e → Live s.count o s1 e → s1.count + s.pos.0 ≤ s.count + 2 + s1.pos.0 → s.count + 2 ≤ s1.count → s.pos.0 ≤ s1.pos.0 → (s.pos.0 < size W → s.pos.0 < s1.pos.0) → Fit W 1 s1 → Does W (complete o ERROR λ _. give tt) (Passed W ev s) s1 e
  error_node a w q k l p f = does_complete (here a) w (node_fits ERROR (omega arith)) f (λ m e1 b v. does_give (record { erred = record { on = on_on (omega arith) a b; ahead = l; more = omega arith; few = omega arith }; past = p }))

  pub errs_and_bumps : Room W 3 s → Does W err_and_bump (Passed W ev s) s ev
  unfolding err_and_bump begin_error then
  errs_and_bumps r =
      does_start h (omega (arith, h)) (λ o e a w. does_error (here a) (code_fits EXPECTED_EXPRESSION (omega arith)) (omega (arith, h)) (λ e1 b.
      does_bump_any (here b) (omega (arith, h))
      (λ e2 c. error_node (on_on (omega arith) (on_on (omega arith) a b) c) (still (still w b w.below) c (omega (arith, w))) (omega arith) (omega arith) (omega arith) (λ _. omega arith) (omega (arith, c.inside)))
      (λ q. error_node (on_on (omega arith) a b) (still w b w.below) (omega arith) (omega arith) (omega arith) (λ z. absurd (omega arith)) (omega (arith, h)))))

  pub errs : Room W 3 s → Does W (err_recover W.ts) (Erred W ev s) s ev
  unfolding err_recover
  errs r =
      does_look (does_bound _ _ (does_if _ _ _
      (λ _. does_error h (code_fits EXPECTED_EXPRESSION (omega arith)) (omega (arith, h)) (λ e b. does_give (record { on = b; ahead = omega arith; more = omega arith; few = omega arith })))
      (λ _. does_weaken (errs_and_bumps r) (λ s1 _ e p. p.erred))))

-- names and paths
module _ {W : World} {s : State} {ev : List ℕ} (h : Here W s ev) where
  pub segments : s.pos.0 < size W → Fit W 5 s → Does W segment (Leafed W ev s 1 5) s ev
  unfolding segment
  segments l f =
      does_start h (omega arith) (λ o e a w. does_then (leafs (here a) l (omega arith) (omega arith)) (λ s1 _ e1 k.
      does_complete (here k.on) (still w k.on w.below) (node_fits PATH_SEGMENT (omega arith)) (omega (arith, k.moves)) (λ m e2 c v. does_give (record { on = on_on (omega arith) (on_on (omega arith) a k.on) c; moves = (omega (arith, k.moves), omega (arith, k.moves)); shut = v }))))

module _ {W : World} {s : State} {ev : List ℕ} (h : Here W s ev) where
  first_paths : s.pos.0 < size W → Fit W 7 s → Does W first_path (Made W s.count ev s 1 4 0) s ev
  unfolding first_path
  first_paths l f = does_start h (omega arith) (λ o e a w. does_then (segments (here a) l (omega arith)) (λ s1 _ e1 k. made (on_on (omega arith) a k.on) (still w k.on w.below) (omega arith) (omega arith) (omega (arith, k.moves)) (omega (arith, k.moves)) (omega (arith, k.moves))))

colon2_wide : width_of COLON2 ≡ 2
unfolding width_of parts_of row_parts row_of glued_table is_glued whether
colon2_wide = refl

module _ {W : World} {s : State} {ev : List ℕ} (h : Here W s ev) where
  pub qualifies : {c : ℕ} {m : CompletedMarker} → Shut c m s ev → present W.ts s.pos.0 COLON2 ≡ true → s.pos.0 + 2 < size W → Fit W 8 s → Does W (qualified m) (Made W c ev s 1 0 0) s ev
  unfolding qualified
  qualifies v p l f =
      does_then (leads h COLON2 (glued_kind COLON2 (omega arith) (omega arith)) p (omega arith) v) (λ s1 o e1 k.
      does_then (segments (here k.on) (omega (arith, k.moves, colon2_wide)) (omega (arith, k.moves))) (λ s2 _ e2 j.
      made (on_on k.on.low k.on j.on) (still k.live j.on k.live.below) (omega (arith, v)) (omega arith) (omega (arith, k.moves, j.moves)) (omega (arith, k.moves, k.some, j.moves)) (omega (arith, k.moves, k.some, j.moves))))

-- the loop over the rest of a path: so far a path from s0 on, with room for what is left
pub record Pathed (W : World) (c : ℕ) (ev : List ℕ) (s0 : State) (a : ℕ) (s : State) (m : CompletedMarker) (e : List ℕ) : Type 0 where
  pub so_far : Made W c ev s0 1 a 0 s m e
  pub room : Room W 0 s

module _ {W : World} {c : ℕ} {ev : List ℕ} {s0 : State} {a : ℕ} where
  path_turns : (s : State) (m : CompletedMarker) (e : List ℕ) → Pathed W c ev s0 a s m e → Does W (path_turn W.ts m) (Turned (Pathed W c ev s0 a) (λ s _. size W - s.pos.0) (Made W c ev s0 1 a 0) s m) s e
  unfolding path_turn turning
  path_turns s m e i =
      let g = i.so_far in
      does_look (does_if _ _ _
      (λ p. does_bound _ _ (does_if _ _ _
      (λ q. let l : s.pos.0 + 2 < size W = at_hand W.ts (s.pos.0 + 2) (eqb-true _ IDENT q) (omega arith) in
      does_then (qualifies (here g.on) g.shut p l (omega (arith, i.room))) (λ s1 m1 e1 k.
      does_give (record { so_far = record { on = on_on (omega arith) g.on k.on; ahead = omega (arith, g.ahead, k.ahead); few = omega (arith, g.few, k.few); shut = k.shut }; room = omega (arith, i.room, k.few) }, omega (arith, k.ahead, k.on.inside))))
      (λ _. outside)))
      (λ _. does_give g))

  pub rests : (s : State) (m : CompletedMarker) (e : List ℕ) → Pathed W c ev s0 a s m e → Does W (path_rest W.ts m) (Made W c ev s0 1 a 0) s e
  unfolding path_rest
  rests s m e i = does_turns (Pathed W c ev s0 a) (λ s _. size W - s.pos.0) (Made W c ev s0 1 a 0) (path_turn W.ts) path_turns (suc (size W)) s m e (omega arith) i

module _ {W : World} {s : State} {ev : List ℕ} (h : Here W s ev) where
  paths : s.pos.0 < size W → Room W 0 s → Does W (path W.ts) (Made W s.count ev s 1 4 0) s ev
  unfolding path
  paths l r = does_then (first_paths h l (omega arith)) (λ s1 m e k. rests s1 m e (record { so_far = k; room = omega (arith, k.few) }))

  -- a look ahead: it changes nothing
  pub no_macro_lem : {Q : Post (Unit {0})} → Q s tt ev → Does W (no_macro W.ts) Q s ev
  unfolding no_macro
  no_macro_lem q = does_look (does_bound _ _ (does_if _ _ _ (λ _. does_if _ _ _ (λ _. does_give q) (λ _. outside)) (λ _. does_give q)))

  pub after_type_lem : {Q : Post (Unit {0})} → Q s tt ev → Does W (after_type W.ts) Q s ev
  unfolding after_type
  after_type_lem q = does_look (does_bound _ _ (does_if _ _ _ (λ _. outside) (λ _. does_if _ _ _ (λ _. does_if _ _ _ (λ _. does_give q) (λ _. outside)) (λ _. does_give q))))

module _ {W : World} {s : State} {ev : List ℕ} (h : Here W s ev) where
  plain_paths : s.pos.0 < size W → Room W 0 s → Does W (plain_path W.ts) (Came W s.count ev s 1 4 0) s ev
  unfolding plain_path
  plain_paths l r = does_then (paths h l r) (λ s1 m e k. no_macro_lem (here k.on) (record { on = k.on; ahead = k.ahead; few = k.few }))

module _ {W : World} {s : State} {ev : List ℕ} (h : Here W s ev) where
  pub path_nodes : {node : ℕ} → s.pos.0 < size W → (80 ≤ node) × (node ≤ 99) → Room W 1 s → Does W (path_node W.ts node) (Made W s.count ev s 1 2 0) s ev
  unfolding path_node
  path_nodes l n r =
      does_start h (omega arith) (λ o e a w. does_then (plain_paths (here a) l (omega arith)) (λ s1 _ e1 k.
      made (on_on (omega arith) a k.on) (still w k.on w.below) (omega arith) n (omega (arith, k.few, k.on.inside)) k.ahead (omega (arith, k.few))))

module _ {W : World} {s : State} {ev : List ℕ} (h : Here W s ev) where
  cast_types : Room W 1 s → Does W (cast_type W.ts) (Came W s.count ev s 0 0 1) s ev
  unfolding cast_type path_type
  cast_types r =
      does_look (does_bound _ _ (does_if _ _ _
      (λ q. does_then (path_nodes h (at_hand W.ts s.pos.0 (eqb-true _ IDENT q) (omega arith)) (omega arith) r) (λ s1 m e k. after_type_lem (here k.on) (record { on = k.on; ahead = omega (arith, k.ahead); few = omega (arith, k.few) })))
      (λ _. does_if _ _ _ (λ _. outside)
      (λ _. does_error h (code_fits EXPECTED_TYPE (omega arith)) (omega (arith, h.inside)) (λ e a. does_give (record { on = a; ahead = omega arith; few = omega arith }))))))

module _ {W : World} {s : State} {ev : List ℕ} (h : Here W s ev) where
  pub casts : {c : ℕ} {m : CompletedMarker} → Shut c m s ev → present W.ts s.pos.0 AS_KW ≡ true → Room W 0 s → Does W (cast_expr W.ts m) (Made W c ev s 1 7 0) s ev
  unfolding cast_expr
  casts v p r =
      let l = present_within W.ts s.pos.0 AS_KW p in
      does_then (leads h AS_KW (raw_kind AS_KW (omega arith) (omega arith)) p (omega (arith, l)) v) (λ s1 o e k.
      does_then (cast_types (here k.on) (omega (arith, k.moves, k.some))) (λ s2 _ e2 j.
      made (on_on k.on.low k.on j.on) (still k.live j.on k.live.below) (omega (arith, v)) (omega arith) (omega (arith, k.moves, k.some, j.few, j.on.inside)) (omega (arith, k.moves, k.some, j.ahead)) (omega (arith, k.moves, k.some, j.few))))
