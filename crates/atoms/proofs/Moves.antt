-- What the rules take: a rule that takes a kind goes on beyond it, so each rule that makes a node here takes a token before it ends, and each turn over the names of a path leaves fewer tokens.
-- By the machine's own moves (a taking call goes on within the list, any other stays) and one step a rule. Assumes nothing.
use Rattle.std.proofs.Common.{Result, Ok, Err, Some, None}
use mathlib.Core.Path.{◌≡◌, sym, ap, subst, ◌∙◌}
use mathlib.Core.List.{List}
use Prim.Native.Nat.{ℕ, suc, ◌-◌, ◌≤◌, ◌<◌}
use native.Mathlib.Omega.{arith}
use native.Mathlib.Nat.{le_refl}
use lib.ListN.{length, length-set}
use borrow.Author.Tests.{ltb-false}
use Rattle.base.specs.Base.{Next, again, done}
use Rattle.base.proofs.Cases.{whether_by, bound_by}
use Rattle.input.specs.SyntaxKind.{AS_KW, COLON2}
use Rattle.input.specs.Input.{Tokens}
use Rattle.input.specs.declared.Refusal.{Refusal}
use Rattle.event.specs.declared.State.{State}
use Rattle.parser.specs.declared.Marker.{Marker}
use Rattle.parser.specs.declared.CompletedMarker.{CompletedMarker}
use Rattle.parser.specs.Calls.{Taken, start_of, precede_of, error_of, eat_of, bump_any_of}
use Rattle.parser.specs.Prog.{Prog, refuse, start, precede, bump_any, then, Reply, fine, bad, Ran, run, on_taken}
use Rattle.parser.proofs.Moves.{ReplyBy, Kept, Stays, Goes, opened_by, moved_by, taken_by, then_by, start_moves, precede_moves, error_moves, eat_moves, bump_moves, onward as never_falls}
use Rattle.atoms.specs.declared.Turn.{Turn}
use Rattle.atoms.specs.declared.Turn.TheVariants as turn
use Rattle.atoms.specs.Views.{turn_reply}
use Rattle.atoms.specs.Atom.{Node, bump, begin, lead, leaf, begin_error, err_and_bump, segment, first_path, qualified, Turning, turning, path_turn, path, plain_path, path_node, cast_expr}

-- an answer stands beyond q, a position of the list
abbrev pub Past : Tokens → ℕ → State → Type 0
Past ts q s = (q < s.pos.0) × (q < length ts.kinds)

abbrev pub Beyond : {A : Type 0} → Tokens → ℕ → Ran A → Type 0
Beyond ts q r = ReplyBy (λ s1 _ _. Past ts q s1) (λ _ _. Unit {0}) r

module _ (ts : Tokens) (q : ℕ) where
  pub beyond_go : {A : Type 0} (x : Reply A) (e : List ℕ) → q < length ts.kinds → Kept (λ s1 _. suc q ≤ s1.pos.0) (x, e) → Beyond ts q (x, e)
  beyond_go (fine s a) e l h = (omega arith, l)
  beyond_go (bad r) e l h = tt

  -- whatever goes on from beyond q
  pub beyond_on : {A : Type 0} (p : Prog A) (s : State) (ev : List ℕ) → Past ts q s → Beyond ts q (run ts p s ev)
  beyond_on p s ev h = beyond_go (run ts p s ev).0 (run ts p s ev).1 h.1 (never_falls ts p (suc q) s ev (omega arith))

  pub from_go : {A : Type 0} (x : Reply A) (e : List ℕ) → Kept (λ s1 _. q ≤ s1.pos.0) (x, e) → ReplyBy (λ s1 _ _. q ≤ s1.pos.0) (λ _ _. Unit {0}) (x, e)
  from_go (fine s a) e h = h
  from_go (bad r) e h = tt

  -- a rule after one that takes; a rule that takes after any
  pub then_beyond : {A B : Type 0} (p : Prog A) (k : A → Prog B) (s : State) (ev : List ℕ) → Beyond ts q (run ts p s ev) → Beyond ts q (run ts (then p k) s ev)
  then_beyond p k s ev h = then_by (Beyond ts q) (λ s1 _ _. Past ts q s1) (λ _ _. Unit {0}) ts p k s ev h (λ s1 a e g. beyond_on (k a) s1 e g) (λ _ _ _. tt)

  pub then_later : {A B : Type 0} (p : Prog A) (k : A → Prog B) (s : State) (ev : List ℕ) → q ≤ s.pos.0 → ((a : A) (s1 : State) (e : List ℕ) → q ≤ s1.pos.0 → Beyond ts q (run ts (k a) s1 e)) → Beyond ts q (run ts (then p k) s ev)
  then_later p k s ev l h = then_by (Beyond ts q) (λ s1 _ _. q ≤ s1.pos.0) (λ _ _. Unit {0}) ts p k s ev (from_go (run ts p s ev).0 (run ts p s ev).1 (never_falls ts p q s ev l)) (λ s1 a e g. h a s1 e g) (λ _ _ _. tt)

  module _ (s : State) (ev : List ℕ) (l : q ≤ s.pos.0) where
    pub start_beyond : {A : Type 0} (f : Marker → Prog A) → ((o : Marker) (s1 : State) (e : List ℕ) → q ≤ s1.pos.0 → Beyond ts q (run ts (f o) s1 e)) → Beyond ts q (run ts (start f) s ev)
    unfolding run
    start_beyond f h = opened_by (Beyond ts q) (Stays s ev) (λ e. e ≡ ev) (start_of s ev) _ _ (start_moves ts s ev) (λ s1 o e g. h o s1 e (omega arith)) (λ _ _ _. tt)

    pub precede_beyond : {A : Type 0} (m : CompletedMarker) (f : Marker → Prog A) → ((o : Marker) (s1 : State) (e : List ℕ) → q ≤ s1.pos.0 → Beyond ts q (run ts (f o) s1 e)) → Beyond ts q (run ts (precede m f) s ev)
    unfolding run
    precede_beyond m f h = opened_by (Beyond ts q) (Stays s ev) (λ e. e ≡ ev) (precede_of s m ev) _ _ (precede_moves ts s m ev) (λ s1 o e g. h o s1 e (omega arith)) (λ _ _ _. tt)

    pub bump_beyond : (kind : ℕ) → Beyond ts q (run ts (bump kind) s ev)
    unfolding bump run
    bump_beyond kind = taken_by (Beyond ts q) (Goes ts s ev) (λ e. e ≡ ev) (eat_of ts s kind ev) _ _ _ (eat_moves ts s kind ev) (λ s1 e g. (omega arith, omega arith)) (λ _ _. tt) (λ _ _ _. tt)

    pub any_beyond : {A : Type 0} (p : Prog A) → Beyond ts q (run ts (bump_any p (refuse 8 0)) s ev)
    unfolding run
    any_beyond p = taken_by (Beyond ts q) (Goes ts s ev) (λ e. e ≡ ev) (bump_any_of ts s ev) _ _ _ (bump_moves ts s ev) (λ s1 e g. beyond_on p s1 e (omega arith, omega arith)) (λ _ _. tt) (λ _ _ _. tt)

  pub begin_beyond : (kind : ℕ) (s : State) (ev : List ℕ) → q ≤ s.pos.0 → Beyond ts q (run ts (begin kind) s ev)
  unfolding begin
  begin_beyond kind s ev l = start_beyond s ev l _ (λ o s1 e h. then_beyond (bump kind) _ s1 e (bump_beyond s1 e h kind))

  pub lead_beyond : (m : CompletedMarker) (kind : ℕ) (s : State) (ev : List ℕ) → q ≤ s.pos.0 → Beyond ts q (run ts (lead m kind) s ev)
  unfolding lead
  lead_beyond m kind s ev l = precede_beyond s ev l m _ (λ o s1 e h. then_beyond (bump kind) _ s1 e (bump_beyond s1 e h kind))

  pub leaf_beyond : (node : ℕ) (s : State) (ev : List ℕ) → q ≤ s.pos.0 → Beyond ts q (run ts (leaf node) s ev)
  unfolding leaf
  leaf_beyond node s ev l = start_beyond s ev l _ (λ o s1 e h. any_beyond s1 e h _)

  pub segment_beyond : (s : State) (ev : List ℕ) → q ≤ s.pos.0 → Beyond ts q (run ts segment s ev)
  unfolding segment
  segment_beyond s ev l = start_beyond s ev l _ (λ o s1 e h. then_beyond (leaf _) _ s1 e (leaf_beyond _ s1 e h))

  pub first_beyond : (s : State) (ev : List ℕ) → q ≤ s.pos.0 → Beyond ts q (run ts first_path s ev)
  unfolding first_path
  first_beyond s ev l = start_beyond s ev l _ (λ o s1 e h. then_beyond segment _ s1 e (segment_beyond s1 e h))

  pub path_node_beyond : (node : ℕ) (s : State) (ev : List ℕ) → q ≤ s.pos.0 → Beyond ts q (run ts (path_node ts node) s ev)
  unfolding path_node plain_path path
  path_node_beyond node s ev l = start_beyond s ev l _ (λ o s1 e h. then_beyond (plain_path ts) _ s1 e (then_beyond (path ts) _ s1 e (then_beyond first_path _ s1 e (first_beyond s1 e h))))

-- a turn that goes on stands beyond q
abbrev pub Going : {S A : Type 0} → Tokens → ℕ → State → Next S A → Type 0
Going ts q s (again z) = Past ts q s
Going ts q s (done a) = Unit {0}

abbrev pub Turns : {S A : Type 0} → Tokens → ℕ → Ran (Next S A) → Type 0
Turns ts q r = ReplyBy (λ s1 n _. Going ts q s1 n) (λ _ _. Unit {0}) r

pub going_go : {S A : Type 0} (ts : Tokens) (q : ℕ) (x : Reply (Next S A)) (e : List ℕ) → Beyond ts q (x, e) → Turns ts q (x, e)
going_go ts q (fine s (again z)) e h = h
going_go ts q (fine s (done a)) e h = tt
going_go ts q (bad r) e h = tt

pub going : {S A : Type 0} (ts : Tokens) (q : ℕ) (p : Prog (Next S A)) (s : State) (ev : List ℕ) → Beyond ts q (run ts p s ev) → Turns ts q (run ts p s ev)
going ts q p s ev h = going_go ts q (run ts p s ev).0 (run ts p s ev).1 h

pub turning_goes : (ts : Tokens) (q : ℕ) (p : Node) (s : State) (ev : List ℕ) → Beyond ts q (run ts p s ev) → Turns ts q (run ts (turning p) s ev)
unfolding turning
turning_goes ts q p s ev h = going ts q (turning p) s ev (then_beyond ts q p _ s ev h)

pub qualified_beyond : (ts : Tokens) (q : ℕ) (m : CompletedMarker) (s : State) (ev : List ℕ) → q ≤ s.pos.0 → Beyond ts q (run ts (qualified m) s ev)
unfolding qualified
qualified_beyond ts q m s ev l = then_beyond ts q (lead m COLON2) _ s ev (lead_beyond ts q m COLON2 s ev l)

pub cast_beyond : (ts : Tokens) (q : ℕ) (m : CompletedMarker) (s : State) (ev : List ℕ) → q ≤ s.pos.0 → Beyond ts q (run ts (cast_expr ts m) s ev)
unfolding cast_expr
cast_beyond ts q m s ev l = then_beyond ts q (lead m AS_KW) _ s ev (lead_beyond ts q m AS_KW s ev l)

pub path_goes : (ts : Tokens) (m : CompletedMarker) (s : State) (ev : List ℕ) → Turns ts s.pos.0 (run ts (path_turn ts m) s ev)
unfolding path_turn run
path_goes ts m s ev =
    whether_by (λ (p : Turning). Turns ts s.pos.0 (run ts p s ev)) _ _ _
    (λ _. bound_by (λ (p : Turning). Turns ts s.pos.0 (run ts p s ev)) _ _
    (whether_by (λ (p : Turning). Turns ts s.pos.0 (run ts p s ev)) _ _ _
    (λ _. turning_goes ts s.pos.0 (qualified m) s ev (qualified_beyond ts s.pos.0 m s ev (le_refl _)))
    (λ _. tt)))
    (λ _. tt)

-- at a token of the list, one can be taken
abbrev pub TakenIn : Tokens → State → List ℕ → Taken × List ℕ → Type 0
TakenIn ts s ev t = elim t.0 [ Ok (Some s1) ↦ Goes ts s ev s1 t.1 | Ok None ↦ ⊥ | Err r ↦ Unit {0} ]

pub bump_inside : (ts : Tokens) (s : State) (ev : List ℕ) → s.pos.0 < length ts.kinds → TakenIn ts s ev (bump_any_of ts s ev)
unfolding bump_any_of
bump_inside ts s ev l =
    whether_by (TakenIn ts s ev) _ _ _
    (λ _. whether_by (TakenIn ts s ev) _ _ _ (λ _. (omega arith, omega arith, length-set ev s.count _)) (λ _. tt))
    (λ n. let z : length ts.kinds ≤ s.pos.0 = ltb-false _ _ n in absurd (omega arith))

pub inside_go : {A : Type 0} (ts : Tokens) (q : ℕ) (s : State) (ev : List ℕ) (p r : Prog A) → q ≤ s.pos.0 → (x : Taken) (e : List ℕ) → TakenIn ts s ev (x, e) → Beyond ts q (on_taken (x, e) (λ s1 e. run ts p s1 e) (λ e. run ts r s e) (λ n e. (bad n, e)))
unfolding on_taken
inside_go ts q s ev p r l (Ok (Some s1)) e h = beyond_on ts q p s1 e (omega arith, omega arith)
inside_go ts q s ev p r l (Ok None) e h = absurd h
inside_go ts q s ev p r l (Err n) e h = tt

pub any_inside : {A : Type 0} (ts : Tokens) (q : ℕ) (p r : Prog A) (s : State) (ev : List ℕ) → q ≤ s.pos.0 → s.pos.0 < length ts.kinds → Beyond ts q (run ts (bump_any p r) s ev)
unfolding run
any_inside ts q p r s ev l i = inside_go ts q s ev p r l (bump_any_of ts s ev).0 (bump_any_of ts s ev).1 (bump_inside ts s ev i)

pub begin_error_stays : (ts : Tokens) (s : State) (ev : List ℕ) → ReplyBy (λ s1 _ _. s1.pos.0 ≡ s.pos.0) (λ _ _. Unit {0}) (run ts begin_error s ev)
unfolding begin_error run
begin_error_stays ts s ev =
    opened_by (ReplyBy {A = Marker} (λ s1 _ _. s1.pos.0 ≡ s.pos.0) (λ _ _. Unit {0})) (Stays s ev) (λ e. e ≡ ev) (start_of s ev) _ _ (start_moves ts s ev)
    (λ s1 o e h. moved_by (ReplyBy {A = Marker} (λ s2 _ _. s2.pos.0 ≡ s.pos.0) (λ _ _. Unit {0})) (Stays s1 e) (λ l. l ≡ e) (error_of s1 _ e) _ _ (error_moves ts s1 _ e) (λ s2 e2 h2. omega arith) (λ _ _ _. tt))
    (λ _ _ _. tt)

pub err_and_bump_beyond : (ts : Tokens) (s : State) (ev : List ℕ) → s.pos.0 < length ts.kinds → Beyond ts s.pos.0 (run ts err_and_bump s ev)
unfolding err_and_bump
err_and_bump_beyond ts s ev l =
    then_by (Beyond ts s.pos.0) (λ s1 _ _. s1.pos.0 ≡ s.pos.0) (λ _ _. Unit {0}) ts begin_error _ s ev (begin_error_stays ts s ev)
    (λ s1 o e h. any_inside ts s.pos.0 _ _ s1 e (omega arith) (omega arith)) (λ _ _ _. tt)

-- for the measures of the loops
module _ (ts : Tokens) (s s1 : State) (ev e : List ℕ) where
  fell : Past ts s.pos.0 s1 → length ts.kinds - s1.pos.0 < length ts.kinds - s.pos.0
  fell h = omega arith

  pub path_less : (m : CompletedMarker) {m1 : CompletedMarker} (x : Result Turn Refusal) → (turn_reply x, e) ≡ run ts (path_turn ts m) s ev → x ≡ Ok (turn.Again s1 m1) → length ts.kinds - s1.pos.0 < length ts.kinds - s.pos.0
  unfolding turn_reply
  path_less m x p q = fell (subst (λ (r : Ran (Next CompletedMarker CompletedMarker)). Turns ts s.pos.0 r) (sym p ∙ ap (λ (y : Result Turn Refusal). (turn_reply y, e)) q) (path_goes ts m s ev))
