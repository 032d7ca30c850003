-- What holds of every program, whatever it is: the position never falls and stays within the tokens, the lent list keeps its length. Each call is looked at once (it stays, or it goes on by what it took; a refusal or a no changes nothing), and one induction on programs carries a fact of the calls to all of them.
-- Besides: the principles by which a theorem goes through one answer of a call, a sequence and a loop. Assumes nothing.
use Rattle.std.proofs.Common.{Ok, Err, Some, None}
use mathlib.Core.Path.{◌≡◌, refl, sym, subst, ap, ◌∙◌}
use mathlib.Core.List.{List}
use mathlib.Core.Bool.{true}
use Prim.Native.Nat.{ℕ, zero, suc, ◌+◌, ◌-◌, ◌≤◌, ◌<◌}
use native.Mathlib.Omega.{arith}
use lib.ListN.{length, length-set}
use borrow.Author.Tests.{ltb-true}
use Rattle.base.specs.Base.{Next, again, done, on_next}
use Rattle.base.proofs.Cases.{whether_by, bound_by}
use Rattle.input.specs.SyntaxKind.{FLOAT_NUMBER}
use Rattle.input.specs.Input.{Tokens, stands, present, width_of}
use Rattle.input.proofs.Laws.{stands_says, width_bounds, present_inside}
use Rattle.input.specs.declared.Refusal.{Refusal}
use Rattle.event.specs.declared.State.{State}
use Rattle.parser.specs.Calls.{start_of, complete_of, abandon_of, precede_of, extend_of, eat_of, bump_any_of, error_of, split_dot_of, split_two_of, split_of, Opened, Closed, Moved, Taken, Parted}
use Rattle.parser.specs.Prog.{Prog, give, refuse, look, start, complete, abandon, precede, extend, eat, bump_any, error, split, then, turns, Reply, fine, bad, Ran, run, on_opened, on_closed, on_moved, on_taken, on_parted}
use Rattle.parser.proofs.Laws.{on_reply, run_then}
use Rattle.parser.specs.declared.Marker.{Marker}
use Rattle.parser.specs.declared.CompletedMarker.{CompletedMarker}

-- what an answer says: G of the state and list where the call did its work, H of the list where it did not

abbrev pub OpenedBy : (State → List ℕ → Type 0) → (List ℕ → Type 0) → Opened × List ℕ → Type 0
OpenedBy G H t = elim t.0 [ Ok (s1, o) ↦ G s1 t.1 | Err r ↦ H t.1 ]

abbrev pub ClosedBy : (State → List ℕ → Type 0) → (List ℕ → Type 0) → Closed × List ℕ → Type 0
ClosedBy G H t = elim t.0 [ Ok (s1, m) ↦ G s1 t.1 | Err r ↦ H t.1 ]

abbrev pub MovedBy : (State → List ℕ → Type 0) → (List ℕ → Type 0) → Moved × List ℕ → Type 0
MovedBy G H t = elim t.0 [ Ok s1 ↦ G s1 t.1 | Err r ↦ H t.1 ]

abbrev pub TakenBy : (State → List ℕ → Type 0) → (List ℕ → Type 0) → Taken × List ℕ → Type 0
TakenBy G H t = elim t.0 [ Ok (Some s1) ↦ G s1 t.1 | Ok None ↦ H t.1 | Err r ↦ H t.1 ]

abbrev pub PartedBy : (State → List ℕ → Type 0) → (List ℕ → Type 0) → Parted × List ℕ → Type 0
PartedBy G H t = elim t.0 [ Ok (Some (s1, m)) ↦ G s1 t.1 | Ok None ↦ H t.1 | Err r ↦ H t.1 ]

-- P holds of what follows a call where it holds of what follows each answer
module _ {A : Type 0} (P : A → Type 0) (G : State → List ℕ → Type 0) (H : List ℕ → Type 0) where
  opened_go : (x : Opened) (e : List ℕ) (k0 : State → Marker → List ℕ → A) (k1 : Refusal → List ℕ → A) → OpenedBy G H (x, e) → ((s1 : State) (o : Marker) (e : List ℕ) → G s1 e → P (k0 s1 o e)) → ((r : Refusal) (e : List ℕ) → H e → P (k1 r e)) → P (on_opened (x, e) k0 k1)
  unfolding on_opened
  opened_go (Ok (s1, o)) e k0 k1 q f0 f1 = f0 s1 o e q
  opened_go (Err r) e k0 k1 q f0 f1 = f1 r e q

  pub opened_by : (r : Opened × List ℕ) (k0 : State → Marker → List ℕ → A) (k1 : Refusal → List ℕ → A) → OpenedBy G H r → ((s1 : State) (o : Marker) (e : List ℕ) → G s1 e → P (k0 s1 o e)) → ((r : Refusal) (e : List ℕ) → H e → P (k1 r e)) → P (on_opened r k0 k1)
  opened_by r k0 k1 q f0 f1 = opened_go r.0 r.1 k0 k1 q f0 f1

  closed_go : (x : Closed) (e : List ℕ) (k0 : State → CompletedMarker → List ℕ → A) (k1 : Refusal → List ℕ → A) → ClosedBy G H (x, e) → ((s1 : State) (m : CompletedMarker) (e : List ℕ) → G s1 e → P (k0 s1 m e)) → ((r : Refusal) (e : List ℕ) → H e → P (k1 r e)) → P (on_closed (x, e) k0 k1)
  unfolding on_closed
  closed_go (Ok (s1, m)) e k0 k1 q f0 f1 = f0 s1 m e q
  closed_go (Err r) e k0 k1 q f0 f1 = f1 r e q

  pub closed_by : (r : Closed × List ℕ) (k0 : State → CompletedMarker → List ℕ → A) (k1 : Refusal → List ℕ → A) → ClosedBy G H r → ((s1 : State) (m : CompletedMarker) (e : List ℕ) → G s1 e → P (k0 s1 m e)) → ((r : Refusal) (e : List ℕ) → H e → P (k1 r e)) → P (on_closed r k0 k1)
  closed_by r k0 k1 q f0 f1 = closed_go r.0 r.1 k0 k1 q f0 f1

  moved_go : (x : Moved) (e : List ℕ) (k0 : State → List ℕ → A) (k1 : Refusal → List ℕ → A) → MovedBy G H (x, e) → ((s1 : State) (e : List ℕ) → G s1 e → P (k0 s1 e)) → ((r : Refusal) (e : List ℕ) → H e → P (k1 r e)) → P (on_moved (x, e) k0 k1)
  unfolding on_moved
  moved_go (Ok s1) e k0 k1 q f0 f1 = f0 s1 e q
  moved_go (Err r) e k0 k1 q f0 f1 = f1 r e q

  pub moved_by : (r : Moved × List ℕ) (k0 : State → List ℕ → A) (k1 : Refusal → List ℕ → A) → MovedBy G H r → ((s1 : State) (e : List ℕ) → G s1 e → P (k0 s1 e)) → ((r : Refusal) (e : List ℕ) → H e → P (k1 r e)) → P (on_moved r k0 k1)
  moved_by r k0 k1 q f0 f1 = moved_go r.0 r.1 k0 k1 q f0 f1

  taken_go : (x : Taken) (e : List ℕ) (k0 : State → List ℕ → A) (k1 : List ℕ → A) (k2 : Refusal → List ℕ → A) → TakenBy G H (x, e) → ((s1 : State) (e : List ℕ) → G s1 e → P (k0 s1 e)) → ((e : List ℕ) → H e → P (k1 e)) → ((r : Refusal) (e : List ℕ) → H e → P (k2 r e)) → P (on_taken (x, e) k0 k1 k2)
  unfolding on_taken
  taken_go (Ok (Some s1)) e k0 k1 k2 q f0 f1 f2 = f0 s1 e q
  taken_go (Ok None) e k0 k1 k2 q f0 f1 f2 = f1 e q
  taken_go (Err r) e k0 k1 k2 q f0 f1 f2 = f2 r e q

  pub taken_by : (r : Taken × List ℕ) (k0 : State → List ℕ → A) (k1 : List ℕ → A) (k2 : Refusal → List ℕ → A) → TakenBy G H r → ((s1 : State) (e : List ℕ) → G s1 e → P (k0 s1 e)) → ((e : List ℕ) → H e → P (k1 e)) → ((r : Refusal) (e : List ℕ) → H e → P (k2 r e)) → P (on_taken r k0 k1 k2)
  taken_by r k0 k1 k2 q f0 f1 f2 = taken_go r.0 r.1 k0 k1 k2 q f0 f1 f2

  parted_go : (x : Parted) (e : List ℕ) (k0 : State → CompletedMarker → List ℕ → A) (k1 : List ℕ → A) (k2 : Refusal → List ℕ → A) → PartedBy G H (x, e) → ((s1 : State) (m : CompletedMarker) (e : List ℕ) → G s1 e → P (k0 s1 m e)) → ((e : List ℕ) → H e → P (k1 e)) → ((r : Refusal) (e : List ℕ) → H e → P (k2 r e)) → P (on_parted (x, e) k0 k1 k2)
  unfolding on_parted
  parted_go (Ok (Some (s1, m))) e k0 k1 k2 q f0 f1 f2 = f0 s1 m e q
  parted_go (Ok None) e k0 k1 k2 q f0 f1 f2 = f1 e q
  parted_go (Err r) e k0 k1 k2 q f0 f1 f2 = f2 r e q

  pub parted_by : (r : Parted × List ℕ) (k0 : State → CompletedMarker → List ℕ → A) (k1 : List ℕ → A) (k2 : Refusal → List ℕ → A) → PartedBy G H r → ((s1 : State) (m : CompletedMarker) (e : List ℕ) → G s1 e → P (k0 s1 m e)) → ((e : List ℕ) → H e → P (k1 e)) → ((r : Refusal) (e : List ℕ) → H e → P (k2 r e)) → P (on_parted r k0 k1 k2)
  parted_by r k0 k1 k2 q f0 f1 f2 = parted_go r.0 r.1 k0 k1 k2 q f0 f1 f2

-- where a call leaves the position, it keeps the list's length too; where it takes tokens, it goes past at least one, and not past the last
abbrev pub Stays : State → List ℕ → State → List ℕ → Type 0
Stays s ev s1 e = (s1.pos.0 ≡ s.pos.0) × (length e ≡ length ev)

abbrev pub Goes : Tokens → State → List ℕ → State → List ℕ → Type 0
Goes ts s ev s1 e = (s.pos.0 < s1.pos.0) × (s1.pos.0 ≤ length ts.kinds) × (length e ≡ length ev)

pub stands_within : (ts : Tokens) (at kind : ℕ) → stands ts at kind ≡ true → at < length ts.kinds
stands_within ts at kind h = (stands_says ts at kind h).inside

pub present_within : (ts : Tokens) (at kind : ℕ) → present ts at kind ≡ true → (at < at + width_of kind) × (at + width_of kind ≤ length ts.kinds)
present_within ts at kind h = (let z : 1 ≤ width_of kind = (width_bounds kind).0 in omega arith, present_inside ts at kind h)

pub start_moves : (ts : Tokens) (s : State) (ev : List ℕ) → OpenedBy (Stays s ev) (λ e. e ≡ ev) (start_of s ev)
unfolding start_of
start_moves ts s ev =
    whether_by (OpenedBy (Stays s ev) (λ e. e ≡ ev)) _ _ _ (λ _. (refl, simp length-set)) (λ _. refl)

pub complete_moves : (ts : Tokens) (s : State) (o : Marker) (node : ℕ) (ev : List ℕ) → ClosedBy (Stays s ev) (λ e. e ≡ ev) (complete_of s o node ev)
unfolding complete_of
complete_moves ts s o node ev =
    whether_by (ClosedBy (Stays s ev) (λ e. e ≡ ev)) _ _ _ (λ _. whether_by (ClosedBy (Stays s ev) (λ e. e ≡ ev)) _ _ _ (λ _. whether_by (ClosedBy (Stays s ev) (λ e. e ≡ ev)) _ _ _ (λ _. (refl, simp length-set)) (λ _. refl)) (λ _. refl)) (λ _. refl)

pub abandon_moves : (ts : Tokens) (s : State) (o : Marker) (ev : List ℕ) → MovedBy (Stays s ev) (λ e. e ≡ ev) (abandon_of s o ev)
unfolding abandon_of
abandon_moves ts s o ev =
    whether_by (MovedBy (Stays s ev) (λ e. e ≡ ev)) _ _ _ (λ _. whether_by (MovedBy (Stays s ev) (λ e. e ≡ ev)) _ _ _ (λ _. (refl, simp length-set)) (λ _. (refl, simp length-set))) (λ _. refl)

pub precede_moves : (ts : Tokens) (s : State) (c : CompletedMarker) (ev : List ℕ) → OpenedBy (Stays s ev) (λ e. e ≡ ev) (precede_of s c ev)
unfolding precede_of
precede_moves ts s c ev =
    whether_by (OpenedBy (Stays s ev) (λ e. e ≡ ev)) _ _ _ (λ _. bound_by (OpenedBy (Stays s ev) (λ e. e ≡ ev)) _ _ (whether_by (OpenedBy (Stays s ev) (λ e. e ≡ ev)) _ _ _ (λ _. whether_by (OpenedBy (Stays s ev) (λ e. e ≡ ev)) _ _ _ (λ _. (refl, simp length-set)) (λ _. refl)) (λ _. refl))) (λ _. refl)

pub extend_moves : (ts : Tokens) (s : State) (c : CompletedMarker) (o : Marker) (ev : List ℕ) → ClosedBy (Stays s ev) (λ e. e ≡ ev) (extend_of s c o ev)
unfolding extend_of
extend_moves ts s c o ev =
    whether_by (ClosedBy (Stays s ev) (λ e. e ≡ ev)) _ _ _ (λ _. whether_by (ClosedBy (Stays s ev) (λ e. e ≡ ev)) _ _ _ (λ _. whether_by (ClosedBy (Stays s ev) (λ e. e ≡ ev)) _ _ _ (λ _. whether_by (ClosedBy (Stays s ev) (λ e. e ≡ ev)) _ _ _ (λ _. (refl, simp length-set)) (λ _. refl)) (λ _. refl)) (λ _. refl)) (λ _. refl)

pub eat_moves : (ts : Tokens) (s : State) (kind : ℕ) (ev : List ℕ) → TakenBy (Goes ts s ev) (λ e. e ≡ ev) (eat_of ts s kind ev)
unfolding eat_of
eat_moves ts s kind ev =
    whether_by (TakenBy (Goes ts s ev) (λ e. e ≡ ev)) _ _ _ (λ _. whether_by (TakenBy (Goes ts s ev) (λ e. e ≡ ev)) _ _ _ (λ h. whether_by (TakenBy (Goes ts s ev) (λ e. e ≡ ev)) _ _ _ (λ _. ((present_within ts s.pos.0 kind h).0, (present_within ts s.pos.0 kind h).1, simp length-set)) (λ _. refl)) (λ _. refl)) (λ _. refl)

pub bump_moves : (ts : Tokens) (s : State) (ev : List ℕ) → TakenBy (Goes ts s ev) (λ e. e ≡ ev) (bump_any_of ts s ev)
unfolding bump_any_of
bump_moves ts s ev =
    whether_by (TakenBy (Goes ts s ev) (λ e. e ≡ ev)) _ _ _ (λ h. whether_by (TakenBy (Goes ts s ev) (λ e. e ≡ ev)) _ _ _ (λ _. let z : s.pos.0 < length ts.kinds = ltb-true _ _ h in (omega arith, omega arith, simp length-set)) (λ _. refl)) (λ _. refl)

pub error_moves : (ts : Tokens) (s : State) (code : ℕ) (ev : List ℕ) → MovedBy (Stays s ev) (λ e. e ≡ ev) (error_of s code ev)
unfolding error_of
error_moves ts s code ev =
    whether_by (MovedBy (Stays s ev) (λ e. e ≡ ev)) _ _ _ (λ _. whether_by (MovedBy (Stays s ev) (λ e. e ≡ ev)) _ _ _ (λ _. (refl, simp length-set)) (λ _. refl)) (λ _. refl)

pub split_moves : (ts : Tokens) (s : State) (o : Marker) (ev : List ℕ) → PartedBy (Goes ts s ev) (λ e. e ≡ ev) (split_of ts s o ev)
unfolding split_of split_dot_of split_two_of
split_moves ts s o ev =
    whether_by (PartedBy (Goes ts s ev) (λ e. e ≡ ev)) _ _ _ (λ _. whether_by (PartedBy (Goes ts s ev) (λ e. e ≡ ev)) _ _ _ (λ h. whether_by (PartedBy (Goes ts s ev) (λ e. e ≡ ev)) _ _ _ (λ _. whether_by (PartedBy (Goes ts s ev) (λ e. e ≡ ev)) _ _ _ (λ _. let z : s.pos.0 < length ts.kinds = stands_within ts s.pos.0 FLOAT_NUMBER h in (omega arith, omega arith, simp length-set)) (λ _. refl)) (λ _. whether_by (PartedBy (Goes ts s ev) (λ e. e ≡ ev)) _ _ _ (λ _. let z : s.pos.0 < length ts.kinds = stands_within ts s.pos.0 FLOAT_NUMBER h in (omega arith, omega arith, simp length-set)) (λ _. refl))) (λ _. refl)) (λ _. refl)

-- what a call must keep for all programs to keep it
pub record Keeps (ts : Tokens) (G : State → List ℕ → Type 0) : Type 0 where
  pub of_start : (s : State) (ev : List ℕ) → G s ev → OpenedBy G (G s) (start_of s ev)
  pub of_complete : (s : State) (o : Marker) (node : ℕ) (ev : List ℕ) → G s ev → ClosedBy G (G s) (complete_of s o node ev)
  pub of_abandon : (s : State) (o : Marker) (ev : List ℕ) → G s ev → MovedBy G (G s) (abandon_of s o ev)
  pub of_precede : (s : State) (c : CompletedMarker) (ev : List ℕ) → G s ev → OpenedBy G (G s) (precede_of s c ev)
  pub of_extend : (s : State) (c : CompletedMarker) (o : Marker) (ev : List ℕ) → G s ev → ClosedBy G (G s) (extend_of s c o ev)
  pub of_eat : (s : State) (kind : ℕ) (ev : List ℕ) → G s ev → TakenBy G (G s) (eat_of ts s kind ev)
  pub of_bump : (s : State) (ev : List ℕ) → G s ev → TakenBy G (G s) (bump_any_of ts s ev)
  pub of_error : (s : State) (code : ℕ) (ev : List ℕ) → G s ev → MovedBy G (G s) (error_of s code ev)
  pub of_split : (s : State) (o : Marker) (ev : List ℕ) → G s ev → PartedBy G (G s) (split_of ts s o ev)

-- after a refusal the state is gone: G of the list and of some state
pub record Left (G : State → List ℕ → Type 0) (e : List ℕ) : Type 0 where
  pub state : State
  pub holds : G state e

-- what a reply says: Q of an answer, R of a refusal
abbrev pub ReplyBy : {A : Type 0} → (State → A → List ℕ → Type 0) → (Refusal → List ℕ → Type 0) → Ran A → Type 0
ReplyBy Q R r = elim r.0 [ fine s a ↦ Q s a r.1 | bad n ↦ R n r.1 ]

abbrev pub Kept : {A : Type 0} → (State → List ℕ → Type 0) → Ran A → Type 0
Kept G r = ReplyBy (λ s _ e. G s e) (λ _ e. Left G e) r

-- every program, whatever it is
pub run_keeps : {A : Type 0} (ts : Tokens) (G : State → List ℕ → Type 0) → Keeps ts G → (p : Prog A) (s : State) (ev : List ℕ) → G s ev → Kept G (run ts p s ev)
unfolding run
run_keeps ts G K (give a) s ev g = g
run_keeps ts G K (refuse n a) s ev g = record { state = s; holds = g }
run_keeps ts G K (look f) s ev g = run_keeps ts G K (f s.pos.0) s ev g
run_keeps ts G K (start f) s ev g = opened_by (Kept G) G (G s) (start_of s ev) _ _ (K.of_start s ev g) (λ s1 o e h. run_keeps ts G K (f o) s1 e h) (λ r e h. record { state = s; holds = h })
run_keeps ts G K (complete o node f) s ev g = closed_by (Kept G) G (G s) (complete_of s o node ev) _ _ (K.of_complete s o node ev g) (λ s1 m e h. run_keeps ts G K (f m) s1 e h) (λ r e h. record { state = s; holds = h })
run_keeps ts G K (abandon o p) s ev g = moved_by (Kept G) G (G s) (abandon_of s o ev) _ _ (K.of_abandon s o ev g) (λ s1 e h. run_keeps ts G K p s1 e h) (λ r e h. record { state = s; holds = h })
run_keeps ts G K (precede c f) s ev g = opened_by (Kept G) G (G s) (precede_of s c ev) _ _ (K.of_precede s c ev g) (λ s1 o e h. run_keeps ts G K (f o) s1 e h) (λ r e h. record { state = s; holds = h })
run_keeps ts G K (extend c o f) s ev g = closed_by (Kept G) G (G s) (extend_of s c o ev) _ _ (K.of_extend s c o ev g) (λ s1 m e h. run_keeps ts G K (f m) s1 e h) (λ r e h. record { state = s; holds = h })
run_keeps ts G K (eat kind p q) s ev g = taken_by (Kept G) G (G s) (eat_of ts s kind ev) _ _ _ (K.of_eat s kind ev g) (λ s1 e h. run_keeps ts G K p s1 e h) (λ e h. run_keeps ts G K q s e h) (λ r e h. record { state = s; holds = h })
run_keeps ts G K (bump_any p q) s ev g = taken_by (Kept G) G (G s) (bump_any_of ts s ev) _ _ _ (K.of_bump s ev g) (λ s1 e h. run_keeps ts G K p s1 e h) (λ e h. run_keeps ts G K q s e h) (λ r e h. record { state = s; holds = h })
run_keeps ts G K (error code p) s ev g = moved_by (Kept G) G (G s) (error_of s code ev) _ _ (K.of_error s code ev g) (λ s1 e h. run_keeps ts G K p s1 e h) (λ r e h. record { state = s; holds = h })
run_keeps ts G K (split o f q) s ev g = parted_by (Kept G) G (G s) (split_of ts s o ev) _ _ _ (K.of_split s o ev g) (λ s1 m e h. run_keeps ts G K (f m) s1 e h) (λ e h. run_keeps ts G K q s e h) (λ r e h. record { state = s; holds = h })

-- a fact of the position and the list's length: it is enough to look at a call that stays and at one that goes
module _ (ts : Tokens) (G : State → List ℕ → Type 0) (stay : (s : State) (ev : List ℕ) (s1 : State) (e : List ℕ) → Stays s ev s1 e → G s ev → G s1 e) (went : (s : State) (ev : List ℕ) (s1 : State) (e : List ℕ) → Goes ts s ev s1 e → G s ev → G s1 e) where
  same : (s : State) (ev e : List ℕ) → G s ev → e ≡ ev → G s e
  same s ev e g q = subst (λ (l : List ℕ). G s l) (sym q) g

  opened_kept : (s : State) (ev : List ℕ) → G s ev → (x : Opened) (e : List ℕ) → OpenedBy (Stays s ev) (λ e. e ≡ ev) (x, e) → OpenedBy G (G s) (x, e)
  opened_kept s ev g (Ok (s1, o)) e h = stay s ev s1 e h g
  opened_kept s ev g (Err r) e h = same s ev e g h

  closed_kept : (s : State) (ev : List ℕ) → G s ev → (x : Closed) (e : List ℕ) → ClosedBy (Stays s ev) (λ e. e ≡ ev) (x, e) → ClosedBy G (G s) (x, e)
  closed_kept s ev g (Ok (s1, m)) e h = stay s ev s1 e h g
  closed_kept s ev g (Err r) e h = same s ev e g h

  moved_kept : (s : State) (ev : List ℕ) → G s ev → (x : Moved) (e : List ℕ) → MovedBy (Stays s ev) (λ e. e ≡ ev) (x, e) → MovedBy G (G s) (x, e)
  moved_kept s ev g (Ok s1) e h = stay s ev s1 e h g
  moved_kept s ev g (Err r) e h = same s ev e g h

  taken_kept : (s : State) (ev : List ℕ) → G s ev → (x : Taken) (e : List ℕ) → TakenBy (Goes ts s ev) (λ e. e ≡ ev) (x, e) → TakenBy G (G s) (x, e)
  taken_kept s ev g (Ok (Some s1)) e h = went s ev s1 e h g
  taken_kept s ev g (Ok None) e h = same s ev e g h
  taken_kept s ev g (Err r) e h = same s ev e g h

  parted_kept : (s : State) (ev : List ℕ) → G s ev → (x : Parted) (e : List ℕ) → PartedBy (Goes ts s ev) (λ e. e ≡ ev) (x, e) → PartedBy G (G s) (x, e)
  parted_kept s ev g (Ok (Some (s1, m))) e h = went s ev s1 e h g
  parted_kept s ev g (Ok None) e h = same s ev e g h
  parted_kept s ev g (Err r) e h = same s ev e g h

  pub keeps : Keeps ts G
  keeps =
      record {
        of_start = λ s ev g. opened_kept s ev g (start_of s ev).0 (start_of s ev).1 (start_moves ts s ev);
        of_complete = λ s o node ev g. closed_kept s ev g (complete_of s o node ev).0 (complete_of s o node ev).1 (complete_moves ts s o node ev);
        of_abandon = λ s o ev g. moved_kept s ev g (abandon_of s o ev).0 (abandon_of s o ev).1 (abandon_moves ts s o ev);
        of_precede = λ s c ev g. opened_kept s ev g (precede_of s c ev).0 (precede_of s c ev).1 (precede_moves ts s c ev);
        of_extend = λ s c o ev g. closed_kept s ev g (extend_of s c o ev).0 (extend_of s c o ev).1 (extend_moves ts s c o ev);
        of_eat = λ s kind ev g. taken_kept s ev g (eat_of ts s kind ev).0 (eat_of ts s kind ev).1 (eat_moves ts s kind ev);
        of_bump = λ s ev g. taken_kept s ev g (bump_any_of ts s ev).0 (bump_any_of ts s ev).1 (bump_moves ts s ev);
        of_error = λ s code ev g. moved_kept s ev g (error_of s code ev).0 (error_of s code ev).1 (error_moves ts s code ev);
        of_split = λ s o ev g. parted_kept s ev g (split_of ts s o ev).0 (split_of ts s o ev).1 (split_moves ts s o ev);
      }

-- "the position never falls"
pub onward : {A : Type 0} (ts : Tokens) (p : Prog A) (q : ℕ) (s : State) (ev : List ℕ) → q ≤ s.pos.0 → Kept (λ s1 _. q ≤ s1.pos.0) (run ts p s ev)
onward ts p q s ev h = run_keeps ts (λ s1 _. q ≤ s1.pos.0) (keeps ts (λ s1 _. q ≤ s1.pos.0) (λ s ev s1 e m g. omega arith) (λ s ev s1 e m g. omega arith)) p s ev h

-- it stays within the tokens
pub stays_within : {A : Type 0} (ts : Tokens) (p : Prog A) (s : State) (ev : List ℕ) → s.pos.0 ≤ length ts.kinds → Kept (λ s1 _. s1.pos.0 ≤ length ts.kinds) (run ts p s ev)
stays_within ts p s ev h = run_keeps ts (λ s1 _. s1.pos.0 ≤ length ts.kinds) (keeps ts (λ s1 _. s1.pos.0 ≤ length ts.kinds) (λ s ev s1 e m g. omega arith) (λ s ev s1 e m g. omega arith)) p s ev h

-- the lent list keeps its length
length_go : {A : Type 0} (x : Reply A) (e : List ℕ) (n : ℕ) → Kept (λ _ l. length l ≡ n) (x, e) → length e ≡ n
length_go (fine s a) e n h = h
length_go (bad r) e n h = h.holds

pub run_length : {A : Type 0} (ts : Tokens) (p : Prog A) (s : State) (ev : List ℕ) → length (run ts p s ev).1 ≡ length ev
run_length ts p s ev = length_go (run ts p s ev).0 (run ts p s ev).1 (length ev) (run_keeps ts (λ _ l. length l ≡ length ev) (keeps ts (λ _ l. length l ≡ length ev) (λ s ev s1 e m g. omega arith) (λ s ev s1 e m g. omega arith)) p s ev refl)

-- P of a sequence, by what the first program's reply says
then_go : {A B : Type 0} (P : Ran B → Type 0) (Q : State → A → List ℕ → Type 0) (R : Refusal → List ℕ → Type 0) (k : State → A → List ℕ → Ran B) (x : Reply A) (e : List ℕ) → ReplyBy Q R (x, e) → ((s : State) (a : A) (e : List ℕ) → Q s a e → P (k s a e)) → ((r : Refusal) (e : List ℕ) → R r e → P (bad r, e)) → P (on_reply (x, e) k)
unfolding on_reply
then_go P Q R k (fine s a) e h f g = f s a e h
then_go P Q R k (bad r) e h f g = g r e h

pub then_by : {A B : Type 0} (P : Ran B → Type 0) (Q : State → A → List ℕ → Type 0) (R : Refusal → List ℕ → Type 0) (ts : Tokens) (p : Prog A) (k : A → Prog B) (s : State) (ev : List ℕ) → ReplyBy Q R (run ts p s ev) → ((s1 : State) (a : A) (e : List ℕ) → Q s1 a e → P (run ts (k a) s1 e)) → ((r : Refusal) (e : List ℕ) → R r e → P (bad r, e)) → P (run ts (then p k) s ev)
then_by {A} {B} P Q R ts p k s ev h f g = subst (λ (r : Ran B). P r) (sym (run_then ts p k s ev)) (then_go P Q R (λ s1 a e. run ts (k a) s1 e) (run ts p s ev).0 (run ts p s ev).1 h f g)

-- P of a loop: I holds from turn to turn while μ falls, and P of what ends it. So its turns are never used up.
module _ {S A : Type 0} (P : Ran A → Type 0) (I : State → S → List ℕ → Type 0) (μ : State → S → List ℕ → ℕ) where
  abbrev pub TurnBy : State → S → List ℕ → Ran (Next S A) → Type 0
  TurnBy s z ev r = ReplyBy (λ s1 n e. elim n [ again z1 ↦ I s1 z1 e × (μ s1 z1 e < μ s z ev) | done a ↦ P (fine s1 a, e) ]) (λ r e. P (bad r, e)) r

  module _ (ts : Tokens) (f : S → Prog (Next S A)) (turn : (s : State) (z : S) (ev : List ℕ) → I s z ev → TurnBy s z ev (run ts (f z) s ev)) where
    next_go : (k : ℕ) (s : State) (z : S) (ev : List ℕ) → ((s1 : State) (z1 : S) (e : List ℕ) → μ s1 z1 e < k → I s1 z1 e → P (run ts (turns k f z1) s1 e)) → μ s z ev < suc k → (s1 : State) (n : Next S A) (e : List ℕ) → TurnBy s z ev (fine s1 n, e) → P (run ts (on_next n (λ z1. turns k f z1) give) s1 e)
    unfolding on_next run
    next_go k s z ev step l s1 (again z1) e h = step s1 z1 e (omega arith) h.0
    next_go k s z ev step l s1 (done a) e h = h

    pub turns_by : (k : ℕ) (s : State) (z : S) (ev : List ℕ) → μ s z ev < k → I s z ev → P (run ts (turns k f z) s ev)
    unfolding turns
    turns_by zero s z ev l i = absurd (omega arith)
    turns_by (suc k) s z ev l i = then_by P (λ s1 n e. TurnBy s z ev (fine s1 n, e)) (λ r e. P (bad r, e)) ts (f z) (λ n. on_next n (λ z1. turns k f z1) give) s ev (turn s z ev i) (next_go k s z ev (λ s1 z1 e m j. turns_by k s1 z1 e m j) l) (λ _ _ h. h)

-- for the measure of a loop: after a taking call fewer tokens are left
module _ (ts : Tokens) (s s1 : State) (ev e : List ℕ) where
  pub eat_less : (kind : ℕ) {x : Taken} → (x, e) ≡ eat_of ts s kind ev → x ≡ Ok (Some s1) → length ts.kinds - s1.pos.0 < length ts.kinds - s.pos.0
  eat_less kind p q = let z : Goes ts s ev s1 e = subst (λ (r : Taken × List ℕ). TakenBy (Goes ts s ev) (λ e. e ≡ ev) r) (sym p ∙ ap (λ (y : Taken). (y, e)) q) (eat_moves ts s kind ev) in omega arith

  pub bump_less : {x : Taken} → (x, e) ≡ bump_any_of ts s ev → x ≡ Ok (Some s1) → length ts.kinds - s1.pos.0 < length ts.kinds - s.pos.0
  bump_less p q = let z : Goes ts s ev s1 e = subst (λ (r : Taken × List ℕ). TakenBy (Goes ts s ev) (λ e. e ≡ ev) r) (sym p ∙ ap (λ (y : Taken). (y, e)) q) (bump_moves ts s ev) in omega arith

  pub split_less : (o : Marker) {x : Parted} {m : CompletedMarker} → (x, e) ≡ split_of ts s o ev → x ≡ Ok (Some (s1, m)) → length ts.kinds - s1.pos.0 < length ts.kinds - s.pos.0
  split_less o p q = let z : Goes ts s ev s1 e = subst (λ (r : Parted × List ℕ). PartedBy (Goes ts s ev) (λ e. e ≡ ev) r) (sym p ∙ ap (λ (y : Parted). (y, e)) q) (split_moves ts s o ev) in omega arith
