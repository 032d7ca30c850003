-- Laws for `search`: for an answer without a marker and each case of a turn what reply it stands for, for a node as one of these, for a call as the last thing of a rule, for an early return. Each is a step of congruence. Assumes nothing.
use Rattle.std.proofs.Common.{Result, Ok, Err, Option, Some, None}
use mathlib.Core.Path.{◌≡◌, refl, sym, ap, ◌∙◌}
use mathlib.Core.List.{List}
use mathlib.Core.Bool.{Bool, true, false, not}
use Prim.Native.Nat.{ℕ}
use borrow.Author.Tests.{not-true, not-false}
use Rattle.std.specs.Result.{IsErr, IsErrAnd}
use Rattle.std.specs.Option.{unwrap_or}
use Rattle.base.proofs.Laws.{passed_on, passed_beside}
use Rattle.base.specs.Base.{whether, Next, again, done}
use Rattle.input.specs.Input.{Tokens}
use Rattle.input.specs.declared.Refusal.{Refusal}
use Rattle.event.specs.declared.State.{State}
use Rattle.parser.specs.declared.Marker.{Marker}
use Rattle.parser.specs.declared.CompletedMarker.{CompletedMarker}
use Rattle.parser.specs.Calls.{Opened, Closed, Moved, Taken, bump_any_of, complete_of, precede_of, error_of}
use Rattle.parser.specs.Prog.{Prog, give, complete, precede, bump_any, error, fine, bad, Ran, run, on_opened, on_closed, on_moved}
use Rattle.parser.proofs.Laws.{bump_took, bump_no, steps, then_fine, then_bad, run_yes, run_no, as_done}
use Rattle.atoms.specs.declared.Turn.{Turn}
use Rattle.atoms.specs.declared.Turn.TheVariants as turn
use Rattle.atoms.specs.Atom.{turning}
use Rattle.atoms.specs.Views.{moved_reply, turn_reply, ended_of, turn_of}

-- Moved
pub moved_on : {x : Moved} {s : State} → x ≡ Ok s → moved_reply x ≡ fine s tt
unfolding moved_reply
moved_on q = ap moved_reply q

pub is_moved_on : (s : State) (ev : List ℕ) → ◌≡◌ {A = Ran (Unit {0})} (moved_reply (Ok s), ev) (fine s tt, ev)
unfolding moved_reply
is_moved_on s ev = refl

pub moved_refused : {x : Moved} {r : Refusal} → x ≡ Err r → moved_reply x ≡ bad r
unfolding moved_reply
moved_refused q = ap moved_reply q

pub is_moved_refused : (r : Refusal) (ev : List ℕ) → ◌≡◌ {A = Ran (Unit {0})} (moved_reply (Err r), ev) (bad r, ev)
unfolding moved_reply
is_moved_refused r ev = refl

pub moved_passed : (x : Moved) {r : Refusal} (ev : List ℕ) → IsErr x × IsErrAnd x (λ y. y ≡ r) → ◌≡◌ {A = Ran (Unit {0})} (moved_reply x, ev) (bad r, ev)
moved_passed x ev h = ap (λ y. (y, ev)) (moved_refused (passed_on h))

-- a turn
pub turn_again : {x : Result Turn Refusal} {s : State} {m : CompletedMarker} → x ≡ Ok (turn.Again s m) → turn_reply x ≡ fine s (again m)
unfolding turn_reply
turn_again q = ap turn_reply q

pub is_turn_again : (s : State) (m : CompletedMarker) (ev : List ℕ) → ◌≡◌ {A = Ran (Next CompletedMarker CompletedMarker)} (turn_reply (Ok (turn.Again s m)), ev) (fine s (again m), ev)
unfolding turn_reply
is_turn_again s m ev = refl

pub turn_done : {x : Result Turn Refusal} {s : State} {m : CompletedMarker} → x ≡ Ok (turn.Done s m) → turn_reply x ≡ fine s (done m)
unfolding turn_reply
turn_done q = ap turn_reply q

pub is_turn_done : (s : State) (m : CompletedMarker) (ev : List ℕ) → ◌≡◌ {A = Ran (Next CompletedMarker CompletedMarker)} (turn_reply (Ok (turn.Done s m)), ev) (fine s (done m), ev)
unfolding turn_reply
is_turn_done s m ev = refl

pub turn_refused : {x : Result Turn Refusal} {r : Refusal} → x ≡ Err r → turn_reply x ≡ bad r
unfolding turn_reply
turn_refused q = ap turn_reply q

pub is_turn_refused : (r : Refusal) (ev : List ℕ) → ◌≡◌ {A = Ran (Next CompletedMarker CompletedMarker)} (turn_reply (Err r), ev) (bad r, ev)
unfolding turn_reply
is_turn_refused r ev = refl

pub turn_passed : (x : Result Turn Refusal) {r : Refusal} (ev : List ℕ) → IsErr x × IsErrAnd x (λ y. y ≡ r) → ◌≡◌ {A = Ran (Next CompletedMarker CompletedMarker)} (turn_reply x, ev) (bad r, ev)
turn_passed x ev h = ap (λ y. (y, ev)) (turn_refused (passed_on h))

-- a call of the machine as the last thing of a rule
module _ (ts : Tokens) (s : State) (ev : List ℕ) {e : List ℕ} where
  pub last_complete : (o : Marker) (node : ℕ) {x : Closed} → (x, e) ≡ complete_of s o node ev → (x, e) ≡ run ts (complete o node give) s ev
  unfolding run on_closed
  last_complete o node {x} p = p ∙ go (complete_of s o node ev).0 (complete_of s o node ev).1
    where
      go : (y : Closed) (e : List ℕ) → ◌≡◌ {A = Ran CompletedMarker} (y, e) (on_closed (y, e) (λ s1 m e. (fine s1 m, e)) (λ r e. (bad r, e)))
      go (Ok (s, m)) e = refl
      go (Err r) e = refl

  pub last_error : (code : ℕ) {x : Moved} → (x, e) ≡ error_of s code ev → (moved_reply x, e) ≡ run ts (error code (give tt)) s ev
  unfolding run on_moved moved_reply
  last_error code {x} p = ap (λ r. (moved_reply r.0, r.1)) p ∙ go (error_of s code ev).0 (error_of s code ev).1
    where
      go : (y : Moved) (e : List ℕ) → ◌≡◌ {A = Ran (Unit {0})} (moved_reply y, e) (on_moved (y, e) (λ s1 e. (fine s1 tt, e)) (λ r e. (bad r, e)))
      go (Ok s) e = refl
      go (Err r) e = refl

  pub last_precede : (c : CompletedMarker) {x : Opened} → (x, e) ≡ precede_of s c ev → (x, e) ≡ run ts (precede c give) s ev
  unfolding run on_opened
  last_precede c {x} p = p ∙ go (precede_of s c ev).0 (precede_of s c ev).1
    where
      go : (y : Opened) (e : List ℕ) → ◌≡◌ {A = Ran Marker} (y, e) (on_opened (y, e) (λ s1 m e. (fine s1 m, e)) (λ r e. (bad r, e)))
      go (Ok (s, m)) e = refl
      go (Err r) e = refl

-- taking any token where the end goes on in the same way
pub bump_either : {A : Type 0} {out : Ran A} (ts : Tokens) (s : State) (ev : List ℕ) (p : Prog A) {x : Taken} {o : Option State} {s1 : State} {e : List ℕ} → (x, e) ≡ bump_any_of ts s ev → x ≡ Ok o → s1 ≡ unwrap_or o s → out ≡ run ts p s1 e → out ≡ run ts (bump_any p p) s ev
bump_either ts s ev p {o = Some s2} {s1} {e} a b d h = bump_took ts s ev p p a b (h ∙ ap (λ z. run ts p z e) d)
bump_either ts s ev p {o = None} {s1} {e} a b d h = bump_no ts s ev p p a b (h ∙ ap (λ z. run ts p z e) d)

-- a node turned into a turn of a loop, or into the state alone
pub turning_is : (ts : Tokens) (p : Prog CompletedMarker) (s : State) (ev : List ℕ) (x : Closed) {y : Result Turn Refusal} {e : List ℕ} → (x, e) ≡ run ts p s ev → y ≡ turn_of x → (turn_reply y, e) ≡ run ts (turning p) s ev
unfolding turning turn_of turn_reply run
turning_is ts p s ev x {y} {e} r q = ap (λ z. (turn_reply z, e)) q ∙ go x r
  where
    go : (x : Closed) → (x, e) ≡ run ts p s ev → (turn_reply (turn_of x), e) ≡ run ts (turning p) s ev
    go (Ok (s1, m)) r = then_fine ts s ev p _ r refl refl
    go (Err n) r = then_bad ts s ev p _ r refl refl

pub last_turn : (ts : Tokens) (o : Marker) (node : ℕ) (s : State) (ev : List ℕ) {x : Closed} {y : Result Turn Refusal} {e : List ℕ} → (x, e) ≡ complete_of s o node ev → y ≡ turn_of x → (turn_reply y, e) ≡ run ts (complete o node λ m. give (again m)) s ev
unfolding run on_closed turn_reply turn_of
last_turn ts o node s ev {x} {y} {e} p q = ap (λ z. (turn_reply z, e)) q ∙ ap (λ r. (turn_reply (turn_of r.0), r.1)) p ∙ go (complete_of s o node ev).0 (complete_of s o node ev).1
  where
    go : (y : Closed) (e : List ℕ) → ◌≡◌ {A = Ran (Next CompletedMarker CompletedMarker)} (turn_reply (turn_of y), e) (on_closed (y, e) (λ s1 m e. (fine s1 (again m), e)) (λ r e. (bad r, e)))
    go (Ok (s, m)) e = refl
    go (Err r) e = refl

pub last_ended : (ts : Tokens) (o : Marker) (node : ℕ) (s : State) (ev : List ℕ) {x : Closed} {y : Moved} {e : List ℕ} → (x, e) ≡ complete_of s o node ev → y ≡ ended_of x → (moved_reply y, e) ≡ run ts (complete o node (λ _. give tt)) s ev
unfolding run on_closed moved_reply ended_of
last_ended ts o node s ev {x} {y} {e} p q = ap (λ z. (moved_reply z, e)) q ∙ ap (λ r. (moved_reply (ended_of r.0), r.1)) p ∙ go (complete_of s o node ev).0 (complete_of s o node ev).1
  where
    go : (y : Closed) (e : List ℕ) → ◌≡◌ {A = Ran (Unit {0})} (moved_reply (ended_of y), e) (on_closed (y, e) (λ s1 m e. (fine s1 tt, e)) (λ r e. (bad r, e)))
    go (Ok (s, m)) e = refl
    go (Err r) e = refl

-- an early return tests a flag x the other way round
module _ {A : Type 0} {out : Ran A} (ts : Tokens) (s : State) (ev : List ℕ) (f g : Unit {0} → Prog A) {x : Bool} (b : Bool) where
  pub run_held : x ≡ b → not x ≡ false → out ≡ run ts (f tt) s ev → out ≡ run ts (whether b f g) s ev
  run_held p q h = run_yes ts s ev f g (sym p ∙ not-false x q) h

  pub run_failed : x ≡ b → not x ≡ true → out ≡ run ts (g tt) s ev → out ≡ run ts (whether b f g) s ev
  run_failed p q h = run_no ts s ev f g (sym p ∙ not-true x q) h

-- a turn of a loop, as the loop has it
module _ (ts : Tokens) (p : Prog (Next CompletedMarker CompletedMarker)) (st : State) (ev : List ℕ) (x : Result Turn Refusal) {e : List ℕ} where
  pub turn_ends : {s : State} {m : CompletedMarker} → (turn_reply x, e) ≡ run ts p st ev → x ≡ Ok (turn.Done s m) → (as_done (fine s m), e) ≡ run ts p st ev
  unfolding as_done turn_reply
  turn_ends r q = ap (λ (y : Result Turn Refusal). (turn_reply y, e)) (sym q) ∙ r

  pub turn_stops : {n : Refusal} → (turn_reply x, e) ≡ run ts p st ev → x ≡ Err n → (as_done {A = CompletedMarker} (bad n), e) ≡ run ts p st ev
  unfolding as_done turn_reply
  turn_stops r q = ap (λ (y : Result Turn Refusal). (turn_reply y, e)) (sym q) ∙ r

  pub turn_goes : {s : State} {m : CompletedMarker} → (turn_reply x, e) ≡ run ts p st ev → x ≡ Ok (turn.Again s m) → (fine s (again m), e) ≡ run ts p st ev
  unfolding turn_reply
  turn_goes r q = ap (λ (y : Result Turn Refusal). (turn_reply y, e)) (sym q) ∙ r

pub ruleset turnings = (turn_ends, turn_stops, turn_goes)

pub ruleset atoms = (steps, turning_is, last_turn, last_ended, passed_beside, moved_on, is_moved_on, moved_refused, is_moved_refused, moved_passed, turn_again, is_turn_again, turn_done, is_turn_done, turn_refused, is_turn_refused, turn_passed, bump_either, last_complete, last_error, last_precede, run_held, run_failed)
