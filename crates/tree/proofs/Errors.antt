-- An error stays: once an error event stands below the count, every program keeps it, since a call changes only starts and pops only one. Assumes nothing.
use mathlib.Core.Path.{◌≡◌, refl, sym, ap, ◌∙◌}
use mathlib.Core.List.{List}
use mathlib.Core.Bool.{true}
use Prim.Native.Nat.{ℕ, ◌+◌, ◌≤◌, ◌<◌}
use native.Mathlib.Omega.{arith}
use lib.ListN.{length, get_or, set}
use lib.Seq.{get_or-set_same, get_or-set_other}
use borrow.Author.Tests.{eqb-true}
use Rattle.base.proofs.Cases.{whether_by, bound_by}
use Rattle.input.specs.Input.{Tokens}
use Rattle.event.specs.Event.{START, ERROR_TAG, tag_of, error_entry}
use Rattle.event.specs.declared.State.{State}
use Rattle.event.proofs.Laws.{live_parts, named_parts, tag_entry}
use Rattle.parser.specs.Calls.{is_open, is_closed, is_last, start_of, complete_of, abandon_of, precede_of, extend_of, eat_of, bump_any_of, error_of, split_dot_of, split_two_of, split_of, Opened, Closed, Moved, Taken, Parted}
use Rattle.parser.specs.Prog.{Prog, run}
use Rattle.parser.specs.declared.Marker.{Marker}
use Rattle.parser.specs.declared.CompletedMarker.{CompletedMarker}
use Rattle.parser.proofs.Moves.{OpenedBy, ClosedBy, MovedBy, TakenBy, PartedBy, Keeps, Kept, run_keeps}
use Rattle.input.proofs.Laws.{both_true}
use Rattle.demand.proofs.Tokens.{code_small}
use Rattle.demand.proofs.Seen.{capacity_length, has_room}

-- an error event stands below the count
pub record Err (s : State) (ev : List ℕ) : Type 0 where
  pub at : ℕ
  pub below : at < s.count
  pub is : tag_of (get_or ev at 0) ≡ ERROR_TAG

open_start : (s : State) (m : ℕ) (ev : List ℕ) → is_open s m ev ≡ true → tag_of (get_or ev m 0) ≡ START
unfolding is_open
open_start s m ev q = (live_parts _ (both_true _ _ q).1).0

closed_start : (s : State) (m : ℕ) (ev : List ℕ) → is_closed s m ev ≡ true → tag_of (get_or ev m 0) ≡ START
unfolding is_closed
closed_start s m ev q = (named_parts _ (both_true _ _ q).1).0

-- a push, and a start changed
pushed_kept : (s s1 : State) (ev : List ℕ) (i v : ℕ) → s.count ≤ i → s.count ≤ s1.count → Err s ev → Err s1 (set ev i v)
pushed_kept s s1 ev i v l k h = record { at = h.at; below = omega (arith, h.below); is = rw (get_or-set_other ev i h.at v 0 (λ q. omega (arith, h.below))) h.is }

changed_kept : (s : State) (ev : List ℕ) (m v : ℕ) → tag_of (get_or ev m 0) ≡ START → Err s ev → Err s (set ev m v)
changed_kept s ev m v t h =
    record { at = h.at; below = h.below; is = rw (get_or-set_other ev m h.at v 0 (λ q. let z : START ≡ ERROR_TAG = sym t ∙ ap (λ (i : ℕ). tag_of (get_or ev i 0)) (sym q) ∙ h.is in omega arith)) h.is }

-- the last start popped
popped_kept : (s s1 : State) (ev : List ℕ) (m v : ℕ) → tag_of (get_or ev m 0) ≡ START → m + 1 ≡ s.count → s1.count ≡ m → Err s ev → Err s1 (set ev m v)
popped_kept s s1 ev m v t l k h =
    let n : h.at ≡ m → ⊥ = λ q. let y : START ≡ ERROR_TAG = sym t ∙ ap (λ (i : ℕ). tag_of (get_or ev i 0)) (sym q) ∙ h.is in omega arith in
    record { at = h.at; below = omega (arith, h.below); is = rw (get_or-set_other ev m h.at v 0 n) h.is }

kept_start : (s : State) (ev : List ℕ) → Err s ev → OpenedBy Err (Err s) (start_of s ev)
unfolding start_of
kept_start s ev g = whether_by (OpenedBy Err (Err s)) _ _ _ (λ _. pushed_kept s _ ev _ _ (omega arith) (omega arith) g) (λ _. g)

kept_complete : (s : State) (o : Marker) (node : ℕ) (ev : List ℕ) → Err s ev → ClosedBy Err (Err s) (complete_of s o node ev)
unfolding complete_of
kept_complete s o node ev g =
    whether_by P _ _ _ (λ b. whether_by P _ _ _ (λ _. whether_by P _ _ _ (λ _. pushed_kept s _ _ _ _ (omega arith) (omega arith) (changed_kept s ev o.0 _ (open_start s o.0 ev b) g)) (λ _. g)) (λ _. g)) (λ _. g)
  where
    P : Closed × List ℕ → Type 0
    P = ClosedBy Err (Err s)

last_at : (s : State) (m : ℕ) (ev : List ℕ) → is_last s m ev ≡ true → m + 1 ≡ s.count
unfolding is_last
last_at s m ev q = eqb-true _ _ (both_true _ _ q).0

kept_abandon : (s : State) (o : Marker) (ev : List ℕ) → Err s ev → MovedBy Err (Err s) (abandon_of s o ev)
unfolding abandon_of
kept_abandon s o ev g =
    whether_by P _ _ _ (λ b. whether_by P _ _ _ (λ l. popped_kept s _ ev o.0 _ (open_start s o.0 ev b) (last_at s o.0 ev l) refl g) (λ _. changed_kept s ev o.0 _ (open_start s o.0 ev b) g)) (λ _. g)
  where
    P : Moved × List ℕ → Type 0
    P = MovedBy Err (Err s)

kept_precede : (s : State) (c : CompletedMarker) (ev : List ℕ) → Err s ev → OpenedBy Err (Err s) (precede_of s c ev)
unfolding precede_of
kept_precede s c ev g =
    whether_by P _ _ _ (λ b. bound_by P _ _ (whether_by P _ _ _ (λ _. whether_by P _ _ _ (λ _. pushed_kept s _ _ _ _ (omega arith) (omega arith) (changed_kept s ev c.0 _ (closed_start s c.0 ev b) g)) (λ _. g)) (λ _. g))) (λ _. g)
  where
    P : Opened × List ℕ → Type 0
    P = OpenedBy Err (Err s)

kept_extend : (s : State) (c : CompletedMarker) (o : Marker) (ev : List ℕ) → Err s ev → ClosedBy Err (Err s) (extend_of s c o ev)
unfolding extend_of
kept_extend s c o ev g = whether_by P _ _ _ (λ b. whether_by P _ _ _ (λ _. whether_by P _ _ _ (λ _. whether_by P _ _ _ (λ _. changed_kept s ev o.0 _ (open_start s o.0 ev b) g) (λ _. g)) (λ _. g)) (λ _. g)) (λ _. g)
  where
    P : Closed × List ℕ → Type 0
    P = ClosedBy Err (Err s)

kept_eat : (ts : Tokens) (s : State) (kind : ℕ) (ev : List ℕ) → Err s ev → TakenBy Err (Err s) (eat_of ts s kind ev)
unfolding eat_of
kept_eat ts s kind ev g = whether_by P _ _ _ (λ _. whether_by P _ _ _ (λ _. whether_by P _ _ _ (λ _. pushed_kept s _ ev _ _ (omega arith) (omega arith) g) (λ _. g)) (λ _. g)) (λ _. g)
  where
    P : Taken × List ℕ → Type 0
    P = TakenBy Err (Err s)

kept_bump : (ts : Tokens) (s : State) (ev : List ℕ) → Err s ev → TakenBy Err (Err s) (bump_any_of ts s ev)
unfolding bump_any_of
kept_bump ts s ev g = whether_by P _ _ _ (λ _. whether_by P _ _ _ (λ _. pushed_kept s _ ev _ _ (omega arith) (omega arith) g) (λ _. g)) (λ _. g)
  where
    P : Taken × List ℕ → Type 0
    P = TakenBy Err (Err s)

kept_error : (s : State) (code : ℕ) (ev : List ℕ) → Err s ev → MovedBy Err (Err s) (error_of s code ev)
unfolding error_of
kept_error s code ev g = whether_by P _ _ _ (λ _. whether_by P _ _ _ (λ _. pushed_kept s _ ev _ _ (omega arith) (omega arith) g) (λ _. g)) (λ _. g)
  where
    P : Moved × List ℕ → Type 0
    P = MovedBy Err (Err s)

kept_split : (ts : Tokens) (s : State) (o : Marker) (ev : List ℕ) → Err s ev → PartedBy Err (Err s) (split_of ts s o ev)
unfolding split_of split_dot_of split_two_of
kept_split ts s o ev g =
    whether_by P _ _ _
    (λ b. whether_by P _ _ _
    (λ _. whether_by P _ _ _
    (λ _. whether_by P _ _ _ (λ _. pushed_kept (plus 1) _ _ _ _ (omega arith) (omega arith) (pushed_kept s (plus 1) _ _ _ (omega arith) (omega arith) (changed_kept s ev o.0 _ (open_start s o.0 ev b) g))) (λ _. g))
    (λ _. whether_by P _ _ _ (λ _. pushed_kept (plus 2) _ _ _ _ (omega arith) (omega arith) (pushed_kept (plus 1) (plus 2) _ _ _ (omega arith) (omega arith) (pushed_kept s (plus 1) _ _ _ (omega arith) (omega arith) (changed_kept s ev o.0 _ (open_start s o.0 ev b) g)))) (λ _. g)))
    (λ _. g))
    (λ _. g)
  where
    P : Parted × List ℕ → Type 0
    P = PartedBy Err (Err s)

    plus : ℕ → State
    plus n = record { pos = s.pos; count = s.count + n }

err_keeps : (ts : Tokens) → Keeps ts Err
err_keeps ts =
    record {
      of_start = kept_start;
      of_complete = kept_complete;
      of_abandon = kept_abandon;
      of_precede = kept_precede;
      of_extend = kept_extend;
      of_eat = kept_eat ts;
      of_bump = kept_bump ts;
      of_error = kept_error;
      of_split = kept_split ts;
    }

pub an_error_stays : {A : Type 0} (ts : Tokens) (p : Prog A) (s : State) (ev : List ℕ) → Err s ev → Kept Err (run ts p s ev)
an_error_stays ts p s ev h = run_keeps ts Err (err_keeps ts) p s ev h

-- an accepted error call leaves one
pub error_err : (s : State) (code : ℕ) (ev : List ℕ) → MovedBy Err (λ _. Unit {0}) (error_of s code ev)
unfolding error_of
error_err s code ev =
    whether_by (MovedBy Err (λ _. Unit {0})) _ _ _
    (λ c. whether_by (MovedBy Err (λ _. Unit {0})) _ _ _
    (λ q. let l : s.count < length ev = omega (arith, has_room 1 s ev q, capacity_length ev) in
    record { at = s.count; below = omega arith; is = rw (get_or-set_same ev s.count (error_entry code) 0 l) (tag_entry ERROR_TAG 0 0 code 0 (omega arith) (omega arith) (omega arith) (omega (arith, code_small code c))) })
    (λ _. tt))
    (λ _. tt)
