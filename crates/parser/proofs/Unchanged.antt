-- "A refused call changes nothing": of each public call, a refusal and a no leave the list as it was; an answer keeps its length, and the position stays, or goes on within the tokens.
-- The check refuses before the work, and the work's own law is in Moves. Assumes nothing.
use Rattle.std.proofs.Common.{Ok, Err}
use mathlib.Core.Path.{◌≡◌, refl}
use mathlib.Core.List.{List}
use Prim.Native.Nat.{ℕ}
use Rattle.input.specs.Input.{Tokens, on_checked, Checked}
use Rattle.input.specs.declared.Refusal.{Refusal}
use Rattle.event.specs.declared.State.{State}
use Rattle.parser.specs.Public.{calling, start_call, complete_call, abandon_call, precede_call, extend_call, eat_call, bump_any_call, error_call, split_call}
use Rattle.parser.specs.declared.Marker.{Marker}
use Rattle.parser.specs.declared.CompletedMarker.{CompletedMarker}
use Rattle.parser.proofs.Moves.{OpenedBy, ClosedBy, MovedBy, TakenBy, PartedBy, Stays, Goes, start_moves, complete_moves, abandon_moves, precede_moves, extend_moves, eat_moves, bump_moves, error_moves, split_moves}

pub checked_by : {A : Type 0} (P : A → Type 0) (x : Checked) (f : Unit {0} → A) (g : Refusal → A) → P (f tt) → ((r : Refusal) → P (g r)) → P (on_checked x f g)
unfolding on_checked
checked_by P (Ok _) f g p q = p
checked_by P (Err r) f g p q = q r

module _ (ts : Tokens) (s : State) (ev : List ℕ) where
  pub start_unchanged : OpenedBy (Stays s ev) (λ e. e ≡ ev) (start_call s ev)
  unfolding calling start_call
  start_unchanged = checked_by (OpenedBy (Stays s ev) (λ e. e ≡ ev)) _ _ _ (start_moves ts s ev) (λ _. refl)

  pub complete_unchanged : (o : Marker) (node : ℕ) → ClosedBy (Stays s ev) (λ e. e ≡ ev) (complete_call s o node ev)
  unfolding calling complete_call
  complete_unchanged o node = checked_by (ClosedBy (Stays s ev) (λ e. e ≡ ev)) _ _ _ (complete_moves ts s o node ev) (λ _. refl)

  pub abandon_unchanged : (o : Marker) → MovedBy (Stays s ev) (λ e. e ≡ ev) (abandon_call s o ev)
  unfolding calling abandon_call
  abandon_unchanged o = checked_by (MovedBy (Stays s ev) (λ e. e ≡ ev)) _ _ _ (abandon_moves ts s o ev) (λ _. refl)

  pub precede_unchanged : (c : CompletedMarker) → OpenedBy (Stays s ev) (λ e. e ≡ ev) (precede_call s c ev)
  unfolding calling precede_call
  precede_unchanged c = checked_by (OpenedBy (Stays s ev) (λ e. e ≡ ev)) _ _ _ (precede_moves ts s c ev) (λ _. refl)

  pub extend_unchanged : (c : CompletedMarker) (o : Marker) → ClosedBy (Stays s ev) (λ e. e ≡ ev) (extend_call s c o ev)
  unfolding calling extend_call
  extend_unchanged c o = checked_by (ClosedBy (Stays s ev) (λ e. e ≡ ev)) _ _ _ (extend_moves ts s c o ev) (λ _. refl)

  pub eat_unchanged : (kind : ℕ) → TakenBy (Goes ts s ev) (λ e. e ≡ ev) (eat_call ts s kind ev)
  unfolding calling eat_call
  eat_unchanged kind = checked_by (TakenBy (Goes ts s ev) (λ e. e ≡ ev)) _ _ _ (eat_moves ts s kind ev) (λ _. refl)

  pub bump_unchanged : TakenBy (Goes ts s ev) (λ e. e ≡ ev) (bump_any_call ts s ev)
  unfolding calling bump_any_call
  bump_unchanged = checked_by (TakenBy (Goes ts s ev) (λ e. e ≡ ev)) _ _ _ (bump_moves ts s ev) (λ _. refl)

  pub error_unchanged : (code : ℕ) → MovedBy (Stays s ev) (λ e. e ≡ ev) (error_call s code ev)
  unfolding calling error_call
  error_unchanged code = checked_by (MovedBy (Stays s ev) (λ e. e ≡ ev)) _ _ _ (error_moves ts s code ev) (λ _. refl)

  pub split_unchanged : (o : Marker) → PartedBy (Goes ts s ev) (λ e. e ≡ ev) (split_call ts s o ev)
  unfolding calling split_call
  split_unchanged o = checked_by (PartedBy (Goes ts s ev) (λ e. e ≡ ev)) _ _ _ (split_moves ts s o ev) (λ _. refl)
