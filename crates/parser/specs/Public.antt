-- The calls of the machine as anyone may make them: the checks, then the work.
use Rattle.std.specs.Prelude.{Ok, Err, ℕ, List, length}
use Rattle.base.specs.Base.{whether}
use Rattle.input.specs.SyntaxKind.{UNSOUND}
use Rattle.input.specs.Input.{Tokens, token_limit, lengths_of, bytes_of, ahead, on_checked, refusal, Checked}
use Rattle.input.specs.declared.Refusal.{Refusal}
use Rattle.event.specs.Event.{in_range}
use Rattle.event.specs.declared.State.{State}
use Rattle.parser.specs.Calls.{start_of, complete_of, abandon_of, precede_of, extend_of, eat_of, bump_any_of, error_of, split_of, Opened, Closed, Moved, Taken, Parted}
use Rattle.parser.specs.declared.Marker.{Marker}
use Rattle.parser.specs.declared.CompletedMarker.{CompletedMarker}

-- "Machine calls refuse 9 for a count or position out of range", the position's bound being 4,096 "in a call lent no tokens"
unfoldable pub range_of : ℕ → State → List ℕ → Checked
range_of n s ev = whether (in_range n s ev) (λ _. Ok tt) (λ _. Err (refusal UNSOUND 0))

-- "Calls that read tokens also refuse 3, and 1 and 2 looking only at the (up to three) tokens from the position on. A machine call's order is 3, 9, 1, 2, 8, 4."
unfoldable pub looked_of : Tokens → State → List ℕ → Checked
looked_of ts s ev =
    on_checked (lengths_of ts)
    (λ _. on_checked (range_of (length ts.kinds) s ev) (λ _. bytes_of ts s.pos.0 (ahead ts s.pos.0)) Err)
    Err

-- a checked call: "A refused call changes nothing."
unfoldable pub calling : {A : Type 0} → Checked → (Refusal → A) → List ℕ → (Unit {0} → A × List ℕ) → A × List ℕ
calling check refused ev work = on_checked check work (λ r. (refused r, ev))

unfoldable pub start_call : State → List ℕ → Opened × List ℕ
start_call s ev = calling (range_of token_limit s ev) Err ev (λ _. start_of s ev)

unfoldable pub complete_call : State → Marker → ℕ → List ℕ → Closed × List ℕ
complete_call s m node ev = calling (range_of token_limit s ev) Err ev (λ _. complete_of s m node ev)

unfoldable pub abandon_call : State → Marker → List ℕ → Moved × List ℕ
abandon_call s m ev = calling (range_of token_limit s ev) Err ev (λ _. abandon_of s m ev)

unfoldable pub precede_call : State → CompletedMarker → List ℕ → Opened × List ℕ
precede_call s m ev = calling (range_of token_limit s ev) Err ev (λ _. precede_of s m ev)

unfoldable pub extend_call : State → CompletedMarker → Marker → List ℕ → Closed × List ℕ
extend_call s c m ev = calling (range_of token_limit s ev) Err ev (λ _. extend_of s c m ev)

unfoldable pub eat_call : Tokens → State → ℕ → List ℕ → Taken × List ℕ
eat_call ts s kind ev = calling (looked_of ts s ev) Err ev (λ _. eat_of ts s kind ev)

unfoldable pub bump_any_call : Tokens → State → List ℕ → Taken × List ℕ
bump_any_call ts s ev = calling (looked_of ts s ev) Err ev (λ _. bump_any_of ts s ev)

unfoldable pub error_call : State → ℕ → List ℕ → Moved × List ℕ
error_call s code ev = calling (range_of token_limit s ev) Err ev (λ _. error_of s code ev)

unfoldable pub split_call : Tokens → State → Marker → List ℕ → Parted × List ℕ
split_call ts s m ev = calling (looked_of ts s ev) Err ev (λ _. split_of ts s m ev)
