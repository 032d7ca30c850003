-- Events as a list: what a run has done, and what it means that a list of events is sound. A forward offset lands on a start that is named or was made by precede (`Anchored`), and such a start is never popped. Assumes nothing.
use Prim.Native.Nat.{ℕ, zero, suc}
use mathlib.Core.Bool.{Bool, true, false}
use mathlib.Core.Path.{◌≡◌}
use mathlib.Core.List.{List, [], ◌∷◌}
use lib.ListN.{get_or}
use Rattle.event.specs.Event.{live, spent, named, Event, start, finish, token, split, error}
use Rattle.demand.specs.Runs.{Tok}

-- the events so far and the position, the tokens that accepted calls took and the nodes that they closed
pub record History : Type 0 where
  pub events : List Event
  pub pos : ℕ
  pub took : List Tok
  pub closed : List ℕ

abbrev pub quiet : ℕ → List Event → History
quiet p es = record { events = es; pos = p; took = []; closed = [] }

-- Soundness: each split is directly followed by a finish, and a forward offset lands on a later start, one that is named or made by precede and so is never popped.
abbrev pub is_split : Event → Bool
is_split (start s f b) = false
is_split finish = false
is_split (token k w) = false
is_split (split d) = true
is_split (error c) = false

abbrev pub is_finish : Event → Bool
is_finish (start s f b) = false
is_finish finish = true
is_finish (token k w) = false
is_finish (split d) = false
is_finish (error c) = false

abbrev pub Follows : Bool → List Event → Type 0
Follows false es = Unit {0}
Follows true [] = ⊥
Follows true (e ∷ es) = is_finish e ≡ true

abbrev pub Paired : List Event → Type 0
Paired [] = Unit {0}
Paired (e ∷ es) = Follows (is_split e) es × Paired es

-- a start's forward offset, 0 where there is none; it counts from the start itself
abbrev pub next : Event → ℕ
next (start s f b) = f
next finish = 0
next (token k w) = 0
next (split d) = 0
next (error c) = 0

abbrev pub Anchored : Event → Type 0
Anchored (start live f b) = b ≡ true
Anchored (start spent f b) = b ≡ true
Anchored (start (named k) f b) = Unit {0}
Anchored finish = ⊥
Anchored (token k w) = ⊥
Anchored (split d) = ⊥
Anchored (error c) = ⊥

abbrev pub Lands : ℕ → List Event → Type 0
Lands zero es = Unit {0}
Lands (suc f) es = Anchored (get_or es f finish)

abbrev pub Linked : List Event → Type 0
Linked [] = Unit {0}
Linked (e ∷ es) = Lands (next e) es × Linked es

unfoldable pub is_start : Event → Bool
is_start (start s f b) = true
is_start finish = false
is_start (token k w) = false
is_start (split d) = false
is_start (error c) = false
