-- The work of each call of the event machine, on a state and the whole lent list of events. A call checks its marker, kind or code (8), then room (4); what comes before, 3, 9, 1 and 2, is in Public.
use Rattle.std.specs.Prelude.{Result, Ok, Err, Option, Some, None, ℕ, ◌+◌, ◌-◌, Bool, false, List, length, get_or, set, ltb, leb, eqb}
use Rattle.base.specs.Base.{whether, bound}
use Rattle.input.specs.SyntaxKind.{FLOAT_NUMBER, FIELD_EXPR, EVENTS_FULL, UNFIT}
use Rattle.input.specs.Input.{Tokens, kind_at, joint_at, stands, present, width_of, is_kind, is_node, is_code, refusal}
use Rattle.input.specs.declared.Refusal.{Refusal}
use Rattle.event.specs.Event.{flag_of, node_of, offset_of, start_entry, preceding_entry, field_entry, finish_entry, token_entry, split_entry, error_entry, named_entry, spent_entry, extended_entry, parented_entry, is_live, is_named, event_limit, capacity_of}
use Rattle.event.specs.declared.State.{State}
use Rattle.parser.specs.declared.Marker.{Marker}
use Rattle.parser.specs.declared.CompletedMarker.{CompletedMarker}

-- "An open marker and a closed marker are numbers of two kinds, each the position of a start event."
abbrev pub marker : ℕ → Marker
marker n = record { 0 = n }

abbrev pub completed : ℕ → CompletedMarker
completed n = record { 0 = n }

-- what a call answers: the state then, and the marker of a node that it opened or closed; taking and the split may answer no
abbrev pub Opened : Type 0
Opened = Result (State × Marker) Refusal

abbrev pub Closed : Type 0
Closed = Result (State × CompletedMarker) Refusal

abbrev pub Moved : Type 0
Moved = Result State Refusal

abbrev pub Taken : Type 0
Taken = Result (Option State) Refusal

abbrev pub Parted : Type 0
Parted = Result (Option (State × CompletedMarker)) Refusal

-- the state after k pushes, and after taking w raw tokens too
abbrev pub pushed : State → ℕ → State
pushed s k = record { pos = s.pos; count = s.count + k }

abbrev pub went : State → ℕ → ℕ → State
went s w k = record { pos = record { 0 = s.pos.0 + w }; count = s.count + k }

-- room for k events: the list is full at its length or at its limit
unfoldable pub room_for : ℕ → State → List ℕ → Bool
room_for k s ev = leb (s.count + k) (capacity_of ev)

-- 4: "the rules push onto a full event list", "raw position at that call"
abbrev pub full : State → Refusal
full s = refusal EVENTS_FULL s.pos.0

-- 8: "machine call with an unfit marker, kind or code", "the marker's number (extend: the open one's), 0 if none"
abbrev pub unfit : ℕ → Refusal
unfit n = refusal UNFIT n

-- "A marker is open until completed, abandoned, extended or split, and closed once named (both starts of a split too); any other use is unfit."
unfoldable pub is_open : State → ℕ → List ℕ → Bool
is_open s m ev = whether (ltb m s.count) (λ _. is_live (get_or ev m 0)) (λ _. false)

unfoldable pub is_closed : State → ℕ → List ℕ → Bool
is_closed s m ev = whether (ltb m s.count) (λ _. is_named (get_or ev m 0)) (λ _. false)

-- "start: pushes a nameless start, open."
unfoldable pub start_of : State → List ℕ → Opened × List ℕ
start_of s ev =
    whether (room_for 1 s ev)
    (λ _. (Ok (pushed s 1, marker s.count), set ev s.count start_entry))
    (λ _. (Err (full s), ev))

-- "complete: open marker, node 80..99: names it, pushes a finish, gives a closed marker."
unfoldable pub complete_of : State → Marker → ℕ → List ℕ → Closed × List ℕ
complete_of s m node ev =
    whether (is_open s m.0 ev)
    (λ _. whether (is_node node)
    (λ _. whether (room_for 1 s ev)
    (λ _. (Ok (pushed s 1, completed m.0), set (set ev m.0 (named_entry (get_or ev m.0 0) node)) s.count finish_entry))
    (λ _. (Err (full s), ev)))
    (λ _. (Err (unfit m.0), ev)))
    (λ _. (Err (unfit m.0), ev))

-- "abandon: open marker. Popped if it is the last event and wasn't made by precede; otherwise it stays nameless and is skipped."
unfoldable pub is_last : State → ℕ → List ℕ → Bool
is_last s m ev = whether (eqb (m + 1) s.count) (λ _. eqb (flag_of (get_or ev m 0)) 0) (λ _. false)

unfoldable pub abandon_of : State → Marker → List ℕ → Moved × List ℕ
abandon_of s m ev =
    whether (is_open s m.0 ev)
    (λ _. whether (is_last s m.0 ev)
    (λ _. (Ok (record { pos = s.pos; count = m.0 }), set ev m.0 0))
    (λ _. (Ok s, set ev m.0 (spent_entry (get_or ev m.0 0)))))
    (λ _. (Err (unfit m.0), ev))

-- "precede: closed marker without forward parent. Pushes a start and makes it the forward parent."
unfoldable pub precede_of : State → CompletedMarker → List ℕ → Opened × List ℕ
precede_of s m ev =
    whether (is_closed s m.0 ev)
    (λ _. bound (get_or ev m.0 0) λ x.
    whether (eqb (offset_of x) 0)
    (λ _. whether (room_for 1 s ev)
    (λ _. (Ok (pushed s 1, marker s.count), set (set ev m.0 (parented_entry x (node_of x) (s.count - m.0))) s.count preceding_entry))
    (λ _. (Err (full s), ev)))
    (λ _. (Err (unfit m.0), ev)))
    (λ _. (Err (unfit m.0), ev))

-- "extend: a closed marker after an open one; the open one gets it as forward parent and is spent." A number from the limit of the list on is a marker of no list in range.
unfoldable pub extend_of : State → CompletedMarker → Marker → List ℕ → Closed × List ℕ
extend_of s c m ev =
    whether (is_open s m.0 ev)
    (λ _. whether (is_closed s c.0 ev)
    (λ _. whether (ltb m.0 c.0)
    (λ _. whether (ltb c.0 event_limit)
    (λ _. (Ok (s, c), set ev m.0 (extended_entry (get_or ev m.0 0) (c.0 - m.0))))
    (λ _. (Err (unfit m.0), ev)))
    (λ _. (Err (unfit m.0), ev)))
    (λ _. (Err (unfit m.0), ev)))
    (λ _. (Err (unfit m.0), ev))

-- "take kind, 1..29 or 40..63: if it is present, pushes one token event of its width; otherwise answers no."
unfoldable pub eat_of : Tokens → State → ℕ → List ℕ → Taken × List ℕ
eat_of ts s kind ev =
    whether (is_kind kind)
    (λ _. whether (present ts s.pos.0 kind)
    (λ _. whether (room_for 1 s ev)
    (λ _. (Ok (Some (went s (width_of kind) 1)), set ev s.count (token_entry kind (width_of kind))))
    (λ _. (Err (full s), ev)))
    (λ _. (Ok None, ev)))
    (λ _. (Err (unfit 0), ev))

-- "Take any: one raw token; no at EOF."
unfoldable pub bump_any_of : Tokens → State → List ℕ → Taken × List ℕ
bump_any_of ts s ev =
    whether (ltb s.pos.0 (length ts.kinds))
    (λ _. whether (room_for 1 s ev)
    (λ _. (Ok (Some (went s 1 1)), set ev s.count (token_entry (kind_at ts s.pos.0) 1)))
    (λ _. (Err (full s), ev)))
    (λ _. (Ok None, ev))

-- "error: code 1..7."
unfoldable pub error_of : State → ℕ → List ℕ → Moved × List ℕ
error_of s code ev =
    whether (is_code code)
    (λ _. whether (room_for 1 s ev)
    (λ _. (Ok (pushed s 1), set ev s.count (error_entry code)))
    (λ _. (Err (full s), ev)))
    (λ _. (Err (unfit 0), ev))

-- "Ends in dot: names the marker FIELD_EXPR, pushes split and finish and gives the marker back closed."
unfoldable pub split_dot_of : State → Marker → List ℕ → Parted × List ℕ
split_dot_of s m ev =
    whether (room_for 2 s ev)
    (λ _. (Ok (Some (went s 1 2, completed m.0)), set (set (set ev m.0 (named_entry (get_or ev m.0 0) FIELD_EXPR)) s.count (split_entry 1)) (s.count + 1) finish_entry))
    (λ _. (Err (full s), ev))

-- "Otherwise the marker becomes FIELD_EXPR with a new start, a FIELD_EXPR too, as forward parent, then split and finish; the new start is the closed marker given back."
unfoldable pub split_two_of : State → Marker → List ℕ → Parted × List ℕ
split_two_of s m ev =
    whether (room_for 3 s ev)
    (λ _. (Ok (Some (went s 1 3, completed s.count)), set (set (set (set ev m.0 (parented_entry (get_or ev m.0 0) FIELD_EXPR (s.count - m.0))) s.count (field_entry FIELD_EXPR)) (s.count + 1) (split_entry 0)) (s.count + 2) finish_entry))
    (λ _. (Err (full s), ev))

-- "split: at FLOAT_NUMBER with an open marker. One call does the split and the completion. At another token the answer is no. One token is taken."
unfoldable pub split_of : Tokens → State → Marker → List ℕ → Parted × List ℕ
split_of ts s m ev =
    whether (is_open s m.0 ev)
    (λ _. whether (stands ts s.pos.0 FLOAT_NUMBER)
    (λ _. whether (eqb (joint_at ts s.pos.0) 0) (λ _. split_dot_of s m ev) (λ _. split_two_of s m ev))
    (λ _. (Ok None, ev)))
    (λ _. (Err (unfit m.0), ev))
