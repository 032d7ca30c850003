-- What the programs answer for bytes: the refusals of the stored form, and the reader's answer with room of 16n + 16.
use Rattle.std.specs.Prelude.{Result, Ok, Err, ℕ, ◌+◌, ◌*◌, ◌/◌, List, ◌++◌, length, take, drop, ltb}
use Rattle.base.specs.Base.{pick, whether, bound}
use Rattle.input.specs.Input.{lent}
use Rattle.input.specs.SyntaxKind.{BAD_LENGTH, BROKEN_FORM}
use Rattle.reader.specs.Reader.{Answer, parse_of}
use Rattle.stored.specs.Stored.{kinds_of, joints_of, long_of, first_of, on_stored}
use Rattle.stored.specs.declared.Form.{Form}
use Rattle.stored.specs.declared.Unread.{Unread}
use Rattle.stored.specs.declared.Unread.TheVariants as unread

abbrev pub room_each : ℕ
room_each = 16

-- "Room of 16n + 16 events and as many steps", or all there is
unfoldable pub room_of : ℕ → ℕ → ℕ
room_of n most = pick (ltb n (most / room_each)) (room_each * n + room_each) most

-- the reader is lent the first entries of both lists
unfoldable pub lent_first : ℕ → ℕ → List ℕ → List ℕ → (List ℕ → List ℕ → Answer) → Answer
lent_first e s ev st k = ((k (take e ev) (take s st)).0, (k (take e ev) (take s st)).1 ++ drop e ev, (k (take e ev) (take s st)).2 ++ drop s st)

unfoldable pub form_answer : List ℕ → Form → List ℕ → List ℕ → Answer
form_answer bs f ev st =
    bound (kinds_of bs f) λ kinds.
    bound (joints_of bs f) λ joints.
    bound (room_of (length kinds) (length ev)) λ event_room.
    bound (room_of (length kinds) (length st)) λ step_room.
    lent_first event_room step_room ev st (λ e s. parse_of (lent kinds joints) e s)

-- what follows each case of what bytes hold
unfoldable pub on_limited : {A : Type 0} → Result Form Unread → (Form → A) → (Unit {0} → A) → (ℕ → A) → A
on_limited (Ok f) k l b = k f
on_limited (Err unread.Long) k l b = l tt
on_limited (Err (unread.Broken p)) k l b = b p

-- "refuses 3 at 0 at the first length above" the limit; 10 at its place
unfoldable pub held_answer : List ℕ → Result Form Unread → List ℕ → List ℕ → Answer
held_answer bs held ev st =
    on_limited held (λ f. form_answer bs f ev st)
    (λ _. (Err (record { number = BAD_LENGTH; place = 0 }), ev, st))
    (λ p. (Err (record { number = BROKEN_FORM; place = p }), ev, st))

-- the form that stands first, or a length above the limit
unfoldable pub first_limited : List ℕ → ℕ → Result Form Unread
first_limited bs limit =
    whether (long_of bs limit) (λ _. Err unread.Long) λ _.
    on_stored (first_of bs) (λ f. Ok f) (λ p. Err (unread.Broken p))
