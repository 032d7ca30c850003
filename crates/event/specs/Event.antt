-- The event record: one event an entry of the lent list of u64. Nothing outside this module and its laws knows the bits.
use Rattle.std.specs.Prelude.{ℕ, ◌+◌, ◌*◌, ◌/◌, ◌%◌, Bool, true, false, List, length, ltb, leb, eqb}
use Rattle.base.specs.Base.{whether}
use Rattle.input.specs.Input.{token_limit}
use Rattle.event.specs.declared.State.{State}

-- "A marker is open until completed, abandoned, extended or split, and closed once named (both starts of a split too)": a start is open, spent (abandoned or extended), or closed under its name
pub data Status : Type 0 where
  live spent : Status
  named : ℕ → Status

-- a start with its status, the offset of its forward parent (0: none) and whether precede made it; a token with its kind and raw width; a split and whether it ends in a dot; an error with its code
pub data Event : Type 0 where
  start : Status → ℕ → Bool → Event
  finish : Event
  token : ℕ → ℕ → Event
  split : Bool → Event
  error : ℕ → Event

-- tags, and the ranks of a start
abbrev pub START : ℕ
START = 1

abbrev pub FINISH : ℕ
FINISH = 2

abbrev pub TOKEN_TAG : ℕ
TOKEN_TAG = 3

abbrev pub SPLIT_TAG : ℕ
SPLIT_TAG = 4

abbrev pub ERROR_TAG : ℕ
ERROR_TAG = 5

abbrev pub LIVE : ℕ
LIVE = 0

abbrev pub SPENT : ℕ
SPENT = 1

abbrev pub NAMED : ℕ
NAMED = 2

-- an entry's parts from the lowest bits up: tag (8), rank of a start or width of a token (4), flag (2), node, kind or code (256), forward offset (all above)
abbrev pub tag_of : ℕ → ℕ
tag_of x = x % 8

abbrev pub rank_of : ℕ → ℕ
rank_of x = x / 8 % 4

abbrev pub flag_of : ℕ → ℕ
flag_of x = x / 32 % 2

abbrev pub node_of : ℕ → ℕ
node_of x = x / 64 % 256

abbrev pub offset_of : ℕ → ℕ
offset_of x = x / 16384

abbrev pub entry : ℕ → ℕ → ℕ → ℕ → ℕ → ℕ
entry tag rank flag node offset = tag + 8 * rank + 32 * flag + 64 * node + 16384 * offset

-- what an entry is seen as; an entry that is no event is seen as a finish, and does not decode
unfoldable pub status_of : ℕ → ℕ → Status
status_of rank node = whether (ltb SPENT rank) (λ _. named node) λ _. whether (eqb rank LIVE) (λ _. live) (λ _. spent)

unfoldable pub view : ℕ → Event
view x =
    whether (eqb (tag_of x) START) (λ _. start (status_of (rank_of x) (node_of x)) (offset_of x) (eqb (flag_of x) 1)) λ _.
    whether (eqb (tag_of x) TOKEN_TAG) (λ _. token (node_of x) (rank_of x)) λ _.
    whether (eqb (tag_of x) SPLIT_TAG) (λ _. split (eqb (flag_of x) 1)) λ _.
    whether (eqb (tag_of x) ERROR_TAG) (λ _. error (node_of x)) (λ _. finish)

-- an event's entry
abbrev pub flag_by : Bool → ℕ
flag_by true = 1
flag_by false = 0

abbrev pub entry_of : Event → ℕ
entry_of (start live offset preceding) = entry START LIVE (flag_by preceding) 0 offset
entry_of (start spent offset preceding) = entry START SPENT (flag_by preceding) 0 offset
entry_of (start (named node) offset preceding) = entry START NAMED (flag_by preceding) node offset
entry_of finish = FINISH
entry_of (token kind width) = entry TOKEN_TAG width 0 kind 0
entry_of (split dot) = entry SPLIT_TAG 0 (flag_by dot) 0 0
entry_of (error code) = entry ERROR_TAG 0 0 code 0

-- "every entry up to the count decodes": an entry decodes if it is the entry of the event that it is seen as
unfoldable pub decodes : ℕ → Bool
decodes x = eqb x (entry_of (view x))

-- the entries that calls write: new ones
abbrev pub start_entry : ℕ
start_entry = entry START LIVE 0 0 0

abbrev pub preceding_entry : ℕ
preceding_entry = entry START LIVE 1 0 0

abbrev pub field_entry : ℕ → ℕ
field_entry node = entry START NAMED 0 node 0

abbrev pub finish_entry : ℕ
finish_entry = FINISH

abbrev pub token_entry : ℕ → ℕ → ℕ
token_entry kind width = entry TOKEN_TAG width 0 kind 0

abbrev pub split_entry : ℕ → ℕ
split_entry flag = entry SPLIT_TAG 0 flag 0 0

abbrev pub error_entry : ℕ → ℕ
error_entry code = entry ERROR_TAG 0 0 code 0

-- and changed ones: a start named, spent, given a forward parent
abbrev pub named_entry : ℕ → ℕ → ℕ
named_entry x node = entry START NAMED (flag_of x) node (offset_of x)

abbrev pub spent_entry : ℕ → ℕ
spent_entry x = entry START SPENT (flag_of x) 0 (offset_of x)

abbrev pub extended_entry : ℕ → ℕ → ℕ
extended_entry x offset = entry START SPENT (flag_of x) 0 offset

abbrev pub parented_entry : ℕ → ℕ → ℕ → ℕ
parented_entry x node offset = entry START NAMED (flag_of x) node offset

-- what the calls ask of an entry
unfoldable pub is_live : ℕ → Bool
is_live x = whether (eqb (tag_of x) START) (λ _. eqb (rank_of x) LIVE) (λ _. false)

unfoldable pub is_named : ℕ → Bool
is_named x = whether (eqb (tag_of x) START) (λ _. eqb (rank_of x) NAMED) (λ _. false)

-- "It is full when all its entries, or 65,552 of them (16 × 4,096 + 16), are used."
unfoldable pub event_limit : ℕ
event_limit = 16 * token_limit + 16

unfoldable pub capacity_of : List ℕ → ℕ
capacity_of ev = whether (ltb (length ev) event_limit) (λ _. length ev) (λ _. event_limit)

-- "the count is at most the list's length and at most 65,552, and the position at most n (4,096 in a call lent no tokens, the pass included)"
unfoldable pub in_range : ℕ → State → List ℕ → Bool
in_range n s ev = whether (leb s.count (capacity_of ev)) (λ _. leb s.pos.0 n) (λ _. false)

abbrev pub fresh : State
fresh = record { pos = record { 0 = 0 }; count = 0 }
