-- What an entry of a step list is, and what it does: the nodes that it leaves, the raw tokens that it takes.
use Rattle.std.specs.Prelude.{ℕ, ◌+◌, ◌-◌, ◌/◌, ◌%◌, Bool, true, false, ltb, eqb}
use Rattle.base.specs.Base.{whether, bound}
use Rattle.input.specs.SyntaxKind.{ENTER, TOKEN, LEAVE, FLOAT_SPLIT, FAULT, WIDTH_STEP, ENDS_IN_DOT}
use Rattle.input.specs.Input.{is_node, is_kind, is_code, width_of}
use Rattle.opinion.specs.declared.Step.{Step}
use Rattle.opinion.specs.declared.Step.TheVariants.{Enter, Token, Leave, Split, Error, Other}

-- "enter 65,536 + node", of a node of 01
unfoldable pub entered_of : ℕ → Step
entered_of node = whether (ltb node WIDTH_STEP) (λ _. whether (is_node node) (λ _. Enter node) (λ _. Other)) (λ _. Other)

-- "token 131,072 + 256 × raw width + kind", of a kind of 01 with its own width
unfoldable pub taken_of : ℕ → Step
taken_of rest = bound (rest % WIDTH_STEP) λ kind. whether (is_kind kind) (λ _. whether (eqb (rest / WIDTH_STEP) (width_of kind)) (λ _. Token kind) (λ _. Other)) (λ _. Other)

-- "leave 196,608; float split 262,144, + 1 if it ends in a dot"
unfoldable pub left_of : ℕ → Step
left_of entry =
    whether (eqb entry LEAVE) (λ _. Leave) λ _.
    whether (eqb entry FLOAT_SPLIT) (λ _. Split false) λ _.
    whether (eqb entry (FLOAT_SPLIT + ENDS_IN_DOT)) (λ _. Split true) (λ _. Other)

-- "error 327,680 + code", of a code of 01
unfoldable pub failed_of : ℕ → Step
failed_of code = whether (ltb code WIDTH_STEP) (λ _. whether (is_code code) (λ _. Error code) (λ _. Other)) (λ _. Other)

-- "an entry that is no step" is Other
unfoldable pub step_of : ℕ → Step
step_of entry =
    whether (ltb entry ENTER) (λ _. Other) λ _.
    whether (ltb entry TOKEN) (λ _. entered_of (entry - ENTER)) λ _.
    whether (ltb entry LEAVE) (λ _. taken_of (entry - TOKEN)) λ _.
    whether (ltb entry FAULT) (λ _. left_of entry) (λ _. failed_of (entry - FAULT))

unfoldable pub is_step : Step → Bool
is_step (Enter node) = true
is_step (Token kind) = true
is_step Leave = true
is_step (Split dot) = true
is_step (Error code) = true
is_step Other = false

unfoldable pub is_enter : Step → Bool
is_enter (Enter node) = true
is_enter (Token kind) = false
is_enter Leave = false
is_enter (Split dot) = false
is_enter (Error code) = false
is_enter Other = false

unfoldable pub is_error : Step → Bool
is_error (Enter node) = false
is_error (Token kind) = false
is_error Leave = false
is_error (Split dot) = false
is_error (Error code) = true
is_error Other = false

-- the node that is entered, 0 where none is
unfoldable pub node_in : Step → ℕ
node_in (Enter node) = node
node_in (Token kind) = 0
node_in Leave = 0
node_in (Split dot) = 0
node_in (Error code) = 0
node_in Other = 0

-- the kind of a token, 0 where it is none
unfoldable pub kind_in : Step → ℕ
kind_in (Enter node) = 0
kind_in (Token kind) = kind
kind_in Leave = 0
kind_in (Split dot) = 0
kind_in (Error code) = 0
kind_in Other = 0

-- "A float split counts its leaves as in 01": one if it ends in a dot, two if not. "non-steps count nothing"
unfoldable pub leaves_of : Step → ℕ
leaves_of (Enter node) = 0
leaves_of (Token kind) = 0
leaves_of Leave = 1
leaves_of (Split true) = 1
leaves_of (Split false) = 2
leaves_of (Error code) = 0
leaves_of Other = 0

-- the raw tokens taken: "a token counts its width"; a split "takes one FLOAT_NUMBER"
unfoldable pub width_in : Step → ℕ
width_in (Enter node) = 0
width_in (Token kind) = width_of kind
width_in Leave = 0
width_in (Split dot) = 1
width_in (Error code) = 0
width_in Other = 0

-- "a token or split"
unfoldable pub takes : Step → Bool
takes (Enter node) = false
takes (Token kind) = true
takes Leave = false
takes (Split dot) = true
takes (Error code) = false
takes Other = false
