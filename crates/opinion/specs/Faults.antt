-- "A supplier's program writes step lists. We want a checker of a step list against a token list, naming the first fault by step index": the ten faults, each by itself and apart from any checker, and the first of them.
use Rattle.std.specs.Prelude.{ℕ, zero, suc, ◌+◌, Bool, true, false, not, List, [], ◌∷◌, ◌++◌, ltb, eqb, length, get_or, drop}
use Rattle.base.specs.Base.{pick, whether}
use Rattle.input.specs.SyntaxKind.{FLOAT_NUMBER, AS_KW, BIN_EXPR, RANGE_EXPR, CAST_EXPR, PATH_TYPE}
use Rattle.input.specs.Input.{Tokens, joint_at, stands, present}
use Rattle.operators.specs.TokenSet.{among}
use Rattle.operators.specs.Strength.{strength_of}
use Rattle.opinion.specs.Step.{step_of, is_step, is_enter, is_error, node_in, kind_in, leaves_of, width_in, takes}
use Rattle.opinion.specs.declared.Step.{Step}
use Rattle.opinion.specs.declared.Step.TheVariants.{Enter, Token, Leave, Split, Error, Other}
use Rattle.opinion.specs.declared.Fault.{Fault}

abbrev pub both : Bool → Bool → Bool
both a b = whether a (λ _. b) (λ _. false)

abbrev pub either : Bool → Bool → Bool
either a b = whether a (λ _. true) (λ _. b)

unfoldable pub is_none : List ℕ → Bool
is_none [] = true
is_none (x ∷ l) = false

-- the step at an index; past the end there is none
abbrev pub step_at : List ℕ → ℕ → Step
step_at steps i = step_of (get_or steps i 0)

-- What stands open before an index: the indices of the enters not yet left, innermost first. "a leave without an enter closes nothing"
unfoldable pub opens : Step → ℕ → List ℕ → List ℕ
opens (Enter node) i o = i ∷ o
opens (Token kind) i o = o
opens Leave i o = drop 1 o
opens (Split true) i o = drop 1 o
opens (Split false) i o = drop 2 o
opens (Error code) i o = o
opens Other i o = o

unfoldable pub open_at : List ℕ → ℕ → List ℕ
open_at steps zero = []
open_at steps (suc i) = opens (step_at steps i) i (open_at steps i)

-- where the tokens stand: the raw tokens taken before an index
unfoldable pub pos_at : List ℕ → ℕ → ℕ
pos_at steps zero = 0
pos_at steps (suc i) = pos_at steps i + width_in (step_at steps i)

-- a node that is left is a child of the one around it
unfoldable pub left_in : ℕ → List ℕ → List (ℕ × ℕ)
left_in a [] = []
left_in a (b ∷ o) = (b, a) ∷ []

-- the innermost node is left
unfoldable pub ends_of : List ℕ → List (ℕ × ℕ)
ends_of [] = []
ends_of (a ∷ o) = left_in a o

-- it gets a child
unfoldable pub gets_of : ℕ → List ℕ → List (ℕ × ℕ)
gets_of i [] = []
gets_of i (a ∷ o) = (a, i) ∷ []

-- one leave of a split: "belongs to each node it closes"
unfoldable pub parts_of : ℕ → List ℕ → List (ℕ × ℕ)
parts_of i o = gets_of i o ++ ends_of o

-- The children that end with a step, each behind its node: a token, a node that is left, a split in each node that it leaves.
unfoldable pub children_of : Step → ℕ → List ℕ → List (ℕ × ℕ)
children_of (Enter node) i o = []
children_of (Token kind) i o = gets_of i o
children_of Leave i o = ends_of o
children_of (Split true) i o = parts_of i o
children_of (Split false) i o = parts_of i o ++ parts_of i (drop 1 o)
children_of (Error code) i o = []
children_of Other i o = []

-- those of one node
unfoldable pub of_node : ℕ → List (ℕ × ℕ) → List ℕ
of_node e [] = []
of_node e (x ∷ l) = whether (eqb x.0 e) (λ _. x.1 ∷ of_node e l) (λ _. of_node e l)

-- the children of a node that end before an index, in order; all of them
unfoldable pub children_by : List ℕ → ℕ → ℕ → List ℕ
children_by steps e zero = []
children_by steps e (suc i) = children_by steps e i ++ of_node e (children_of (step_at steps i) i (open_at steps i))

unfoldable pub children_at : List ℕ → ℕ → List ℕ
children_at steps e = children_by steps e (length steps)

-- the node entered at an index is left before the end
unfoldable pub closed_at : List ℕ → ℕ → Bool
closed_at steps e = both (is_enter (step_at steps e)) (not (among e (open_at steps (length steps))))

-- "a root is an enter outside every node"
unfoldable pub is_root : List ℕ → ℕ → Bool
is_root steps i = both (is_enter (step_at steps i)) (is_none (open_at steps i))

unfoldable pub root_before : List ℕ → ℕ → Bool
root_before steps zero = false
root_before steps (suc i) = either (root_before steps i) (is_root steps i)

-- "takes one FLOAT_NUMBER whose joint byte agrees with it"
unfoldable pub float_at : Tokens → ℕ → Bool → Bool
float_at ts at dot = both (stands ts at FLOAT_NUMBER) (eqb (joint_at ts at) (pick dot 0 1))

-- what a step takes stands there
unfoldable pub matches : Tokens → ℕ → Step → Bool
matches ts at (Enter node) = true
matches ts at (Token kind) = present ts at kind
matches ts at Leave = true
matches ts at (Split dot) = float_at ts at dot
matches ts at (Error code) = true
matches ts at Other = true

-- the strengths of 01 that judgements name
abbrev pub ASSIGNS : ℕ
ASSIGNS = 1

abbrev pub RANGES : ℕ
RANGES = 2

abbrev pub COMPARES : ℕ
COMPARES = 5

abbrev pub CASTS : ℕ
CASTS = 12

-- "one operator token of 01 (no range, no `as`)" in a BIN_EXPR, "`as`" in a cast: its strength, 0 for any other token
unfoldable pub binary_strength : ℕ → ℕ
binary_strength s = whether (eqb s RANGES) (λ _. 0) (λ _. whether (eqb s CASTS) (λ _. 0) (λ _. s))

unfoldable pub operator_in : ℕ → ℕ → ℕ
operator_in node kind =
    whether (eqb node BIN_EXPR) (λ _. binary_strength (strength_of kind)) λ _.
    whether (eqb node CAST_EXPR) (λ _. whether (eqb kind AS_KW) (λ _. CASTS) (λ _. 0)) (λ _. 0)

-- "and a node"; "and a PATH_TYPE"
unfoldable pub fits_last : ℕ → ℕ → Bool
fits_last node last = whether (eqb node CAST_EXPR) (λ _. eqb last PATH_TYPE) (λ _. true)

-- "a node, one operator token .. and a node": the operator's strength; 0 where the children have not that shape
unfoldable pub three_of : List ℕ → ℕ → ℕ → ℕ → ℕ → ℕ
three_of steps node a b c =
    whether (is_enter (step_at steps a))
    (λ _. whether (is_enter (step_at steps c))
    (λ _. whether (fits_last node (node_in (step_at steps c))) (λ _. operator_in node (kind_in (step_at steps b))) (λ _. 0))
    (λ _. 0))
    (λ _. 0)

unfoldable pub shape_of : List ℕ → ℕ → List ℕ → ℕ
shape_of steps node [] = 0
shape_of steps node (a ∷ []) = 0
shape_of steps node (a ∷ b ∷ []) = 0
shape_of steps node (a ∷ b ∷ c ∷ []) = three_of steps node a b c
shape_of steps node (a ∷ b ∷ c ∷ d ∷ l) = 0

abbrev pub node_at : List ℕ → ℕ → ℕ
node_at steps e = node_in (step_at steps e)

unfoldable pub shape_at : List ℕ → ℕ → ℕ
shape_at steps e = shape_of steps (node_at steps e) (children_at steps e)

-- "RANGE_EXPR counts 2, CAST_EXPR 12"; "a BIN_EXPR operand that lacks the shape has no strength"; no other node has one
unfoldable pub strength_by : ℕ → ℕ → ℕ
strength_by node shape =
    whether (eqb node BIN_EXPR) (λ _. shape) λ _.
    whether (eqb node CAST_EXPR) (λ _. CASTS) λ _.
    whether (eqb node RANGE_EXPR) (λ _. RANGES) (λ _. 0)

unfoldable pub strength_at : List ℕ → ℕ → ℕ
strength_at steps e = strength_by (node_at steps e) (shape_at steps e)

-- "strength s above 1: left below s, right below s + 1. s = 1: left below 2."
unfoldable pub left_bound : ℕ → ℕ
left_bound s = whether (eqb s ASSIGNS) (λ _. 2) (λ _. s)

unfoldable pub right_bound : ℕ → ℕ
right_bound s = whether (eqb s ASSIGNS) (λ _. ASSIGNS) (λ _. s + 1)

-- an operand of strength x, which is 0 where it has none, to the left of an operator of strength s: "too loose for its side or makes a chain as in L8"
unfoldable pub loose_left : ℕ → ℕ → Bool
loose_left x s = whether (eqb x 0) (λ _. false) (λ _. whether (ltb x (left_bound s)) (λ _. true) (λ _. whether (eqb s COMPARES) (λ _. eqb x COMPARES) (λ _. false)))

unfoldable pub loose_right : ℕ → ℕ → Bool
loose_right x s = whether (eqb x 0) (λ _. false) (λ _. ltb x (right_bound s))

unfoldable pub loose_in : List ℕ → ℕ → List ℕ → Bool
loose_in steps s l = either (loose_left (strength_at steps (get_or l 0 0)) s) (loose_right (strength_at steps (get_or l 2 0)) s)

-- "either of these": a BIN_EXPR or a cast
unfoldable pub is_judged : ℕ → Bool
is_judged node = either (eqb node BIN_EXPR) (eqb node CAST_EXPR)

-- The ten faults, by 02's semicolons.
-- 1: "an entry that is no step"
unfoldable pub no_step : Tokens → List ℕ → ℕ → Bool
no_step ts steps i = both (ltb i (length steps)) (not (is_step (step_at steps i)))

-- 2: "a leave without an enter"
unfoldable pub leave_without_enter : Tokens → List ℕ → ℕ → Bool
leave_without_enter ts steps i = ltb (length (open_at steps i)) (leaves_of (step_at steps i))

-- 3: "no root or more than one"; "None: at the step count. A second: at its enter"
unfoldable pub not_one_root : Tokens → List ℕ → ℕ → Bool
not_one_root ts steps i = either (both (is_root steps i) (root_before steps i)) (both (eqb i (length steps)) (not (root_before steps i)))

-- 4: "a token or split outside every node"
unfoldable pub outside : Tokens → List ℕ → ℕ → Bool
outside ts steps i = both (takes (step_at steps i)) (is_none (open_at steps i))

-- 5: "an enter left open"
unfoldable pub left_open : Tokens → List ℕ → ℕ → Bool
left_open ts steps i = both (eqb i (length steps)) (not (is_none (open_at steps i)))

-- 6: "a token step whose kind and width don't match the raw tokens there"
unfoldable pub mismatch : Tokens → List ℕ → ℕ → Bool
mismatch ts steps i = not (matches ts (pos_at steps i) (step_at steps i))

-- 7: "tokens left over"
unfoldable pub left_over : Tokens → List ℕ → ℕ → Bool
left_over ts steps i = both (eqb i (length steps)) (ltb (pos_at steps i) (length ts.kinds))

-- 8: "an error step"
unfoldable pub error_step : Tokens → List ℕ → ℕ → Bool
error_step ts steps i = is_error (step_at steps i)

-- 9: "a closed BIN_EXPR that isn't a node, one operator token of 01 (no range, no `as`) and a node, or a closed cast that isn't a node, `as` and a PATH_TYPE"; "These last stand at the node's enter"
unfoldable pub misshapen : Tokens → List ℕ → ℕ → Bool
misshapen ts steps i = both (closed_at steps i) (both (is_judged (node_at steps i)) (eqb (shape_at steps i) 0))

-- 10: "either of these whose BIN_EXPR, CAST_EXPR or RANGE_EXPR operand is by 01's strengths too loose for its side or makes a chain as in L8"
unfoldable pub loose : Tokens → List ℕ → ℕ → Bool
loose ts steps i =
    both (closed_at steps i) (both (is_judged (node_at steps i)) (both (not (eqb (shape_at steps i) 0)) (loose_in steps (shape_at steps i) (children_at steps i))))

-- "at one index the order is as listed here"
unfoldable pub faults : List (Tokens → List ℕ → ℕ → Bool)
faults = no_step ∷ leave_without_enter ∷ not_one_root ∷ outside ∷ left_open ∷ mismatch ∷ left_over ∷ error_step ∷ misshapen ∷ loose ∷ []

-- the number of the first that holds of an index, counted from a number on; 0 where none does
unfoldable pub first_in : Tokens → List ℕ → ℕ → ℕ → List (Tokens → List ℕ → ℕ → Bool) → ℕ
first_in ts steps i n [] = 0
first_in ts steps i n (f ∷ l) = whether (f ts steps i) (λ _. n) (λ _. first_in ts steps i (suc n) l)

unfoldable pub fault_at : Tokens → List ℕ → ℕ → ℕ
fault_at ts steps i = first_in ts steps i 1 faults

abbrev pub fault : ℕ → ℕ → Fault
fault number at = record { number = number; at = at }

-- none: 0, at 0
abbrev pub no_fault : Fault
no_fault = fault 0 0

-- the first index below a bound at which there is one, and its number
unfoldable pub first_of : (ℕ → ℕ) → ℕ → Fault
first_of f zero = no_fault
first_of f (suc k) =
    whether (eqb (first_of f k).number 0)
    (λ _. whether (eqb (f k) 0) (λ _. no_fault) (λ _. fault (f k) k))
    (λ _. first_of f k)

-- "naming the first fault by step index": up to the step count, at which "faults known only at the end" stand
unfoldable pub first_fault : Tokens → List ℕ → Fault
first_fault ts steps = first_of (fault_at ts steps) (suc (length steps))
