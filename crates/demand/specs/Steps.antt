-- Steps as data, with the numbers of document 01.
use Rattle.std.specs.Prelude.{ℕ, ◌+◌, ◌-◌, ◌*◌, ◌/◌, ◌%◌, Bool, true, false, List, [], ◌∷◌, ltb, eqb}
use Rattle.base.specs.Base.{whether}
use Rattle.input.specs.SyntaxKind.{ENTER, TOKEN, LEAVE, FLOAT_SPLIT, FAULT, WIDTH_STEP, ENDS_IN_DOT}
use Rattle.demand.specs.Runs.{Tok, tok, float}

-- enter a node; leave; a token of a kind and a raw width; a float split and whether it ends in a dot; an error of a code
pub data Step : Type 0 where
  enter : ℕ → Step
  leave : Step
  taken : ℕ → ℕ → Step
  parted : Bool → Step
  fault : ℕ → Step

-- "Steps are u32: enter 65,536 + node; token 131,072 + 256 × raw width + kind; leave 196,608; float split 262,144, + 1 if it ends in a dot; error 327,680 + code."
abbrev pub code_of : Step → ℕ
code_of (enter node) = ENTER + node
code_of leave = LEAVE
code_of (taken kind width) = TOKEN + WIDTH_STEP * width + kind
code_of (parted true) = FLOAT_SPLIT + ENDS_IN_DOT
code_of (parted false) = FLOAT_SPLIT
code_of (fault code) = FAULT + code

-- the step that a number is read as
unfoldable pub step_from : ℕ → Step
step_from x =
    whether (ltb x TOKEN) (λ _. enter (x - ENTER)) λ _.
    whether (ltb x LEAVE) (λ _. taken ((x - TOKEN) % WIDTH_STEP) ((x - TOKEN) / WIDTH_STEP)) λ _.
    whether (ltb x FLOAT_SPLIT) (λ _. leave) λ _.
    whether (ltb x FAULT) (λ _. parted (eqb x (FLOAT_SPLIT + ENDS_IN_DOT))) (λ _. fault (x - FAULT))

-- the token of a step that takes raw tokens
abbrev pub token_in : Step → List Tok
token_in (enter node) = []
token_in leave = []
token_in (taken kind width) = tok kind width ∷ []
token_in (parted dot) = float dot ∷ []
token_in (fault code) = []

-- the node that a step enters
abbrev pub entered : Step → List ℕ
entered (enter node) = node ∷ []
entered leave = []
entered (taken kind width) = []
entered (parted dot) = []
entered (fault code) = []

-- how many nodes a step enters, and leaves: "A split stands for one leave if it ends in a dot, two if not."
abbrev pub enters : Step → ℕ
enters (enter node) = 1
enters leave = 0
enters (taken kind width) = 0
enters (parted dot) = 0
enters (fault code) = 0

abbrev pub leaves : Step → ℕ
leaves (enter node) = 0
leaves leave = 1
leaves (taken kind width) = 0
leaves (parted true) = 1
leaves (parted false) = 2
leaves (fault code) = 0
