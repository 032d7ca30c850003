-- The text of an answer: "prints in decimal".
use Rattle.std.specs.Prelude.{Result, Ok, Err, ℕ, zero, suc, ◌+◌, ◌/◌, ◌%◌, ◌≤◌, ◌≡◌, List, [], ◌∷◌, ◌++◌, length, take, drop, ltb}
use Rattle.base.specs.Base.{whether}
use Rattle.input.specs.declared.Refusal.{Refusal}
use Rattle.reader.specs.declared.Parsed.{Parsed}

abbrev pub base : ℕ
base = 10

-- the places of the largest number that is printed, a u64
abbrev pub places_limit : ℕ
places_limit = 20

abbrev pub newline : ℕ
newline = 10

abbrev pub digit_of : ℕ → ℕ
digit_of n = 48 + n % base

-- n in decimal, of at most so many places
unfoldable pub digits_of : ℕ → ℕ → List ℕ
digits_of zero n = []
digits_of (suc k) n = whether (ltb n base) (λ _. digit_of n ∷ []) (λ _. digits_of k (n / base) ++ (digit_of n ∷ []))

unfoldable pub decimal_of : ℕ → List ℕ
decimal_of n = digits_of places_limit n

-- a number on a line of its own, or at the end of one
unfoldable pub line_of : ℕ → List ℕ
line_of n = decimal_of n ++ (newline ∷ [])

-- a line for each step
unfoldable pub lines_of : List ℕ → List ℕ
lines_of [] = []
lines_of (x ∷ xs) = line_of x ++ lines_of xs

-- the words of the text, letter by letter
abbrev pub consumed_word : List ℕ
consumed_word = 99 ∷ 111 ∷ 110 ∷ 115 ∷ 117 ∷ 109 ∷ 101 ∷ 100 ∷ 32 ∷ []

abbrev pub steps_word : List ℕ
steps_word = 32 ∷ 115 ∷ 116 ∷ 101 ∷ 112 ∷ 115 ∷ 32 ∷ []

abbrev pub refused_word : List ℕ
refused_word = 114 ∷ 101 ∷ 102 ∷ 117 ∷ 115 ∷ 101 ∷ 100 ∷ 32 ∷ []

abbrev pub at_word : List ℕ
at_word = 32 ∷ 97 ∷ 116 ∷ 32 ∷ []

-- `consumed C steps N`
unfoldable pub head_text : ℕ → ℕ → List ℕ
head_text consumed count = consumed_word ++ (decimal_of consumed ++ (steps_word ++ line_of count))

-- and a line for each of the N steps
unfoldable pub steps_text : ℕ → List ℕ → List ℕ
steps_text consumed steps = head_text consumed (length steps) ++ lines_of steps

-- "A refusal prints `refused R at P`."
unfoldable pub refusal_text : Refusal → List ℕ
refusal_text r = refused_word ++ (decimal_of r.number ++ (at_word ++ line_of r.place))

-- the text of an answer, the steps standing first in their list
unfoldable pub text_of : Result Parsed Refusal → List ℕ → List ℕ
text_of (Ok got) st = steps_text got.consumed (take got.steps st)
text_of (Err r) st = refusal_text r

-- at most so many bytes a line of a number has, and the first line of an answer
abbrev pub line_limit : ℕ
line_limit = places_limit + 1

abbrev pub head_limit : ℕ
head_limit = 64

-- Text was put into a list at a place, as far as there is room, and ends at r. What stands behind it is as it was.
pub record Put (out : List ℕ) (at : ℕ) (text : List ℕ) (r : ℕ) (after : List ℕ) : Type 0 where
  pub same_length : length after ≡ length out
  pub onward : at ≤ r
  pub within : at ≤ length out → r ≤ length out
  pub beyond : length out ≤ at → r ≡ at
  pub stands : take r after ≡ take (length out) (take at out ++ text)
  pub rest : drop r after ≡ drop r out
