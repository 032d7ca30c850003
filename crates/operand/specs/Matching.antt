-- What a matching leave is, apart from any way to find it: the first at which a node's enter and the enters behind it are made up for.
use Rattle.std.specs.Prelude.{ℕ, zero, suc, ◌+◌, ◌≤◌, ◌<◌, ◌≡◌, true, List, [], ◌⊎◌, length, get_or, take, drop, Ok, Err}
use Rattle.base.specs.Base.{whether}
use Rattle.input.specs.Input.{refusal}
use Rattle.input.specs.declared.Refusal.{Refusal}
use Rattle.operand.specs.Operand.{NO_OPERAND, is_enter, leaves_of, operand_of, check_of}

-- how many nodes a step enters
unfoldable pub enters_of : ℕ → ℕ
enters_of step = whether (is_enter step) (λ _. 1) (λ _. 0)

-- how many nodes are entered, and how many left, by the first k steps from a place on
unfoldable pub entered : List ℕ → ℕ → ℕ → ℕ
entered steps at zero = 0
entered steps at (suc k) = entered steps at k + enters_of (get_or steps (at + k) 0)

unfoldable pub left : List ℕ → ℕ → ℕ → ℕ
left steps at zero = 0
left steps at (suc k) = left steps at k + leaves_of (get_or steps (at + k) 0)

-- "from that enter to its matching leave": k steps; before the last of them fewer nodes are left than entered, with it not fewer
pub record Matches (steps : List ℕ) (at k : ℕ) : Type 0 where
  pub enter : is_enter (get_or steps at 0) ≡ true
  pub some : 1 ≤ k
  pub inside : at + k ≤ length steps
  pub before : (j : ℕ) → 1 ≤ j → j < k → left steps at j < entered steps at j
  pub caught : entered steps at k ≤ left steps at k

-- where there is a match, the part is that stretch and nothing is refused
abbrev pub FindsTheMatch : Type 0
FindsTheMatch = (steps : List ℕ) (at k : ℕ) → Matches steps at k → (operand_of steps at ≡ take k (drop at steps)) × (check_of steps at ≡ Ok tt)

-- "An index that isn't an enter, or an enter never matched, gets an empty part and refusal 16 with that index as place."
abbrev pub RefusesWithout : Type 0
RefusesWithout = (steps : List ℕ) (at : ℕ) → ((k : ℕ) → Matches steps at k → ⊥) → (operand_of steps at ≡ []) × (check_of steps at ≡ Err (refusal NO_OPERAND at))

-- a part that is shown: the stretch that matches, and no refusal
pub record Shown (steps : List ℕ) (at : ℕ) : Type 0 where
  pub many : ℕ
  pub matches : Matches steps at many
  pub part : operand_of steps at ≡ take many (drop at steps)
  pub is_fine : check_of steps at ≡ Ok tt

-- the part is shown, or it is empty and 16 is given
abbrev pub ShowsOrRefuses : Type 0
ShowsOrRefuses = (steps : List ℕ) (at : ℕ) → Shown steps at ⊎ ((operand_of steps at ≡ []) × (check_of steps at ≡ Err (refusal NO_OPERAND at)))

-- and it is empty exactly where 16 is given
abbrev pub EmptyWhereRefused : Type 0
EmptyWhereRefused = (steps : List ℕ) (at : ℕ) → (operand_of steps at ≡ [] → check_of steps at ≡ Err (refusal NO_OPERAND at)) × ((r : Refusal) → check_of steps at ≡ Err r → operand_of steps at ≡ [])
