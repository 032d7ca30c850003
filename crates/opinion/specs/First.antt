-- What the first fault is, apart from any way to find it: "naming the first fault by step index", "at one index the order is as listed here. It accepts exactly when none of these holds."
use Rattle.std.specs.Prelude.{ℕ, suc, ◌≤◌, ◌<◌, ◌≡◌, Bool, true, false, List, length, get_or}
use Rattle.input.specs.Input.{Tokens}
use Rattle.opinion.specs.Faults.{faults, fault, no_fault, first_fault}

-- the fault of a number, counted from 0 in 02's order
unfoldable pub never : Tokens → List ℕ → ℕ → Bool
never ts steps i = false

abbrev pub holds : ℕ → Tokens → List ℕ → ℕ → Bool
holds f ts steps i = get_or faults f never ts steps i

-- none of the ten holds of an index; of none
abbrev pub FineAt : Tokens → List ℕ → ℕ → Type 0
FineAt ts steps i = (f : ℕ) → holds f ts steps i ≡ false

abbrev pub Faultless : Tokens → List ℕ → Type 0
Faultless ts steps = (i : ℕ) → i ≤ length steps → FineAt ts steps i

-- the least index at which a fault holds and, at it, the first in the list
pub record First (ts : Tokens) (steps : List ℕ) (f i : ℕ) : Type 0 where
  pub inside : i ≤ length steps
  pub is_there : holds f ts steps i ≡ true
  pub first_listed : (g : ℕ) → g < f → holds g ts steps i ≡ false
  pub least : (j : ℕ) → j < i → FineAt ts steps j

-- what is named is the first fault; and the first fault is named
abbrev pub NamesTheFirst : Type 0
NamesTheFirst = (ts : Tokens) (steps : List ℕ) (f i : ℕ) → first_fault ts steps ≡ fault (suc f) i → First ts steps f i

abbrev pub TheFirstIsNamed : Type 0
TheFirstIsNamed = (ts : Tokens) (steps : List ℕ) (f i : ℕ) → First ts steps f i → first_fault ts steps ≡ fault (suc f) i

-- "It accepts exactly when none of these holds."
abbrev pub AcceptedIsFaultless : Type 0
AcceptedIsFaultless = (ts : Tokens) (steps : List ℕ) → first_fault ts steps ≡ no_fault → Faultless ts steps

abbrev pub FaultlessIsAccepted : Type 0
FaultlessIsAccepted = (ts : Tokens) (steps : List ℕ) → Faultless ts steps → first_fault ts steps ≡ no_fault
