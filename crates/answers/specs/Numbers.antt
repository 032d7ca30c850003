-- "prints in decimal": the text of a number is digits, no more of them than it needs, and read as a decimal it is that number.
use Rattle.std.specs.Prelude.{ℕ, zero, suc, ◌+◌, ◌-◌, ◌*◌, ◌≤◌, ◌<◌, ◌≡◌, List, [], ◌∷◌, length}
use Rattle.answers.specs.Text.{base, decimal_of}

-- the letters `0` to `9`
abbrev pub ZERO : ℕ
ZERO = 48

abbrev pub AreDigits : List ℕ → Type 0
AreDigits [] = Unit {0}
AreDigits (d ∷ ds) = (ZERO ≤ d) × (d < ZERO + base) × AreDigits ds

-- what digits say, read from the left, behind a number that was read before
abbrev pub goes_on : ℕ → List ℕ → ℕ
goes_on n [] = n
goes_on n (d ∷ ds) = goes_on (n * base + (d - ZERO)) ds

abbrev pub number_in : List ℕ → ℕ
number_in ds = goes_on 0 ds

-- how many numbers have at most so many places
unfoldable pub numbers_of : ℕ → ℕ
numbers_of zero = 1
numbers_of (suc k) = base * numbers_of k

-- the numbers that a u64 holds are below this one
abbrev pub beyond_u64 : ℕ
beyond_u64 = 18446744073709551616

-- every number of a u64 is written in digits, 0 as `0` and any other with no place more than it needs
abbrev pub InDigits : Type 0
InDigits = (n : ℕ) → AreDigits (decimal_of n)

abbrev pub ZeroIsZero : Type 0
ZeroIsZero = decimal_of 0 ≡ ZERO ∷ []

abbrev pub NoPlaceMore : Type 0
NoPlaceMore = (n : ℕ) → 1 ≤ n → n < beyond_u64 → (1 ≤ length (decimal_of n)) × (numbers_of (length (decimal_of n) - 1) ≤ n)

-- every number of a u64 is read back from its text
abbrev pub ReadsBack : Type 0
ReadsBack = (n : ℕ) → n < beyond_u64 → number_in (decimal_of n) ≡ n

-- so no two numbers have the same text
abbrev pub OneTextEach : Type 0
OneTextEach = (n m : ℕ) → n < beyond_u64 → m < beyond_u64 → decimal_of n ≡ decimal_of m → n ≡ m
