-- What "the exact differences" means, index by index: when `equal` is printed, which indexes print a line, and what the rest is.
use Rattle.std.specs.Prelude.{ℕ, suc, ◌≡◌, true, List, ◌++◌, ◌⊎◌, get_or, take}
use Rattle.revision.specs.Revision.{differ_text, differs_text, common_of, rest_of, same_of}

-- `equal` is printed for equal lists alone
abbrev pub EqualIsSame : Type 0
EqualIsSame = (a b : List ℕ) → (same_of a b ≡ true → a ≡ b) × (a ≡ b → same_of a b ≡ true)

-- a list goes as far as both do and then, if it is the longer one, with the rest
abbrev pub GoesOn : Type 0
GoesOn = (a b : List ℕ) → (a ≡ take (common_of a b) a ++ rest_of a b) ⊎ (b ≡ take (common_of a b) b ++ rest_of a b)

-- nothing is printed of an index below where both go exactly where the two steps there are the same
abbrev pub SkipsTheEqual : Type 0
SkipsTheEqual = (a b : List ℕ) (i : ℕ) → (get_or a i 0 ≡ get_or b i 0 → differs_text a b (suc i) ≡ differs_text a b i) × ((get_or a i 0 ≡ get_or b i 0 → ⊥) → differs_text a b (suc i) ≡ differs_text a b i ++ differ_text i (get_or a i 0) (get_or b i 0))
