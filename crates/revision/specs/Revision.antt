-- "Formula revision compare": "the exact differences in order of place: equal stretches are skipped."
use Rattle.std.specs.Prelude.{Result, Ok, Err, ℕ, zero, suc, ◌+◌, Bool, true, false, List, [], ◌∷◌, ◌++◌, length, get_or, take, drop, ltb, eqb}
use Rattle.base.specs.Base.{whether}
use Rattle.input.specs.declared.Refusal.{Refusal}
use Rattle.reader.specs.declared.Parsed.{Parsed}
use Rattle.answers.specs.Text.{decimal_of, line_of, refusal_text}

-- the words of the text, letter by letter
abbrev pub space : List ℕ
space = 32 ∷ []

abbrev pub first_word : List ℕ
first_word = 102 ∷ 105 ∷ 114 ∷ 115 ∷ 116 ∷ 32 ∷ []

abbrev pub second_word : List ℕ
second_word = 115 ∷ 101 ∷ 99 ∷ 111 ∷ 110 ∷ 100 ∷ 32 ∷ []

abbrev pub equal_line : List ℕ
equal_line = 101 ∷ 113 ∷ 117 ∷ 97 ∷ 108 ∷ 10 ∷ []

-- two numbers at the end of a line
unfoldable pub pair_text : ℕ → ℕ → List ℕ
pair_text x y = decimal_of x ++ (space ++ line_of y)

-- "A differing step prints its index and both values"
unfoldable pub differ_text : ℕ → ℕ → ℕ → List ℕ
differ_text i x y = decimal_of i ++ (space ++ pair_text x y)

-- "an extra one `first` or `second`, its index and its value"
unfoldable pub extra_text : List ℕ → ℕ → ℕ → List ℕ
extra_text name i x = name ++ pair_text i x

-- "equal stretches are skipped": what the step at an index prints
unfoldable pub step_text : List ℕ → List ℕ → ℕ → List ℕ
step_text a b i = whether (eqb (get_or a i 0) (get_or b i 0)) (λ _. []) (λ _. differ_text i (get_or a i 0) (get_or b i 0))

-- the differences of the first n steps, "in order of place"
unfoldable pub differs_text : List ℕ → List ℕ → ℕ → List ℕ
differs_text a b zero = []
differs_text a b (suc i) = differs_text a b i ++ step_text a b i

-- the first n steps of a rest that begins at an index, "as extra"
unfoldable pub extras_text : List ℕ → ℕ → List ℕ → ℕ → List ℕ
extras_text name from rest zero = []
extras_text name from rest (suc i) = extras_text name from rest i ++ extra_text name (from + i) (get_or rest i 0)

-- "When one ends first": how far both go, "the unread rest of whichever list runs longer", and which that is
unfoldable pub common_of : List ℕ → List ℕ → ℕ
common_of a b = whether (ltb (length a) (length b)) (λ _. length a) (λ _. length b)

unfoldable pub rest_of : List ℕ → List ℕ → List ℕ
rest_of a b = whether (ltb (length a) (length b)) (λ _. drop (length a) b) (λ _. drop (length b) a)

unfoldable pub name_of : List ℕ → List ℕ → List ℕ
name_of a b = whether (ltb (length a) (length b)) (λ _. second_word) (λ _. first_word)

-- the first n steps are the same
unfoldable pub same_up_to : List ℕ → List ℕ → ℕ → Bool
same_up_to a b zero = true
same_up_to a b (suc i) = whether (same_up_to a b i) (λ _. eqb (get_or a i 0) (get_or b i 0)) (λ _. false)

unfoldable pub same_of : List ℕ → List ℕ → Bool
same_of a b = whether (eqb (length a) (length b)) (λ _. same_up_to a b (length a)) (λ _. false)

-- "Equal lists print `equal`."
unfoldable pub compared_text : List ℕ → List ℕ → List ℕ
compared_text a b =
    whether (same_of a b) (λ _. equal_line) λ _.
    differs_text a b (common_of a b) ++ extras_text (name_of a b) (common_of a b) (rest_of a b) (length (rest_of a b))

-- "If either list is refused, print that refusal, first list before second, and no differences."
unfoldable pub second_text : List ℕ → Result Parsed Refusal → List ℕ → List ℕ
second_text a (Ok got) st = compared_text a (take got.steps st)
second_text a (Err r) st = refusal_text r

unfoldable pub revisions_text : Result Parsed Refusal → List ℕ → Result Parsed Refusal → List ℕ → List ℕ
revisions_text (Ok got) st other st' = second_text (take got.steps st) other st'
revisions_text (Err r) st other st' = refusal_text r
