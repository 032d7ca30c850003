-- The text of 01's example and of a refusal, byte for byte.
use Rattle.std.specs.Prelude.{Result, Ok, Err, ℕ, ◌≡◌, refl, List, [], ◌∷◌}
use Rattle.base.specs.Base.{whether}
use Rattle.input.specs.declared.Refusal.{Refusal}
use Rattle.reader.specs.declared.Parsed.{Parsed}
use Rattle.answers.specs.Text.{digits_of, decimal_of, line_of, lines_of, head_text, steps_text, refusal_text, text_of}

unfoldable pub printed : Result Parsed Refusal → List ℕ → List ℕ
unfolding whether digits_of decimal_of line_of lines_of head_text steps_text refusal_text text_of
printed answer st = text_of answer st

-- `!1`, with another entry behind its steps
bang_one : printed (Ok (record { consumed = 2; steps = 6 })) (65624 ∷ 131353 ∷ 65617 ∷ 131330 ∷ 196608 ∷ 196608 ∷ 7 ∷ [])
    ≡ 99 ∷ 111 ∷ 110 ∷ 115 ∷ 117 ∷ 109 ∷ 101 ∷ 100 ∷ 32 ∷ 50 ∷ 32 ∷ 115 ∷ 116 ∷ 101 ∷ 112 ∷ 115 ∷ 32 ∷ 54 ∷ 10 ∷ 54 ∷ 53 ∷ 54 ∷ 50 ∷ 52 ∷ 10 ∷ 49 ∷ 51 ∷ 49 ∷ 51 ∷ 53 ∷ 51 ∷ 10 ∷ 54 ∷ 53 ∷ 54 ∷ 49 ∷ 55 ∷ 10 ∷ 49 ∷ 51 ∷ 49 ∷ 51 ∷ 51 ∷ 48 ∷ 10 ∷ 49 ∷ 57 ∷ 54 ∷ 54 ∷ 48 ∷ 56 ∷ 10 ∷ 49 ∷ 57 ∷ 54 ∷ 54 ∷ 48 ∷ 56 ∷ 10 ∷ []
unfolding printed
bang_one = refl

-- `refused 10 at 0`
broken : printed (Err (record { number = 10; place = 0 })) []
    ≡ 114 ∷ 101 ∷ 102 ∷ 117 ∷ 115 ∷ 101 ∷ 100 ∷ 32 ∷ 49 ∷ 48 ∷ 32 ∷ 97 ∷ 116 ∷ 32 ∷ 48 ∷ 10 ∷ []
unfolding printed
broken = refl
