-- How long the text of an answer is at most, so that it stands whole where a program has that much room: by the places of a number, then
-- line by line. Assumes nothing.
use Rattle.std.proofs.Common.{Result, Ok, Err}
use Prim.Native.Nat.{ℕ, zero, suc, ◌+◌, ◌*◌, ◌/◌, ◌≤◌}
use mathlib.Core.Path.{◌≡◌}
use mathlib.Core.Bool.{Bool, true, false}
use mathlib.Core.List.{List, [], ◌∷◌, ◌++◌}
use native.Mathlib.Omega.{arith}
use lib.Dec.{ltb}
use lib.ListN.{length, take, length-append, length-take}
use Rattle.base.specs.Base.{whether}
use Rattle.input.specs.declared.Refusal.{Refusal}
use Rattle.reader.specs.declared.Parsed.{Parsed}
use Rattle.answers.specs.Text.{Put, base, places_limit, line_limit, head_limit, digit_of, digits_of, decimal_of, line_of, lines_of, head_text, steps_text, refusal_text, text_of}
use Rattle.answers.proofs.Putting.{put_whole}

-- a number has no more digits than places
one_more : (b : Bool) (x : ℕ) (ys : List ℕ) (k : ℕ) → length ys ≤ k → length (whether b (λ _. x ∷ []) (λ _. ys ++ (x ∷ []))) ≤ suc k
unfolding whether
one_more true x ys k h = omega arith
one_more false x ys k h = rw length-append (omega arith)

digits_fit : (k n : ℕ) → length (digits_of k n) ≤ k
unfolding digits_of
digits_fit zero n = omega arith
digits_fit (suc k) n = one_more (ltb n base) (digit_of n) (digits_of k (n / base)) k (digits_fit k (n / base))

decimal_fits : (n : ℕ) → length (decimal_of n) ≤ places_limit
unfolding decimal_of
decimal_fits n = digits_fit places_limit n

line_fits : (n : ℕ) → length (line_of n) ≤ line_limit
unfolding line_of
line_fits n = rw length-append (omega (arith, decimal_fits n))

lines_fit : (xs : List ℕ) → length (lines_of xs) ≤ line_limit * length xs
unfolding lines_of
lines_fit [] = omega arith
lines_fit (x ∷ xs) = rw length-append (omega (arith, line_fits x, lines_fit xs))

head_fits : (consumed count : ℕ) → length (head_text consumed count) ≤ head_limit
unfolding head_text
head_fits consumed count = simp length-append (omega (arith, decimal_fits consumed, line_fits count))

pub text_fits : (answer : Result Parsed Refusal) (st : List ℕ) → length (text_of answer st) ≤ head_limit + line_limit * length st
unfolding text_of steps_text refusal_text
text_fits (Ok got) st =
    let some : length (take got.steps st) ≤ length st = rw length-take (omega arith) in
    simp length-append (omega (arith, head_fits got.consumed (length (take got.steps st)), lines_fit (take got.steps st)))
text_fits (Err r) st = simp length-append (omega (arith, decimal_fits r.number, line_fits r.place))

-- with that much room behind it, the text of an answer is printed whole
pub printed_whole : {out after : List ℕ} {at r : ℕ} (answer : Result Parsed Refusal) (st : List ℕ) → at + (head_limit + line_limit * length st) ≤ length out → Put out at (text_of answer st) r after
    → take r after ≡ take at out ++ text_of answer st
printed_whole answer st h p = (put_whole (omega (arith, text_fits answer st)) p).1
