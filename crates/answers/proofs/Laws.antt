-- The law of two lists lent in part.
-- Assumes nothing.
use Rattle.std.proofs.Common.{Result, Ok, Err}
use Prim.Native.Nat.{ℕ}
use mathlib.Core.Path.{◌≡◌, ap}
use mathlib.Core.List.{List, ◌++◌}
use lib.ListN.{take, drop}
use Rattle.input.specs.declared.Refusal.{Refusal}
use Rattle.reader.specs.Reader.{Answer}
use Rattle.reader.specs.declared.Parsed.{Parsed}
use Rattle.answers.specs.Answers.{lent_first}
use Rattle.answers.specs.Text.{Put, text_of, steps_text, refusal_text}

module _ {out after : List ℕ} {at r : ℕ} {x : Result Parsed Refusal} (st : List ℕ) where
  pub put_given : {got : Parsed} {ys : List ℕ} → x ≡ Ok got → ys ≡ take got.steps st → Put out at (steps_text got.consumed ys) r after → Put out at (text_of x st) r after
  unfolding text_of
  put_given q e h = rw (q, ← e) h

  pub put_refused : {n : Refusal} → x ≡ Err n → Put out at (refusal_text n) r after → Put out at (text_of x st) r after
  unfolding text_of
  put_refused q h = rw q h

pub lent_is : {x : Result Parsed Refusal} {e s : List ℕ} (er sr : ℕ) (ev st : List ℕ) (k : List ℕ → List ℕ → Answer) → (x, e, s) ≡ k (take er ev) (take sr st)
    → (x, e ++ drop er ev, s ++ drop sr st) ≡ lent_first er sr ev st k
unfolding lent_first
lent_is er sr ev st k h = ap (λ (a : Answer). (a.0, a.1 ++ drop er ev, a.2 ++ drop sr st)) h
