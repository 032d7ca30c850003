-- Laws of `Wrote`: nothing written, one text after another, and the lines of steps. Assumes nothing.
use Rattle.std.proofs.Common.{Result, Ok, Err, ℕ, ◌+◌, ◌<◌, ◌≡◌, refl, ◌∙◌, List, [], ◌++◌, length, get_or, take}
use Rattle.input.specs.declared.Refusal.{Refusal}
use Rattle.reader.specs.declared.Parsed.{Parsed}
use Rattle.answers.specs.Text.{lines_of, line_of, steps_text, refusal_text, text_of}
use Rattle.answers.specs.Writer.{Wrote}
use Rattle.answers.specs.declared.Writer.{Writer}
use Rattle.answers.proofs.Putting.{put_nothing, put_then, line_more}
use Rattle.answers.proofs.Laws.{put_given, put_refused}

pub wrote_nothing : (a : Writer) → Wrote a [] a
wrote_nothing a = record { same_list = refl; put = put_nothing _ _ }

pub wrote_then : {a b c : Writer} {xs ys : List ℕ} → Wrote a xs b → Wrote b ys c → Wrote a (xs ++ ys) c
wrote_then p q = record { same_list = q.same_list ∙ p.same_list; put = put_then p.put q.put }

-- steps line by line
pub wrote_line_more : {a b c : Writer} {x : ℕ} (xs : List ℕ) (i : ℕ) → i < length xs → x ≡ get_or xs i 0 → Wrote a (lines_of (take i xs)) b → Wrote b (line_of x) c → Wrote a (lines_of (take (i + 1) xs)) c
wrote_line_more xs i h e p q = record { same_list = q.same_list ∙ p.same_list; put = line_more xs i h e p.put q.put }

-- the cases of an answer
module _ {a b : Writer} {x : Result Parsed Refusal} (st : List ℕ) where
  pub wrote_steps : {got : Parsed} {ys : List ℕ} → x ≡ Ok got → ys ≡ take got.steps st → Wrote a (steps_text got.consumed ys) b → Wrote a (text_of x st) b
  wrote_steps q e p = record { same_list = p.same_list; put = put_given st q e p.put }

  pub wrote_refusal : {r : Refusal} → x ≡ Err r → Wrote a (refusal_text r) b → Wrote a (text_of x st) b
  wrote_refusal q p = record { same_list = p.same_list; put = put_refused st q p.put }
