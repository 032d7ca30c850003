-- The public reader: the checks of the token list, a reading at strength 1, the pass.
use Rattle.std.specs.Prelude.{Result, Ok, Err, ℕ, List, length, replicate}
use Rattle.input.specs.Input.{Tokens, depth_limit, tokens_of, on_checked}
use Rattle.input.specs.declared.Refusal.{Refusal}
use Rattle.event.specs.Event.{fresh}
use Rattle.parser.specs.declared.CompletedMarker.{CompletedMarker}
use Rattle.parser.specs.Prog.{fine, bad, Ran, run, Perhaps}
use Rattle.process.specs.Process.{process_of, Processed}
use Rattle.grammar.specs.Expressions.{expr_bp}
use Rattle.reader.specs.declared.Parsed.{Parsed}

-- "A refusal reports consumed 0, steps 0"
abbrev pub consumed_of : Result Parsed Refusal → ℕ
consumed_of (Ok got) = got.consumed
consumed_of (Err r) = 0

abbrev pub steps_of : Result Parsed Refusal → ℕ
steps_of (Ok got) = got.steps
steps_of (Err r) = 0

-- an answer, the event list and the step list
abbrev pub Answer : Type 0
Answer = Result Parsed Refusal × List ℕ × List ℕ

-- "after every other reader answer each lent event entry is 0"
unfoldable pub cleared : List ℕ → List ℕ
cleared ev = replicate (length ev) 0

-- "A refusal .. leaves the step list unchanged."
unfoldable pub refusing : Refusal → List ℕ → List ℕ → Answer
refusing r ev st = (Err r, cleared ev, st)

-- 5: "more steps than step room", "consumed count (pass: the state's position)"; "On success the steps stand first in their list, the rest unchanged."
unfoldable pub on_processed : ℕ → List ℕ → List ℕ → Processed × List ℕ × List ℕ → Answer
on_processed consumed ev st p = elim p.0 [ Ok (n, s) ↦ (Ok (record { consumed = consumed; steps = n }), p.1, p.2) | Err r ↦ refusing r ev st ]

unfoldable pub on_read : List ℕ → Ran (Perhaps CompletedMarker) → Answer
on_read st r = elim r.0 [ fine s m ↦ on_processed s.pos.0 r.1 st (process_of s r.1 st) | bad n ↦ refusing n r.1 st ]

-- "Reading at strength b (the top at 1)"; the depth of 128
unfoldable pub top_of : Tokens → List ℕ → Ran (Perhaps CompletedMarker)
top_of ts ev = run ts (expr_bp depth_limit ts 1) fresh ev

-- "Order: .. 3, 1, 2, then 4, 6, 7 as the work meets them .., then 5." "After refusals 1, 2, 3 the reader leaves the event list unchanged"
unfoldable pub parse_of : Tokens → List ℕ → List ℕ → Answer
parse_of ts ev st = on_checked (tokens_of ts) (λ _. on_read st (top_of ts ev)) (λ r. (Err r, ev, st))
