-- What is claimed of readings, of the public reader's answers, and of the room that it needs: over lists and numbers, for whatever is lent.
use Rattle.std.specs.Prelude.{Ok, Err, ℕ, ◌+◌, ◌-◌, ◌*◌, ◌/◌, ◌≤◌, ◌<◌, ◌≡◌, true, List, [], ◌∷◌, map, ◌⊎◌, length, get_or, take, ltb, eqb}
use Rattle.base.specs.Base.{whether}
use Rattle.input.specs.SyntaxKind.{EVENTS_FULL, STEPS_FULL, TOO_DEEP, OUTSIDE_CUT, TOKEN, LEAVE, FLOAT_SPLIT, WIDTH_STEP, ENDS_IN_DOT}
use Rattle.input.specs.Input.{Tokens, tokens_of}
use Rattle.input.specs.declared.Refusal.{Refusal}
use Rattle.event.specs.Event.{capacity_of, fresh}
use Rattle.event.specs.declared.State.{State}
use Rattle.parser.specs.declared.CompletedMarker.{CompletedMarker}
use Rattle.parser.specs.Prog.{fine, bad, run, Perhaps, some, none}
use Rattle.process.specs.Process.{process_of}
use Rattle.grammar.specs.Expressions.{expr_bp}
use Rattle.reader.specs.Reader.{top_of, parse_of}
use Rattle.demand.specs.Runs.{Call, run_of}
use Rattle.demand.specs.Steps.{code_of, step_from}
use Rattle.demand.specs.Demand.{Demand}
use Rattle.operand.specs.Operand.{is_enter}
use Rattle.operand.specs.Matching.{Shown}

-- Readings at strength b, where so many may still be opened.

-- an expression is a token at least
abbrev pub TakesAToken : Type 0
TakesAToken = (ts : Tokens) (depth b : ℕ) (s : State) (ev : List ℕ) (s1 : State) (m : CompletedMarker) (e : List ℕ) → run ts (expr_bp depth ts b) s ev ≡ (fine s1 (some m), e) → s.pos.0 < s1.pos.0

-- with or without one no token is given back
abbrev pub NeverGoesBack : Type 0
NeverGoesBack = (ts : Tokens) (depth b : ℕ) (s : State) (ev : List ℕ) (s1 : State) (a : Perhaps CompletedMarker) (e : List ℕ) → run ts (expr_bp depth ts b) s ev ≡ (fine s1 a, e) → s.pos.0 ≤ s1.pos.0

-- a state in range: "the count is at most the list's length and at most 65,552, and the position at most n"
abbrev pub InRange : Tokens → State → List ℕ → Type 0
InRange ts s ev = (s.count ≤ capacity_of ev) × (s.pos.0 ≤ length ts.kinds)

-- a reading is refused by 4, 6 or 7: no marker, kind or code of a rule is unfit (8), and no loop uses up its turns (0)
abbrev pub RefusedBy4Or6Or7 : Type 0
RefusedBy4Or6Or7 = (ts : Tokens) (depth b : ℕ) (s : State) (ev : List ℕ) → 1 ≤ b → InRange ts s ev → (r : Refusal) (e : List ℕ) → run ts (expr_bp depth ts b) s ev ≡ (bad r, e) → (r.number ≡ EVENTS_FULL) ⊎ ((r.number ≡ TOO_DEEP) ⊎ (r.number ≡ OUTSIDE_CUT))

-- eleven events for each token taken: one less with an expression, four more without
abbrev pub AtMostEleven : Type 0
AtMostEleven = (ts : Tokens) (depth b : ℕ) (s : State) (ev : List ℕ) → 1 ≤ b → InRange ts s ev → (s1 : State) (m : CompletedMarker) (e : List ℕ) → run ts (expr_bp depth ts b) s ev ≡ (fine s1 (some m), e) → s1.count + 11 * s.pos.0 + 1 ≤ s.count + 11 * s1.pos.0

abbrev pub AtMostFourMore : Type 0
AtMostFourMore = (ts : Tokens) (depth b : ℕ) (s : State) (ev : List ℕ) → 1 ≤ b → InRange ts s ev → (s1 : State) (e : List ℕ) → run ts (expr_bp depth ts b) s ev ≡ (fine s1 none, e) → s1.count + 11 * s.pos.0 ≤ s.count + 11 * s1.pos.0 + 4

-- The public reader.

-- never 8, 9 or 0
abbrev pub RefusesBy1To7 : Type 0
RefusesBy1To7 = (ts : Tokens) (ev st : List ℕ) (r : Refusal) → (parse_of ts ev st).0 ≡ Err r → (1 ≤ r.number) × (r.number ≤ 7)

-- the raw tokens that a step stands for: "token 131,072 + 256 × raw width + kind", "float split 262,144, + 1 if it ends in a dot"
unfoldable pub width_of_step : ℕ → ℕ
width_of_step x =
    whether (ltb x TOKEN) (λ _. 0) λ _.
    whether (ltb x LEAVE) (λ _. (x - TOKEN) / WIDTH_STEP) λ _.
    whether (eqb x FLOAT_SPLIT) (λ _. 1) λ _.
    whether (eqb x (FLOAT_SPLIT + ENDS_IN_DOT)) (λ _. 1) (λ _. 0)

unfoldable pub width_of_steps : List ℕ → ℕ
width_of_steps [] = 0
width_of_steps (x ∷ l) = width_of_step x + width_of_steps l

-- "an invented consumed count (demand 2: it is the raw width of the token steps and splits)"
abbrev pub ConsumedIsWidth : Type 0
ConsumedIsWidth = (ts : Tokens) (ev st : List ℕ) (consumed n : ℕ) → (parse_of ts ev st).0 ≡ Ok (record { consumed = consumed; steps = n }) → consumed ≡ width_of_steps (take n (parse_of ts ev st).2)

-- What is behind an answer of so many tokens and steps, with the lists that it leaves, over lent lists ev and st: the reading ended as a run of machine calls does, at what was consumed; the steps are what the pass gives of the state and events at which that run stands; each number is that of a step, and the steps meet demand 3.
pub record Met (ts : Tokens) (ev st : List ℕ) (consumed n : ℕ) (ev' st' : List ℕ) : Type 0 where
  pub calls : List Call
  pub reading : Perhaps CompletedMarker
  pub was_read : top_of ts ev ≡ (fine (run_of ts ev calls).state reading, (run_of ts ev calls).events)
  pub stands_at : (run_of ts ev calls).state.pos.0 ≡ consumed
  pub passed : process_of (run_of ts ev calls).state (run_of ts ev calls).events st ≡ (Ok (n, fresh), ev', st')
  pub numbers : take n st' ≡ map code_of (map step_from (take n st'))
  pub demand : Demand ts (run_of ts ev calls) (map step_from (take n st'))

abbrev pub MeetsDemandThree : Type 0
MeetsDemandThree = (ts : Tokens) (ev st : List ℕ) (consumed n : ℕ) → (parse_of ts ev st).0 ≡ Ok (record { consumed = consumed; steps = n }) → Met ts ev st consumed n (parse_of ts ev st).1 (parse_of ts ev st).2

-- room for so many events and as many steps, by the number of tokens, is never refused by 4 or 5
abbrev pub RoomSuffices : (ℕ → ℕ) → Type 0
RoomSuffices room = (ts : Tokens) (ev st : List ℕ) → room (length ts.kinds) ≤ length ev → room (length ts.kinds) ≤ length st → (r : Refusal) → (parse_of ts ev st).0 ≡ Err r → (r.number ≡ EVENTS_FULL → ⊥) × (r.number ≡ STEPS_FULL → ⊥)

-- so what passes the checks is refused by 6 or 7 alone
abbrev pub OnlyDepthOrCut : (ℕ → ℕ) → Type 0
OnlyDepthOrCut room = (ts : Tokens) (ev st : List ℕ) → tokens_of ts ≡ Ok tt → room (length ts.kinds) ≤ length ev → room (length ts.kinds) ≤ length st → (r : Refusal) → (parse_of ts ev st).0 ≡ Err r → (r.number ≡ TOO_DEEP) ⊎ (r.number ≡ OUTSIDE_CUT)

-- "Room of 16n + 16 events and as many steps is never refused by 4 or 5."
abbrev pub room_of : ℕ → ℕ
room_of n = 16 * n + 16

-- and less is enough
abbrev pub least_of : ℕ → ℕ
least_of n = 11 * n + 4

-- "Show me one operand", of the reader's own steps: of every enter of an answer the part that matches is shown, and nothing is refused
abbrev pub EveryEnterIsShown : Type 0
EveryEnterIsShown = (ts : Tokens) (ev st : List ℕ) (consumed n at : ℕ) → (parse_of ts ev st).0 ≡ Ok (record { consumed = consumed; steps = n }) → is_enter (get_or (take n (parse_of ts ev st).2) at 0) ≡ true → Shown (take n (parse_of ts ev st).2) at
