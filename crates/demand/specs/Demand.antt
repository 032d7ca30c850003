-- The customer's third demand, of a run that stands at z and whose pass gives the steps ss; and all that holds of a run and the pass after it.
use Rattle.std.specs.Prelude.{Ok, Err, ◌≡◌, true, List, [], ◌∷◌, ◌++◌, map, ℕ, ◌+◌, ◌≤◌, ◌<◌, length, take, drop, replicate}
use Rattle.input.specs.SyntaxKind.{FLOAT_NUMBER, STEPS_FULL}
use Rattle.input.specs.Input.{Tokens, stands, parts_of, present, width_of, refusal}
use Rattle.event.specs.Event.{live, spent, named, Event, start, finish, token, split, error, view, fresh}
use Rattle.event.specs.declared.State.{State}
use Rattle.process.specs.Process.{sound_of, process_of}
use Rattle.demand.specs.Lists.{tally, gather, count}
use Rattle.demand.specs.Runs.{Tok, tok, float, ends_in_dot, Place}
use Rattle.demand.specs.Steps.{Step, code_of, step_from, token_in, entered, enters, leaves}

-- the tokens taken stand one after the other in the lent list, from p to q: each under a kind that is present where it stands, and with that kind's width; a float that was split is a FLOAT_NUMBER, and ends in a dot as its joint byte says
abbrev pub Covers : Tokens → ℕ → List Tok → ℕ → Type 0
Covers ts p [] q = p ≡ q
Covers ts p (tok kind width ∷ l) q = (present ts p kind ≡ true) × (width ≡ width_of kind) × Covers ts (p + width) l q
Covers ts p (float dot ∷ l) q = (stands ts p FLOAT_NUMBER ≡ true) × (dot ≡ ends_in_dot ts p) × Covers ts (p + 1) l q

-- the raw kinds that a token taken is made of
abbrev pub raws_of : Tok → List ℕ
raws_of (tok kind width) = parts_of kind
raws_of (float dot) = FLOAT_NUMBER ∷ []

-- and how many they are
abbrev pub width_in : Tok → ℕ
width_in (tok kind width) = width
width_in (float dot) = 1

pub record Demand (ts : Tokens) (z : Place) (ss : List Step) : Type 0 where
  -- "token steps and float splits cover the raw tokens taken, each once, in order, under its right kind": they are the tokens taken; these stand one after the other from 0 to the position; their raw kinds together are the raw kinds up to there, and their widths add up to it
  pub tokens : gather token_in ss ≡ z.took
  pub covers : Covers ts 0 z.took z.state.pos.0
  pub raws : gather raws_of z.took ≡ take z.state.pos.0 ts.kinds
  pub widths : tally width_in z.took ≡ z.state.pos.0
  pub inside : z.state.pos.0 ≤ length ts.kinds
  -- "nodes entered equal nodes left and, kind by kind, the nodes closed by accepted calls"
  pub even : tally enters ss ≡ tally leaves ss
  pub kinds : (node : ℕ) → count node (gather entered ss) ≡ count node z.closed
  -- "at no point are more left than entered"
  pub within : (n : ℕ) → tally leaves (take n ss) ≤ tally enters (take n ss)

-- what the pass gives of a state and its events, for any step list: so many steps if there is room, written first in the list, with the events all 0 and the state fresh; otherwise refusal 5 at the position, and nothing changed. Each of these numbers is read as the step that it was written for.
pub record Gives (s : State) (ev : List ℕ) (ss : List Step) : Type 0 where
  pub room : (st : List ℕ) → length ss ≤ length st → process_of s ev st ≡ (Ok (length ss, fresh), replicate (length ev) 0, map code_of ss ++ drop (length ss) st)
  pub full : (st : List ℕ) → length st < length ss → process_of s ev st ≡ (Err (refusal STEPS_FULL s.pos.0), ev, st)
  pub reads : map step_from (map code_of ss) ≡ ss

-- the events so far, as the event record says what an entry is
unfoldable pub seen : State → List ℕ → List Event
seen s ev = take s.count (map view ev)

-- how many steps an event gives: a named start its enter; a split and its finish one together, counted at the finish
abbrev pub steps_in : Event → ℕ
steps_in (start live offset preceding) = 0
steps_in (start spent offset preceding) = 0
steps_in (start (named node) offset preceding) = 1
steps_in finish = 1
steps_in (token kind width) = 1
steps_in (split dot) = 0
steps_in (error code) = 1

-- the pass on sound events: exactly as many steps as there are named starts, finishes, tokens and errors
pub record Exactly (s : State) (ev : List ℕ) : Type 0 where
  pub steps : List Step
  pub many : length steps ≡ tally steps_in (seen s ev)
  pub gives : Gives s ev steps

-- all of it, of a run that stands at z
pub record Whole (ts : Tokens) (z : Place) : Type 0 where
  pub sound : sound_of z.state z.events ≡ true
  pub pass : Exactly z.state z.events
  pub demand : Demand ts z pass.steps
