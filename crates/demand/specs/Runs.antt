-- Calls of the machine as data, and a run: "any sequence of machine calls from a fresh state, each on the state the one before gave, accepted or refused, markers open or not, over one token list and one event list that nobody else writes".
use Rattle.std.specs.Prelude.{Ok, Err, Some, None, ℕ, Bool, List, [], ◌∷◌, ◌++◌, eqb}
use Rattle.base.specs.Base.{whether}
use Rattle.input.specs.SyntaxKind.{FIELD_EXPR}
use Rattle.input.specs.Input.{Tokens, kind_at, joint_at, width_of}
use Rattle.event.specs.Event.{fresh}
use Rattle.event.specs.declared.State.{State}
use Rattle.parser.specs.Calls.{marker, completed, Opened, Closed, Moved, Taken, Parted}
use Rattle.parser.specs.Public.{start_call, complete_call, abandon_call, precede_call, extend_call, eat_call, bump_any_call, error_call, split_call}

-- the nine calls, with any marker, node, kind or code, fit or not; extends has the closed marker first
pub data Call : Type 0 where
  starts : Call
  completes : ℕ → ℕ → Call
  abandons : ℕ → Call
  precedes : ℕ → Call
  extends : ℕ → ℕ → Call
  takes : ℕ → Call
  takes_any : Call
  errs : ℕ → Call
  splits : ℕ → Call

-- what a call took: a token of a kind and a raw width, or a float that was split and whether it ends in a dot
pub data Tok : Type 0 where
  tok : ℕ → ℕ → Tok
  float : Bool → Tok

-- an answer: the call was accepted and gave a state, or it was not, by a refusal or a no
pub data Heard : Type 0 where
  accepted : State → Heard
  declined : Heard

abbrev pub opened_as : Opened → Heard
opened_as (Ok (s, m)) = accepted s
opened_as (Err r) = declined

abbrev pub closed_as : Closed → Heard
closed_as (Ok (s, m)) = accepted s
closed_as (Err r) = declined

abbrev pub moved_as : Moved → Heard
moved_as (Ok s) = accepted s
moved_as (Err r) = declined

abbrev pub taken_as : Taken → Heard
taken_as (Ok (Some s)) = accepted s
taken_as (Ok None) = declined
taken_as (Err r) = declined

abbrev pub parted_as : Parted → Heard
parted_as (Ok (Some (s, m))) = accepted s
parted_as (Ok None) = declined
parted_as (Err r) = declined

abbrev pub heard : {A : Type 0} → (A → Heard) → A × List ℕ → Heard × List ℕ
heard says r = (says r.0, r.1)

-- a call on a state and the lent lists: its answer, and the event list that it leaves
unfoldable pub call_of : Tokens → State → List ℕ → Call → Heard × List ℕ
call_of ts s ev starts = heard opened_as (start_call s ev)
call_of ts s ev (completes m node) = heard closed_as (complete_call s (marker m) node ev)
call_of ts s ev (abandons m) = heard moved_as (abandon_call s (marker m) ev)
call_of ts s ev (precedes m) = heard opened_as (precede_call s (completed m) ev)
call_of ts s ev (extends c m) = heard closed_as (extend_call s (completed c) (marker m) ev)
call_of ts s ev (takes kind) = heard taken_as (eat_call ts s kind ev)
call_of ts s ev takes_any = heard taken_as (bump_any_call ts s ev)
call_of ts s ev (errs code) = heard moved_as (error_call s code ev)
call_of ts s ev (splits m) = heard parted_as (split_call ts s (marker m) ev)

-- "on FLOAT_NUMBER, that digits follow the dot (`0.1`, not `0.`)"
abbrev pub ends_in_dot : Tokens → ℕ → Bool
ends_in_dot ts at = eqb (joint_at ts at) 0

-- what an accepted call at a position took
abbrev pub took_of : Tokens → ℕ → Call → List Tok
took_of ts at starts = []
took_of ts at (completes m node) = []
took_of ts at (abandons m) = []
took_of ts at (precedes m) = []
took_of ts at (extends c m) = []
took_of ts at (takes kind) = tok kind (width_of kind) ∷ []
took_of ts at takes_any = tok (kind_at ts at) 1 ∷ []
took_of ts at (errs code) = []
took_of ts at (splits m) = float (ends_in_dot ts at) ∷ []

-- and the nodes that it closed: a split that does not end in a dot closes two
abbrev pub closed_of : Tokens → ℕ → Call → List ℕ
closed_of ts at starts = []
closed_of ts at (completes m node) = node ∷ []
closed_of ts at (abandons m) = []
closed_of ts at (precedes m) = []
closed_of ts at (extends c m) = []
closed_of ts at (takes kind) = []
closed_of ts at takes_any = []
closed_of ts at (errs code) = []
closed_of ts at (splits m) = whether (ends_in_dot ts at) (λ _. FIELD_EXPR ∷ []) (λ _. FIELD_EXPR ∷ FIELD_EXPR ∷ [])

-- where a run stands: the state, the event list, and all that accepted calls took and closed so far
pub record Place : Type 0 where
  pub state : State
  pub events : List ℕ
  pub took : List Tok
  pub closed : List ℕ

-- the next call is made on the state that this one gave, or on its own state if it was not accepted, and on the list that it left
unfoldable pub step_to : Tokens → Place → Call → Heard × List ℕ → Place
step_to ts z c o =
    elim o.0 [ accepted s ↦ record { state = s; events = o.1; took = z.took ++ took_of ts z.state.pos.0 c; closed = z.closed ++ closed_of ts z.state.pos.0 c } | declined ↦ record { state = z.state; events = o.1; took = z.took; closed = z.closed } ]

unfoldable pub run_on : Tokens → Place → List Call → Place
run_on ts z [] = z
run_on ts z (c ∷ cs) = run_on ts (step_to ts z c (call_of ts z.state z.events c)) cs

-- from a fresh state, over any lent lists
unfoldable pub run_of : Tokens → List ℕ → List Call → Place
run_of ts ev cs = run_on ts (record { state = fresh; events = ev; took = []; closed = [] }) cs
