-- Worked runs: what the rules give on short lists, by computation.
use Rattle.std.specs.Prelude.{Result, Ok, Err, ℕ, false, ◌≡◌, refl, List, [], ◌∷◌, ◌++◌, map, replicate}
use Rattle.base.specs.Base.{pick, whether, called, bound, on_next, loops}
use Rattle.input.specs.SyntaxKind.{IDENT, FLOAT_NUMBER, DOT, MINUS, EQ, MINUSEQ, NAME_REF, BIN_EXPR, FIELD_EXPR, EXPECTED_TYPE, STEPS_FULL}
use Rattle.input.specs.Input.{Tokens, token_limit, width_limit, stands, glued_table, row_of, is_glued, row_parts, parts_of, width_of, follow, present, is_raw, is_joint, is_kind, is_node, is_code, first_off, refusal, lengths_of, bytes_of, on_checked, ahead}
use Rattle.event.specs.Event.{status_of, view, decodes, is_live, is_named, event_limit, capacity_of, in_range, fresh}
use Rattle.parser.specs.Calls.{room_for, is_open, is_closed, start_of, complete_of, is_last, abandon_of, precede_of, extend_of, eat_of, bump_any_of, error_of, split_dot_of, split_two_of, split_of}
use Rattle.parser.specs.Public.{range_of, looked_of, calling, start_call, complete_call, abandon_call, precede_call, extend_call, eat_call, bump_any_call, error_call, split_call}
use Rattle.process.specs.Process.{forward_of, lands_at, paired_at, sound_at, sound_turn, sound_events, sound_of, has_name, steps_at, count_turn, count_of, chain_turn, chain_of, visited, enter_turn, enter_of, step_of, process_turn, write_of, process_of}
use Rattle.input.specs.declared.Refusal.{Refusal}
use Rattle.event.specs.declared.State.{State}
use Rattle.demand.specs.Runs.{Call, starts, completes, abandons, precedes, extends, takes, takes_any, errs, splits, tok, float, Place, call_of, step_to, run_on, run_of}
use Rattle.demand.specs.Steps.{enter, leave, taken, parted, fault, code_of}

-- a run over a list of 16 entries that hold anything, and the pass after it
unfoldable ran : Tokens → List Call → Place
unfolding pick whether called bound on_next loops token_limit width_limit stands glued_table row_of is_glued row_parts parts_of width_of follow present is_raw is_joint is_kind is_node is_code first_off lengths_of bytes_of on_checked ahead status_of view decodes is_live is_named event_limit capacity_of in_range room_for is_open is_closed start_of complete_of is_last abandon_of precede_of extend_of eat_of bump_any_of error_of split_dot_of split_two_of split_of range_of looked_of calling start_call complete_call abandon_call precede_call extend_call eat_call bump_any_call error_call split_call call_of step_to run_on run_of
ran ts cs = run_of ts (replicate 16 7) cs

unfoldable passed : ℕ → Tokens → List Call → Result (ℕ × State) Refusal × List ℕ × List ℕ
unfolding ran pick whether called bound on_next loops token_limit status_of view decodes event_limit capacity_of in_range forward_of lands_at paired_at sound_at sound_turn sound_events sound_of has_name steps_at count_turn count_of chain_turn chain_of visited enter_turn enter_of step_of process_turn write_of process_of
passed room ts cs = process_of (ran ts cs).state (ran ts cs).events (replicate room 0)

-- `a.0.1`: a name, a field and a float split after it; a marker twice completed and a bad code are refused, and change nothing
abbrev dots : Tokens
dots = record { kinds = IDENT ∷ DOT ∷ FLOAT_NUMBER ∷ []; joints = 1 ∷ 1 ∷ 1 ∷ [] }

abbrev fields : List Call
fields = starts ∷ takes IDENT ∷ completes 0 NAME_REF ∷ completes 0 NAME_REF ∷ precedes 0 ∷ errs 9 ∷ takes DOT ∷ splits 3 ∷ precedes 5 ∷ abandons 8 ∷ takes_any ∷ []

fields_took : (ran dots fields).took ≡ tok IDENT 1 ∷ tok DOT 1 ∷ float false ∷ []
unfolding ran
fields_took = refl

fields_closed : (ran dots fields).closed ≡ NAME_REF ∷ FIELD_EXPR ∷ FIELD_EXPR ∷ []
unfolding ran
fields_closed = refl

field_steps : passed 8 dots fields ≡ (Ok (7, fresh), replicate 16 0, map code_of (enter FIELD_EXPR ∷ enter FIELD_EXPR ∷ enter NAME_REF ∷ taken IDENT 1 ∷ leave ∷ taken DOT 1 ∷ parted false ∷ []) ++ (0 ∷ []))
unfolding passed
field_steps = refl

no_room : (passed 6 dots fields).0 ≡ Err (refusal STEPS_FULL 3)
unfolding passed
no_room = refl

-- `a -=`: a glued token of two raw ones, under a marker that is extended to the closed one and one that stays open
abbrev glued : Tokens
glued = record { kinds = IDENT ∷ MINUS ∷ EQ ∷ []; joints = 0 ∷ 1 ∷ 0 ∷ [] }

abbrev assigned : List Call
assigned = starts ∷ starts ∷ takes IDENT ∷ completes 1 NAME_REF ∷ extends 1 0 ∷ precedes 1 ∷ starts ∷ takes MINUSEQ ∷ errs EXPECTED_TYPE ∷ completes 4 BIN_EXPR ∷ []

assigned_took : (ran glued assigned).took ≡ tok IDENT 1 ∷ tok MINUSEQ 2 ∷ []
unfolding ran
assigned_took = refl

assigned_steps : passed 9 glued assigned ≡ (Ok (7, fresh), replicate 16 0, map code_of (enter BIN_EXPR ∷ enter NAME_REF ∷ taken IDENT 1 ∷ leave ∷ taken MINUSEQ 2 ∷ fault EXPECTED_TYPE ∷ leave ∷ []) ++ (0 ∷ 0 ∷ []))
unfolding passed
assigned_steps = refl
