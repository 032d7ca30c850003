-- Two of the hand-worked lists of the paper, from the events that their reading leaves to the whole step list, by computation: `!1` (P2), whose reading extends each expression to its marker, and `a.0.1` (P9), with chains of forward parents and a split. Assumes nothing.
use mathlib.Core.Path.{◌≡◌, refl}
use mathlib.Core.List.{List, [], ◌∷◌}
use mathlib.Core.Bool.{false}
use Prim.Native.Nat.{ℕ, ◌+◌, ◌*◌}
use lib.ListN.{replicate}
use Rattle.base.specs.Base.{whether, bound, called, on_next, loops}
use Rattle.input.specs.SyntaxKind.{IDENT, INT_NUMBER, DOT, BANG, LITERAL, PATH_EXPR, PATH, PATH_SEGMENT, NAME_REF, PREFIX_EXPR, FIELD_EXPR, ENTER, TOKEN, LEAVE, FLOAT_SPLIT, WIDTH_STEP}
use Rattle.input.specs.Input.{token_limit}
use Rattle.event.specs.Event.{status_of, view, decodes, flag_by, start_entry, preceding_entry, field_entry, finish_entry, token_entry, split_entry, extended_entry, parented_entry, event_limit, capacity_of, in_range, fresh}
use Rattle.std.proofs.Common.{Ok}
use Rattle.process.specs.Process.{forward_of, lands_at, paired_at, sound_at, sound_turn, sound_events, sound_of, has_name, steps_at, count_turn, count_of, chain_turn, chain_of, visited, enter_turn, enter_of, step_of, process_turn, write_of, process_of}

-- the pass, with every rule open
abbrev Passed : ℕ → ℕ → List ℕ → ℕ → List ℕ → Type 0
Passed pos count events n steps = process_of (record { pos = record { 0 = pos }; count = count }) events (replicate n 0) ≡ (Ok (n, fresh), replicate count 0, steps)

abbrev enter : ℕ → ℕ
enter node = ENTER + node

abbrev raw : ℕ → ℕ
raw kind = TOKEN + WIDTH_STEP * 1 + kind

pub bang_one :
    Passed 2 8
    (extended_entry start_entry 1 ∷ field_entry PREFIX_EXPR ∷ token_entry BANG 1 ∷ extended_entry start_entry 1 ∷ field_entry LITERAL ∷ token_entry INT_NUMBER 1 ∷ finish_entry ∷ finish_entry ∷ [])
    6
    (enter PREFIX_EXPR ∷ raw BANG ∷ enter LITERAL ∷ raw INT_NUMBER ∷ LEAVE ∷ LEAVE ∷ [])
unfolding process_of sound_of sound_events sound_turn sound_at lands_at paired_at decodes view status_of forward_of in_range capacity_of event_limit token_limit count_of count_turn steps_at has_name write_of process_turn chain_of chain_turn enter_of enter_turn visited step_of loops on_next whether bound called
bang_one = refl

pub field_of_field :
    Passed 3 15
    (extended_entry start_entry 12 ∷ parented_entry start_entry PATH_EXPR 9 ∷ field_entry PATH ∷ field_entry PATH_SEGMENT ∷ field_entry NAME_REF ∷ token_entry IDENT 1 ∷ finish_entry ∷ finish_entry ∷ finish_entry ∷ finish_entry ∷ parented_entry preceding_entry FIELD_EXPR 2 ∷ token_entry DOT 1 ∷ field_entry FIELD_EXPR ∷ split_entry (flag_by false) ∷ finish_entry ∷ [])
    13
    (enter FIELD_EXPR ∷ enter FIELD_EXPR ∷ enter PATH_EXPR ∷ enter PATH ∷ enter PATH_SEGMENT ∷ enter NAME_REF ∷ raw IDENT ∷ LEAVE ∷ LEAVE ∷ LEAVE ∷ LEAVE ∷ raw DOT ∷ FLOAT_SPLIT ∷ [])
unfolding process_of sound_of sound_events sound_turn sound_at lands_at paired_at decodes view status_of forward_of in_range capacity_of event_limit token_limit count_of count_turn steps_at has_name write_of process_turn chain_of chain_turn enter_of enter_turn visited step_of loops on_next whether bound called
field_of_field = refl
